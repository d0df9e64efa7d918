-- What the blocks of a chain are and do, one after the other, and the commit hashes over them.
use Rattle.std.specs.Prelude.{◌≡◌, ℕ, List, [], ◌∷◌, ◌++◌, replicate}
use Rattle.sha2.specs.Sha256.{sha256}
use Rattle.block.specs.declared.block.Block.{Block}
use Rattle.block.specs.Grammar.{Spells}
use Rattle.policy_eval.specs.Accepts.{Accepts}
use Rattle.channel.specs.Configuration.{Configuration}
use Rattle.rules.specs.CommitBytes.{BlockCommit, commit_bytes}
use Rattle.rules.specs.World.{World, empty_world}
use Rattle.rules.specs.Linked.{IsLinked}
use Rattle.rules.specs.Commit.{items_of, job_of, commit_by, world_after}
use Rattle.chain_laws.specs.ToldAlike.{AreToldAlike, DontCollide}

-- A linked block that is and does this leads from old to new.
pub record Leads (channel : Configuration) (old : World) (c : BlockCommit) (new : World) : Type 0 where
  pub accepts : Accepts
  pub bytes : List ℕ
  pub block : Block
  pub spelled : Spells bytes block
  pub linked : IsLinked old block
  pub commit : c ≡ commit_by block.version (job_of channel accepts old (items_of block))
  pub behind : new ≡ world_after channel accepts old bytes block

-- From the empty world of the channel such blocks, the newest first, lead to new.
abbrev pub AreCommits : Configuration → List BlockCommit → World → Type 0
AreCommits channel [] new = new ≡ empty_world channel.definitions
AreCommits channel (c ∷ cs) new = (old : World) × AreCommits channel cs old × Leads channel old c new

-- the commit hash after all of them
abbrev pub hash_behind : List BlockCommit → List ℕ
hash_behind [] = replicate 32 0
hash_behind (c ∷ cs) = sha256 (hash_behind cs ++ commit_bytes c)

-- for blocks of equal number, what is hashed at each height doesn't collide
abbrev pub NoneCollide : List BlockCommit → List BlockCommit → Type 0
NoneCollide (c ∷ cs) (d ∷ ds) = DontCollide (hash_behind cs ++ commit_bytes c) (hash_behind ds ++ commit_bytes d) × NoneCollide cs ds
NoneCollide _ _ = Unit {0}

-- they are equal in number, and at each height the hash covers the same of both
abbrev pub AreAllToldAlike : List BlockCommit → List BlockCommit → Type 0
AreAllToldAlike [] [] = Unit {0}
AreAllToldAlike (c ∷ cs) (d ∷ ds) = AreToldAlike c d × AreAllToldAlike cs ds
AreAllToldAlike [] (d ∷ ds) = ⊥
AreAllToldAlike (c ∷ cs) [] = ⊥
