-- A chain that ends in version 1 is one of the first version, no matter what was rejected in it.
use Rattle.std.proofs.Common.{◌≡◌, ℕ, ◌-◌, cond, Bool, true, false, List, [], ◌∷◌, ◌++◌, length, take, drop, get_or, Option, Result, Ok, Err, refl, sym, ap, subst, ◌∙◌, arith}
use Rattle.std.specs.Prelude.{option_map, unwrap_or, slice_get}
use Rattle.std.proofs.lemmas.Bool.{false≢true}
use Rattle.std.proofs.lemmas.List.{length-append, take-append-drop}
use Rattle.std.proofs.lemmas.Slice.Eq.{bytes_eq-Decides}
use Rattle.transaction.specs.declared.block_version.BlockVersion.{BlockVersion}
use Rattle.transaction.specs.declared.block_version.BlockVersion.TheVariants.{V1, V2}
use Rattle.block.specs.declared.block.Block.{Block}
use Rattle.block.specs.declared.fault.BlockFault.TheVariants.{BadMagic}
use Rattle.block.specs.Grammar.{magic_of, header_fields}
use Rattle.block.specs.first_version.Grammar as block
use Rattle.block.specs.first_version.Faults as faults
use Rattle.policy.specs.Policies.{Policies}
use Rattle.policy_eval.specs.Accepts.{Accepts}
use Rattle.channel.specs.Configuration.{Configuration}
use Rattle.rules.specs.declared.answer.Accepted.{Accepted}
use Rattle.rules.specs.declared.answer.Refused.{Refused}
use Rattle.rules.specs.declared.answer.Refused.TheVariants.{Malformed}
use Rattle.rules.specs.declared.committed.CommittedBlock.{CommittedBlock}
use Rattle.rules.specs.World.{World, last_commit_hash, last_version}
use Rattle.rules.specs.Linked.{is_older}
use Rattle.rules.specs.Commit as commit
use Rattle.rules.specs.Step.{Step}
use Rattle.rules.specs.Chain.{Submission, Chain}
use Rattle.first_version.specs.AnswersThen.{is_second, answer_then, answers_then}
use Rattle.first_version.specs.Chain as was_chain
use Rattle.first_version.specs.Seen.{seen_channel, seen, seen_answer, IsFirst, IsNoSecond}
use Rattle.first_version.specs.Step as was_step
use Rattle.first_version.proofs.AsBefore.{at_end, definitions_are, step_as_before}

-- ---- the version doesn't fall

version_behind : (channel : Configuration) (accepts : Accepts) (w : World) (bytes : List ℕ) (b : Block) → last_version (commit.world_after channel accepts w bytes b) ≡ b.version
version_behind channel accepts w bytes b =
    let kept : CommittedBlock = commit.committed_of bytes (last_commit_hash w) b (commit.job_of channel accepts w (commit.items_of b)) in
    let n : length (w.blocks ++ kept ∷ []) - 1 ≡ length w.blocks = omega (arith, length-append w.blocks (kept ∷ [])) in
    ap (λ (k : ℕ). unwrap_or (option_map (λ (x : CommittedBlock). x.version) (slice_get (w.blocks ++ kept ∷ []) k)) V1) n
    ∙ ap (λ (o : Option CommittedBlock). unwrap_or (option_map (λ (x : CommittedBlock). x.version) o) V1) (at_end w.blocks kept)

first_before : (v w : BlockVersion) → v ≡ V1 → is_older v w ≡ false → w ≡ V1
first_before V1 V1 e h = refl
first_before V1 V2 e h = absurd (false≢true (sym h))
first_before V2 w e h = absurd cc

-- the version of a block after which the world's version is 1
first_block : (channel : Configuration) (accepts : Accepts) (old new : World) (bytes : List ℕ) (b : Block) → new ≡ commit.world_after channel accepts old bytes b → IsFirst new → b.version ≡ V1
first_block channel accepts old new bytes b made is = sym (version_behind channel accepts old bytes b) ∙ sym (ap last_version made) ∙ is

-- if a step leaves version 1, it began with it, and with the same definitions
step_back : (channel : Configuration) (accepts : Accepts) (old new : World) (bytes : List ℕ) (x : Result Accepted Refused)
    → Step channel accepts old bytes x new → IsFirst new → IsFirst old × (new.definitions ≡ old.definitions)
step_back channel accepts old new bytes (Ok accepted) s is =
    let first = first_block channel accepts old new bytes s.0 s.4 is in (
      first_before s.0.version (last_version old) first s.2.version,
      ap (λ (w : World). w.definitions) s.4 ∙ definitions_are channel accepts old bytes s.0 first,
    )
step_back channel accepts old new bytes (Err r) s is = (subst IsFirst s.1 is, ap (λ (w : World). w.definitions) s.1)

pub chain_back : (channel : Configuration) (submissions : List Submission) (answers : List (Result Accepted Refused)) (old new : World)
    → Chain channel old submissions answers new → IsFirst new → IsFirst old × (new.definitions ≡ old.definitions)
chain_back channel [] [] old new c is = (subst IsFirst c is, ap (λ (w : World). w.definitions) c)
chain_back channel (s ∷ submissions) (x ∷ answers) old new c is =
    let behind = chain_back channel submissions answers c.0 new c.2 is in
    let one = step_back channel s.accepts old c.0 s.bytes x c.1 behind.0 in
    (one.0, behind.1 ∙ one.1)
chain_back channel [] (x ∷ answers) old new c is = absurd c
chain_back channel (s ∷ submissions) [] old new c is = absurd c

-- ---- the magic of version 2

second_is : (bytes : List ℕ) → is_second bytes ≡ true → bytes ≡ magic_of V2 ++ drop 4 bytes
second_is bytes e = sym (take-append-drop 4 bytes) ∙ ap (λ (l : List ℕ). l ++ drop 4 bytes) ((bytes_eq-Decides (take 4 bytes) (magic_of V2)).0 e)

no_second : (bytes : List ℕ) → is_second bytes ≡ false → IsNoSecond bytes
no_second bytes e rest is =
    let begins : is_second bytes ≡ true = ap is_second is ∙ (bytes_eq-Decides (magic_of V2) (magic_of V2)).1 refl in
    false≢true (sym e ∙ begins)

wrong_magic : (bytes : List ℕ) → is_second bytes ≡ true → faults.HasFault bytes BadMagic
wrong_magic bytes e rest is =
    let fourth : 0x31 ≡ 0x32 = ap (λ (l : List ℕ). get_or l 3 0) (sym is ∙ second_is bytes e) in
    absurd (omega (arith, fourth))

-- ---- chains

unchanged : (channel : Configuration) (accepts : Accepts) (old new : World) (bytes : List ℕ) (x : Result Accepted Refused)
    → Step channel accepts old bytes x new → IsFirst new → is_second bytes ≡ true → new ≡ old
unchanged channel accepts old new bytes (Ok accepted) s is e =
    let rest : List ℕ = header_fields s.0.header ++ block.txs_bytes (length s.0.txs) s.0.txs in
    absurd (wrong_magic bytes e rest (s.1.fields ∙ ap (λ (v : BlockVersion). magic_of v ++ rest) (first_block channel accepts old new bytes s.0 s.4 is)))
unchanged channel accepts old new bytes (Err r) s is e = s.1

step_then : (channel : Configuration) (accepts : Accepts) (old new : World) (bytes : List ℕ) (x : Result Accepted Refused)
    → Step channel accepts old bytes x new → IsFirst new → was_step.Step (seen_channel channel old.definitions) accepts (seen old) bytes (answer_then bytes x) (seen new)
step_then channel accepts old new bytes x s is = by (is_second bytes) refl
  where
    by : (b : Bool) → is_second bytes ≡ b → was_step.Step (seen_channel channel old.definitions) accepts (seen old) bytes (cond b (Err (Malformed BadMagic)) (seen_answer x)) (seen new)
    by true e = (wrong_magic bytes e, ap seen (unchanged channel accepts old new bytes x s is e))
    by false e = (step_as_before channel accepts old new bytes x s (step_back channel accepts old new bytes x s is).0 (no_second bytes e)).0

pub chain_then : (channel : Configuration) (submissions : List Submission) (answers : List (Result Accepted Refused)) (old new : World)
    → old.definitions ≡ channel.definitions → Chain channel old submissions answers new → IsFirst new
    → was_chain.Chain (seen_channel channel channel.definitions) (seen old) submissions (answers_then submissions answers) (seen new)
chain_then channel [] [] old new same c is = ap seen c
chain_then channel (s ∷ submissions) (x ∷ answers) old new same c is =
    let mid = (chain_back channel submissions answers c.0 new c.2 is).0 in
    let one = step_back channel s.accepts old c.0 s.bytes x c.1 mid in (
      seen c.0,
      subst (λ (d : Policies). was_step.Step (seen_channel channel d) s.accepts (seen old) s.bytes (answer_then s.bytes x) (seen c.0)) same (step_then channel s.accepts old c.0 s.bytes x c.1 mid),
      chain_then channel submissions answers c.0 new (one.1 ∙ same) c.2 is,
    )
chain_then channel [] (x ∷ answers) old new same c is = absurd c
chain_then channel (s ∷ submissions) [] old new same c is = absurd c
