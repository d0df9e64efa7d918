-- The parts of a block, which are pre-checked one by one.
use Rattle.std.specs.Prelude.{◌≡◌, ◌++◌, ◌-◌, ◌/◌, ◌∷◌, ℕ, List, [], length, map, take, drop, zero, suc, IfSome}
use Rattle.block.specs.declared.block.Block.{Block}
use Rattle.channel.specs.Configuration.{Configuration}
use Rattle.header_hash.specs.Hashes.{data_hash_of}
use Rattle.intake.specs.declared.taking.Taken.{Taken}
use Rattle.intake.specs.Place.{taken_of, shown}
use Rattle.policy_eval.specs.Accepts.{Accepts}
use Rattle.transaction.specs.Items.{item_of}
use Rattle.intake_workers.specs.declared.taken_part.TakenPart.{TakenPart}

-- The part with this number, of `count` parts of a list: the first one has the length divided by `count`, rounded down;
-- the others are the parts of what is left.
abbrev pub part_of : {A : Type 0} → ℕ → ℕ → List A → List A
part_of count zero xs = take (length xs / count) xs
part_of count (suc number) xs = part_of (count - 1) number (drop (length xs / count) xs)

-- the results for this part of the block, and the block's hash or none
pub record IsTakenPart (channel : Configuration) (accepts : Accepts) (b : Block) (count number : ℕ) (part : TakenPart) : Type 0 where
  pub hash : IfSome part.hash (λ hash. hash ≡ data_hash_of b.txs)
  pub items : map shown part.items.items ≡ map (taken_of channel accepts) (map (item_of b.version) (part_of count number b.txs))

-- the results, part by part
abbrev pub all_of_parts : List TakenPart → List Taken
all_of_parts [] = []
all_of_parts (part ∷ parts) = part.items.items ++ all_of_parts parts
