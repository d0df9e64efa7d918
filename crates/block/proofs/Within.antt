-- A block is within its limits exactly if it has an encoding.
use Rattle.std.proofs.Common.{◌≡◌, ℕ, true, List, [], ◌∷◌, ◌++◌, length, refl}
use Rattle.std.specs.List.{list_all, AllByRecursion}
use Rattle.std.proofs.lemmas.Bool.{leb-true, le-leb, and_parts}
use Rattle.block.specs.declared.block.Block.{Block}
use Rattle.block.specs.first_version.Grammar.{txs_bytes, IsHeader, IsTx}
use Rattle.block.specs.Grammar.{magic_of, header_fields, Spells}
use Rattle.block.specs.Limits.{is_short, are_within_limits}

each_short : (txs : List (List ℕ)) → list_all is_short txs ≡ true → AllByRecursion IsTx txs
each_short [] h = tt
each_short (tx ∷ txs) h = let both = and_parts _ _ h in (leb-true _ _ both.0, each_short txs both.1)

all_short : (txs : List (List ℕ)) → AllByRecursion IsTx txs → list_all is_short txs ≡ true
all_short [] h = refl
all_short (tx ∷ txs) h = rw (le-leb _ _ h.0, all_short txs h.1) refl

pub within-from_spells : (bytes : List ℕ) (b : Block) → Spells bytes b → are_within_limits b.txs ≡ true
within-from_spells bytes b s = rw (le-leb _ _ s.count, all_short b.txs s.each) refl

pub spells-from_within : (bytes : List ℕ) (b : Block) → are_within_limits b.txs ≡ true → IsHeader b.header → bytes ≡ magic_of b.version ++ (header_fields b.header ++ txs_bytes (length b.txs) b.txs) → Spells bytes b
spells-from_within bytes b h fine e = let both = and_parts _ _ h in record { header = fine; count = leb-true _ _ both.0; each = each_short b.txs both.1; fields = e }
