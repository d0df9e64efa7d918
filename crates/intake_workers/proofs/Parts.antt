-- The results for a block's parts, joined, are those for the block.
use native.Mathlib.Omega.{arith}
use native.Mathlib.Nat.{div-one}
use Rattle.std.proofs.Common.{◌≡◌, ◌++◌, ◌<◌, ◌≤◌, ◌+◌, ◌-◌, ◌/◌, ◌∷◌, ◌∙◌, ℕ, List, [], length, map, take, drop, zero, suc, refl, ap, sym, subst, slice_index_or, append-nil, append_assoc, Option}
use Rattle.std.proofs.lemmas.List.{take-append-drop, take_all, map-append, length-drop, length-take}
use Rattle.block.specs.declared.block.Block.{Block}
use Rattle.channel.specs.Configuration.{Configuration}
use Rattle.rules.specs.Candidate.{Candidate}
use Rattle.intake.specs.declared.taking.Taken.{Taken}
use Rattle.intake.specs.Place.{taken_of, shown}
use Rattle.pieces.specs.Pieces.{Fits, AreMade}
use Rattle.policy_eval.specs.Accepts.{Accepts}
use Rattle.rules.specs.Commit.{items_of}
use Rattle.transaction.specs.Items.{item_of}
use Rattle.intake_workers.specs.declared.part.Part.{Part}
use Rattle.intake_workers.specs.declared.taken_part.TakenPart.{TakenPart}
use Rattle.intake_workers.specs.Parts.{part_of, all_of_parts, IsTakenPart}

-- The part with a number is the one with the number before it, of what is left after the first part.
pub behind_first : {A : Type 0} (left number counter len : ℕ) (rest part : List A) → counter < number → len ≡ length rest / left → part_of left (number - counter) rest ≡ part
    → part_of (left - 1) (number - (counter + 1)) (take (length rest - len) (drop len rest)) ≡ part
behind_first left number counter len rest part lt is so_far =
    let next : suc (number - (counter + 1)) ≡ number - counter = omega (arith, lt) in
    ap (part_of (left - 1) (number - (counter + 1))) (take_all (length rest - len) (drop len rest) (omega (arith, length-drop len rest)) ∙ ap (λ n. drop n rest) is)
    ∙ (ap (λ n. part_of left n rest) next ∙ so_far)

pub no_longer : {A : Type 0} (len most : ℕ) (rest : List A) → length rest ≤ most → length (take (length rest - len) (drop len rest)) ≤ most
no_longer len most rest le = omega (arith, le, length-drop len rest, length-take (length rest - len) (drop len rest))

-- The results for pieces are as many, and fit what the pieces fit.
pub as_many : {P X : Type 0} (gives : P → X → Type 0) (pieces : List P) (all : List X) → AreMade gives pieces all → length all ≡ length pieces
as_many gives [] [] made = refl
as_many gives [] (one ∷ all) made = absurd made
as_many gives (piece ∷ pieces) [] made = absurd made
as_many gives (piece ∷ pieces) (one ∷ all) made = ap suc (as_many gives pieces all made.1)

pub made_fit : {P X : Type 0} (gives : P → X → Type 0) (fits : ℕ → P → Type 0) (says : ℕ → X → Type 0) → ((place : ℕ) (piece : P) (one : X) → fits place piece → gives piece one → says place one)
    → (pieces : List P) (all : List X) → AreMade gives pieces all → Fits fits pieces → Fits says all
made_fit gives fits says so [] [] made each place slot inside is = absurd (omega (arith, inside))
made_fit gives fits says so [] (one ∷ all) made each place slot inside is = absurd made
made_fit gives fits says so (piece ∷ pieces) [] made each place slot inside is = absurd made
made_fit gives fits says so (piece ∷ pieces) (one ∷ all) made each zero slot inside is =
    subst (says zero) (sym is) (so zero piece one (each zero piece (omega arith) refl) made.0)
made_fit gives fits says so (piece ∷ pieces) (one ∷ all) made each (suc place) slot inside is =
    made_fit gives (λ at. fits (suc at)) (λ at. says (suc at)) (λ at. so (suc at)) pieces all made.1
    (λ at next within same. each (suc at) next (omega (arith, within)) same) place slot (omega (arith, inside)) is

-- The results for each of `count` parts fit its place.
pub taken_fit : (channel : Configuration) (accepts : Accepts) (b : Block) (count : ℕ) (parts : List Part) (all : List TakenPart)
    → AreMade (λ (part : Part) (taken : TakenPart). IsTakenPart channel accepts b part.count part.number taken) parts all → Fits (λ number (part : Part). (part.count ≡ count) × (part.number ≡ number)) parts → Fits (IsTakenPart channel accepts b count) all
taken_fit channel accepts b count parts all made each =
    made_fit (λ (part : Part) (taken : TakenPart). IsTakenPart channel accepts b part.count part.number taken) (λ number (part : Part). (part.count ≡ count) × (part.number ≡ number)) (IsTakenPart channel accepts b count)
    (λ place part taken is of. subst (λ x. x) (λ i. IsTakenPart channel accepts b (is.0 i) (is.1 i) taken) of) parts all made each

-- One list more is put after the others.
pub one_list_more : (before after : List Taken) (part : TakenPart) (parts : List TakenPart) (all : List Taken) → after ≡ before ++ part.items.items → before ++ all_of_parts (part ∷ parts) ≡ all → after ++ all_of_parts parts ≡ all
one_list_more before after part parts all is so_far =
    ap (λ l. l ++ all_of_parts parts) is ∙ (append_assoc before part.items.items (all_of_parts parts) ∙ so_far)

module _ (channel : Configuration) (accepts : Accepts) (b : Block) where
  -- the results for transactions
  abbrev of : List (List ℕ) → List (Option (List ℕ) × Candidate)
  of txs = map (taken_of channel accepts) (map (item_of b.version) txs)

  of-append : (xs ys : List (List ℕ)) → of (xs ++ ys) ≡ of xs ++ of ys
  of-append xs ys =
      ap (map (taken_of channel accepts)) (map-append (item_of b.version) xs ys)
      ∙ map-append (taken_of channel accepts) (map (item_of b.version) xs) (map (item_of b.version) ys)

  -- If these are all parts of transactions, they come to them.
  come_to : (count : ℕ) (txs : List (List ℕ)) (parts : List TakenPart) → length parts ≡ count → 0 < length parts
      → ((at : ℕ) (part : TakenPart) → at < length parts → part ≡ slice_index_or parts at part → map shown part.items.items ≡ of (part_of count at txs))
      → map shown (all_of_parts parts) ≡ of txs
  come_to count txs [] total some each = absurd (omega (arith, some))
  come_to count txs (part ∷ []) total some each =
      ap (map shown) (append-nil part.items.items)
      ∙ (each 0 part (omega arith) refl
      ∙ ap of (ap (λ n. take (length txs / n) txs) (sym total) ∙ (ap (λ n. take n txs) (div-one (length txs)) ∙ take_all (length txs) txs (omega arith))))
  come_to count txs (part ∷ second ∷ parts) total some each =
      let first = take (length txs / count) txs in
      let others = drop (length txs / count) txs in
      map-append shown part.items.items (all_of_parts (second ∷ parts))
      ∙ (ap (λ l. l ++ map shown (all_of_parts (second ∷ parts))) (each 0 part (omega arith) refl)
      ∙ (ap (λ l. of first ++ l) (come_to (count - 1) others (second ∷ parts) (omega (arith, total)) (omega arith)
      (λ at next inside is. each (suc at) next (omega (arith, inside)) is))
      ∙ (sym (of-append first others) ∙ ap of (take-append-drop (length txs / count) txs))))

-- all parts come to the block
pub all_parts : (channel : Configuration) (accepts : Accepts) (b : Block) (parts : List TakenPart) → 0 < length parts → Fits (IsTakenPart channel accepts b (length parts)) parts → map shown (all_of_parts parts) ≡ map (taken_of channel accepts) (items_of b)
all_parts channel accepts b parts some each =
    come_to channel accepts b (length parts) b.txs parts refl some (λ at part inside is. (each at part inside is).items)
