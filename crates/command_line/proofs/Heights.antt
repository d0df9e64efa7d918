-- Heights that readers find.
use Rattle.std.proofs.Common.{◌≡◌, ◌++◌, ◌∷◌, ◌+◌, ◌≤◌, ◌∙◌, ℕ, suc, List, [], Option, length, refl, sym, ap, subst, arith, length-append, append_assoc}
use Rattle.std.specs.List.{AllByRecursion}
use Rattle.std.specs.Io.KnownBytes.{Appends}
use Rattle.std.proofs.lemmas.List.{append-nil}
use mathlib.Core.List.{IsPrefix}
use Rattle.cli_lines.proofs.Written.{then_whole}
use Rattle.cli_lines.specs.RowLines.{reader_line}
use Rattle.cli_values.specs.declared.format.Format.{Format}
use Rattle.rules.specs.declared.delta.Delta.{Delta}
use Rattle.rules.specs.Delta.{applied}
use Rattle.rules.specs.World.{World, height_of}
use Rattle.query.specs.declared.receipt.Receipt.{Receipt}
use Rattle.query.specs.Published.{Watch, GoesOn, Learns, applied_all, watched_world}
use Rattle.command_line.specs.declared.lines.Style.{Style}
use Rattle.command_line.specs.Handing.{ReadersTold, known_list}
use Rattle.command_line.specs.Printed.{reader_lines}

-- each delta is of one block
pub height_behind : (w : World) (ds : List Delta) → height_of (applied_all w ds) ≡ height_of w + length ds
height_behind w [] = omega arith
height_behind w (d ∷ ds) =
    let one : height_of (applied w d) ≡ height_of w + 1 = length-append w.blocks (d.block ∷ []) in
    let rest = height_behind (applied w d) ds in omega (arith, one, rest)

no_longer : {A : Type 0} (xs ys : List A) → IsPrefix xs ys → length xs ≤ length ys
no_longer xs ys p =
    let whole : length (xs ++ p.0) ≡ length ys = ap length p.1 in
    let parts = length-append xs p.0 in omega (arith, whole, parts)

-- what a handle then finds is no lower than what it knew
pub finds : (known : List Delta) (old new : Watch) (height : ℕ) → length known ≤ length old.list → GoesOn old new → height ≡ height_of (watched_world new) → length known ≤ height
finds known old new height knew goes is =
    let longer = no_longer old.list new.list goes.no_less in
    let counted = height_behind new.base new.list in omega (arith, knew, longer, counted, is)

-- nor than what it learned
pub learned : (receipt : Receipt) (old new : Watch) → Learns old receipt.front.list new → length receipt.front.list ≤ length new.list
learned receipt old new learns = no_longer receipt.front.list new.list learns.knows_told

-- ---- one more line

lines-push : (format : Format) (before n : ℕ) (heights : List ℕ) (height : ℕ) → n ≡ before + length heights
    → reader_lines format before heights ++ reader_line format (suc n) height ≡ reader_lines format before (heights ++ height ∷ [])
lines-push format before n [] height is =
    let same : n ≡ before = omega (arith, is) in
    ap (λ k. reader_line format (suc k) height) same ∙ sym (append-nil (reader_line format (suc before) height))
lines-push format before n (first ∷ heights) height is =
    append_assoc (reader_line format (suc before) first) (reader_lines format (suc before) heights) (reader_line format (suc n) height)
    ∙ ap (λ l. reader_line format (suc before) first ++ l) (lines-push format (suc before) n heights height (omega (arith, is)))

all-push : (P : ℕ → Type 0) (xs : List ℕ) (x : ℕ) → AllByRecursion P xs → P x → AllByRecursion P (xs ++ x ∷ [])
all-push P [] x all one = (one, tt)
all-push P (first ∷ xs) x all one = (all.0, all-push P xs x all.1 one)

pub none_read : (style : Style) (last : Option Receipt) (a : Option (List ℕ)) → Appends a a [] → ReadersTold style 0 last a a
none_read style last a nothing = record { heights = []; each = refl; reached = tt; printed = nothing }

pub one_more_read : (style : Style) (n m : ℕ) (last : Option Receipt) (a b c : Option (List ℕ)) (height : ℕ)
    → m ≡ n + 1 → ReadersTold style n last a b → length (known_list last) ≤ height → Appends b c (reader_line style.format m height) → ReadersTold style m last a c
one_more_read style n m last a b c height next so_far reached written =
    let one : m ≡ suc n = omega (arith, next) in
    let place : n ≡ 0 + length so_far.heights = omega (arith, so_far.each) in
    record {
      heights = so_far.heights ++ height ∷ [];
      each =
          let longer = length-append so_far.heights (height ∷ []) in
          let each = so_far.each in omega (arith, longer, each, next);
      reached = all-push (λ h. length (known_list last) ≤ h) so_far.heights height so_far.reached reached;
      printed = then_whole a b c (reader_lines style.format 0 so_far.heights) (reader_line style.format (suc n) height) (reader_lines style.format 0 (so_far.heights ++ height ∷ []))
          so_far.printed (subst (λ k. Appends b c (reader_line style.format k height)) one written) (lines-push style.format 0 n so_far.heights height place);
    }
