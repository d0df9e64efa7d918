-- The bounds of numbers, as clap narrows them.
use Rattle.std.proofs.Common.{◌≡◌, ◌<◌, ◌≤◌, ◌||◌, ℕ, Bool, cond, true, false, refl, ap, ap₂, ◌∙◌, arith}
use Rattle.std.specs.Prelude.{pos, negsuc, nat_lt}
use Rattle.std.specs.Int.{int_max, int_min}
use Rattle.std.proofs.lemmas.Bool.Decides.{nat_tests}
use Rattle.clap.specs.Values.{signed_between}
use Rattle.clap.specs.declared.builder.value_parser.ValueParser.{ValueParser}
use Rattle.clap.specs.declared.builder.value_parser.ValueParser.TheVariants as parser

least_is : (least : ℕ) → int_max (pos 0) (pos least) ≡ pos least
least_is least =
    let above : nat_lt least 0 ≡ false = grind (arith, nat_tests) in
    rw above refl

most_is : (most : ℕ) → most ≤ 65535 → int_min (pos 65535) (pos most) ≡ pos most
most_is most below = go (nat_lt most 65535) refl
  where
    go : (b : Bool) → nat_lt most 65535 ≡ b → cond b (pos most) (pos 65535) ≡ pos most
    go true e = refl
    go false e = let is : 65535 ≡ most = grind (arith, nat_tests) in ap pos is

pub between : (least most : ℕ) → least ≤ 65535 → most ≤ 65535
    → signed_between (int_max (pos 0) (pos least)) (int_min (pos 65535) (pos most)) ≡ parser.Signed (pos least) (pos most)
between least most low high = ap₂ signed_between (least_is least) (most_is most high) ∙ go
  where
    go : signed_between (pos least) (pos most) ≡ parser.Signed (pos least) (pos most)
    go =
        let fits : nat_lt 9223372036854775807 least ≡ false = grind (arith, nat_tests) in
        rw fits refl
