-- What is written to a writer in several parts.
use Rattle.std.proofs.Common.{◌≡◌, ◌++◌, ℕ, List, [], Option, Some, None, ap, sym, ◌∙◌, append_assoc, subst}
use Rattle.std.specs.Io.KnownBytes.{Appends}
use Rattle.std.proofs.lemmas.List.{append-nil}

pub nothing : (a : Option (List ℕ)) → Appends a a []
nothing None = tt
nothing (Some xs) = sym (append-nil xs)

pub then : (a b c : Option (List ℕ)) (x y : List ℕ) → Appends a b x → Appends b c y → Appends a c (x ++ y)
then None b c x y first second = tt
then (Some xs) None c x y first second = absurd first
then (Some xs) (Some ys) None x y first second = absurd second
then (Some xs) (Some ys) (Some zs) x y first second = second ∙ (ap (λ l. l ++ y) first ∙ append_assoc xs x y)

-- the same of two texts that joined are another text
pub then_whole : (a b c : Option (List ℕ)) (x y z : List ℕ) → Appends a b x → Appends b c y → x ++ y ≡ z → Appends a c z
then_whole a b c x y z first second e = subst (λ l. Appends a c l) e (then a b c x y first second)
