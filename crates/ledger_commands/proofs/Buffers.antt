-- Lines that are made first and then written whole.
use Rattle.std.proofs.Common.{◌≡◌, ◌++◌, ◌∙◌, ℕ, List, [], Option, Some, None, ap}
use Rattle.std.specs.Io.KnownBytes.{Appends, Keeps}

-- lines that were added to an empty buffer are what is written
pub whole : (a b c : Option (List ℕ)) (first made shown text : List ℕ) → first ≡ [] → shown ≡ made → Appends (Some first) (Some made) text → Appends a b shown → Keeps b c → Appends a c text
whole None b c first made shown text none same is written kept = tt
whole (Some x) None c first made shown text none same is written kept = absurd written
whole (Some x) (Some y) None first made shown text none same is written kept = absurd kept
whole (Some x) (Some y) (Some z) first made shown text none same is written kept = kept ∙ (written ∙ ap (λ l. x ++ l) (same ∙ (is ∙ ap (λ l. l ++ text) none)))
