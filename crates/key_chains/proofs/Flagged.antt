-- A flagged candidate reads and writes nothing.
use Rattle.std.proofs.Common.{◌≡◌, [], refl, sym}
use Rattle.std.specs.List.Sorted.{IsStrictlySortedBy}
use Rattle.rules.specs.State.{key_cmp}
use Rattle.candidates.specs.Written.{keys_in_order}
use Rattle.candidates.proofs.KeysInOrder.{only_keys}

nothing_rises : IsStrictlySortedBy key_cmp []
unfolding IsStrictlySortedBy
nothing_rises = tt

pub no_keys : keys_in_order [] ≡ []
no_keys = sym (only_keys [] [] nothing_rises (λ k. refl))
