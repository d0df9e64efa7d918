-- Results of a range query whose keys strictly rise. No public contract cites this.
use Rattle.std.specs.Prelude.{List, Bool, map}
use Rattle.std.specs.FinMap.{is_sorted}
use Rattle.transaction.specs.declared.transaction.KeyVersion.{KeyVersion}
use Rattle.values.specs.Order.{bytes_cmp}

abbrev pub are_rising : List KeyVersion → Bool
are_rising xs = is_sorted bytes_cmp (map (λ x. (x.key, x.version)) xs)
