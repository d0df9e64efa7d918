-- Injective codes of lines and tallies, which the prover requires of a type that contracts see.
use Rattle.std.specs.Prelude.{List, ℕ, refl}
use Rattle.std.specs.Coded.{Coded, coded×, coded_list, coded_ℕ, code_by}
use Rattle.rules.specs.Code.{key_code}
use Rattle.conflicts.specs.contracts.key_counts.KeyCounts as counts
use Rattle.conflicts.specs.Ranking.{Line}
use Rattle.conflicts.specs.Tally.{Tally}

abbrev pub line_code : Coded Line
line_code = coded× key_code (counts.the_row).coded

abbrev pub tally_code : Coded Tally
tally_code =
    code_by (ℕ × (List ℕ × (List Line × List Line)))
    (coded× coded_ℕ (coded× (coded_list coded_ℕ) (coded× (coded_list line_code) (coded_list line_code))))
    (λ t. (t.total, (t.flags, (t.keys, t.lacks)))) (λ p. record { total = p.0; flags = p.1.0; keys = p.1.1.0; lacks = p.1.1.1 }) (λ _. refl)
