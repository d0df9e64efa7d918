-- Injective codes of what handles and publishers know, which the prover asks of a type that contracts see.
use Rattle.std.specs.Prelude.{Bool, List, refl}
use Rattle.std.specs.Coded.{Coded, coded×, coded_list, coded_bool, code_by}
use Rattle.logbook.specs.Pages.{Book, book_coded}
use Rattle.rules.specs.contracts.delta.Delta as delta
use Rattle.rules.specs.declared.delta.Delta.{Delta}
use Rattle.rules.specs.World.{World}
use Rattle.rules.specs.Code.{keyed_row_code, world_code}
use Rattle.rules.specs.Answers.{RangeAnswer}
use Rattle.rules.specs.State.{StateKey}
use Rattle.rules.specs.declared.row.Row.{Row}
use Rattle.query.specs.Published.{Beginning, Watch, Publishing}

abbrev pub list_code : Coded (List Delta)
list_code = coded_list (delta.the_row).coded

abbrev pub beginning_code : Coded Beginning
beginning_code =
    code_by (Book × List Delta) (coded× book_coded list_code)
    (λ b. (b.book, b.list)) (λ p. record { book = p.0; list = p.1 }) (λ _. refl)

abbrev pub watch_code : Coded Watch
watch_code =
    code_by (Book × (World × List Delta)) (coded× book_coded (coded× world_code list_code))
    (λ w. (w.book, (w.base, w.list))) (λ p. record { book = p.0; base = p.1.0; list = p.1.1 }) (λ _. refl)

abbrev pub publishing_code : Coded Publishing
publishing_code =
    code_by (Book × (World × (List Delta × Bool))) (coded× book_coded (coded× world_code (coded× list_code coded_bool)))
    (λ p. (p.book, (p.base, (p.list, p.failed)))) (λ p. record { book = p.0; base = p.1.0; list = p.1.1.0; failed = p.1.1.1 }) (λ _. refl)

abbrev pub range_code : Coded RangeAnswer
range_code =
    code_by (List (StateKey × Row) × Bool) (coded× (coded_list keyed_row_code) coded_bool)
    (λ r. (r.rows, r.more)) (λ p. record { rows = p.0; more = p.1 }) (λ _. refl)
