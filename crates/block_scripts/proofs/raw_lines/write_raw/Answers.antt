use Rattle.std.proofs.Common.{◌≡◌, List, ℕ, [], ◌∷◌, ◌++◌, ap, sym, subst, ◌∙◌}
use Rattle.std.specs.Prelude.{codes, OnOk}
use Rattle.scripts.proofs.RawLines.{some_line}
use Rattle.block_scripts.proofs.raw_lines.write_raw.Goals as goal

pub returns-clause-written : goal.returns-clause-written
returns-clause-written c =
    let digits = c.as_bytes.ensures.value ∙ c.in_ok-digits.ensures in
    let line = some_line c.args.bytes.now (sym c.is_empty.ensures ∙ c.if-is_empty.false) in
    subst (λ (l : List ℕ). OnOk c.write_digits.result (c.write_digits.new.out.items ≡ c.args.out.now.items ++ l)) (ap (λ (d : List ℕ). codes "raw " ++ (d ++ 10 ∷ [])) digits ∙ sym line) c.write_digits.ensures
