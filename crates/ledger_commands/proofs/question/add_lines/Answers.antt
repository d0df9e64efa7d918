use Rattle.std.proofs.Common.{◌++◌, ◌∙◌, ap, refl}
use Rattle.std.proofs.lemmas.Result.{IfOk-weaker}
use Rattle.cli_lines.specs.RowLines.{height_line}
use Rattle.rules.specs.World.{height_of}
use Rattle.ledger_commands.proofs.Adding.{first_kept}
use Rattle.ledger_commands.proofs.question.add_lines.Goals as goal

pub returns : goal.returns
returns g c =
    let line = height_line c.args.format (height_of c.args.world.now) in
    IfOk-weaker c.tell.result _ _
    (λ _ told. (
      line ++ told.0,
      (record { own = told.0; told = told.1; is_text = refl }),
      first_kept (g.W.Write.contents c.args.out.now) (g.W.Write.contents c.tell.new.out) c.args.kept.now.items c.write_height.new.out.items c.tell.new.kept.items line told.0
          (c.in_ok-write_height.ensures ∙ ap (λ n. c.args.kept.now.items ++ height_line c.args.format n) c.height.ensures) told.2,
    ))
    c.tell.ensures
