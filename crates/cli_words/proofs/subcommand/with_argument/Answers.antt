use Rattle.std.proofs.Common.{◌≡◌, ◌∙◌, ◌||◌, Bool, true, false, refl, ap}
use Rattle.std.proofs.lemmas.Result.{IfOk-weaker}
use Rattle.clap.specs.declared.builder.command.Command.TheViews.{out-Command as fields_of}
use Rattle.cli_words.proofs.subcommand.with_argument.Goals as goal

as_it_was : (a b : Bool) → b ≡ false → (a || b) ≡ a
as_it_was true b e = refl
as_it_was false b e = e

pub returns-clause-local : goal.returns-clause-local
returns-clause-local c =
    IfOk-weaker c.arg-2.result _ _ (λ r h. h.globals ∙ as_it_was (fields_of c.args.command).has_globals c.arg.result.global c.arg.ensures.local) c.arg-2.ensures
