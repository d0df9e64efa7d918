use Rattle.std.proofs.Common.{Option, Some, refl, subst, sym}
use Rattle.std.proofs.lemmas.Result.{IfOk-weaker}
use Rattle.cli_words.specs.declared.paths.ConfigurationPaths.{ConfigurationPaths}
use Rattle.ledger_commands.specs.Showing.{IsKnown}
use Rattle.ledger_commands.proofs.show.print_scripts.Goals as goal

pub returns-clause-ok : goal.returns-clause-ok
returns-clause-ok g c =
    let configuration = c.in_ok-configuration.configuration in
    IfOk-weaker c.print_blocks-2.result _ _ (λ status prints. record {
      known = Some configuration;
      is_known = subst (λ (words : Option ConfigurationPaths). IsKnown (g.F.Files.holds c.args.files.now) words (Some configuration)) (sym c.in-Some.is) (configuration, c.in_ok-configuration.ensures.ok, refl);
      blocks = prints.0;
      held = prints.1;
      are_blocks = prints.2.0;
      prints = prints.2.1;
      is_status = prints.2.2;
    }) c.print_blocks-2.ensures.ok
