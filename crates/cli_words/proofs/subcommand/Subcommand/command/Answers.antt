use Rattle.std.proofs.Common.{◌≡◌, ◌∙◌, ap}
use Rattle.std.specs.Prelude.{fold}
use Rattle.std.proofs.lemmas.Result.{IfOk-weaker}
use Rattle.clap.specs.Simple.{app_of_fields}
use Rattle.clap.specs.Words.{App, app_of, new_app}
use Rattle.cli_words.specs.Rules.{added_to}
use Rattle.cli_words.proofs.Shapes.{argument_rules}
use Rattle.cli_words.proofs.subcommand.Subcommand.command.Goals as goal

pub returns-clause-shape : goal.returns-clause-shape
returns-clause-shape c =
    let app : app_of c.after_help-command.result ≡ new_app c.args.self.now.name.now =
    ap app_of_fields c.after_help-command.ensures ∙ ap app_of_fields c.about.ensures ∙ c.new.ensures.app in
    IfOk-weaker c.with_arguments.result _ _
    (λ r h. ap (λ (a : App). a.top) (h ∙ ap (λ a. fold added_to a c.args.self.now.arguments.now) app ∙ argument_rules (new_app c.args.self.now.name.now) c.args.self.now.arguments.now))
    c.with_arguments.ensures.rules
