use Rattle.std.proofs.Common.{rules, ◌≡◌, ◌∙◌, ap, ap₂, true, List, [], ◌∷◌}
use Rattle.std.specs.Prelude.{codes, fold}
use Rattle.std.proofs.lemmas.Result.{IfOk-weaker}
use Rattle.clap.specs.Simple.{app_of_fields, on_top}
use Rattle.clap.specs.Words.{App, Shape, app_of, new_app, with_subcommand}
use Rattle.cli_words.proofs.command.command.Goals as goal

pub returns : goal.returns
returns c =
    let new : app_of c.new.result ≡ new_app (codes "fabcommit") = search rules in
    let top : app_of c.subcommand_required-command.result ≡ on_top (λ s. record s { has_version = true; subcommand_required = true }) (new_app (codes "fabcommit")) =
    ap app_of_fields c.subcommand_required-command.ensures
    ∙ ap (on_top (λ s. record s { subcommand_required = true })) (ap app_of_fields c.after_help.ensures ∙ ap app_of_fields c.about.ensures ∙ ap app_of_fields c.version.ensures)
    ∙ ap (on_top (λ s. record s { has_version = true; subcommand_required = true })) (ap app_of_fields c.in_ok-bin_name.ensures.0 ∙ new) in
    IfOk-weaker c.with_subcommands.result _ _
    (λ r h. h ∙ ap₂ (fold with_subcommand) top
    (ap₂ (λ x xs. x ∷ xs) c.subcommand.ensures (ap₂ (λ x xs. x ∷ xs) c.subcommand-2.ensures (ap₂ (λ x xs. x ∷ xs) c.subcommand-3.ensures
    (ap₂ (λ x xs. x ∷ xs) c.subcommand-4.ensures (ap₂ (λ x xs. x ∷ xs) c.subcommand-5.ensures (ap₂ (λ x xs. x ∷ xs) c.subcommand-6.ensures
    (ap₂ (λ x xs. x ∷ xs) c.subcommand-7.ensures (ap₂ (λ x xs. x ∷ xs) c.subcommand-8.ensures (ap₂ (λ x xs. x ∷ xs) c.subcommand-9.ensures
    (ap (λ x. x ∷ []) c.subcommand-10.ensures)))))))))))
    c.with_subcommands.ensures
