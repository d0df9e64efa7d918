use Rattle.std.proofs.Common.{◌≡◌, ◌∙◌, ◌∷◌, refl, sym, ap, subst, Some}
use Rattle.std.specs.Prelude.{IfOk, IfSome, option_map}
use Rattle.clap.specs.Words.{found_of, rows_of}
use Rattle.clap.specs.declared.parser.matches.ArgMatches.TheViews.{out-ArgMatches}
use Rattle.cli_words.specs.Matched.{IsCall}
use Rattle.cli_words.specs.Words.{Asks}
use Rattle.cli_words.proofs.Getters.{entered_rows}
use Rattle.cli_words.proofs.command.Asked.from_matches.Goals as goal

pub returns-in-Some : goal.returns-in-Some
returns-in-Some c words call =
    let rows = entered_rows (out-ArgMatches c.args.matches.now).subcommand c.in-Some.name.now (rows_of (found_of c.in-Some.matches.now))
    (sym (ap (option_map (λ p. p.0.now)) c.in-Some.is) ∙ c.subcommand.ensures.name) (sym (ap (option_map (λ p. rows_of (found_of p.1.now))) c.in-Some.is) ∙ c.subcommand.ensures.rows) in
    let held = subst (IsCall words) rows call in
    subst (λ ws. IfOk c.of_subcommand.result (λ o. IfSome o (Asks ws))) (sym held.1.1.0) (c.of_subcommand.ensures held.0 held.1.0 held.1.1.1)
