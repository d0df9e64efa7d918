use Rattle.std.proofs.Common.{◌≡◌, ◌∙◌}
use Rattle.clap.specs.Words.{found_of, one_of, rows_of}
use Rattle.clap.proofs.WalkLemmas.{one_text-rows}
use Rattle.cli_words.proofs.Getters.{set_once}
use Rattle.cli_words.proofs.arguments.is_given.Goals as goal

pub returns : goal.returns
returns c uses is =
    let read = one_text-rows (found_of c.args.matches.now) c.args.name.now in
    set_once uses (one_of c.args.name.now (rows_of (found_of c.args.matches.now))) c.get_flag.result
    (λ e. c.get_flag.ensures.value (read ∙ e)) (λ e. c.get_flag.ensures.other (read ∙ e)) is
