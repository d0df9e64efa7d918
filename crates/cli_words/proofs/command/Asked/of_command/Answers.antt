use Rattle.std.proofs.Common.{◌≡◌}
use Rattle.cli_words.proofs.Calls.{call_of}
use Rattle.cli_words.proofs.command.Asked.of_command.Goals as goal

pub returns : goal.returns
returns g c is texts =
    c.of_matches.ensures _ (call_of _ _ c.try_get_matches_from_mut.result c.in_ok-matches.matches is c.in_ok-matches.was c.try_get_matches_from_mut.ensures.kinds c.in_ok-matches.ensures.ok.2 texts)
