use Rattle.std.proofs.Common.{subst}
use Rattle.std.specs.Prelude.{IfSome}
use Rattle.cli_words.specs.Words.{Asks}
use Rattle.cli_words.proofs.command.Asked.of_matches.Goals as goal

pub returns-in-Some : goal.returns-in-Some
returns-in-Some c words call = subst (λ o. IfSome o (Asks words)) c.in-Some.is (c.in_ok-asked.ensures words call)
