use Rattle.std.proofs.Common.{refl, subst}
use Rattle.std.specs.Prelude.{IfSome}
use Rattle.cli_words.specs.Words.{IsKeyed}
use Rattle.cli_words.proofs.command.Asked.history.Goals as goal

pub returns-in-Some : goal.returns-in-Some
returns-in-Some c front words (items, are, held) = (refl, (items, are, subst (λ o. IfSome o (IsKeyed items)) c.in-Some.is (c.in_ok-query.ensures items held)))
