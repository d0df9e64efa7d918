use Rattle.std.proofs.Common.{refl, subst}
use Rattle.std.specs.Prelude.{IfSome}
use Rattle.cli_words.specs.Words.{IsOfNamespace}
use Rattle.cli_words.proofs.command.Asked.definition.Goals as goal

pub returns-in-Some : goal.returns-in-Some
returns-in-Some c front words (items, are, held) = (refl, (items, are, subst (λ o. IfSome o (IsOfNamespace items)) c.in-Some.is (c.in_ok-query.ensures items held)))
