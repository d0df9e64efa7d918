use Rattle.std.proofs.Common.{◌≡◌, ◌∙◌, ap, cond, Bool, [], ◌∷◌, None, Option, List, ℕ}
use Rattle.std.specs.Prelude.{codes}
use Rattle.cli_words.specs.Items.{given}
use Rattle.cli_words.proofs.paths.format_of.Goals as goal

pub returns-then-is_given : goal.returns-then-is_given
returns-then-is_given c items is = c.is_given.ensures (given (codes "json") items) is ∙ ap (λ (b : Bool). cond b (None ∷ []) []) c.if-is_given.true

pub returns-else-is_given : goal.returns-else-is_given
returns-else-is_given c items is = c.is_given.ensures (given (codes "json") items) is ∙ ap (λ (b : Bool). cond b (None ∷ []) []) c.if-is_given.false
