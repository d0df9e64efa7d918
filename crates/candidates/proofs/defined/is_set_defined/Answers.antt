use Rattle.std.proofs.Common.{◌||◌, sym, ap, ◌∙◌}
use Rattle.rules.specs.Candidate.{is_defined}
use Rattle.candidates.proofs.Namespaces.{set_defined}
use Rattle.candidates.proofs.defined.is_set_defined.Goals as goal

pub returns-then-is_read_only : goal.returns-then-is_read_only
returns-then-is_read_only c =
    c.if-is_read_only.true ∙ sym (set_defined c.args.definitions.now c.args.set.now ∙ ap (λ b. b || is_defined c.args.definitions.now c.args.set.now.name) (sym c.is_read_only.ensures ∙ c.if-is_read_only.true))

pub returns-else-is_read_only : goal.returns-else-is_read_only
returns-else-is_read_only c =
    c.is_defined.ensures ∙ sym (set_defined c.args.definitions.now c.args.set.now ∙ ap (λ b. b || is_defined c.args.definitions.now c.args.set.now.name) (sym c.is_read_only.ensures ∙ c.if-is_read_only.false))
