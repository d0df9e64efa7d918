use Rattle.std.proofs.Common.{sym, ◌∙◌, ap}
use Rattle.std.specs.FinMap as map
use Rattle.policy.proofs.Names.{get_name, at_name}
use Rattle.policy.proofs.definitions.Definitions.of.Goals as goal

pub returns : goal.returns
returns c = c.get.ensures.value ∙ ap (at_name c.self.inside.policies) c.as_slice.ensures.value ∙ sym (get_name c.self.inside.policies c.args.name.now) ∙ ap (λ m. map.get m c.args.name.now) c.self.view_is
