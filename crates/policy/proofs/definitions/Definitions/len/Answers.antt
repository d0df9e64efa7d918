use Rattle.std.proofs.Common.{sym, ◌∙◌, ap}
use Rattle.std.specs.FinMap as map
use Rattle.policy.proofs.Names.{count_of}
use Rattle.policy.proofs.definitions.Definitions.len.Goals as goal

pub returns : goal.returns
returns c = c.len.ensures.len ∙ sym (count_of c.self.inside.policies c.len.ensures.ordered) ∙ ap (λ m. map.len m) c.self.view_is
