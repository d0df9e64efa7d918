use Rattle.std.proofs.Common.{ap, ◌∙◌}
use Rattle.key_chains.specs.Lists.{lists_of}
use Rattle.key_chains.proofs.Chaining.{lists-none}
use Rattle.key_chains.proofs.links.KeyLists.with_capacity.Goals as goal

pub returns : goal.returns
returns g c = λ i. ((ap lists_of c.in_ok-with_capacity.ensures.items ∙ lists-none) i, c.in_ok-no_links.ensures i)
