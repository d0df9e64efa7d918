use Rattle.std.proofs.Common.{◌∙◌}
use Rattle.key_chains.proofs.NumberedKeys.{search_is}
use Rattle.key_chains.proofs.numbering.place_of.Goals as goal

pub returns-clause-value : goal.returns-clause-value
returns-clause-value c = c.ok.ensures.value ∙ search_is c.args.keys.now c.args.key.now c.binary_search.result c.requires c.binary_search.ensures.bound c.binary_search.ensures.position
