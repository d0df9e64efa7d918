use Rattle.std.proofs.Common.{ap, ◌∙◌}
use Rattle.std.specs.Prelude.{is_some}
use Rattle.mvcc.proofs.Results.{given_where}
use Rattle.mvcc.proofs.bounds.is_result.Goals as goal

pub returns : goal.returns
returns c = c.is_some.ensures ∙ ap is_some c.version_found.ensures ∙ given_where c.args.key.now c.args.range.now.results
