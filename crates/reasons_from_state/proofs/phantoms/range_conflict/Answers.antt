use Rattle.std.proofs.Common.{List, ◌++◌, map, Some, None, sym, ap, ◌∙◌}
use Rattle.transaction.specs.declared.transaction.KeyVersion.{KeyVersion}
use Rattle.rules.specs.Fold.{running}
use Rattle.reasons.specs.Ranges.{version_there, version_read}
use Rattle.reasons_from_state.specs.Differences.{differs_at, least_where}
use Rattle.reasons_from_state.proofs.Differing.{where_they_differ, others_are_same}
use Rattle.reasons_from_state.proofs.phantoms.range_conflict.Goals as goal

pub returns-in_default-clause-value : goal.returns-in_default-clause-value
returns-in_default-clause-value c =
    let j = c.args.at.now.job.now in
    let r = c.args.range.now in
    let there = version_there (running j c.args.at.now.i).state c.args.namespace.now r in
    let all = c.in_ok-add_results.ensures ∙ ap (λ (xs : List KeyVersion). c.in_ok-keys.keys.items ++ map (λ x. x.key) xs) c.as_slice.ensures in
    let is = sym c.in_default.is ∙ c.least_difference.ensures.value ∙ ap (least_where (differs_at there (version_read r)) None) c.as_slice-2.ensures.value in
    where_they_differ there (version_read r) c.add_results.new.keys.items (others_are_same j c.args.at.now.i c.args.namespace.now r c.in_ok-keys.keys.items c.add_results.new.keys.items c.in_ok-keys.ensures all) None is

pub returns-clause-value : goal.returns-clause-value
returns-clause-value c =
    let j = c.args.at.now.job.now in
    let r = c.args.range.now in
    let there = version_there (running j c.args.at.now.i).state c.args.namespace.now r in
    let all = c.in_ok-add_results.ensures ∙ ap (λ (xs : List KeyVersion). c.in_ok-keys.keys.items ++ map (λ x. x.key) xs) c.as_slice.ensures in
    let is = sym c.in-Some.is ∙ c.least_difference.ensures.value ∙ ap (least_where (differs_at there (version_read r)) None) c.as_slice-2.ensures.value in (
      c.in-Some.key,
      where_they_differ there (version_read r) c.add_results.new.keys.items (others_are_same j c.args.at.now.i c.args.namespace.now r c.in_ok-keys.keys.items c.add_results.new.keys.items c.in_ok-keys.ensures all) (Some c.in-Some.key) is,
      c.in_ok-phantom_key.ensures.value,
    )
