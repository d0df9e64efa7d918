use Rattle.std.proofs.Common.{rules, ◌∙◌, subst, sym, ap, T, List, length, get_or, Some}
use Rattle.std.specs.List.{list_all}
use Rattle.std.specs.List.Sorted.{IsSearchInRange, IsBinarySearchResult}
use Rattle.std.specs.FinMap.{is_sorted}
use Rattle.mvcc.proofs.Answering.{answers_alike}
use Rattle.transaction.specs.declared.transaction.KeyVersion.{KeyVersion}
use Rattle.values.specs.Order.{bytes_cmp}
use Rattle.rules.specs.Ranges.{is_within, results_of}
use Rattle.rules.proofs.Booleans.{both_true}
use Rattle.mvcc.proofs.Results.{given_found, none_found}
use Rattle.mvcc.proofs.bounds.version_found.Goals as goal

pub returns-in-Ok : goal.returns-in-Ok
returns-in-Ok c =
    let r = c.args.range.now in
    let found = c.binary_search_by.ensures in
    let by_key = found.position (λ x. bytes_cmp x.key c.args.key.now) (answers_alike _ _ _ (λ a r after called. (search rules, search rules))) in
    ap (λ (d : KeyVersion). Some d.version) (sym c.index-results-place.is)
    ∙ given_found r.results c.args.key.now c.in-Ok.place c.binary_search_by.result c.in-Ok.is (subst T (sym (both_true (is_sorted bytes_cmp (results_of r)) (list_all (λ x. is_within r.start r.end x.key) r.results) c.requires).0) tt)
    (subst (λ (xs : List KeyVersion). IsSearchInRange c.binary_search_by.result (length xs)) c.as_slice-results.ensures found.bound)
    (subst (λ (xs : List KeyVersion). IsBinarySearchResult (λ x. bytes_cmp x.key c.args.key.now) xs c.binary_search_by.result) c.as_slice-results.ensures by_key) c.index-results-place.result
    (c.index-results-place.is ∙ ap (λ (xs : List KeyVersion). get_or xs c.in-Ok.place c.index-results-place.result) c.as_slice-results.ensures)

pub returns-in-Err : goal.returns-in-Err
returns-in-Err c =
    let r = c.args.range.now in
    let found = c.binary_search_by.ensures in
    let by_key = found.position (λ x. bytes_cmp x.key c.args.key.now) (answers_alike _ _ _ (λ a r after called. (search rules, search rules))) in
    none_found r.results c.args.key.now _ c.binary_search_by.result c.in-Err.is (subst T (sym (both_true (is_sorted bytes_cmp (results_of r)) (list_all (λ x. is_within r.start r.end x.key) r.results) c.requires).0) tt)
    (subst (λ (xs : List KeyVersion). IsSearchInRange c.binary_search_by.result (length xs)) c.as_slice-results.ensures found.bound)
    (subst (λ (xs : List KeyVersion). IsBinarySearchResult (λ x. bytes_cmp x.key c.args.key.now) xs c.binary_search_by.result) c.as_slice-results.ensures by_key)
