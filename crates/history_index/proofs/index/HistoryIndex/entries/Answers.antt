use Rattle.std.proofs.Common.{◌≡◌, ap, subst, ◌∙◌, sym}
use Rattle.rules.specs.State.{StateKey}
use Rattle.rules.specs.History.{entries_at}
use Rattle.history_index.specs.Index.{Index}
use Rattle.history_index.specs.Lists.{all_entries, hashes_of, entries_before, AreIn, IsChain}
use Rattle.history_index.proofs.Chains.{last_chain, last_entries}
use Rattle.history_index.proofs.index.HistoryIndex.entries.Goals as goal

pub invariant_of-result : goal.invariant_of-result
invariant_of-result c =
    let k : StateKey = (c.args.namespace.now, c.args.key.now) in
    let again : (c.reborrow.result, c.reborrow-2.result) ≡ k = λ i. (c.reborrow.ensures i, c.reborrow-2.ensures i) in
    let chain = last_chain (all_entries c.self.inside.lists.items) c.self.inside.index.hashes k c.key_hash.result c.last.result c.self.invariant.1 c.key_hash.ensures c.last.ensures in (
      subst (λ ls. AreIn ls c.as_slice-2.result.now) (sym c.as_slice.ensures.value) (subst (AreIn c.self.inside.lists.items) (sym c.as_slice-2.ensures.value) c.self.invariant.0),
      c.self.invariant.1 ∙ ap (λ ls. hashes_of (all_entries ls)) (sym c.as_slice.ensures.value),
      subst (λ q. IsChain q (all_entries c.as_slice.result.now) c.last.result) (sym again) (subst (λ ls. IsChain k (all_entries ls) c.last.result) (sym c.as_slice.ensures.value) chain),
    )

pub returns : goal.returns
returns c =
    let k : StateKey = (c.args.namespace.now, c.args.key.now) in
    let again : (c.reborrow.result, c.reborrow-2.result) ≡ k = λ i. (c.reborrow.ensures i, c.reborrow-2.ensures i) in
    (λ i. entries_before (all_entries (c.as_slice.ensures.value i)) (again i) c.last.result)
    ∙ last_entries (all_entries c.self.inside.lists.items) c.self.inside.index.hashes k c.key_hash.result c.last.result c.self.invariant.1 c.key_hash.ensures c.last.ensures
    ∙ ap (λ (i : Index). entries_at i.history k) c.self.view_is
