use Rattle.std.proofs.Common.{◌≡◌, ◌-◌, false, get_or, take, sym, ap, ◌∙◌, arith}
use Rattle.history_index.specs.Places.{last_with}
use Rattle.rules.specs.declared.delta.NewEntry.{NewEntry}
use Rattle.rules.specs.State.{is_same_key}
use Rattle.rules.proofs.Keys.{same_key_is}
use Rattle.history_index.specs.Lists.{all_entries, no_entry}
use Rattle.history_index.proofs.Chains.{IsOlder, passed_over}
use Rattle.history_index.proofs.lists.newest_of.Goals as goal

pub returns-then-is_of-clause-place : goal.returns-then-is_of-clause-place
returns-then-is_of-clause-place c i at =
    let here : i ≡ c.loop-place.place - 1 = omega (arith, at) in
    ap (λ n. (get_or (all_entries c.args.lists.now) n no_entry).key) here
    ∙ ap (λ (e : NewEntry). e.key) (sym c.entry_at-entry.ensures)
    ∙ sym (same_key_is (c.args.namespace.now, c.args.key.now) c.entry_at-entry.result.now.key (sym c.is_of.ensures ∙ c.if-is_of.true))

pub loop-place-smaller : goal.loop-place-smaller
loop-place-smaller c =
    let older : IsOlder (all_entries c.args.lists.now) (c.loop-place.place - 1) c.before-place.result =
    c.before-place.ensures ∙ ap (λ hs. last_with (get_or hs (c.loop-place.place - 1) 0) (take (c.loop-place.place - 1) hs)) c.requires.hashes in
    let differs : is_same_key (c.args.namespace.now, c.args.key.now) (get_or (all_entries c.args.lists.now) (c.loop-place.place - 1) no_entry).key ≡ false =
    ap (λ (e : NewEntry). is_same_key (c.args.namespace.now, c.args.key.now) e.key) (sym c.entry_at-entry.ensures) ∙ sym c.is_of.ensures ∙ c.if-is_of.false in
    (passed_over (all_entries c.args.lists.now) (c.args.namespace.now, c.args.key.now) c.loop-place.place c.before-place.result c.loop-place.invariant.chain c.loop-place-test.true older differs).below

pub loop-place-preserved : goal.loop-place-preserved
loop-place-preserved c =
    let older : IsOlder (all_entries c.args.lists.now) (c.loop-place.place - 1) c.before-place.result =
    c.before-place.ensures ∙ ap (λ hs. last_with (get_or hs (c.loop-place.place - 1) 0) (take (c.loop-place.place - 1) hs)) c.requires.hashes in
    let differs : is_same_key (c.args.namespace.now, c.args.key.now) (get_or (all_entries c.args.lists.now) (c.loop-place.place - 1) no_entry).key ≡ false =
    ap (λ (e : NewEntry). is_same_key (c.args.namespace.now, c.args.key.now) e.key) (sym c.entry_at-entry.ensures) ∙ sym c.is_of.ensures ∙ c.if-is_of.false in
    let next = passed_over (all_entries c.args.lists.now) (c.args.namespace.now, c.args.key.now) c.loop-place.place c.before-place.result c.loop-place.invariant.chain c.loop-place-test.true older differs in
    record {
      chain = next.chain;
      entries = sym next.rest ∙ c.loop-place.invariant.entries;
      bound = omega (arith, next.below, c.loop-place.invariant.bound);
    }
