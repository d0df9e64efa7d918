use Rattle.std.proofs.Common.{ℕ, List, ◌++◌, take, refl, sym, ap, ◌∙◌, append-nil}
use Rattle.std.specs.FinMap.{get}
use Rattle.std.proofs.lemmas.List.{take_all}
use Rattle.transaction.specs.declared.transaction.Version.{Version}
use Rattle.rules.specs.State.{State}
use Rattle.rules.specs.Delta.{entries_in}
use Rattle.rules.specs.Job.{version_of}
use Rattle.candidates.specs.declared.written_key.WrittenKey.{WrittenKey}
use Rattle.effects.specs.Entries.{entry_written, entries_written}
use Rattle.effects.specs.WrittenRow.{with_writes}
use Rattle.effects.proofs.WrittenKeys.{with_writes-none, next_written, next_entries, key_at_place}
use Rattle.effects.proofs.writing.write_all.Goals as goal

pub loop-place-init : goal.loop-place-init
loop-place-init c = record {
  rows = λ s shows n k at. shows n k at ∙ ap (λ (t : State). get t k) (sym (with_writes-none (version_of c.args.job.now c.args.i) s));
  real = λ h. h;
  keys = λ h. h;
  count = refl;
  entries = sym (append-nil (entries_in c.args.all.now.entries.items));
}

pub write_one-requires-clause-place : goal.write_one-requires-clause-place
write_one-requires-clause-place c =
    c.key_number_of-number.ensures c.written-item.result.key
    (key_at_place c.args.job.now c.args.i c.args.open_tx.now c.as_slice-written-items.result.now c.loop-place.place c.written-item.result c.requires.opened c.as_slice-written-items.ensures.value c.loop-place-test.true c.written-item.is)

pub loop-place-preserved : goal.loop-place-preserved
loop-place-preserved c = record {
  rows = λ s shows n k at.
      let v : Version = version_of c.args.job.now c.args.i in
      let ws : List WrittenKey = c.args.open_tx.now.written.items in
      c.in_ok-write_one.ensures.rows (with_writes v s (take c.loop-place.place ws)) (c.loop-place.invariant.rows s shows) n k at
      ∙ ap (λ (t : State). get t k)
      (next_written c.in_ok-writer.writer.version v s ws c.as_slice-written-items.result.now c.loop-place.place c.written-item.result
      c.in_ok-writer.ensures.version c.as_slice-written-items.ensures.value c.loop-place-test.true c.written-item.is);
  real = λ h. c.in_ok-write_one.ensures.real (c.loop-place.invariant.real h);
  keys = λ h. c.in_ok-write_one.ensures.keys (c.loop-place.invariant.keys h);
  count = c.in_ok-write_one.ensures.count ∙ c.loop-place.invariant.count;
  entries =
      c.in_ok-write_one.ensures.entries ∙ ap (λ (id : List ℕ). entries_in c.loop-place.all.entries.items ++ entry_written c.in_ok-writer.writer.version id c.written-item.result) c.in_ok-writer.ensures.id
      ∙ ap (λ l. l ++ entry_written c.in_ok-writer.writer.version c.args.open_tx.now.tx.id c.written-item.result) c.loop-place.invariant.entries
      ∙ next_entries c.in_ok-writer.writer.version (version_of c.args.job.now c.args.i) c.args.open_tx.now.tx.id (entries_in c.args.all.now.entries.items) c.args.open_tx.now.written.items c.as_slice-written-items.result.now c.loop-place.place
      c.written-item.result c.in_ok-writer.ensures.version c.as_slice-written-items.ensures.value c.loop-place-test.true c.written-item.is;
}

pub returns-clause-rows : goal.returns-clause-rows
returns-clause-rows c s shows n k at =
    let are = c.as_slice-written-items.ensures.value in
    c.loop-place.invariant.rows s shows n k at
    ∙ ap (λ (l : List WrittenKey). get (with_writes (version_of c.args.job.now c.args.i) s l) k)
    (ap (take c.loop-place.place) (sym are) ∙ take_all c.loop-place.place c.as_slice-written-items.result.now c.loop-place-test.false ∙ are)

pub returns-clause-entries : goal.returns-clause-entries
returns-clause-entries c =
    let are = c.as_slice-written-items.ensures.value in
    c.loop-place.invariant.entries
    ∙ ap (λ (l : List WrittenKey). entries_in c.args.all.now.entries.items ++ entries_written (version_of c.args.job.now c.args.i) c.args.open_tx.now.tx.id l)
    (ap (take c.loop-place.place) (sym are) ∙ take_all c.loop-place.place c.as_slice-written-items.result.now c.loop-place-test.false ∙ are)
