use Rattle.std.proofs.Common.{◌+◌, ℕ, List, length, subst, sym, ap, ◌∙◌}
use Rattle.std.specs.Prelude.{Result, Ok, Err, OnErr}
use Rattle.std.proofs.lemmas.List.{length-append}
use Rattle.reasons.specs.declared.reason.Reason.{Reason}
use Rattle.conflicts.specs.Tally.{Tally, Counts, AreWithin, IsWithin}
use Rattle.conflicts.proofs.tally.Tally.add.Goals as goal

on_err : {T E : Type 0} (P : Type 0) (r : Result T E) → P → OnErr r P
on_err P (Ok x) p = tt
on_err P (Err e) p = p

pub returns-in_err-count_tables-clause-err : goal.returns-in_err-count_tables-clause-err
returns-in_err-count_tables-clause-err c =
    on_err ((before : List Reason) → Counts before c.args.self.now → Counts before (record { total = c.self.inside.total; flags = c.self.inside.flags; keys = c.count_tables.new.keys.entries; lacks = c.count_tables.new.lacks.entries }))
    c.from_residual-in_err-count_tables.result (λ (before : List Reason) (h : Counts before c.args.self.now).
    let counted : Counts before (record { total = c.self.inside.total; flags = c.self.inside.flags; keys = c.self.inside.keys.entries; lacks = c.self.inside.lacks.entries }) = subst (λ (t : Tally). Counts before t) (sym c.self.view_is) h in
    record {
      total = counted.total;
      flags = counted.flags;
      keys = λ k. c.in_err-count_tables.ensures.keys_err k ∙ counted.keys k;
      lacks = λ k. c.in_err-count_tables.ensures.lacks_err k ∙ counted.lacks k;
    })

pub invariant_of-self-2 : goal.invariant_of-self-2
invariant_of-self-2 c = (
  subst (λ (n : ℕ). IsWithin n c.count_tables.new.keys.entries) (sym c.in_ok-total.ensures.sum) c.in_ok-count_tables.ensures.keys_most,
  subst (λ (n : ℕ). IsWithin n c.count_tables.new.lacks.entries) (sym c.in_ok-total.ensures.sum) c.in_ok-count_tables.ensures.lacks_most,
  subst (λ (n : ℕ). AreWithin n c.count_flags.new.counts) (sym c.in_ok-total.ensures.sum) c.count_flags.ensures.within,
)

pub returns-clause-ok : goal.returns-clause-ok
returns-clause-ok c = λ before h.
    let counted : Counts before (record { total = c.self.inside.total; flags = c.self.inside.flags; keys = c.self.inside.keys.entries; lacks = c.self.inside.lacks.entries }) = subst (λ (t : Tally). Counts before t) (sym c.self.view_is) h in
    record {
      total = c.in_ok-total.ensures.sum ∙ ap (λ n. n + length c.args.reasons.now) counted.total ∙ sym (length-append before c.args.reasons.now);
      flags = c.count_flags.ensures.counts before counted.flags;
      keys = c.in_ok-count_tables.ensures.keys before counted.keys;
      lacks = c.in_ok-count_tables.ensures.lacks before counted.lacks;
    }
