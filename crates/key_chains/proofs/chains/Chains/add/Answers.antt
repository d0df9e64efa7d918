use Rattle.std.proofs.Common.{List, refl, sym, subst, ap, ◌∙◌, length, All}
use Rattle.std.specs.Prelude.{IsSome}
use Rattle.candidates.specs.declared.written_key.WrittenKey.{WrittenKey}
use Rattle.candidates.specs.Seen.{seen}
use Rattle.rules.specs.Candidate.{flagged, updates}
use Rattle.key_chains.specs.Numbers.{number_in}
use Rattle.key_chains.specs.Built.{AreNext}
use Rattle.key_chains.proofs.OpenWrites.{each_numbered, all_next}
use Rattle.key_chains.proofs.Passing.{nothing_passes, reads_pass, writes_pass}
use Rattle.key_chains.proofs.chains.Chains.add.Goals as goal

pub add_written-requires-clause-numbers : goal.add_written-requires-clause-numbers
add_written-requires-clause-numbers c =
    subst (λ (ws : List WrittenKey). All (λ w. IsSome (number_in c.args.self.now.keys w.key)) ws) (sym c.as_slice-in-Opened-3.ensures.value)
    (each_numbered c.in-Opened.open_tx (seen c.args.candidate.now) c.args.self.now.keys (ap seen c.in-Opened.is) c.requires.numbers)

pub returns-in-Flagged : goal.returns-in-Flagged
returns-in-Flagged c = record {
  built = λ cs is b. nothing_passes cs c.args.i (length c.as_slice-first.result.now) (length c.as_slice.result.now) (flagged c.in-Flagged.field-0) c.args.self.now _ (is ∙ ap seen c.in-Flagged.is) refl refl b (ap length c.as_slice-first.ensures.value) (ap length c.as_slice.ensures.value) c.in_ok-push.ensures.items c.in_ok-push-2.ensures.items refl refl refl refl refl refl;
}

pub returns-in-Updates : goal.returns-in-Updates
returns-in-Updates c = record {
  built = λ cs is b. nothing_passes cs c.args.i (length c.as_slice-first.result.now) (length c.as_slice.result.now) (updates c.in-Updates.field-0.update c.in-Updates.field-0.signers) c.args.self.now _ (is ∙ ap seen c.in-Updates.is) refl refl b (ap length c.as_slice-first.ensures.value) (ap length c.as_slice.ensures.value) c.in_ok-push.ensures.items c.in_ok-push-2.ensures.items refl refl refl refl refl refl;
}

pub returns-in_ok-add_written-in-Opened : goal.returns-in_ok-add_written-in-Opened
returns-in_ok-add_written-in-Opened c = record {
  built = λ cs is b.
      let opens = is ∙ ap seen c.in-Opened.is in
      writes_pass cs c.args.i c.in-Opened.open_tx c.add_written.new.self (length c.as_slice-in-Opened-3.result.now) opens (ap length c.as_slice-in-Opened-3.ensures.value)
      (c.in_ok-add_written-in-Opened.ensures.built cs (subst (λ (ws : List WrittenKey). AreNext cs c.args.i ws) (sym c.as_slice-in-Opened-3.ensures.value) (all_next cs c.args.i c.in-Opened.open_tx opens))
      (reads_pass cs c.args.i (length c.as_slice-first.result.now) (length c.as_slice.result.now) c.in-Opened.open_tx c.args.self.now _ _ opens b (ap length c.as_slice-first.ensures.value) (ap length c.as_slice.ensures.value)
      c.in_ok-push.ensures.items c.in_ok-push-2.ensures.items c.in_ok-add_read_keys-in-Opened.ensures c.as_slice-in-Opened.ensures.value c.in_ok-link_reads-in-Opened.ensures.lists c.in_ok-link_reads-in-Opened.ensures.links refl refl refl refl));
}
