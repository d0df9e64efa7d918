use Rattle.std.proofs.Common.{List, [], ◌==◌, length, sym, ap, subst, ◌≤◌, ◌∙◌}
use Rattle.block.specs.Limits.{max_txs}
use Rattle.intake.specs.Tentative.{marked}
use Rattle.txid_index.specs.Marks.{marks}
use Rattle.rules.specs.Candidate.{Candidate}
use Rattle.rules.proofs.Names.{candidates_same}
use Rattle.next_block.specs.NextDelta.{job_over}
use Rattle.next_block.proofs.Marking.{as_many-marks, few_marked}
use Rattle.next_block.proofs.next_delta.flag_duplicates.Goals as goal

pub with_marks-requires-clause-count : goal.with_marks-requires-clause-count
with_marks-requires-clause-count c =
    ap length (c.as_slice-2.ensures.value ∙ c.in_ok-used.ensures)
    ∙ as_many-marks c.args.world.now.first_uses [] c.as_slice.result.now
    ∙ ap length c.as_slice.ensures.value ∙ sym c.requires.count

pub returns-clause-few : goal.returns-clause-few
returns-clause-few c =
    subst (λ (cs : List Candidate). length cs ≤ max_txs) (sym c.in_ok-key_writers.ensures)
    (few_marked c.args.tentative.key_writers c.as_slice-2.result.now max_txs (subst (λ n. n ≤ max_txs) (sym c.requires.count) c.requires.few))

pub returns-clause-job : goal.returns-clause-job
returns-clause-job c channel taken are names accepts items same =
    let w = c.args.world.now in
    let used = c.as_slice-2.ensures.value ∙ c.in_ok-used.ensures ∙ ap (marks w.first_uses []) c.as_slice.ensures.value in
    let by_channel = c.in_ok-key_writers.ensures ∙ ap (marked c.args.tentative.key_writers) used
    ∙ c.tentative_candidates_are_the_definitions.ensures.candidates channel accepts w.first_uses items taken c.args.tentative.ids.items c.args.tentative.key_writers are same in
    ap (job_over channel w) (by_channel ∙ sym (candidates_same channel w names accepts (length items == 1) w.first_uses [] items))

pub returns-clause-ids : goal.returns-clause-ids
returns-clause-ids c channel taken are accepts items same =
    c.tentative_candidates_are_the_definitions.ensures.ids channel accepts items taken c.args.tentative.ids.items c.args.tentative.key_writers are same
