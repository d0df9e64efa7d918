use Rattle.std.proofs.Common.{sym, ◌∙◌, ap}
use Rattle.std.proofs.lemmas.Option.{slice_get_within}
use Rattle.key_chains.specs.Job.{keys_of}
use Rattle.rules.specs.Endorsement.{meets}
use Rattle.endorsement_check.proofs.WrittenKeys.{earlier_writers, depends, sure_write}
use Rattle.endorsement_check.proofs.writes.may_write.Goals as goal

pub row_of-row-requires : goal.row_of-row-requires
row_of-row-requires g c = slice_get_within (keys_of c.args.job.now) c.key_number_of.result c.args.key.now (c.key_number_of.ensures c.args.key.now c.requires.place)

pub governing_over-requires : goal.governing_over-requires
governing_over-requires g c = c.row_of-row.ensures c.args.key.now (c.key_number_of.ensures c.args.key.now c.requires.place)

pub any_passed-requires-clause-earlier : goal.any_passed-requires-clause-earlier
any_passed-requires-clause-earlier g c = earlier_writers c.args.job.now c.args.i c.args.place c.args.key.now c.requires.place c.policy_writers.result (c.policy_writers.ensures c.args.key.now c.requires.place)

pub returns-in-Sure-clause-decision : goal.returns-in-Sure-clause-decision
returns-in-Sure-clause-decision g c =
    sure_write c.args.job.now c.args.i c.args.place c.args.key.now c.requires.place c.policy_writers.result (c.policy_writers.ensures c.args.key.now c.requires.place)
    c.args.signers.now (g.B.Board.known c.any_passed.new.board).endorsed c.in-Sure.touched (sym (c.meets.ensures ∙ ap (meets c.args.signers.now) c.governing_over.ensures) ∙ c.if-not-meets.false) c.in-Sure.ensures.decision

pub returns-in-Blocked-clause-decision : goal.returns-in-Blocked-clause-decision
returns-in-Blocked-clause-decision g c =
    (depends c.args.job.now c.args.i c.args.place c.args.key.now c.requires.place c.policy_writers.result (c.policy_writers.ensures c.args.key.now c.requires.place) c.in-Blocked.h c.in-Blocked.ensures.decision.0, c.in-Blocked.ensures.decision.1)
