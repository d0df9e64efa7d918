use Rattle.mvcc.proofs.reads.read_holds.Goals as goal

pub returns-in-Blocked-clause-decision : goal.returns-in-Blocked-clause-decision
returns-in-Blocked-clause-decision g c = c.in-Blocked.ensures.decision _ c.requires.place
