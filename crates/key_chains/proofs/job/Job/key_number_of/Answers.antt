use Rattle.std.proofs.Common.{sym, ap}
use Rattle.rules.specs.Job.{Job}
use Rattle.key_chains.proofs.JobLists.{key_candidate, key_item, key_is_placed}
use Rattle.key_chains.proofs.job.Job.key_number_of.Goals as goal

pub item_of-written-requires-clause-candidate : goal.item_of-written-requires-clause-candidate
item_of-written-requires-clause-candidate c =
    key_candidate c.args.self.now c.self.inside.candidates.items c.self.inside.chains (record { candidates = ap (λ (j : Job). j.candidates) (sym c.self.view_is); built = c.self.invariant.1 })
    c.as_slice-2.result.now c.args.i c.args.written c.as_slice.result.now c.as_slice-2.ensures.value c.as_slice.ensures.value c.requires

pub item_of-written-requires-clause-item : goal.item_of-written-requires-clause-item
item_of-written-requires-clause-item c =
    key_item c.args.self.now c.self.inside.candidates.items c.self.inside.chains (record { candidates = ap (λ (j : Job). j.candidates) (sym c.self.view_is); built = c.self.invariant.1 })
    c.as_slice-2.result.now c.args.i c.args.written c.as_slice.result.now c.as_slice-2.ensures.value c.as_slice.ensures.value c.requires

pub returns : goal.returns
returns c k here =
    key_is_placed c.args.self.now c.self.inside.candidates.items c.self.inside.chains (record { candidates = ap (λ (j : Job). j.candidates) (sym c.self.view_is); built = c.self.invariant.1 })
    c.as_slice-2.result.now c.args.i c.args.written c.as_slice.result.now c.as_slice-2.ensures.value c.as_slice.ensures.value c.requires c.item_of-written.result c.item_of-written.ensures k here
