use Rattle.std.proofs.Common.{sym, ap, ◌∙◌}
use Rattle.rules.specs.Job.{Job}
use Rattle.key_chains.proofs.JobLists.{read_candidate, read_item, read_is_link, read_is_list}
use Rattle.key_chains.proofs.job.Job.operations_on_read.Goals as goal

pub item_of-link-requires-clause-candidate : goal.item_of-link-requires-clause-candidate
item_of-link-requires-clause-candidate c =
    read_candidate c.args.self.now c.self.inside.candidates.items c.self.inside.chains (record { candidates = ap (λ (j : Job). j.candidates) (sym c.self.view_is); built = c.self.invariant.1 })
    c.as_slice-2.result.now c.args.i c.args.read c.as_slice.result.now c.as_slice-2.ensures.value c.as_slice.ensures.value c.requires

pub item_of-link-requires-clause-item : goal.item_of-link-requires-clause-item
item_of-link-requires-clause-item c =
    read_item c.args.self.now c.self.inside.candidates.items c.self.inside.chains (record { candidates = ap (λ (j : Job). j.candidates) (sym c.self.view_is); built = c.self.invariant.1 })
    c.as_slice-2.result.now c.args.i c.args.read c.as_slice.result.now c.as_slice-2.ensures.value c.as_slice.ensures.value c.requires

pub chain-requires : goal.chain-requires
chain-requires c =
    read_is_link c.args.self.now c.self.inside.candidates.items c.self.inside.chains (record { candidates = ap (λ (j : Job). j.candidates) (sym c.self.view_is); built = c.self.invariant.1 })
    c.as_slice-2.result.now c.args.i c.args.read c.as_slice.result.now c.as_slice-2.ensures.value c.as_slice.ensures.value c.requires c.item_of-link.result c.item_of-link.ensures

pub returns : goal.returns
returns c k here =
    c.chain.ensures
    ∙ read_is_list c.args.self.now c.self.inside.candidates.items c.self.inside.chains (record { candidates = ap (λ (j : Job). j.candidates) (sym c.self.view_is); built = c.self.invariant.1 })
    c.as_slice-2.result.now c.args.i c.args.read c.as_slice.result.now c.as_slice-2.ensures.value c.as_slice.ensures.value c.requires c.item_of-link.result c.item_of-link.ensures k here
