use Rattle.std.proofs.Common.{refl, map, sym, ap, subst, ◌∙◌}
use Rattle.candidates.specs.Seen.{seen}
use Rattle.state_db.specs.LookedUp.{AreRows}
use Rattle.key_chains.specs.Job.{reads_in}
use Rattle.std.specs.FinMap.{get}
use Rattle.rules.specs.Job.{Job}
use Rattle.key_chains.proofs.JobLists.{read_candidate}
use Rattle.key_chains.proofs.ReadRows.{row_item, row_is}
use Rattle.key_chains.proofs.job.Job.row_of_read.Goals as goal

pub item_of-requires-clause-candidate : goal.item_of-requires-clause-candidate
item_of-requires-clause-candidate c =
    read_candidate c.args.self.now c.self.inside.candidates.items c.self.inside.chains (record { candidates = ap (λ (j : Job). j.candidates) (sym c.self.view_is); built = c.self.invariant.1 })
    c.as_slice-2.result.now c.args.i c.args.read c.self.inside.chains.reads.items c.as_slice-2.ensures.value refl c.requires

pub item_of-requires-clause-item : goal.item_of-requires-clause-item
item_of-requires-clause-item c =
    row_item c.args.self.now c.self.inside.candidates.items c.self.inside.chains (record { candidates = ap (λ (j : Job). j.candidates) (sym c.self.view_is); built = c.self.invariant.1 })
    c.as_slice-2.result.now c.args.i c.args.read c.as_slice-2.ensures.value c.requires c.self.inside.state.now.state c.as_slice.result.now
    (subst (λ rows. AreRows c.self.inside.state.now.state (reads_in (map seen c.self.inside.candidates.items)) rows) (sym c.as_slice.ensures.value) c.self.invariant.0.2)

pub returns : goal.returns
returns c k here =
    row_is c.args.self.now c.self.inside.candidates.items c.self.inside.chains (record { candidates = ap (λ (j : Job). j.candidates) (sym c.self.view_is); built = c.self.invariant.1 })
    c.as_slice-2.result.now c.args.i c.args.read c.as_slice-2.ensures.value c.requires c.self.inside.state.now.state c.as_slice.result.now
    (subst (λ rows. AreRows c.self.inside.state.now.state (reads_in (map seen c.self.inside.candidates.items)) rows) (sym c.as_slice.ensures.value) c.self.invariant.0.2)
    c.item_of.result c.item_of.ensures k here
    ∙ ap (λ (j : Job). get j.state k) c.self.view_is
