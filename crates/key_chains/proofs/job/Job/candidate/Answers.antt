use Rattle.std.proofs.Common.{sym, ap, arith}
use Rattle.rules.specs.Job.{Job}
use Rattle.key_chains.proofs.JobLists.{reads_are_few}
use Rattle.key_chains.proofs.job.Job.candidate.Goals as goal

pub returns-clause-reads : goal.returns-clause-reads
returns-clause-reads c =
    let few = reads_are_few c.args.self.now c.self.inside.candidates.items c.self.inside.chains (record { candidates = ap (λ (j : Job). j.candidates) (sym c.self.view_is); built = c.self.invariant.1 }) c.args.i c.self.inside.chains.reads.cap c.requires (omega (arith, c.self.inside.chains.reads.ok)) in
    omega (arith, few, c.self.inside.chains.reads.small)
