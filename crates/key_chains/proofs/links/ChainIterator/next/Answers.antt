use Rattle.std.proofs.Common.{sym, ap, ◌∙◌, length, arith}
use Rattle.key_chains.specs.Linked.{chain_in}
use Rattle.key_chains.specs.Lists.{lists_of}
use Rattle.key_chains.proofs.links.ChainIterator.next.Goals as goal

pub invariant_of-self : goal.invariant_of-self
invariant_of-self g c = (c.self.invariant.0, c.entry_at-entry.ensures.link)

pub returns-clause-steps : goal.returns-clause-steps
returns-clause-steps g c = sym c.self.view_is ∙ ap (chain_in (lists_of c.self.inside.entries.now)) c.in-Some.is ∙ c.entry_at-entry.ensures.list

pub returns-clause-goes : goal.returns-clause-goes
returns-clause-goes g c =
    let first = sym c.self.view_is ∙ ap (chain_in (lists_of c.self.inside.entries.now)) c.in-Some.is ∙ c.entry_at-entry.ensures.list in
    record { on = λ _. (tt, tt, omega (arith, ap length first)); keeps = tt; rests = λ _. tt }
