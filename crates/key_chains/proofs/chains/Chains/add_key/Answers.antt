use Rattle.std.proofs.Common.{◌∷◌, refl, sym, ◌∙◌, arith, ap}
use Rattle.key_chains.specs.declared.operation.Kind.{Kind}
use Rattle.key_chains.specs.Linked.{list_of}
use Rattle.key_chains.proofs.Growing.{one_further}
use Rattle.key_chains.proofs.chains.Chains.add_key.Goals as goal

pub newest-policy_writers-requires : goal.newest-policy_writers-requires
newest-policy_writers-requires c = omega (arith, c.in-Some.ensures.bound, c.requires.whole.policies)

pub push-requires-2 : goal.push-requires-2
push-requires-2 c = omega (arith, c.in-Some.ensures.bound, c.requires.whole.operations)

pub add_policy_writer-requires : goal.add_policy_writer-requires
add_policy_writer-requires c = omega (arith, c.in-Some.ensures.bound, c.requires.whole.policies)

pub returns-clause-built : goal.returns-clause-built
returns-clause-built c cs p next built =
    one_further cs c.args.i p c.args.written.now c.args.self.now _ c.in-Some.number c.newest-policy_writers.result next built (sym c.number_by.ensures.value ∙ c.in-Some.is)
    (record {
      here = c.in_ok-push-2.ensures.key ∙ ap (λ (kind : Kind). record { tx = c.args.i; kind = kind } ∷ list_of c.args.self.now.operations c.in-Some.number) c.kind_of.ensures;
      others = c.in_ok-push-2.ensures.others;
      links = c.in_ok-push-2.ensures.links;
      count = c.in_ok-push-2.ensures.count;
    })
    (record { here = c.in_ok-add_policy_writer.ensures.key; others = c.in_ok-add_policy_writer.ensures.others; links = c.in_ok-add_policy_writer.ensures.links; count = c.in_ok-add_policy_writer.ensures.count })
    c.newest-policy_writers.ensures.value c.newest-policy_writers.ensures.link c.in_ok-push.ensures.items refl refl refl refl refl
