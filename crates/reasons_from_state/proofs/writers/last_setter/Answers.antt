use Rattle.std.proofs.Common.{ℕ, ◌<◌, Bool, List, Some, cond, sym, ap, ◌∙◌}
use Rattle.std.proofs.lemmas.List.Elements.{All-rest}
use Rattle.rules.specs.Flags.{is_valid}
use Rattle.rules.specs.Fold.{flag}
use Rattle.key_chains.specs.declared.operation.Operation.{Operation}
use Rattle.reasons_from_state.specs.Writers.{last_setter}
use Rattle.reasons_from_state.proofs.writers.last_setter.Goals as goal

pub loop-operation-preserved : goal.loop-operation-preserved
loop-operation-preserved c =
    let valid : ℕ → Bool = λ h. is_valid (flag c.args.job.now h) in
    record {
      earlier = All-rest (λ o. o.tx < c.args.i) c.in-Some.operation c.next.new.self c.loop-operation.operation-iterator c.in-Some.ensures.steps c.loop-operation.invariant.earlier;
      left = c.loop-operation.invariant.left ∙ ap (λ (os : List Operation). last_setter (λ h. is_valid (flag c.args.job.now h)) c.args.is_there os) c.in-Some.ensures.steps
          ∙ ap (λ (b : Bool). cond b (Some c.in-Some.operation.tx) (last_setter (λ h. is_valid (flag c.args.job.now h)) c.args.is_there c.next.new.self)) (sym c.sets_row.ensures ∙ c.if-sets_row.false);
    }
