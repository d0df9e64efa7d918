use Rattle.std.proofs.Common.{◌≡◌, take, map}
use Rattle.std.specs.FinMap.{get}
use Rattle.rules.specs.Delta.{changes_in}
use Rattle.rules.specs.Effect.{effect_at}
use Rattle.plain.specs.Keys.{keys_of}
use Rattle.plain.specs.StateNow.{state_now}
use Rattle.plain.proofs.effect.changes_of.Given as goal

abbrev pub invariant-loop-key : goal.invariant-loop-key
invariant-loop-key l = changes_in l.changes.items ≡ map (λ k. (k, effect_at l.version l.open_tx.tx k (get (state_now l.state) k))) (keys_of (take l.key-index l.key-items))
