use Rattle.std.proofs.Common.{◌≡◌, ap, ◌∙◌}
use Rattle.std.specs.FinMap.{from_sorted}
use Rattle.transaction.specs.Grammar.{listed}
use Rattle.rules.specs.CommitBytes.{update_bytes, change_bytes}
use Rattle.rules.specs.State.{State, key_cmp, with_changes}
use Rattle.state_db.specs.Batch.{changed}
use Rattle.state_db.specs.Changing.{changing}
use Rattle.state_db.specs.Pages.{joined}
use Rattle.state_db.proofs.Changing.{changing_is}
use Rattle.state_db.proofs.Maps.{if_ok}
use Rattle.state_db.proofs.state_db.StateDb.update_bytes.Goals as goal

pub returns : goal.returns
returns c =
    let rows = joined c.self.inside.pages.items in
    if_ok (λ v. v.items ≡ listed 4 change_bytes (changing (joined c.as_slice.result.now) c.edits.result.now)) (λ v. v.items ≡ update_bytes c.args.self.now.state (changed c.args.self.now.state c.args.batch.now)) c.update_of.result
    (λ v e.
    e
    ∙ (λ i. listed 4 change_bytes (changing (joined (c.as_slice.ensures.value i)) c.edits.result.now))
    ∙ ap (listed 4 change_bytes) (changing_is rows c.edits.result.now c.self.invariant.0.0 c.edits.ensures.sorted)
    ∙ (λ i. update_bytes (from_sorted {R = key_cmp} rows) (with_changes (from_sorted {R = key_cmp} rows) (c.edits.ensures.edits i)))
    ∙ ap (λ (s : State). update_bytes s (changed s c.args.batch.now)) (ap (λ s. s.state) c.self.view_is))
    c.update_of.ensures
