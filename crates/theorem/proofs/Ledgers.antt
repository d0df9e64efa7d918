-- A committer's list of change sets as the list of ledgers that it has shown.
use Rattle.std.proofs.Common.{◌≡◌, ℕ, ◌+◌, List, [], ◌∷◌, ◌++◌, length, map, Some, Result, Ok, Err, refl, sym, ap, subst, ◌∙◌, arith, length-append}
use Rattle.std.specs.Prelude.{slice_get}
use Rattle.policy_eval.specs.Accepts.{Accepts}
use Rattle.rules.specs.declared.delta.Delta.{Delta}
use Rattle.rules.specs.Delta.{applied}
use Rattle.rules.specs.Linked.{IsLinked, IsRefused}
use Rattle.rules.specs.World.{World, empty_world, height_of}
use Rattle.query.specs.declared.receipt.Receipt.{Receipt}
use Rattle.query.specs.Published.{Beginning, applied_all}
use Rattle.commit.specs.declared.not_committed.NotCommitted.{NotCommitted}
use Rattle.commit.specs.declared.not_committed.NotCommitted.TheVariants.{Refused, MemoryInCommit, Stopped}
use Rattle.commit.specs.Committing as committing
use Rattle.commit.specs.Committing.{Committing, world_of, accepted_in}
use Rattle.theorem.specs.Step.{answer_to, ledger_after, Takes}
use Rattle.theorem.specs.Promise.{last_of, newest, Submits, Runs}
use Rattle.theorem.specs.ShownBy.{ledgers_of, shown_by, answered}
use Rattle.theorem.proofs.Steps.{step_there}

last_ledger : (w : World) (ds : List Delta) → last_of w (ledgers_of w ds) ≡ applied_all w ds
last_ledger w [] = refl
last_ledger w (d ∷ ds) = last_ledger (applied w d) ds

ledgers-push : (w : World) (ds : List Delta) (d : Delta) → ledgers_of w (ds ++ d ∷ []) ≡ ledgers_of w ds ++ applied_all w (ds ++ d ∷ []) ∷ []
ledgers-push w [] d = refl
ledgers-push w (x ∷ ds) d = ap (λ (ls : List World). applied w x ∷ ls) (ledgers-push (applied w x) ds d)

-- the ledger at a height is that after so many change sets
pub ledger_there : (w : World) (ds es : List Delta) → slice_get (w ∷ ledgers_of w (ds ++ es)) (length ds) ≡ Some (applied_all w ds)
ledger_there w [] es = refl
ledger_there w (d ∷ ds) es = ledger_there (applied w d) ds es

pub newest_is : (c : Committing) → newest (shown_by c) ≡ world_of c
newest_is c = last_ledger (empty_world c.channel.definitions) c.list

-- ---- one byte string

pub submit_shows : (accepts : Accepts) (old new : Committing) (bytes : List ℕ) (answer : Result Receipt NotCommitted)
    → committing.Submits accepts old bytes answer new → Submits accepts (shown_by old) bytes (answered answer) (shown_by new)
submit_shows accepts old new bytes (Ok r) h =
    let base = empty_world old.channel.definitions in
    let takes = step_there old.channel accepts (world_of old) (world_of new) bytes (Ok (accepted_in r)) h.step in
    let pushed : ledgers_of base (old.list ++ h.delta ∷ []) ≡ ledgers_of base old.list ++ world_of new ∷ [] =
    ledgers-push base old.list h.delta ∙ ap (λ (w : World). ledgers_of base old.list ++ w ∷ []) (sym (ap world_of h.published)) in (
      h.going,
      (
        world_of new,
        subst (λ (w : World). Takes old.channel accepts w bytes (Ok (accepted_in r)) (world_of new)) (sym (newest_is old)) takes,
        ap shown_by h.published ∙ (λ k. record { channel = old.channel; ledgers = pushed k; stopped = old.stopped }),
      ),
    )
submit_shows accepts old new bytes (Err (Refused refused)) h = (h.0, subst (λ (w : World). IsRefused w bytes refused) (sym (newest_is old)) h.1, ap shown_by h.2)
submit_shows accepts old new bytes (Err MemoryInCommit) h =
    let b = h.1.0 in
    let w = newest (shown_by old) in
    let linked = subst (λ (w : World). IsLinked w b) (sym (newest_is old)) h.1.2 in
    (h.0, (answer_to old.channel accepts w b, ledger_after old.channel accepts w bytes b, (b, h.1.1, linked, refl, refl)), ap shown_by h.2)
submit_shows accepts old new bytes (Err Stopped) h = (h.0, ap shown_by h.1)

pub run_shows : (accepts : Accepts) (old new : Committing) (blocks : List (List ℕ)) (answers : List (Result Receipt NotCommitted))
    → committing.Runs accepts old blocks answers new → Runs accepts (shown_by old) blocks (map answered answers) (shown_by new)
run_shows accepts old new [] [] h = ap shown_by h
run_shows accepts old new (bytes ∷ blocks) (answer ∷ answers) h = (shown_by h.0, submit_shows accepts old h.0 bytes answer h.1, run_shows accepts h.0 new blocks answers h.2)
run_shows accepts old new [] (answer ∷ answers) h = absurd h
run_shows accepts old new (bytes ∷ blocks) [] h = absurd h

-- ---- heights

pub height_after : (w : World) (ds : List Delta) → height_of (applied_all w ds) ≡ height_of w + length ds
height_after w [] = omega arith
height_after w (d ∷ ds) = omega (arith, height_after (applied w d) ds, length-append w.blocks (d.block ∷ []))

pub opened : (c : Committing) → c.list ≡ [] → newest (shown_by c) ≡ empty_world c.channel.definitions
opened c none = newest_is c ∙ ap (applied_all (empty_world c.channel.definitions)) none

pub height_shown : (c : Committing) → height_of (newest (shown_by c)) ≡ length c.list
height_shown c =
    let is : height_of (newest (shown_by c)) ≡ height_of (applied_all (empty_world c.channel.definitions) c.list) = ap height_of (newest_is c) in
    omega (arith, is, height_after (empty_world c.channel.definitions) c.list)

pub receipt_height : (accepts : Accepts) (old new : Committing) (bytes : List ℕ) (r : Receipt)
    → committing.Submits accepts old bytes (Ok r) new → r.height ≡ height_of (newest (shown_by new))
receipt_height accepts old new bytes r h = h.height ∙ ap height_of (sym (newest_is new))

pub receipt_list : (accepts : Accepts) (old new : Committing) (bytes : List ℕ) (r : Receipt) → committing.Submits accepts old bytes (Ok r) new → r.front.list ≡ new.list
receipt_list accepts old new bytes r h = ap (λ (b : Beginning). b.list) h.told
