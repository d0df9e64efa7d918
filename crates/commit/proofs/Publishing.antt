-- The delta of the next block may be published, and once it is, the block is committed.
use Rattle.std.proofs.Common.{◌≡◌, ℕ, true, false, List, [], ◌∷◌, ◌++◌, refl, sym, ap, subst, ◌∙◌}
use Rattle.channel.specs.Configuration.{Configuration}
use Rattle.policy_eval.specs.Accepts.{Accepts}
use Rattle.policy.specs.Policies.{Policies}
use Rattle.rules.specs.declared.delta.Delta.{Delta}
use Rattle.rules.specs.Candidate.{is_defined}
use Rattle.rules.specs.Delta.{applied}
use Rattle.rules.specs.declared.answer.Refused.{Refused}
use Rattle.rules.specs.Linked.{IsRefused, IsLinkedDelta}
use Rattle.rules.specs.World.{World, empty_world, height_of}
use Rattle.rules.proofs.Deltas.{delta-is_linked}
use Rattle.query.specs.declared.receipt.Receipt.{Receipt}
use Rattle.query.specs.Published.{Publishing, applied_all, published_world}
use Rattle.next_block.specs.NextDelta.{IsNextDelta}
use Rattle.commit.specs.Committing.{IsCommitted, accepted_in}
use Rattle.commit.specs.Running.{BelongsTo, committing}
use Rattle.next_block.proofs.NextDeltas.{next_delta-step, next-names}

applied_all-more : (w : World) (ds : List Delta) (d : Delta) → applied_all w (ds ++ d ∷ []) ≡ applied (applied_all w ds) d
applied_all-more w [] d = refl
applied_all-more w (e ∷ ds) d = applied_all-more (applied w e) ds d

-- ---- of which channel it is

pub first_belongs : (channel : Configuration) (definitions : Policies) (p : Publishing) → definitions ≡ channel.definitions → p.base ≡ empty_world definitions → p.list ≡ [] → BelongsTo channel p
first_belongs channel definitions p same base none =
    let begins : p.base ≡ empty_world channel.definitions = base ∙ ap empty_world same in
    record { base = begins; names = λ chaincode. λ i. is_defined (applied_all (begins i) (none i)).definitions chaincode }

pub still_belongs : (channel : Configuration) (accepts : Accepts) (old new : Publishing) (w : World) (bytes : List ℕ) (d : Delta)
    → BelongsTo channel old → w ≡ published_world old → IsNextDelta channel accepts w bytes d → new ≡ record old { list = old.list ++ d ∷ [] } → BelongsTo channel new
still_belongs channel accepts old new w bytes d of lent next published =
    let next' : IsNextDelta channel accepts (published_world old) bytes d = subst (λ (u : World). IsNextDelta channel accepts u bytes d) lent next in
    subst (BelongsTo channel) (sym published) (record {
      base = of.base;
      names = λ chaincode.
          ap (λ (u : World). is_defined u.definitions chaincode) (applied_all-more old.base old.list d)
          ∙ next-names channel accepts (published_world old) bytes d of.names next' chaincode;
    })

pub stopped_belongs : (channel : Configuration) (old new : Publishing) → BelongsTo channel old → new ≡ record old { failed = true } → BelongsTo channel new
stopped_belongs channel old new of stopped = subst (BelongsTo channel) (sym stopped) (record { base = of.base; names = of.names })

-- ---- what is published

-- what the world that is lent refuses, the deltas on the first one refuse
pub refused_by : (channel : Configuration) (p : Publishing) (w : World) (bytes : List ℕ) (r : Refused) → p.base ≡ empty_world channel.definitions → w ≡ published_world p → IsRefused w bytes r
    → IsRefused (applied_all (empty_world channel.definitions) p.list) bytes r
refused_by channel p w bytes r first lent is =
    subst (λ (u : World). IsRefused (applied_all u p.list) bytes r) first (subst (λ (u : World). IsRefused u bytes r) lent is)

module _ (channel : Configuration) (accepts : Accepts) where
  pub next-linked : (w : World) (bytes : List ℕ) (d : Delta) → IsNextDelta channel accepts w bytes d → IsLinkedDelta w d
  next-linked w bytes d next = delta-is_linked channel accepts w bytes next.block d next.spelled next.linked next.delta

  abbrev first : World
  first = empty_world channel.definitions

  pub committed : (old new : Publishing) (w : World) (bytes : List ℕ) (d : Delta) (r : Receipt)
      → old.failed ≡ false → old.base ≡ first → w ≡ published_world old → IsNextDelta channel accepts w bytes d
      → new ≡ record old { list = old.list ++ d ∷ [] }
      → r.number ≡ height_of (published_world old) → r.height ≡ height_of (published_world new)
      → r.header_hash ≡ d.block.header_hash → r.commit_hash ≡ d.block.commit_hash → r.flags ≡ d.block.flags → r.front ≡ record { book = new.book; list = new.list }
      → IsCommitted accepts (committing channel old) bytes r (committing channel new)
  committed old new w bytes d r going empty lent next published number height hash commit_hash flags told =
      let before : World = applied_all first old.list in
      let is_before : published_world old ≡ before = ap (λ (u : World). applied_all u old.list) empty in
      let is : w ≡ before = lent ∙ is_before in
      let list : new.list ≡ old.list ++ d ∷ [] = ap (λ (p : Publishing). p.list) published in
      let base : new.base ≡ first = ap (λ (p : Publishing). p.base) published ∙ empty in
      let after : applied_all first new.list ≡ applied before d = ap (applied_all first) list ∙ applied_all-more first old.list d in
      let next' : IsNextDelta channel accepts before bytes d = subst (λ (u : World). IsNextDelta channel accepts u bytes d) is next in
      record {
        going = going;
        step = next_delta-step channel accepts before bytes d (accepted_in r) (applied_all first new.list) next' (λ i. record { number = (number ∙ ap height_of is_before) i; header_hash = hash i; commit_hash = commit_hash i; flags = flags i }) after;
        height = height ∙ ap (λ (u : World). height_of (applied_all u new.list)) base;
        delta = d;
        published = ap (committing channel) published;
        told = told;
      }
