use Rattle.std.proofs.Common.{◌≡◌, Err, true, [], ◌∷◌, ◌++◌, refl, sym, ap, subst, ◌∙◌}
use Rattle.std.proofs.lemmas.Result.{err_from_is_err_and}
use Rattle.rules.specs.declared.delta.Delta.{Delta}
use Rattle.rules.specs.Linked.{IsLinkedDelta}
use Rattle.rules.specs.World.{World, height_of}
use Rattle.query.specs.Published.{Leaves, Publishing, published_world}
use Rattle.query.specs.declared.fault.PublishFault.{PublishFault}
use Rattle.commit.specs.Committing.{IsCommitted, Submits}
use Rattle.commit.specs.declared.not_committed.NotCommitted.TheVariants.{Refused}
use Rattle.commit.specs.Running.{BelongsTo, committing}
use Rattle.commit.proofs.Publishing.{committed, next-linked, refused_by, still_belongs}
use Rattle.commit.proofs.published.Published.commit.Goals as goal

pub publish_ready-requires-clause-linked : goal.publish_ready-requires-clause-linked
publish_ready-requires-clause-linked g c =
    let d = c.in_ok-pending.pending in
    let linked = subst (λ (w : World). IsLinkedDelta w d) c.published.ensures
    (next-linked c.args.context.now.channel.now (g.V.Verify.accepts c.args.context.now.verifier.now) c.published.result.now c.args.bytes.now d c.in_ok-pending.ensures) in
    subst (λ (x : Delta). IsLinkedDelta (published_world c.hashed.new.publisher) x) (sym c.in-Ok.ensures.delta)
    (subst (λ (p : Publishing). IsLinkedDelta (published_world p) d) (sym c.hashed.ensures.same) linked)

pub returns-in-Ok-publish_ready-clause-submits : goal.returns-in-Ok-publish_ready-clause-submits
returns-in-Ok-publish_ready-clause-submits g c =
    let channel = c.args.context.now.channel.now in
    let accepts = g.V.Verify.accepts c.args.context.now.verifier.now in
    let going = sym c.failed.ensures ∙ c.if-failed.false in
    let old = c.self.inside.publisher in
    let base = ap (λ (p : Publishing). p.base) c.self.view_is ∙ c.requires.belongs.base in
    let same = c.hashed.ensures.same in
    let whole = c.in-Ok.ensures.delta in
    let e = c.in-Ok-publish_ready.ensures in
    subst (λ (p : Publishing). IsCommitted accepts (committing channel p) c.args.bytes.now c.in-Ok-publish_ready.receipt (committing channel c.publish_ready.new.self)) c.self.view_is
    (committed channel accepts old c.publish_ready.new.self c.published.result.now c.args.bytes.now c.in_ok-pending.pending c.in-Ok-publish_ready.receipt
    going base c.published.ensures c.in_ok-pending.ensures
    (e.ok ∙ (λ i. record (same i) { list = (same i).list ++ (whole i) ∷ [] }))
    (e.number ∙ ap (λ (p : Publishing). height_of (published_world p)) same)
    e.height
    (e.block.0 ∙ ap (λ (d : Delta). d.block.header_hash) whole)
    (e.block.1 ∙ ap (λ (d : Delta). d.block.commit_hash) whole)
    (e.block.2 ∙ ap (λ (d : Delta). d.block.flags) whole)
    e.front)

pub returns-in-Ok-publish_ready-clause-belongs : goal.returns-in-Ok-publish_ready-clause-belongs
returns-in-Ok-publish_ready-clause-belongs g c =
    let channel = c.args.context.now.channel.now in
    let accepts = g.V.Verify.accepts c.args.context.now.verifier.now in
    let of = subst (λ (p : Publishing). BelongsTo channel p) (sym c.self.view_is) c.requires.belongs in
    let same = c.hashed.ensures.same in
    let whole = c.in-Ok.ensures.delta in
    still_belongs channel accepts c.self.inside.publisher c.publish_ready.new.self c.published.result.now c.args.bytes.now c.in_ok-pending.pending
    of c.published.ensures c.in_ok-pending.ensures (c.in-Ok-publish_ready.ensures.ok ∙ (λ i. record (same i) { list = (same i).list ++ (whole i) ∷ [] }))

pub returns-in_err-pending-clause-submits : goal.returns-in_err-pending-clause-submits
returns-in_err-pending-clause-submits g c =
    let channel = c.args.context.now.channel.now in
    let accepts = g.V.Verify.accepts c.args.context.now.verifier.now in
    let going = sym c.failed.ensures ∙ c.if-failed.false in
    let old = c.self.inside.publisher in
    let base = ap (λ (p : Publishing). p.base) c.self.view_is ∙ c.requires.belongs.base in
    let back = err_from_is_err_and c.from_residual-in_err-pending.result c.from_residual-in_err-pending.ensures.1 in
    let is = refused_by channel old c.published.result.now c.args.bytes.now c.in_err-pending.field-0.0 base c.published.ensures c.in_err-pending.ensures in
    rw (back.1, back.2) (subst (λ (p : Publishing). Submits accepts (committing channel p) c.args.bytes.now (Err (Refused c.in_err-pending.field-0.0)) (committing channel p)) c.self.view_is (going, is, refl))

pub returns-in-Err-Memory-clause-belongs : goal.returns-in-Err-Memory-clause-belongs
returns-in-Err-Memory-clause-belongs g c =
    let channel = c.args.context.now.channel.now in
    let of = subst (λ (p : Publishing). BelongsTo channel p) (sym c.self.view_is) c.requires.belongs in
    let left : c.publish_ready.new.self ≡ c.hashed.new.publisher = subst (λ (f : PublishFault). Leaves c.hashed.new.publisher f c.publish_ready.new.self) c.in-Err-Memory.field-0-is c.in-Err-Memory.ensures.err in
    subst (λ (p : Publishing). BelongsTo channel p) (sym (left ∙ c.hashed.ensures.same)) of

pub returns-in-Err-Failed-clause-belongs : goal.returns-in-Err-Failed-clause-belongs
returns-in-Err-Failed-clause-belongs g c =
    let channel = c.args.context.now.channel.now in
    let of = subst (λ (p : Publishing). BelongsTo channel p) (sym c.self.view_is) c.requires.belongs in
    let left : c.publish_ready.new.self ≡ record c.hashed.new.publisher { failed = true } =
    subst (λ (f : PublishFault). Leaves c.hashed.new.publisher f c.publish_ready.new.self) c.in-Err-Failed.field-0-is c.in-Err-Failed.ensures.err in
    subst (λ (p : Publishing). BelongsTo channel p) (sym (left ∙ (λ i. record (c.hashed.ensures.same i) { failed = true })))
    (record { base = of.base; names = of.names })
