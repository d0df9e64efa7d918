use Rattle.std.proofs.Common.{◌<◌, ◌-◌, length, take, get_or, ap, ◌∙◌, arith}
use Rattle.std.proofs.lemmas.List.{length-map}
use Rattle.history_index.specs.declared.links.Link.{Link}
use Rattle.history_index.specs.Hashed.{Hashed}
use Rattle.history_index.specs.Places.{last_with}
use Rattle.history_index.proofs.Buckets.{lent_back, older_bound, before_it}
use Rattle.history_index.proofs.hash_index.HashIndex.before.Goals as goal

pub last_from-requires-clause-bound : goal.last_from-requires-clause-bound
last_from-requires-clause-bound c =
    let lt : c.args.place - 1 < length c.self.inside.links.items = omega (arith, c.requires.some, c.requires.bound, ap (λ (h : Hashed). length h.hashes) c.self.view_is, length-map c.self.inside.links.items (λ (l : Link). l.hash)) in
    older_bound c.self.inside.buckets.len c.self.inside.links.items c.as_slice.result.now c.self.invariant.0 c.as_slice.ensures.value (c.args.place - 1) c.index-link.result.now lt c.index-link.ensures

pub last_from-requires-clause-back : goal.last_from-requires-clause-back
last_from-requires-clause-back c = lent_back c.self.inside.buckets.len c.self.inside.links.items c.as_slice.result.now c.self.invariant.0 c.as_slice.ensures.value

pub returns : goal.returns
returns c =
    let lt : c.args.place - 1 < length c.self.inside.links.items = omega (arith, c.requires.some, c.requires.bound, ap (λ (h : Hashed). length h.hashes) c.self.view_is, length-map c.self.inside.links.items (λ (l : Link). l.hash)) in
    before_it c.self.inside.buckets.len c.self.inside.links.items c.as_slice.result.now c.self.invariant.0 c.as_slice.ensures.value (c.args.place - 1) c.index-link.result.now lt c.index-link.ensures
    c.last_from.result c.last_from.ensures
    ∙ ap (λ (h : Hashed). last_with (get_or h.hashes (c.args.place - 1) 0) (take (c.args.place - 1) h.hashes)) c.self.view_is
