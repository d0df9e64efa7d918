use Rattle.std.proofs.Common.{ap, ◌∙◌, arith}
use Rattle.history_index.specs.Buckets.{bucket_of}
use Rattle.history_index.specs.Hashed.{Hashed}
use Rattle.history_index.specs.Places.{last_with}
use Rattle.history_index.proofs.Buckets.{lent_back, place_bound, last_of_all}
use Rattle.history_index.proofs.hash_index.HashIndex.last.Goals as goal

pub last_from-requires-clause-bound : goal.last_from-requires-clause-bound
last_from-requires-clause-bound c =
    place_bound c.self.inside.buckets.len c.self.inside.links.items c.as_slice.result.now c.self.invariant.0 c.as_slice.ensures.value c.self.inside.buckets.items c.args.hash c.bucket_of.result c.index-place.result.now
    c.self.invariant.1 (omega arith) (c.bucket_of.ensures.bucket ∙ ap (λ n. bucket_of n c.args.hash) c.len.ensures) (omega (arith, c.bucket_of.ensures.bound, c.len.ensures)) c.index-place.ensures

pub last_from-requires-clause-back : goal.last_from-requires-clause-back
last_from-requires-clause-back c = lent_back c.self.inside.buckets.len c.self.inside.links.items c.as_slice.result.now c.self.invariant.0 c.as_slice.ensures.value

pub returns : goal.returns
returns c =
    last_of_all c.self.inside.buckets.len c.self.inside.links.items c.as_slice.result.now c.self.invariant.0 c.as_slice.ensures.value c.self.inside.buckets.items c.args.hash c.bucket_of.result c.index-place.result.now
    c.self.invariant.1 (omega arith) (c.bucket_of.ensures.bucket ∙ ap (λ n. bucket_of n c.args.hash) c.len.ensures) (omega (arith, c.bucket_of.ensures.bound, c.len.ensures)) c.index-place.ensures
    c.last_from.result c.last_from.ensures
    ∙ ap (λ (h : Hashed). last_with c.args.hash h.hashes) c.self.view_is
