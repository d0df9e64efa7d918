use Rattle.std.proofs.Common.{◌≡◌, ◌+◌, ℕ, [], length, ap, ◌∙◌, arith}
use Rattle.std.specs.Prelude.{slice_set, min}
use Rattle.state_keys.specs.Head.{spelled, padded, head_of}
use Rattle.state_keys.proofs.Heads.{by_bytes, by_parts, zeros_at}
use Rattle.state_keys.proofs.head.head_of.Goals as goal

pub returns : goal.returns
unfolding head_of
returns c =
    let ns = c.args.namespace.now in
    let key = c.args.key.now in
    let one = c.with_bytes-head.result in
    let two = c.with_bytes-head-2.result in
    let from : c.min-from.result + 1 ≡ min (length ns) 22 + 1 = ap (λ (n : ℕ). n + 1) c.min-from.ensures in
    ap (slice_set two 23) c.count_of.ensures
    ∙ by_bytes 23 (min (length (spelled (ns, key))) 24) two (spelled (ns, key)) (omega (arith, c.with_bytes-head-2.ensures.len))
    (by_parts ns key (padded 24 []) one two (c.min-from.result + 1) from (zeros_at 24)
    c.with_bytes-head.ensures.there c.with_bytes-head.ensures.behind
    c.with_bytes-head-2.ensures.before c.with_bytes-head-2.ensures.there c.with_bytes-head-2.ensures.behind)
