-- How many writes the sets have.
use Rattle.std.proofs.Common.{◌≡◌, ℕ, ◌+◌, ◌<◌, List, [], ◌∷◌, ◌++◌, map, length, take, get_or, sym, ap, ◌∙◌, arith, length-append}
use Rattle.std.specs.Prelude.{flat_map}
use Rattle.std.proofs.lemmas.List.{length-map, flat_map_more, take_more}
use Rattle.transaction.specs.declared.transaction.NsSet.{NsSet}
use Rattle.candidates.specs.Gathering.{value_write, policy_write, writes_in}

-- one set more
pub count_more : (ns : List NsSet) (i : ℕ) (n : NsSet) → i < length ns → n ≡ get_or ns i n → length (flat_map writes_in (take (i + 1) ns)) ≡ length (flat_map writes_in (take i ns)) + length n.writes + length n.policy_writes
count_more ns i n lt is =
    let parted : flat_map writes_in (take (i + 1) ns) ≡ flat_map writes_in (take i ns) ++ writes_in n =
    ap (flat_map writes_in) (take_more ns i n lt ∙ ap (λ m. take i ns ++ m ∷ []) (sym is)) ∙ sym (flat_map_more writes_in [] (take i ns) n) in
    omega (arith, ap length parted, length-append (flat_map writes_in (take i ns)) (writes_in n), length-append (map (value_write n) n.writes) (map (policy_write n) n.policy_writes), length-map n.writes (value_write n), length-map n.policy_writes (policy_write n))
