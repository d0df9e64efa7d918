use Rattle.std.proofs.Common.{◌≡◌, ◌+◌, ◌<◌, [], ◌∷◌, ◌++◌, length, take, drop, sym, ap, subst, ◌∙◌, arith}
use Rattle.std.proofs.lemmas.List.{length-map, take_at, map-append}
use Rattle.history_index.specs.declared.links.Link.{Link}
use Rattle.history_index.specs.Hashed.{Hashed}
use Rattle.history_index.specs.Buckets.{hashes_of, IsLinked, AreLinked, KeepsLast}
use Rattle.history_index.proofs.Linking.{linked_push}
use Rattle.history_index.proofs.hash_index.HashIndex.push.Goals as goal

pub invariant_of-self : goal.invariant_of-self
invariant_of-self c =
    let room : 0 < c.self.inside.room = omega (arith, c.requires, ap (λ (h : Hashed). h.room) c.self.view_is) in
    let links = c.self.inside.links.items in
    let n = c.self.inside.buckets.len in
    let before = hashes_of links in
    let count : length c.as_mut_slice.result.now ≡ n = omega (arith, c.as_mut_slice.ensures.len) in
    let place : c.len.result + 1 ≡ length before + 1 = omega (arith, c.len.ensures, length-map links (λ (l : Link). l.hash)) in
    let keeps : KeepsLast c.as_mut_slice.result.now before = subst (λ bs. KeepsLast bs before) (sym c.as_mut_slice.ensures.value) c.self.invariant.1 in
    let link : Link = record { hash = c.args.hash; older = c.replace_last-older.result } in
    let own : IsLinked n before link = subst (λ m. IsLinked m before link) count (c.replace_last-older.ensures.linked before keeps place) in
    let hashes : hashes_of c.push_reserved.new.self.items ≡ before ++ c.args.hash ∷ [] = ap hashes_of c.push_reserved.ensures.items ∙ map-append (λ (l : Link). l.hash) links (link ∷ []) in
    let written : take n (c.replace_last-older.new.buckets ++ drop (length c.replace_last-older.new.buckets) c.self.inside.buckets.items) ≡ c.replace_last-older.new.buckets =
    take_at c.replace_last-older.new.buckets (drop (length c.replace_last-older.new.buckets) c.self.inside.buckets.items) n (c.replace_last-older.auto.buckets ∙ count) in (
      subst (AreLinked n) (sym c.push_reserved.ensures.items) (linked_push n links link c.self.invariant.0 own),
      subst (λ bs. KeepsLast bs (hashes_of c.push_reserved.new.self.items)) (sym written) (subst (KeepsLast c.replace_last-older.new.buckets) (sym hashes) (c.replace_last-older.ensures.kept before keeps place)),
      omega (arith, c.self.invariant.2, c.push_reserved.ensures.len, c.push_reserved.ensures.capacity),
      omega (arith, c.self.invariant.3, c.push_reserved.ensures.len),
      omega (arith, c.self.invariant.4, c.push_reserved.ensures.len),
    )
