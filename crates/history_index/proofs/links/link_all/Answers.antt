use Rattle.std.proofs.Common.{◌≡◌, ◌+◌, ◌<◌, [], ◌∷◌, ◌++◌, length, take, get_or, sym, ap, subst, ◌∙◌, add-one, arith}
use Rattle.std.proofs.Math.Seq.{take-suc}
use Rattle.std.proofs.lemmas.List.{length-map, length-take-le}
use Rattle.history_index.specs.declared.links.Link.{Link}
use Rattle.history_index.specs.Buckets.{hashes_of, IsLinked, KeepsLast}
use Rattle.history_index.proofs.Buckets.{link_at, hash_at}
use Rattle.history_index.proofs.Linking.{same_hashes, linked_to}
use Rattle.history_index.proofs.links.link_all.Goals as goal

pub loop-index-preserved : goal.loop-index-preserved
loop-index-preserved c =
    let links = c.loop-index.links in
    let i = c.loop-index.index in
    let n = length c.args.buckets.now in
    let hash = (link_at links i).hash in
    let before = take i (hashes_of c.args.links.now) in
    let within : i < length links = omega (arith, c.loop-index-test.true, c.loop-index.auto.links) in
    let len : i < length (hashes_of c.args.links.now) = omega (arith, within, c.loop-index.auto.links, length-map c.args.links.now (λ (l : Link). l.hash)) in
    let place : i + 1 ≡ length before + 1 = omega (arith, length-take-le i (hashes_of c.args.links.now) (omega arith)) in
    let so_far : before ≡ take i (hashes_of links) = ap (take i) (sym c.loop-index.invariant.hashes) in
    let own : IsLinked n (take i (hashes_of links)) (record { hash = hash; older = c.replace_last.result }) =
    subst (λ m. IsLinked m (take i (hashes_of links)) (record { hash = hash; older = c.replace_last.result })) c.loop-index.auto.buckets
    (subst (λ hs. IsLinked (length c.loop-index.buckets) hs (record { hash = hash; older = c.replace_last.result })) so_far (c.replace_last.ensures.linked before c.loop-index.invariant.kept place)) in
    record {
      hashes = same_hashes n links i c.replace_last.result ∙ c.loop-index.invariant.hashes;
      linked = linked_to n links i c.replace_last.result within c.loop-index.invariant.linked own;
      kept =
          let next : before ++ hash ∷ [] ≡ take (i + 1) (hashes_of c.args.links.now) =
          ap (λ h. before ++ h ∷ []) (sym (hash_at links i) ∙ ap (λ hs. get_or hs i 0) c.loop-index.invariant.hashes)
          ∙ sym (take-suc (hashes_of c.args.links.now) i 0 len) ∙ ap (λ m. take m (hashes_of c.args.links.now)) (sym (add-one i)) in
          subst (KeepsLast c.replace_last.new.buckets) next (c.replace_last.ensures.kept before c.loop-index.invariant.kept place);
    }
