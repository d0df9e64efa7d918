use Rattle.std.proofs.Common.{ℕ, zero, suc, List, [], ◌∷◌, ◌++◌, Option, map, All, sym, subst, ap, ◌∙◌, arith}
use Rattle.std.proofs.lemmas.List.{map-append}
use Rattle.std.proofs.lemmas.List.Elements.{All-append}
use Rattle.key_chains.specs.Linked.{chain_in, IsLink}
use Rattle.key_chains.specs.Building.{list_at}
use Rattle.key_chains.proofs.Gathering.{one_mapped}
use Rattle.key_chains.proofs.chains.link_reads.Goals as goal

pub loop-key-preserved : goal.loop-key-preserved
loop-key-preserved c = record {
  lists =
      ap (map (chain_in c.args.operations.now.0)) c.in_ok-push.ensures.items ∙ map-append (chain_in c.args.operations.now.0) c.loop-key.links.items (c.looked_up-found.result.newest ∷ [])
      ∙ (λ j. c.loop-key.invariant.lists j ++ c.looked_up-found.ensures.list j ∷ [])
      ∙ sym (one_mapped (list_at c.args.keys.now c.args.operations.now) _ c.args.read.now c.loop-key.key-index c.key-item.result c.loop-key-test.true c.key-item.is);
  links = λ h. subst (λ (ls : List (Option ℕ)). All (IsLink c.args.operations.now.0) ls) (sym c.in_ok-push.ensures.items) (All-append (IsLink c.args.operations.now.0) c.loop-key.links.items (c.looked_up-found.result.newest ∷ []) (c.loop-key.invariant.links h) one);
}
  where
    one : All (IsLink c.args.operations.now.0) (c.looked_up-found.result.newest ∷ [])
    one zero d lt = c.looked_up-found.ensures.link
    one (suc n) d lt = absurd (omega arith)
