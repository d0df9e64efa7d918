-- The reasons of all places of a block.
use Rattle.std.proofs.Common.{◌≡◌, ℕ, ◌==◌, zero, suc, ◌+◌, ◌<◌, List, [], ◌∷◌, length, map, slice_get, Option, Some, refl, sym, ap, subst, ◌∙◌, arith}
use Rattle.std.proofs.lemmas.List.{length-map, same_lists}
use Rattle.transaction.specs.declared.item.Item.{Item}
use Rattle.policy_eval.specs.Accepts.{Accepts}
use Rattle.channel.specs.Configuration.{Configuration}
use Rattle.rules.specs.Fold.{flags}
use Rattle.rules.specs.Commit.{channel_in, job_of}
use Rattle.rules.specs.World.{World}
use Rattle.rules.proofs.BlockFlags.{flags-by_place}
use Rattle.rules.proofs.Candidates.{length-candidates_from}
use Rattle.reasons.specs.declared.reason.Reason.{Reason}
use Rattle.reasons.specs.Reason.{flag_of, IsReason, AreReasons}
use Rattle.reasons.proofs.Lists.{some_is, some_and_none, get-inside, get_or-at, get_or-map_at}
use Rattle.reasons.proofs.Existence.{some_reason}
use Rattle.reasons.proofs.Uniqueness.{one_reason}

module _ (channel : Configuration) (accepts : Accepts) (w : World) (txs : List (Option Item)) where
  pub flags_of_reasons : (reasons : List Reason) → AreReasons channel accepts w txs reasons → map flag_of reasons ≡ flags (job_of channel accepts w txs)
  flags_of_reasons reasons are =
      let candidates : length (job_of channel accepts w txs).candidates ≡ length txs = length-candidates_from (channel_in channel w) accepts (length txs == 1) w.first_uses [] txs in
      flags-by_place (job_of channel accepts w txs) (map flag_of reasons) (length-map reasons flag_of ∙ are.count ∙ sym candidates) (λ i d lt.
      let here = get-inside reasons i (subst (λ (n : ℕ). i < n) (candidates ∙ sym are.count) lt) in
      get_or-map_at flag_of reasons i d here.0 here.1 ∙ sym (are.each i here.0 here.1).flag_is)

  pub one_list : (reasons others : List Reason) → AreReasons channel accepts w txs reasons → AreReasons channel accepts w txs others → reasons ≡ others
  one_list reasons others are be = same_lists reasons others (are.count ∙ sym be.count) (λ i d lt.
      let here = get-inside reasons i lt in
      let there = get-inside others i (subst (λ (n : ℕ). i < n) (are.count ∙ sym be.count) lt) in
      get_or-at reasons i d here.0 here.1
      ∙ one_reason channel accepts w txs i here.0 there.0 (are.each i here.0 here.1) (be.each i there.0 there.1)
      ∙ sym (get_or-at others i d there.0 there.1))

  -- ---- some list

  -- the reasons of the last n places, which begin at k
  IsTail : ℕ → ℕ → List Reason → Type 0
  IsTail k n reasons = (length reasons ≡ n) × ((i : ℕ) (reason : Reason) → slice_get reasons i ≡ Some reason → IsReason channel accepts w txs (k + i) reason)

  some_tail : (n k : ℕ) → k + n ≡ length txs → (reasons : List Reason) × IsTail k n reasons
  unfolding IsTail
  some_tail zero k e = ([], (refl, λ i reason is. absurd (some_and_none reason (sym is))))
  some_tail (suc n) k e = by (some_reason channel accepts w txs k (omega (arith, e))) (some_tail n (k + 1) (omega (arith, e)))
    where
      by : (reason : Reason) × IsReason channel accepts w txs k reason → (reasons : List Reason) × IsTail (k + 1) n reasons → (reasons : List Reason) × IsTail k (suc n) reasons
      by first rest = (first.0 ∷ rest.0, (ap suc rest.1.0, each))
        where
          each : (i : ℕ) (reason : Reason) → slice_get (first.0 ∷ rest.0) i ≡ Some reason → IsReason channel accepts w txs (k + i) reason
          each zero reason is =
              let here : k ≡ k + 0 = omega arith in
              subst (λ (m : ℕ). IsReason channel accepts w txs m reason) here (subst (λ (r : Reason). IsReason channel accepts w txs k r) (some_is first.0 reason is) first.1)
          each (suc i) reason is =
              let there : (k + 1) + i ≡ k + suc i = omega arith in
              subst (λ (m : ℕ). IsReason channel accepts w txs m reason) there (rest.1.1 i reason is)

  pub some_list : (reasons : List Reason) × AreReasons channel accepts w txs reasons
  unfolding IsTail
  some_list =
      let all = some_tail (length txs) 0 (omega arith) in
      (all.0, record { count = all.1.0; each = λ i reason is. let same : 0 + i ≡ i = omega arith in subst (λ (m : ℕ). IsReason channel accepts w txs m reason) same (all.1.1 i reason is) })
