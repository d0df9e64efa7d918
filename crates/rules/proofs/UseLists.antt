-- The uses of ids, place by place.
use Rattle.std.proofs.Common.{◌≡◌, ℕ, ◌+◌, ◌<◌, List, [], ◌∷◌, ◌++◌, length, drop, get_or, map, Option, Some, None, sym, ap, ◌∙◌, append_assoc, drop-cons, add-one, arith}
use Rattle.std.specs.Prelude.{option_to_list}
use Rattle.std.proofs.lemmas.List.{map_push}
use Rattle.std.proofs.lemmas.List.FromFn.{get_or-map-range_with_len, length-map-range_with_len}
use Rattle.rules.specs.declared.delta.NewUse.{NewUse}
use Rattle.rules.specs.declared.first_use.FirstUse.{FirstUse}
use Rattle.rules.specs.declared.flag.Flag.{Flag}
use Rattle.rules.specs.Commit.{uses_from}
use Rattle.rules.specs.Delta.{uses_in}
use Rattle.rules.specs.Fold.{flag, flags}
use Rattle.rules.specs.Job.{Job}

module _ (j : Job) where
  abbrev use_at : ℕ → List ℕ → List ℕ × FirstUse
  use_at i id = (id, record { block = j.number; place = i; flag = flag j i })

  uses_from-here : (ids : List (Option (List ℕ))) (i : ℕ) (d : Option (List ℕ)) → i < length ids
      → uses_from j i (drop i ids) ≡ map (use_at i) (option_to_list (get_or ids i d)) ++ uses_from j (i + 1) (drop (i + 1) ids)
  uses_from-here ids i d lt =
      ap (uses_from j i) (drop-cons ids i d lt)
      ∙ ap (λ k. map (use_at i) (option_to_list (get_or ids i d)) ++ uses_from j k (drop k ids)) (sym (add-one i))

  -- a place that uses no id
  pub no_use_more : (ids : List (Option (List ℕ))) (i : ℕ) (d : Option (List ℕ)) (us : List NewUse) → i < length ids → get_or ids i d ≡ None
      → uses_from j 0 ids ≡ uses_in us ++ uses_from j i (drop i ids)
      → uses_from j 0 ids ≡ uses_in us ++ uses_from j (i + 1) (drop (i + 1) ids)
  no_use_more ids i d us lt is so_far =
      so_far ∙ ap (λ l. uses_in us ++ l) (uses_from-here ids i d lt ∙ ap (λ o. map (use_at i) (option_to_list o) ++ uses_from j (i + 1) (drop (i + 1) ids)) is)

  flag_at : (fs : List Flag) (i n : ℕ) (d : Flag) → i < n → n ≡ length fs → fs ≡ flags j → get_or fs i d ≡ flag j i
  flag_at fs i n d lt long is =
      let count : length fs ≡ length j.candidates = ap length is ∙ length-map-range_with_len (flag j) 0 (length j.candidates) in
      ap (λ l. get_or l i d) is ∙ get_or-map-range_with_len (flag j) 0 (length j.candidates) i i d (omega (arith, lt, long, count)) (omega arith)

  -- a place that uses an id
  pub use_more : (ids : List (Option (List ℕ))) (fs : List Flag) (i : ℕ) (d : Option (List ℕ)) (e f : Flag) (us next : List NewUse) (id : List ℕ) (block : ℕ)
      → i < length ids → length ids ≡ length fs → j.number ≡ block → fs ≡ flags j → get_or ids i d ≡ Some id → f ≡ get_or fs i e
      → next ≡ us ++ record { id = id; first_use = record { block = block; place = i; flag = f } } ∷ []
      → uses_from j 0 ids ≡ uses_in us ++ uses_from j i (drop i ids)
      → uses_from j 0 ids ≡ uses_in next ++ uses_from j (i + 1) (drop (i + 1) ids)
  use_more ids fs i d e f us next id block lt long number are is flag_is next_is so_far =
      let own : f ≡ flag j i = flag_is ∙ flag_at fs i (length ids) e lt long are in
      let used : (b : ℕ) (g : Flag) → List (List ℕ × FirstUse) = λ b g. uses_in us ++ (id, record { block = b; place = i; flag = g }) ∷ [] in
      let pushed : uses_in next ≡ uses_in us ++ use_at i id ∷ [] =
      ap uses_in next_is ∙ map_push (λ (u : NewUse). (u.id, u.first_use)) us (record { id = id; first_use = record { block = block; place = i; flag = f } })
      ∙ ap (λ b. used b f) (sym number) ∙ ap (used j.number) own in
      so_far
      ∙ ap (λ l. uses_in us ++ l) (uses_from-here ids i d lt ∙ ap (λ o. map (use_at i) (option_to_list o) ++ uses_from j (i + 1) (drop (i + 1) ids)) is)
      ∙ sym (append_assoc (uses_in us) (use_at i id ∷ []) (uses_from j (i + 1) (drop (i + 1) ids)))
      ∙ ap (λ l. l ++ uses_from j (i + 1) (drop (i + 1) ids)) (sym pushed)
