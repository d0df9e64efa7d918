-- All places of a block: after each, what its items have led to is what the definitions of `rules` are up to there.
use Rattle.std.proofs.Common.{◌≡◌, ℕ, suc, ◌+◌, ◌==◌, get_or, List, [], ◌∷◌, ◌++◌, length, map, Option, Some, None, refl, sym, ap, subst, ◌∙◌, append_assoc, append-nil, arith}
use Rattle.std.specs.Prelude.{◌≤◌, if◌then◌else◌, option_to_list, slice_get}
use Rattle.std.specs.List.{range_with_len}
use Rattle.std.specs.FinMap.{contains_key, insert}
use Rattle.std.proofs.Math.Seq.{get_or-append_seam}
use Rattle.std.proofs.lemmas.List.{length-append, map_push}
use Rattle.std.proofs.lemmas.List.FromFn.{map-range_with_len_more}
use Rattle.transaction.specs.declared.item.Item.{Item}
use Rattle.transaction.specs.declared.transaction.Version.{Version}
use Rattle.policy.specs.Policies.{Policies}
use Rattle.policy.specs.Tree.{Tree}
use Rattle.policy_eval.specs.Accepts.{Accepts}
use Rattle.channel.specs.Configuration.{Configuration}
use Rattle.rules.specs.declared.early_flag.EarlyFlag.TheVariants.{BadPayload}
use Rattle.rules.specs.declared.first_use.FirstUse.{FirstUse}
use Rattle.rules.specs.Flags.{is_valid}
use Rattle.rules.specs.History.{with_entries}
use Rattle.rules.specs.FirstUses.{FirstUses, with_uses}
use Rattle.rules.specs.Definitions.{with_definitions}
use Rattle.rules.specs.Candidate.{Candidate, flagged, origin_of, candidate_of, used_id, is_used, candidates_from}
use Rattle.rules.specs.Job.{Job, candidate_at, version_of, endorsement_by, reads_by, flag_by, state_by, entries_by, definitions_by, touched_by}
use Rattle.rules.specs.Fold.{running, flag, flags, entries_to, definitions_to}
use Rattle.rules.specs.Commit.{channel_in, job_of, uses_from}
use Rattle.rules.specs.World.{World}
use Rattle.rules.proofs.HistoryEntries.{with_entries-append, with_entries-none}
use Rattle.rules.proofs.IdUses.{with_uses-append, with_uses-none, is_used-by_uses}
use Rattle.rules.proofs.OpenUpdates.{one_definition}
use Rattle.theorem.specs.Serial.{Setting, SoFar, taken, all_taken, setting_of, at_first, after_items}
use Rattle.theorem.proofs.OneFlag.{here, candidate_same}
use Rattle.theorem.proofs.OnePlace.{last_or, Next, use_of, none_next, some_next}

with_definitions-append : (d : Policies) (ds es : List (List ℕ × Tree)) → with_definitions d (ds ++ es) ≡ with_definitions (with_definitions d ds) es
unfolding with_definitions
with_definitions-append d [] es = refl
with_definitions-append d (x ∷ ds) es = with_definitions-append (insert d x.0 x.1) ds es

-- the last of two lists, one after the other
last_or-append : {A : Type 0} (o : Option A) (xs ys : List A) → last_or o (xs ++ ys) ≡ last_or (last_or o xs) ys
last_or-append o [] ys = refl
last_or-append o (x ∷ xs) ys = last_or-append (Some x) xs ys

-- of one at most, the last is the first
last_or-one : {A : Type 0} (xs : List A) → length xs ≤ 1 → last_or None xs ≡ slice_get xs 0
last_or-one [] few = refl
last_or-one (x ∷ []) few = refl
last_or-one (x ∷ y ∷ xs) few = absurd (omega arith)

with_definitions-none : (d : Policies) → with_definitions d [] ≡ d
unfolding with_definitions
with_definitions-none d = refl

-- the ids of uses with one more at the end
ids_pushed : (us : List (List ℕ × FirstUse)) (id : Option (List ℕ)) (u : FirstUse)
    → map (λ x. x.0) us ++ option_to_list id ≡ map (λ x. x.0) (us ++ map (λ x. (x, u)) (option_to_list id))
ids_pushed us None u = append-nil (map (λ x. x.0) us) ∙ ap (map (λ x. x.0)) (sym (append-nil us))
ids_pushed us (Some id) u = sym (map_push (λ x. x.0) us (id, u))

module _ (channel : Configuration) (accepts : Accepts) (w : World) (items : List (Option Item)) where
  abbrev j : Job
  j = job_of channel accepts w items

  abbrev s : Setting
  s = setting_of channel accepts w items

  -- the candidates of the places from here on, after these uses
  abbrev candidates_after : List (List ℕ × FirstUse) → List (Option Item) → List Candidate
  candidates_after us rest = candidates_from (channel_in channel w) accepts (length items == 1) w.first_uses (map (λ u. u.0) us) rest

  -- Before a place, front has the candidates and us the uses of the places before it, and rest the items from it on.
  -- What the items before have led to is what each definition is up to the place.
  record Stands (front : List Candidate) (us : List (List ℕ × FirstUse)) (place : ℕ) (r : SoFar) (rest : List (Option Item)) : Type 0 where
    candidates : j.candidates ≡ front ++ candidates_after us rest
    count : length front ≡ place
    uses : uses_from j 0 (map (used_id channel accepts) items) ≡ us ++ uses_from j place (map (used_id channel accepts) rest)
    flags : r.flags ≡ map (flag j) (range_with_len 0 place)
    state : r.state ≡ (running j place).state
    touched : r.policy_written ≡ (running j place).touched
    history : r.history ≡ with_entries w.history (entries_to j place)
    policies : r.policies ≡ with_definitions w.definitions (definitions_to j place)
    replaced : r.replaced ≡ last_or None (definitions_to j place)
    first_uses : r.first_uses ≡ with_uses w.first_uses us

  first_stands : Stands [] [] 0 (at_first w) items
  unfolding running entries_to definitions_to
  first_stands = record {
    candidates = refl;
    count = refl;
    uses = refl;
    flags = refl;
    state = refl;
    touched = refl;
    history = sym (with_entries-none w.history);
    policies = sym (with_definitions-none w.definitions);
    replaced = refl;
    first_uses = sym (with_uses-none w.first_uses);
  }

  -- the candidate of a place with this item
  abbrev own : List (List ℕ × FirstUse) → Option Item → Candidate
  own us i = candidate_of (channel_in channel w) accepts (length items == 1) (is_used w.first_uses (map (λ u. u.0) us) (used_id channel accepts i)) i

  abbrev new_uses : ℕ → Option Item → List (List ℕ × FirstUse)
  new_uses place i = map (λ x. (x, use_of s place (flag j place))) (option_to_list (used_id channel accepts i))

  next_stands : (front : List Candidate) (us : List (List ℕ × FirstUse)) (place : ℕ) (r n : SoFar) (i : Option Item) (rest : List (Option Item))
      → Stands front us place r (i ∷ rest) → Next s place r (used_id channel accepts i) (own us i) n
      → Stands (front ++ own us i ∷ []) (us ++ new_uses place i) (suc place) n rest
  unfolding running entries_to definitions_to
  next_stands front us place r n i rest h next =
      let c = own us i in
      let v : Version = version_of j place in
      let is_c : c ≡ candidate_at j place =
      sym (ap (λ cs. get_or cs place (flagged BadPayload)) h.candidates ∙ ap (λ (k : ℕ). get_or (front ++ candidates_after us (i ∷ rest)) k (flagged BadPayload)) (sym h.count) ∙ get_or-append_seam front c _ (flagged BadPayload)) in
      let is_flag : here s r c ≡ flag j place = λ k. flag_by (is_c k) (endorsement_by channel.admin w.definitions w.state (h.touched k) (is_c k)) (reads_by (h.state k) (is_c k)) in
      let one_more : place + 1 ≡ suc place = omega arith in
      let from_zero : 0 + place ≡ place = omega arith in
      record {
        candidates =
            h.candidates ∙ sym (append_assoc front (c ∷ []) (candidates_from (channel_in channel w) accepts (length items == 1) w.first_uses (map (λ u. u.0) us ++ option_to_list (used_id channel accepts i)) rest))
            ∙ ap (λ (ids : List (List ℕ)). (front ++ c ∷ []) ++ candidates_from (channel_in channel w) accepts (length items == 1) w.first_uses ids rest) (ids_pushed us (used_id channel accepts i) (use_of s place (flag j place)));
        count = omega (arith, length-append front (c ∷ []), h.count);
        uses = h.uses ∙ sym (append_assoc us (new_uses place i) (uses_from j (suc place) (map (used_id channel accepts) rest)));
        flags = next.flags ∙ (λ k. h.flags k ++ is_flag k ∷ []) ∙ sym (map-range_with_len_more (flag j) 0 place place from_zero) ∙ ap (λ (m : ℕ). map (flag j) (range_with_len 0 m)) one_more;
        state = next.state ∙ (λ k. if is_valid (is_flag k) then state_by v (is_c k) (h.state k) else h.state k);
        touched = next.policy_written ∙ (λ k. if endorsement_by channel.admin w.definitions w.state (h.touched k) (is_c k) then h.touched k ++ touched_by (is_c k) else h.touched k);
        history =
            next.history ∙ (λ k. with_entries (h.history k) (if is_valid (is_flag k) then entries_by v (is_c k) else []))
            ∙ sym (with_entries-append w.history (entries_to j place) (if is_valid (flag j place) then entries_by v (candidate_at j place) else []));
        policies =
            next.policies ∙ (λ k. with_definitions (h.policies k) (if is_valid (is_flag k) then definitions_by (is_c k) else []))
            ∙ sym (with_definitions-append w.definitions (definitions_to j place) (if is_valid (flag j place) then definitions_by (candidate_at j place) else []));
        replaced =
            next.replaced ∙ (λ k. last_or (h.replaced k) (if is_valid (is_flag k) then definitions_by (is_c k) else []))
            ∙ sym (last_or-append None (definitions_to j place) (if is_valid (flag j place) then definitions_by (candidate_at j place) else []));
        first_uses =
            next.first_uses ∙ (λ k. with_uses (h.first_uses k) (map (λ x. (x, use_of s place (is_flag k))) (option_to_list (used_id channel accepts i))))
            ∙ sym (with_uses-append w.first_uses us (new_uses place i));
      }

  -- the step is that of its candidate
  taken_next : (front : List Candidate) (us : List (List ℕ × FirstUse)) (place : ℕ) (r : SoFar) (i : Option Item) (rest : List (Option Item))
      → Stands front us place r (i ∷ rest) → Next s place r (used_id channel accepts i) (own us i) (taken s place r i)
  taken_next front us place r None rest h = none_next s place r
  taken_next front us place r (Some i) rest h =
      let used : is_used w.first_uses (map (λ u. u.0) us) (Some (origin_of i).id) ≡ contains_key r.first_uses (origin_of i).id =
      is_used-by_uses w.first_uses us (origin_of i).id ∙ ap (λ (m : FirstUses). contains_key m (origin_of i).id) (sym h.first_uses) in
      subst (λ (c : Candidate). Next s place r (used_id channel accepts (Some i)) c (taken s place r (Some i)))
      (sym (candidate_same (channel_in channel w) accepts (length items == 1) w.first_uses (map (λ u. u.0) us) (contains_key r.first_uses (origin_of i).id) i used))
      (some_next s place r i)

  -- ---- after the last place

  pub record IsSerial (r : SoFar) : Type 0 where
    pub flags : flags j ≡ r.flags
    pub state : (running j (length j.candidates)).state ≡ r.state
    pub history : with_entries w.history (entries_to j (length j.candidates)) ≡ r.history
    pub first_uses : with_uses w.first_uses (uses_from j 0 (map (used_id channel accepts) items)) ≡ r.first_uses
    pub policies : with_definitions w.definitions (definitions_to j (length j.candidates)) ≡ r.policies
    pub replaced : slice_get (definitions_to j (length j.candidates)) 0 ≡ r.replaced

  all_stand : (front : List Candidate) (us : List (List ℕ × FirstUse)) (place : ℕ) (r : SoFar) (rest : List (Option Item))
      → Stands front us place r rest → IsSerial (all_taken s place r rest)
  unfolding all_taken
  all_stand front us place r [] h =
      let all : length j.candidates ≡ place = ap length (h.candidates ∙ append-nil front) ∙ h.count in
      record {
        flags = ap (λ (n : ℕ). map (flag j) (range_with_len 0 n)) all ∙ sym h.flags;
        state = ap (λ (n : ℕ). (running j n).state) all ∙ sym h.state;
        history = ap (λ (n : ℕ). with_entries w.history (entries_to j n)) all ∙ sym h.history;
        first_uses = ap (with_uses w.first_uses) (h.uses ∙ append-nil us) ∙ sym h.first_uses;
        policies = ap (λ (n : ℕ). with_definitions w.definitions (definitions_to j n)) all ∙ sym h.policies;
        replaced =
            sym (last_or-one (definitions_to j (length j.candidates)) (one_definition channel accepts w items))
            ∙ ap (λ (n : ℕ). last_or None (definitions_to j n)) all ∙ sym h.replaced;
      }
  all_stand front us place r (i ∷ rest) h =
      all_stand (front ++ own us i ∷ []) (us ++ new_uses place i) (suc place) (taken s place r i) rest
      (next_stands front us place r (taken s place r i) i rest h (taken_next front us place r i rest h))

  -- all places
  pub all_serial : IsSerial (after_items channel accepts w items)
  all_serial = all_stand [] [] 0 (at_first w) items first_stands
