-- What is known before the used ids, together with the marks of used ids, is the candidates.
use Rattle.std.proofs.Common.{◌≡◌, ◌≤◌, ℕ, ◌==◌, Bool, true, false, not, List, [], ◌∷◌, ◌++◌, map, Option, Some, None, option_to_list, length, append-nil, ◌⊎◌, ⊎_elim, refl, sym, ap, ◌∙◌, arith}
use Rattle.std.specs.Prelude.{is_none, if◌then◌else◌}
use Rattle.std.specs.List.{zip}
use Rattle.std.proofs.lemmas.List.{length-map}
use Rattle.transaction.specs.declared.item.Item.{Item}
use Rattle.transaction.specs.declared.item.Item.TheVariants as item
use Rattle.policy_eval.specs.Accepts.{Accepts}
use Rattle.policy_eval.specs.Signers.{signers_of}
use Rattle.policy_eval.specs.UpdateSigners.{update_signers_of}
use Rattle.channel.specs.Configuration.{Configuration}
use Rattle.rules.specs.declared.early_flag.EarlyFlag.{EarlyFlag}
use Rattle.rules.specs.declared.early_flag.EarlyFlag.TheVariants.{DuplicateTxId, InvalidConfigTransaction}
use Rattle.rules.specs.FirstUses.{FirstUses}
use Rattle.rules.specs.Candidate.{Candidate, flagged, opened, updates, first_failed, flagged_or, may_update, origin_fault, content_fault, candidate_of, used_id, is_used, candidates_from}
use Rattle.txid_index.specs.Marks.{marks}
use Rattle.candidates.specs.declared.candidate.Candidate as code
use Rattle.candidates.specs.declared.candidate.Candidate.TheVariants.{Flagged, Opened, Updates}
use Rattle.candidates.specs.Seen.{seen}
use Rattle.intake.specs.declared.taking.Taken.{Taken}
use Rattle.intake.specs.Place.{taken_of, shown}
use Rattle.intake.specs.Placed.{beside, placed}
use Rattle.intake.specs.Tentative.{AreTentative, marked}

-- ---- one place

new_or_used : (content : Bool → Option EarlyFlag) (whole : Candidate) (t : Taken) (used : Bool) → content true ≡ Some DuplicateTxId → seen t.candidate ≡ flagged_or (content false) whole → seen (placed true t used) ≡ flagged_or (content used) whole
new_or_used content whole t true twice is = ap (λ f. flagged_or f whole) (sym twice)
new_or_used content whole t false twice is = is

-- a fault of the origin comes before the id is looked up
by_origin : (fault : Option EarlyFlag) (content : Bool → Option EarlyFlag) (whole : Candidate) (uses : FirstUses) (earlier : List (List ℕ)) (id : List ℕ) (t : Taken) → content true ≡ Some DuplicateTxId
    → seen t.candidate ≡ flagged_or fault (flagged_or (content false) whole)
    → seen (placed true t (is_used uses earlier (if is_none fault then Some id else None))) ≡ flagged_or fault (flagged_or (content (is_used uses earlier (if is_none fault then Some id else None))) whole)
by_origin (Some flag) content whole uses earlier id t twice is = is
by_origin None content whole uses earlier id t twice is = new_or_used content whole t (is_used uses earlier (Some id)) twice is

alone_at_place : (channel : Configuration) (accepts : Accepts) (uses : FirstUses) (earlier : List (List ℕ)) (x : Option Item) (t : Taken) → seen t.candidate ≡ candidate_of channel accepts true false x
    → seen (placed true t (is_used uses earlier (used_id channel accepts x))) ≡ candidate_of channel accepts true (is_used uses earlier (used_id channel accepts x)) x
alone_at_place channel accepts uses earlier None t is = is
alone_at_place channel accepts uses earlier (Some (item.Tx tx)) t is =
    by_origin (origin_fault channel accepts (item.Tx tx)) (λ used. content_fault channel true used (item.Tx tx)) (opened tx (signers_of accepts tx)) uses earlier tx.id t refl is
alone_at_place channel accepts uses earlier (Some (item.Update u)) t is =
    by_origin (origin_fault channel accepts (item.Update u)) (λ used. content_fault channel true used (item.Update u)) (updates u (update_signers_of accepts u)) uses earlier u.id t refl is

-- ---- next to other items

beside_others : Candidate → Candidate
beside_others (flagged flag) = flagged flag
beside_others (opened tx ss) = opened tx ss
beside_others (updates u ss) = flagged InvalidConfigTransaction

seen-beside : (c : code.Candidate) → seen (beside c) ≡ beside_others (seen c)
unfolding beside_others
seen-beside (Flagged flag) = refl
seen-beside (Opened tx) = refl
seen-beside (Updates u) = refl

-- the candidate of an item next to others is that of the same item as the only one, but that no update is open
candidate-beside : (channel : Configuration) (accepts : Accepts) (used : Bool) (x : Option Item) → beside_others (candidate_of channel accepts true used x) ≡ candidate_of channel accepts false used x
unfolding beside_others
candidate-beside channel accepts used None = refl
candidate-beside channel accepts used (Some (item.Tx tx)) = by (origin_fault channel accepts (item.Tx tx)) (content_fault channel true used (item.Tx tx))
  where
    by : (o p : Option EarlyFlag) → beside_others (flagged_or o (flagged_or p (opened tx (signers_of accepts tx)))) ≡ flagged_or o (flagged_or p (opened tx (signers_of accepts tx)))
    by (Some f) p = refl
    by None (Some f) = refl
    by None None = refl
candidate-beside channel accepts used (Some (item.Update u)) = by (origin_fault channel accepts (item.Update u)) used (may_update channel true u)
  where
    by : (o : Option EarlyFlag) (used may : Bool)
        → beside_others (flagged_or o (flagged_or (first_failed ((not used, DuplicateTxId) ∷ (may, InvalidConfigTransaction) ∷ [])) (updates u (update_signers_of accepts u))))
        ≡ flagged_or o (flagged_or (first_failed ((not used, DuplicateTxId) ∷ (false, InvalidConfigTransaction) ∷ [])) (updates u (update_signers_of accepts u)))
    by (Some f) used may = refl
    by None true may = refl
    by None false true = refl
    by None false false = refl

seen-placed : (t : Taken) (used : Bool) → seen (placed false t used) ≡ beside_others (seen (placed true t used))
unfolding beside_others
seen-placed t true = refl
seen-placed t false = seen-beside t.candidate

at_place : (channel : Configuration) (accepts : Accepts) (alone : Bool) (uses : FirstUses) (earlier : List (List ℕ)) (x : Option Item) (t : Taken) → seen t.candidate ≡ candidate_of channel accepts true false x
    → seen (placed alone t (is_used uses earlier (used_id channel accepts x))) ≡ candidate_of channel accepts alone (is_used uses earlier (used_id channel accepts x)) x
at_place channel accepts true uses earlier x t is = alone_at_place channel accepts uses earlier x t is
at_place channel accepts false uses earlier x t is =
    let used = is_used uses earlier (used_id channel accepts x) in
    seen-placed t used ∙ ap beside_others (alone_at_place channel accepts uses earlier x t is) ∙ candidate-beside channel accepts used x

-- ---- all places

heads : {A : Type 0} (x y : A) (xs ys : List A) → x ∷ xs ≡ y ∷ ys → (x ≡ y) × (xs ≡ ys)
heads x y xs ys e = (cc, cc)

all_places : (channel : Configuration) (accepts : Accepts) (alone : Bool) (uses : FirstUses) (items : List (Option Item)) (taken : List Taken) (earlier : List (List ℕ)) (used : List Bool)
    → map shown taken ≡ map (taken_of channel accepts) items → used ≡ marks uses earlier (map (λ t. t.id) taken)
    → map seen (map (λ p. placed alone p.0 p.1) (zip taken used)) ≡ candidates_from channel accepts alone uses earlier items
all_places channel accepts alone uses [] [] earlier used same are = refl
all_places channel accepts alone uses [] (t ∷ ts) earlier used same are = cc
all_places channel accepts alone uses (x ∷ items) [] earlier used same are = cc
all_places channel accepts alone uses (x ∷ items) (t ∷ ts) earlier [] same are = cc
all_places channel accepts alone uses (x ∷ items) (t ∷ ts) earlier (u ∷ us) same are =
    let taken = heads (shown t) (taken_of channel accepts x) (map shown ts) (map (taken_of channel accepts) items) same in
    let id : t.id ≡ used_id channel accepts x = ap (λ p. p.0) taken.0 in
    let candidate : seen t.candidate ≡ candidate_of channel accepts true false x = ap (λ p. p.1) taken.0 in
    let marked = heads u (is_used uses earlier t.id) us (marks uses (earlier ++ option_to_list t.id) (map (λ y. y.id) ts)) are in
    let first : seen (placed alone t u) ≡ candidate_of channel accepts alone (is_used uses earlier (used_id channel accepts x)) x =
    ap (λ b. seen (placed alone t b)) (marked.0 ∙ ap (is_used uses earlier) id) ∙ at_place channel accepts alone uses earlier x t candidate in
    let rest = all_places channel accepts alone uses items ts (earlier ++ option_to_list t.id) us taken.1 marked.1
    ∙ ap (λ i. candidates_from channel accepts alone uses (earlier ++ option_to_list i) items) id in
    (λ i. first i ∷ rest i)

same_length : (channel : Configuration) (accepts : Accepts) (taken : List Taken) (items : List (Option Item)) → map shown taken ≡ map (taken_of channel accepts) items → length taken ≡ length items
same_length channel accepts taken items same = sym (length-map taken shown) ∙ ap length same ∙ length-map items (taken_of channel accepts)

-- of a whole block
all_of_block : (channel : Configuration) (accepts : Accepts) (uses : FirstUses) (items : List (Option Item)) (taken : List Taken) (used : List Bool)
    → map shown taken ≡ map (taken_of channel accepts) items → used ≡ marks uses [] (map (λ t. t.id) taken)
    → map seen (map (λ p. placed (length taken == 1) p.0 p.1) (zip taken used)) ≡ candidates_from channel accepts (length items == 1) uses [] items
all_of_block channel accepts uses items taken used same are =
    all_places channel accepts (length taken == 1) uses items taken [] used same are
    ∙ ap (λ (n : ℕ). candidates_from channel accepts (n == 1) uses [] items) (same_length channel accepts taken items same)

-- ---- places that were tentative, and then marked

marked-placed : (alone : Bool) (taken : List Taken) (used : List Bool) → marked (map (λ t. seen (placed alone t false)) taken) used ≡ map seen (map (λ p. placed alone p.0 p.1) (zip taken used))
marked-placed alone [] used = refl
marked-placed alone (t ∷ ts) [] = refl
marked-placed alone (t ∷ ts) (true ∷ us) = λ i. flagged DuplicateTxId ∷ marked-placed alone ts us i
marked-placed alone (t ∷ ts) (false ∷ us) = λ i. seen (placed alone t false) ∷ marked-placed alone ts us i

pub tentative-are : (channel : Configuration) (accepts : Accepts) (uses : FirstUses) (items : List (Option Item)) (taken : List Taken) (ids : List (Option (List ℕ))) (cs : List Candidate)
    → AreTentative taken ids cs → map shown taken ≡ map (taken_of channel accepts) items → marked cs (marks uses [] ids) ≡ candidates_from channel accepts (length items == 1) uses [] items
tentative-are channel accepts uses items taken ids cs are same =
    ap (λ (l : List Candidate). marked l (marks uses [] ids)) are.are_candidates
    ∙ marked-placed (length taken == 1) taken (marks uses [] ids)
    ∙ all_of_block channel accepts uses items taken (marks uses [] ids) same (ap (marks uses []) are.are_ids)

seen_all : (f : Taken → code.Candidate) (taken : List Taken) → map seen (map f taken) ≡ map (λ t. seen (f t)) taken
seen_all f [] = refl
seen_all f (t ∷ ts) = λ i. seen (f t) ∷ seen_all f ts i

pub all_tentative : (alone : Bool) (taken left : List Taken) (ids : List (Option (List ℕ))) (cs : List code.Candidate) → alone ≡ (length taken == 1)
    → map (λ t. t.id) taken ≡ ids ++ map (λ t. t.id) left → map (λ t. placed alone t false) taken ≡ cs ++ map (λ t. placed alone t false) left → length left ≡ 0
    → AreTentative taken ids (map seen cs)
all_tentative alone taken [] ids cs is all_ids all_cs none = record {
  are_ids = sym (append-nil ids) ∙ sym all_ids;
  are_candidates =
      ap (map seen) (sym (append-nil cs) ∙ sym all_cs)
      ∙ seen_all (λ t. placed alone t false) taken
      ∙ ap (λ (a : Bool). map (λ t. seen (placed a t false)) taken) is;
}
all_tentative alone taken (t ∷ ts) ids cs is all_ids all_cs none = absurd (omega (arith, none))

-- ---- places that are marked in turn

pub none_left : (done cs : List Candidate) (used : List Bool) → (length cs ≡ 0) ⊎ (length used ≡ 0) → done ++ marked cs used ≡ done
none_left done [] used h = append-nil done
none_left done (c ∷ cs) [] h = append-nil done
none_left done (c ∷ cs) (u ∷ us) h = absurd (⊎_elim (λ n. omega (arith, n)) (λ n. omega (arith, n)) h)

pub few_marked : (cs : List Candidate) (used : List Bool) → length (marked cs used) ≤ length cs
few_marked [] used = omega arith
few_marked (c ∷ cs) [] = omega arith
few_marked (c ∷ cs) (u ∷ us) = omega (arith, few_marked cs us)

-- ---- the ids of places

pub ids_are : (channel : Configuration) (accepts : Accepts) (taken : List Taken) (items : List (Option Item)) → map shown taken ≡ map (taken_of channel accepts) items → map (λ t. t.id) taken ≡ map (used_id channel accepts) items
ids_are channel accepts [] [] same = refl
ids_are channel accepts [] (tx ∷ txs) same = cc
ids_are channel accepts (t ∷ ts) [] same = cc
ids_are channel accepts (t ∷ ts) (tx ∷ txs) same =
    let parts = heads (shown t) (taken_of channel accepts tx) (map shown ts) (map (taken_of channel accepts) txs) same in
    (λ i. (parts.0 i).0 ∷ ids_are channel accepts ts txs parts.1 i)
