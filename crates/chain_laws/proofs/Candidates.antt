-- The candidates of a block fit: what they write and give is within its limits.
use Rattle.std.proofs.Common.{◌≡◌, ℕ, zero, suc, ◌*◌, ◌^◌, ◌<◌, ◌≤◌, Bool, true, false, get_or, List, [], ◌∷◌, ◌++◌, length, map, Option, Some, None, refl, arith, length-append}
use Rattle.std.specs.Prelude.{IfSome, if◌then◌else◌, option_map, option_to_list, slice_get}
use Rattle.std.specs.List.{AllByRecursion}
use Rattle.std.proofs.lemmas.List.{length-map}
use Rattle.transaction.specs.declared.block_version.BlockVersion.{BlockVersion}
use Rattle.transaction.specs.declared.item.Item.{Item}
use Rattle.transaction.specs.declared.item.Item.TheVariants as item
use Rattle.transaction.specs.declared.transaction.Version.{Version}
use Rattle.transaction.specs.Limits.{max_tx_bytes}
use Rattle.transaction.specs.Items.{item_of}
use Rattle.policy.specs.Tree.{Tree}
use Rattle.policy.specs.Text.{text_of}
use Rattle.policy.specs.Meaning.{policy_of}
use Rattle.policy.proofs.Readings.{law_found, law_policy}
use Rattle.policy.proofs.Canon.{canonical_short}
use Rattle.policy_eval.specs.Accepts.{Accepts}
use Rattle.channel.specs.Configuration.{Configuration}
use Rattle.rules.specs.declared.early_flag.EarlyFlag.{EarlyFlag}
use Rattle.rules.specs.declared.early_flag.EarlyFlag.TheVariants.{BadPayload}
use Rattle.rules.specs.declared.row.Row.{Row}
use Rattle.rules.specs.Flags.{is_valid}
use Rattle.rules.specs.State.{State, ChangeOf}
use Rattle.rules.specs.Effect.{written_keys, effect_at, changes_of}
use Rattle.rules.specs.FirstUses.{FirstUses}
use Rattle.rules.specs.Candidate.{Candidate, flagged, opened, updates, origin_fault, content_fault, flagged_or, open_of, candidate_of, used_id, is_used, candidates_from}
use Rattle.rules.specs.Job.{Job, candidate_at, version_of, changes_by, definitions_by}
use Rattle.rules.specs.Fold.{running, flag, changes_to, definitions_to}
use Rattle.rules.specs.CommitBytes.{told_definition}
use Rattle.std.specs.FinMap.{get}
use Rattle.chain_laws.proofs.Lists.{all-append}
use Rattle.chain_laws.proofs.Items.{FitsTx, FitsItem, item_fits}

abbrev pub Fits : Candidate → Type 0
Fits (flagged f) = Unit {0}
Fits (opened tx signers) = FitsTx tx
Fits (updates u signers) = length u.namespace < 2 ^ 8

-- ---- from items

pub items_fit : (version : BlockVersion) (txs : List (List ℕ)) → AllByRecursion (λ o. IfSome o FitsItem) (map (item_of version) txs)
items_fit version [] = tt
items_fit version (bytes ∷ txs) = (by (item_of version bytes) refl, items_fit version txs)
  where
    by : (o : Option Item) → item_of version bytes ≡ o → IfSome o FitsItem
    by None e = tt
    by (Some i) e = item_fits version bytes i e

open_fits : (accepts : Accepts) (i : Item) → FitsItem i → Fits (open_of accepts i)
open_fits accepts (item.Tx tx) h = h
open_fits accepts (item.Update u) h = h

flagged_fits : (o : Option EarlyFlag) (c : Candidate) → Fits c → Fits (flagged_or o c)
flagged_fits None c h = h
flagged_fits (Some f) c h = tt

one_fits : (channel : Configuration) (accepts : Accepts) (alone used : Bool) (i : Option Item) → IfSome i FitsItem → Fits (candidate_of channel accepts alone used i)
one_fits channel accepts alone used None h = tt
one_fits channel accepts alone used (Some i) h =
    flagged_fits (origin_fault channel accepts i) (flagged_or (content_fault channel alone used i) (open_of accepts i))
    (flagged_fits (content_fault channel alone used i) (open_of accepts i) (open_fits accepts i h))

pub candidate_fits : (channel : Configuration) (accepts : Accepts) (alone : Bool) (uses : FirstUses) (earlier : List (List ℕ)) (items : List (Option Item)) (n : ℕ)
    → AllByRecursion (λ o. IfSome o FitsItem) items → Fits (get_or (candidates_from channel accepts alone uses earlier items) n (flagged BadPayload))
candidate_fits channel accepts alone uses earlier [] n h = tt
candidate_fits channel accepts alone uses earlier (i ∷ items) zero h = one_fits channel accepts alone (is_used uses earlier (used_id channel accepts i)) i h.0
candidate_fits channel accepts alone uses earlier (i ∷ items) (suc n) h = candidate_fits channel accepts alone uses (earlier ++ option_to_list (used_id channel accepts i)) items n h.1

-- ---- canonical texts

pub text_short : (text : List ℕ) (t : Tree) → policy_of text ≡ Some t → length (text_of t) < 2 ^ 16
text_short text t e =
    let is = law_found text t (law_policy text t e) in
    let most : length text ≤ 4096 = is.short in
    omega (arith, canonical_short text t is, most)

-- ---- the definitions that they give

abbrev FitsDefinition : List ℕ × Tree → Type 0
FitsDefinition d = (length d.0 < 2 ^ 8) × (length (text_of d.1) < 2 ^ 16)

definitions_fit_by : (c : Candidate) → Fits c → AllByRecursion FitsDefinition (definitions_by c)
definitions_fit_by (flagged f) h = tt
definitions_fit_by (opened tx signers) h = tt
definitions_fit_by (updates u signers) h = by (policy_of u.policy) refl
  where
    by : (o : Option Tree) → policy_of u.policy ≡ o → AllByRecursion FitsDefinition (option_to_list (option_map (λ policy. (u.namespace, policy)) o))
    by None e = tt
    by (Some t) e = ((h, text_short u.policy t e), tt)

-- what is given if a candidate is valid
given_where : {A : Type 0} (P : A → Type 0) (b : Bool) (xs : List A) → AllByRecursion P xs → AllByRecursion P (if b then xs else [])
given_where P true xs h = h
given_where P false xs h = tt

definitions_fit : (j : Job) → ((i : ℕ) → Fits (candidate_at j i)) → (n : ℕ) → AllByRecursion FitsDefinition (definitions_to j n)
unfolding definitions_to
definitions_fit j fits zero = tt
definitions_fit j fits (suc i) =
    all-append FitsDefinition (definitions_to j i) (if is_valid (flag j i) then definitions_by (candidate_at j i) else []) (definitions_fit j fits i)
    (given_where FitsDefinition (is_valid (flag j i)) (definitions_by (candidate_at j i)) (definitions_fit_by (candidate_at j i) (fits i)))

pub definition_fits : (j : Job) → ((i : ℕ) → Fits (candidate_at j i)) → (n : ℕ) → IfSome (option_map told_definition (slice_get (definitions_to j n) 0)) (λ d. (length d.0 < 2 ^ 8) × (length d.1 < 2 ^ 16))
definition_fits j fits n = by (definitions_to j n) (definitions_fit j fits n)
  where
    by : (ds : List (List ℕ × Tree)) → AllByRecursion FitsDefinition ds → IfSome (option_map told_definition (slice_get ds 0)) (λ d. (length d.0 < 2 ^ 8) × (length d.1 < 2 ^ 16))
    by [] h = tt
    by (d ∷ ds) h = h.0

-- ---- how many changes they make

few_by : (v : Version) (c : Candidate) → Fits c → (s : State) → 2 * length (changes_by v c s) ≤ max_tx_bytes
few_by v (flagged f) h s = omega arith
few_by v (opened tx signers) h s =
    let many : length (changes_of v tx s) ≡ length (written_keys tx) = length-map (written_keys tx) (λ k. (k, effect_at v tx k (get s k))) in
    omega (arith, h.few, many)
few_by v (updates u signers) h s = omega arith

few_where : {A : Type 0} (b : Bool) (xs : List A) → 2 * length xs ≤ max_tx_bytes → 2 * length (if b then xs else []) ≤ max_tx_bytes
few_where true xs h = h
few_where false xs h = omega arith

pub few_changes : (j : Job) → ((i : ℕ) → Fits (candidate_at j i)) → (n : ℕ) → 2 * length (changes_to j n) ≤ n * max_tx_bytes
unfolding changes_to
few_changes j fits zero = omega arith
few_changes j fits (suc i) =
    let here : List (ChangeOf Row) = changes_by (version_of j i) (candidate_at j i) (running j i).state in
    let few : 2 * length (if is_valid (flag j i) then here else []) ≤ max_tx_bytes = few_where (is_valid (flag j i)) here (few_by (version_of j i) (candidate_at j i) (fits i) (running j i).state) in
    omega (arith, few, few_changes j fits i, length-append (changes_to j i) (if is_valid (flag j i) then here else []))
