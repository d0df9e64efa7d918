-- What is known of an open update, and of the definitions that a block gives.
use Rattle.std.proofs.Common.{◌≡◌, ◌≢◌, ℕ, ◌==◌, ◌≤◌, zero, suc, Bool, true, false, cond, ◌&&◌, not, eqb, List, [], ◌∷◌, ◌++◌, length, get_or, Option, Some, None, Result, Ok, Err, refl, sym, ap, subst, ◌∙◌, arith}
use Rattle.std.specs.Prelude.{if◌then◌else◌, is_some, option_map, option_to_list}
use Rattle.std.specs.Option.{option_or}
use Rattle.std.specs.List.{AllByRecursion}
use Rattle.std.specs.Str.{bytes_eq}
use Rattle.std.specs.Cmp.Lexicographic.{nat_list_cmp_total, bytes_decides}
use Rattle.std.specs.FinMap.{get, insert, get-insert}
use Rattle.std.proofs.lemmas.Bool.{eqb-true}
use Rattle.transaction.specs.declared.transaction.Tx.{Tx}
use Rattle.transaction.specs.declared.update.Update.{Update}
use Rattle.transaction.specs.declared.item.Item.{Item}
use Rattle.transaction.specs.declared.item.Item.TheVariants as item
use Rattle.transaction.specs.declared.identity.Identity.{Identity}
use Rattle.policy.specs.Tree.{Tree}
use Rattle.policy.specs.Meaning.{policy_of}
use Rattle.policy.specs.Policies.{Policies}
use Rattle.policy_eval.specs.Accepts.{Accepts}
use Rattle.policy_eval.specs.UpdateSigners.{update_signers_of}
use Rattle.channel.specs.Configuration.{Configuration}
use Rattle.rules.specs.declared.answer.Accepted.{Accepted}
use Rattle.rules.specs.declared.answer.Refused.{Refused}
use Rattle.rules.specs.declared.early_flag.EarlyFlag.{EarlyFlag}
use Rattle.rules.specs.declared.early_flag.EarlyFlag.TheVariants.{BadPayload, TargetChainNotFound, BadCreatorSignature, BadProposalTxId, DuplicateTxId, InvalidConfigTransaction, BadRwset, InvalidChaincode}
use Rattle.rules.specs.declared.flag.Flag.{Flag}
use Rattle.rules.specs.declared.flag.Flag.TheVariants.{Valid}
use Rattle.rules.specs.Flags.{flag_of, is_valid}
use Rattle.rules.specs.Definitions.{with_definitions, given}
use Rattle.rules.specs.FirstUses.{FirstUses}
use Rattle.rules.specs.Candidate.{Candidate, flagged, opened, updates, is_defined, may_update, origin_fault, content_fault, flagged_or, open_of, used_id, is_used, candidate_of, candidates_from}
use Rattle.rules.specs.Job.{Job, candidate_at, reads, flag_by, definitions_by}
use Rattle.rules.specs.Fold.{running, endorsed, flag, definitions_to}
use Rattle.rules.specs.World.{World}
use Rattle.rules.specs.Commit.{items_of, channel_in, job_of}
use Rattle.rules.specs.Step.{Step}
use Rattle.rules.proofs.Booleans.{both_true}
use Rattle.rules.proofs.Keys.{bytes_ties}
use Rattle.rules.proofs.Candidates.{length-candidates_from}
use Rattle.rules.proofs.Invalid.{invalid-definitions}
use Rattle.rules.proofs.OpenCandidates.{open_only_if}

-- ---- when a candidate is an open update

pub record IsUpdateOf (channel : Configuration) (accepts : Accepts) (alone used : Bool) (i : Item) (u : Update) (ss : List Identity) : Type 0 where
  pub same : i ≡ item.Update u
  pub signers : ss ≡ update_signers_of accepts u
  pub is_new : used ≡ false
  pub may : may_update channel alone u ≡ true

as_update : (accepts : Accepts) (i : Item) (u : Update) (ss : List Identity) → open_of accepts i ≡ updates u ss → (i ≡ item.Update u) × (ss ≡ update_signers_of accepts u)
as_update accepts (item.Update v) u ss e = let same : v ≡ u = cc in (ap (λ (x : Update). item.Update x) same, (let own : ss ≡ update_signers_of accepts v = cc in own ∙ ap (update_signers_of accepts) same))
as_update accepts (item.Tx tx) u ss e = absurd cc

two_tests : (used may : Bool) → cond (not used) (cond may None (Some InvalidConfigTransaction)) (Some DuplicateTxId) ≡ None → (used ≡ false) × (may ≡ true)
two_tests false true e = (refl, refl)
two_tests false false e = absurd cc
two_tests true may e = absurd cc

pub update_only_if : (channel : Configuration) (accepts : Accepts) (alone used : Bool) (i : Item) (u : Update) (ss : List Identity) → candidate_of channel accepts alone used (Some i) ≡ updates u ss → IsUpdateOf channel accepts alone used i u ss
update_only_if channel accepts alone used i u ss e = by (origin_fault channel accepts i) (content_fault channel alone used i) refl e
  where
    by : (o p : Option EarlyFlag) → content_fault channel alone used i ≡ p → flagged_or o (flagged_or p (open_of accepts i)) ≡ updates u ss → IsUpdateOf channel accepts alone used i u ss
    by (Some f) p ep is = absurd cc
    by None (Some f) ep is = absurd cc
    by None None ep is =
        let own = as_update accepts i u ss is in
        let tests = two_tests used (may_update channel alone u) (ap (content_fault channel alone used) (sym own.0) ∙ ep) in
        record { same = own.0; signers = own.1; is_new = tests.0; may = tests.1 }

-- ---- the definitions that a candidate gives are of chaincodes that have one

abbrev AreNamed : Policies → List (List ℕ × Tree) → Type 0
AreNamed m ds = AllByRecursion (λ d. is_defined m d.0 ≡ true) ds

named_by : (m : Policies) (u : Update) (ss : List Identity) → is_defined m u.namespace ≡ true → AreNamed m (definitions_by (updates u ss))
named_by m u ss named = by (policy_of u.policy)
  where
    by : (o : Option Tree) → AreNamed m (option_to_list (option_map (λ policy. (u.namespace, policy)) o))
    by None = tt
    by (Some t) = (named, tt)

named_and_alone : (channel : Configuration) (alone : Bool) (u : Update) → may_update channel alone u ≡ true → (alone ≡ true) × (is_defined channel.definitions u.namespace ≡ true)
named_and_alone channel alone u may =
    let a = both_true (alone && is_some channel.admin && is_defined channel.definitions u.namespace) (is_some (policy_of u.policy)) may in
    let b = both_true (alone && is_some channel.admin) (is_defined channel.definitions u.namespace) a.0 in
    ((both_true alone (is_some channel.admin) b.0).0, b.1)

-- what is said of each candidate of a block
abbrev IsProper : Configuration → Bool → Candidate → Type 0
IsProper channel alone (flagged f) = Unit {0}
IsProper channel alone (opened tx ss) = Unit {0}
IsProper channel alone (updates u ss) = (alone ≡ true) × (is_defined channel.definitions u.namespace ≡ true)

proper_one : (channel : Configuration) (accepts : Accepts) (alone used : Bool) (i : Option Item) → IsProper channel alone (candidate_of channel accepts alone used i)
proper_one channel accepts alone used None = tt
proper_one channel accepts alone used (Some i) = by (candidate_of channel accepts alone used (Some i)) refl
  where
    by : (c : Candidate) → candidate_of channel accepts alone used (Some i) ≡ c → IsProper channel alone c
    by (flagged f) e = tt
    by (opened tx ss) e = tt
    by (updates u ss) e = named_and_alone channel alone u (update_only_if channel accepts alone used i u ss e).may

proper : (channel : Configuration) (accepts : Accepts) (alone : Bool) (uses : FirstUses) (earlier : List (List ℕ)) (items : List (Option Item)) (n : ℕ)
    → IsProper channel alone (get_or (candidates_from channel accepts alone uses earlier items) n (flagged BadPayload))
proper channel accepts alone uses earlier [] n = tt
proper channel accepts alone uses earlier (i ∷ items) zero = proper_one channel accepts alone (is_used uses earlier (used_id channel accepts i)) i
proper channel accepts alone uses earlier (i ∷ items) (suc n) = proper channel accepts alone uses (earlier ++ option_to_list (used_id channel accepts i)) items n

named_from : (channel : Configuration) (alone : Bool) (c : Candidate) → IsProper channel alone c → AreNamed channel.definitions (definitions_by c)
named_from channel alone (flagged f) p = tt
named_from channel alone (opened tx ss) p = tt
named_from channel alone (updates u ss) p = named_by channel.definitions u ss p.1

named-append : (m : Policies) (ds es : List (List ℕ × Tree)) → AreNamed m ds → AreNamed m es → AreNamed m (ds ++ es)
named-append m [] es a b = b
named-append m (d ∷ ds) es a b = (a.0, named-append m ds es a.1 b)

module _ (channel : Configuration) (accepts : Accepts) (w : World) (items : List (Option Item)) where
  abbrev own : Job
  own = job_of channel accepts w items

  proper_at : (n : ℕ) → IsProper (channel_in channel w) (length items == 1) (candidate_at own n)
  proper_at n = proper (channel_in channel w) accepts (length items == 1) w.first_uses [] items n

  named_to : (n : ℕ) → AreNamed w.definitions (definitions_to own n)
  unfolding definitions_to
  named_to zero = tt
  named_to (suc n) = named-append w.definitions (definitions_to own n) (if is_valid (flag own n) then definitions_by (candidate_at own n) else []) (named_to n) (by (is_valid (flag own n)))
    where
      by : (b : Bool) → AreNamed w.definitions (cond b (definitions_by (candidate_at own n)) [])
      by true = named_from (channel_in channel w) (length items == 1) (candidate_at own n) (proper_at n)
      by false = tt

  -- ---- a block gives one definition at most

  none_of : (c : Candidate) → IsProper (channel_in channel w) false c → definitions_by c ≡ []
  none_of (flagged f) p = refl
  none_of (opened tx ss) p = refl
  none_of (updates u ss) p = let wrong : false ≡ true = p.0 in absurd cc

  none_either : (b : Bool) → cond {A = List (List ℕ × Tree)} b [] [] ≡ []
  none_either true = refl
  none_either false = refl

  none_to : length items == 1 ≡ false → (n : ℕ) → definitions_to own n ≡ []
  unfolding definitions_to
  none_to many zero = refl
  none_to many (suc n) =
      let here = none_of (candidate_at own n) (subst (λ (b : Bool). IsProper (channel_in channel w) b (candidate_at own n)) many (proper_at n)) in
      (λ i. none_to many n i ++ (if is_valid (flag own n) then here i else [])) ∙ none_either (is_valid (flag own n))

  one_by : (c : Candidate) → length (definitions_by c) ≤ 1
  one_by (flagged f) = omega arith
  one_by (opened tx ss) = omega arith
  one_by (updates u ss) = by (policy_of u.policy)
    where
      by : (o : Option Tree) → length {A = List ℕ × Tree} (option_to_list (option_map (λ policy. (u.namespace, policy)) o)) ≤ 1
      by None = omega arith
      by (Some t) = omega arith

  one_to : length (definitions_to own 1) ≤ 1
  unfolding definitions_to
  one_to = by (is_valid (flag own 0))
    where
      by : (b : Bool) → length (cond b (definitions_by (candidate_at own 0)) []) ≤ 1
      by true = one_by (candidate_at own 0)
      by false = omega arith

  pub one_definition : length (definitions_to own (length own.candidates)) ≤ 1
  one_definition = by (length items == 1) refl
    where
      by : (b : Bool) → length items == 1 ≡ b → length (definitions_to own (length own.candidates)) ≤ 1
      by true is =
          let one : length own.candidates ≡ 1 = length-candidates_from (channel_in channel w) accepts (length items == 1) w.first_uses [] items ∙ eqb-true (length items) 1 is in
          subst (λ (n : ℕ). length (definitions_to own n) ≤ 1) (sym one) one_to
      by false many = subst (λ (ds : List (List ℕ × Tree)). length ds ≤ 1) (sym (none_to many (length own.candidates))) (omega arith)

-- ---- the names of definitions stay

name_stays : (m : Policies) (x : List ℕ) (t : Tree) (q : List ℕ) → is_defined m x ≡ true → is_defined (insert m x t) q ≡ is_defined m q
name_stays m x t q named = ap is_some (get-insert nat_list_cmp_total m x t q ∙ ap (λ (b : Bool). cond b (Some t) (get m q)) (bytes_ties q x)) ∙ by (bytes_eq q x) refl
  where
    by : (b : Bool) → bytes_eq q x ≡ b → is_some (cond b (Some t) (get m q)) ≡ is_some (get m q)
    by true e = sym named ∙ ap (λ (y : List ℕ). is_some (get m y)) (sym ((bytes_decides q x).0 e))
    by false e = refl

named-kept : (m n : Policies) (ds : List (List ℕ × Tree)) → ((q : List ℕ) → is_defined n q ≡ is_defined m q) → AreNamed m ds → AreNamed n ds
named-kept m n [] same a = tt
named-kept m n (d ∷ ds) same a = (same d.0 ∙ a.0, named-kept m n ds same a.1)

pub names_stay : (m : Policies) (ds : List (List ℕ × Tree)) → AreNamed m ds → (q : List ℕ) → is_defined (with_definitions m ds) q ≡ is_defined m q
unfolding with_definitions
names_stay m [] a q = refl
names_stay m (d ∷ ds) a q =
    let kept : (y : List ℕ) → is_defined (insert m d.0 d.1) y ≡ is_defined m y = λ y. name_stays m d.0 d.1 y a.0 in
    names_stay (insert m d.0 d.1) ds (named-kept m (insert m d.0 d.1) ds kept a.1) q ∙ kept q

pub steps_keep_names : (channel : Configuration) (accepts : Accepts) (old new : World) (bytes : List ℕ) (x : Result Accepted Refused) (name : List ℕ)
    → Step channel accepts old bytes x new → is_defined new.definitions name ≡ is_defined old.definitions name
steps_keep_names channel accepts old new bytes (Ok a) name s =
    let items = items_of s.0 in
    ap (λ (w : World). is_defined w.definitions name) s.4
    ∙ names_stay old.definitions (definitions_to (job_of channel accepts old items) (length (job_of channel accepts old items).candidates)) (named_to channel accepts old items (length (job_of channel accepts old items).candidates)) name
steps_keep_names channel accepts old new bytes (Err r) name s = ap (λ (w : World). is_defined w.definitions name) s.1

-- ---- the definitions behind a block

abbrev given_by : Candidate → List ℕ → Option Tree
given_by (flagged f) q = None
given_by (opened tx ss) q = None
given_by (updates u ss) q = if bytes_eq q u.namespace then policy_of u.policy else None

neither_one : (b : Bool) (x : Option Tree) → x ≡ option_or (cond b None None) x
neither_one true x = refl
neither_one false x = refl

one_or_other : (b : Bool) (t : Tree) (x : Option Tree) → cond b (Some t) x ≡ option_or (cond b (Some t) None) x
one_or_other true t x = refl
one_or_other false t x = refl

get-put : (m : Policies) (x q : List ℕ) (o : Option Tree)
    → get (with_definitions m (option_to_list (option_map (λ policy. (x, policy)) o))) q ≡ option_or (cond (bytes_eq q x) o None) (get m q)
unfolding with_definitions
get-put m x q None = neither_one (bytes_eq q x) (get m q)
get-put m x q (Some t) =
    get-insert nat_list_cmp_total m x t q ∙ ap (λ (b : Bool). cond b (Some t) (get m q)) (bytes_ties q x) ∙ one_or_other (bytes_eq q x) t (get m q)

none_given : (m : Policies) (q : List ℕ) → get (with_definitions m []) q ≡ get m q
unfolding with_definitions
none_given m q = refl

get-given : (m : Policies) (c : Candidate) (q : List ℕ) → get (with_definitions m (definitions_by c)) q ≡ option_or (given_by c q) (get m q)
get-given m (flagged f) q = none_given m q
get-given m (opened tx ss) q = none_given m q
get-given m (updates u ss) q = get-put m u.namespace q (policy_of u.policy)

early_is_invalid : (f : EarlyFlag) → flag_of f ≢ Valid
early_is_invalid BadPayload e = absurd cc
early_is_invalid TargetChainNotFound e = absurd cc
early_is_invalid BadCreatorSignature e = absurd cc
early_is_invalid BadProposalTxId e = absurd cc
early_is_invalid DuplicateTxId e = absurd cc
early_is_invalid InvalidConfigTransaction e = absurd cc
early_is_invalid BadRwset e = absurd cc
early_is_invalid InvalidChaincode e = absurd cc

valid_is : (f : Flag) → f ≡ Valid → is_valid f ≡ true
valid_is f e = ap is_valid e

with_none : (m : Policies) → with_definitions m [] ≡ m
unfolding with_definitions
with_none m = refl

many_items : (x y : Option Item) (items : List (Option Item)) → length (x ∷ y ∷ items) == 1 ≡ false
many_items x y items = by (length (x ∷ y ∷ items) == 1) refl
  where
    by : (b : Bool) → length (x ∷ y ∷ items) == 1 ≡ b → length (x ∷ y ∷ items) == 1 ≡ false
    by true e = let one : length (x ∷ y ∷ items) ≡ 1 = eqb-true (length (x ∷ y ∷ items)) 1 e in absurd (omega (arith, one))
    by false e = e

many_give_none : (x y : Option Item) (items : List (Option Item)) (q : List ℕ) → given (x ∷ y ∷ items) q ≡ None
many_give_none None y items q = refl
many_give_none (Some (item.Tx t)) y items q = refl
many_give_none (Some (item.Update u)) y items q = refl

module _ (channel : Configuration) (accepts : Accepts) (w : World) where
  abbrev one_job : Option Item → Job
  one_job x = job_of channel accepts w (x ∷ [])

  -- a flagged candidate isn't valid
  flagged-absurd : (x : Option Item) (f : EarlyFlag) → candidate_at (one_job x) 0 ≡ flagged f → flag (one_job x) 0 ≡ Valid → ⊥
  flagged-absurd x f e valid = early_is_invalid f (sym (ap (λ (c : Candidate). flag_by c (endorsed (one_job x) 0) (reads (one_job x) 0 (running (one_job x) 0).state)) e) ∙ valid)

  given_is : (x : Option Item) → flag (one_job x) 0 ≡ Valid → (q : List ℕ) → given_by (candidate_at (one_job x) 0) q ≡ given (x ∷ []) q
  given_is None valid q = refl
  given_is (Some (item.Tx t)) valid q = by (candidate_at (one_job (Some (item.Tx t))) 0) refl
    where
      by : (c : Candidate) → candidate_at (one_job (Some (item.Tx t))) 0 ≡ c → given_by c q ≡ None
      by (flagged f) e = refl
      by (opened tx ss) e = refl
      by (updates u ss) e =
          let wrong : item.Tx t ≡ item.Update u = (update_only_if (channel_in channel w) accepts true (is_used w.first_uses [] (used_id (channel_in channel w) accepts (Some (item.Tx t)))) (item.Tx t) u ss e).same in
          absurd cc
  given_is (Some (item.Update u)) valid q = by (candidate_at (one_job (Some (item.Update u))) 0) refl
    where
      by : (c : Candidate) → candidate_at (one_job (Some (item.Update u))) 0 ≡ c → given_by c q ≡ (if bytes_eq q u.namespace then policy_of u.policy else None)
      by (flagged f) e = absurd (flagged-absurd (Some (item.Update u)) f e valid)
      by (opened tx ss) e =
          let wrong : item.Update u ≡ item.Tx tx = (open_only_if (channel_in channel w) accepts true (is_used w.first_uses [] (used_id (channel_in channel w) accepts (Some (item.Update u)))) (item.Update u) tx ss e).same in
          absurd cc
      by (updates v ss) e =
          let is : item.Update u ≡ item.Update v = (update_only_if (channel_in channel w) accepts true (is_used w.first_uses [] (used_id (channel_in channel w) accepts (Some (item.Update u)))) (item.Update u) v ss e).same in
          let same : v ≡ u = cc in
          ap (λ (y : Update). if bytes_eq q y.namespace then policy_of y.policy else None) same

  one_valid : (x : Option Item) → flag (one_job x) 0 ≡ Valid → definitions_to (one_job x) 1 ≡ definitions_by (candidate_at (one_job x) 0)
  unfolding definitions_to
  one_valid x valid = ap (λ (b : Bool). if b then definitions_by (candidate_at (one_job x) 0) else []) (valid_is (flag (one_job x) 0) valid)

  none_first : (j : Job) → definitions_to j 0 ≡ []
  unfolding definitions_to
  none_first j = refl

  pub definition_behind : (items : List (Option Item)) (q : List ℕ) → flag (job_of channel accepts w items) 0 ≡ Valid
      → get (with_definitions w.definitions (definitions_to (job_of channel accepts w items) (length (job_of channel accepts w items).candidates))) q ≡ option_or (given items q) (get w.definitions q)
  definition_behind [] q valid = ap (λ (ds : List (List ℕ × Tree)). get (with_definitions w.definitions ds) q) (none_first (job_of channel accepts w [])) ∙ none_given w.definitions q
  definition_behind (x ∷ []) q valid =
      ap (λ (ds : List (List ℕ × Tree)). get (with_definitions w.definitions ds) q) (one_valid x valid)
      ∙ get-given w.definitions (candidate_at (one_job x) 0) q
      ∙ ap (λ (o : Option Tree). option_or o (get w.definitions q)) (given_is x valid q)
  definition_behind (x ∷ y ∷ items) q valid =
      let all = x ∷ y ∷ items in
      ap (λ (ds : List (List ℕ × Tree)). get (with_definitions w.definitions ds) q) (none_to channel accepts w all (many_items x y items) (length (job_of channel accepts w all).candidates))
      ∙ none_given w.definitions q
      ∙ ap (λ (o : Option Tree). option_or o (get w.definitions q)) (sym (many_give_none x y items q))

  pub definitions_kept : (items : List (Option Item)) → flag (job_of channel accepts w items) 0 ≢ Valid
      → with_definitions w.definitions (definitions_to (job_of channel accepts w items) (length (job_of channel accepts w items).candidates)) ≡ w.definitions
  definitions_kept [] invalid = ap (with_definitions w.definitions) (none_first (job_of channel accepts w [])) ∙ with_none w.definitions
  definitions_kept (x ∷ []) invalid = ap (with_definitions w.definitions) (invalid-definitions (one_job x) 0 invalid ∙ none_first (one_job x)) ∙ with_none w.definitions
  definitions_kept (x ∷ y ∷ items) invalid =
      let all = x ∷ y ∷ items in
      ap (with_definitions w.definitions) (none_to channel accepts w all (many_items x y items) (length (job_of channel accepts w all).candidates)) ∙ with_none w.definitions
