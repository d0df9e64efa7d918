-- One place: its item changes each part as its candidate does.
use Rattle.std.proofs.Common.{◌≡◌, ℕ, Bool, true, false, List, [], ◌∷◌, ◌++◌, map, Option, Some, None, refl, sym, subst, ◌∙◌}
use Rattle.std.specs.Prelude.{if◌then◌else◌, is_none, option_map, option_to_list}
use Rattle.transaction.specs.declared.item.Item.{Item}
use Rattle.transaction.specs.declared.item.Item.TheVariants as item
use Rattle.transaction.specs.declared.transaction.Version.{Version}
use Rattle.policy.specs.Meaning.{policy_of}
use Rattle.policy.specs.Policies.{Policies}
use Rattle.policy.specs.Tree.{Tree}
use Rattle.rules.specs.declared.early_flag.EarlyFlag.{EarlyFlag}
use Rattle.rules.specs.declared.early_flag.EarlyFlag.TheVariants as early
use Rattle.rules.specs.declared.first_use.FirstUse.{FirstUse}
use Rattle.rules.specs.declared.flag.Flag.{Flag}
use Rattle.rules.specs.Flags.{is_valid}
use Rattle.rules.specs.State.{State, with_changes}
use Rattle.rules.specs.History.{with_entries}
use Rattle.rules.specs.FirstUses.{with_uses}
use Rattle.rules.specs.Definitions.{with_definitions}
use Rattle.rules.specs.Candidate.{Candidate, flagged, origin_of, origin_fault, content_fault, flagged_or, open_of, used_id}
use Rattle.rules.specs.Job.{state_by, entries_by, definitions_by, touched_by}
use Rattle.rules.proofs.HistoryEntries.{with_entries-none}
use Rattle.rules.proofs.IdUses.{with_uses-none, with_uses-one}
use Rattle.theorem.specs.Serial.{Setting, SoFar, with_policy, applied, with_use, policy_keys_of, all_pass, origin_tests, tests_before_reads, taken}
use Rattle.theorem.proofs.OneFlag.{channel_of, endorsed, here, own, never_valid, flag_same, endorsed_same, origin_same}

-- the last one of a list, or this one if it is empty
abbrev pub last_or : {A : Type 0} → Option A → List A → Option A
last_or o [] = o
last_or o (x ∷ xs) = last_or (Some x) xs

-- ---- what a candidate changes

-- if its item is valid or not, and endorsed or not
record Makes (now : SoFar) (v : Version) (i : Item) (valid endorsed : Bool) (c : Candidate) : Type 0 where
  state : (if valid then applied v i now else now).state ≡ (if valid then state_by v c now.state else now.state)
  history : (if valid then applied v i now else now).history ≡ with_entries now.history (if valid then entries_by v c else [])
  policies : (if valid then applied v i now else now).policies ≡ with_definitions now.policies (if valid then definitions_by c else [])
  replaced : (if valid then applied v i now else now).replaced ≡ last_or now.replaced (if valid then definitions_by c else [])
  policy_written : (if endorsed then now.policy_written ++ policy_keys_of i else now.policy_written) ≡ (if endorsed then now.policy_written ++ touched_by c else now.policy_written)

definitions-none : (d : Policies) → d ≡ with_definitions d []
unfolding with_definitions
definitions-none d = refl

no_changes : (s : State) → s ≡ with_changes s []
unfolding with_changes
no_changes s = refl

module _ (now : SoFar) (v : Version) where
  flagged_makes : (i : Item) (f : EarlyFlag) → Makes now v i false false (flagged f)
  flagged_makes i f = record {
    state = refl;
    history = sym (with_entries-none now.history);
    policies = definitions-none now.policies;
    replaced = refl;
    policy_written = refl;
  }

  invalid_makes : (i : Item) (e : Bool) (c : Candidate) → policy_keys_of i ≡ touched_by c → Makes now v i false e c
  invalid_makes i e c same = record {
    state = refl;
    history = sym (with_entries-none now.history);
    policies = definitions-none now.policies;
    replaced = refl;
    policy_written = λ k. if e then now.policy_written ++ same k else now.policy_written;
  }

  policy_put : (chaincode : List ℕ) (o : Option Tree)
      → ((with_policy now chaincode o).policies ≡ with_definitions now.policies (option_to_list (option_map (λ policy. (chaincode, policy)) o)))
      × ((with_policy now chaincode o).replaced ≡ last_or now.replaced (option_to_list (option_map (λ policy. (chaincode, policy)) o)))
      × ((with_policy now chaincode o).state ≡ with_changes now.state [])
      × ((with_policy now chaincode o).history ≡ now.history)
  unfolding with_definitions with_changes
  policy_put chaincode None = (refl, refl, refl, refl)
  policy_put chaincode (Some policy) = (refl, refl, refl, refl)

  open_makes : (accepts : _) (i : Item) (valid endorsed : Bool) → Makes now v i valid endorsed (open_of accepts i)
  open_makes accepts (item.Tx tx) true endorsed = record {
    state = refl;
    history = refl;
    policies = definitions-none now.policies;
    replaced = refl;
    policy_written = refl;
  }
  open_makes accepts (item.Update u) true endorsed =
      let put = policy_put u.namespace (policy_of u.policy) in
      record {
        state = put.2;
        history = put.3 ∙ sym (with_entries-none now.history);
        policies = put.0;
        replaced = put.1;
        policy_written = refl;
      }
  open_makes accepts (item.Tx tx) false endorsed = invalid_makes (item.Tx tx) endorsed (open_of accepts (item.Tx tx)) refl
  open_makes accepts (item.Update u) false endorsed = invalid_makes (item.Update u) endorsed (open_of accepts (item.Update u)) refl

module _ (s : Setting) (now : SoFar) (v : Version) where
  -- with the candidate's own flag and endorsement
  abbrev MakesSo : Item → Candidate → Type 0
  MakesSo i c = Makes now v i (is_valid (here s now c)) (endorsed s now c) c

  makes_so : (i : Item) (origin content : Option EarlyFlag) → MakesSo i (flagged_or origin (flagged_or content (open_of s.accepts i)))
  makes_so i (Some f) content = subst (λ (b : Bool). Makes now v i b false (flagged f)) (sym (never_valid f)) (flagged_makes now v i f)
  makes_so i None (Some f) = subst (λ (b : Bool). Makes now v i b false (flagged f)) (sym (never_valid f)) (flagged_makes now v i f)
  makes_so i None None = open_makes now v s.accepts i (is_valid (here s now (open_of s.accepts i))) (endorsed s now (open_of s.accepts i))

-- ---- one place

abbrev pub use_of : Setting → ℕ → Flag → FirstUse
use_of s place flag = record { block = s.number; place = place; flag = flag }

-- after a place with this candidate, whose item uses this id
pub record Next (s : Setting) (place : ℕ) (now : SoFar) (id : Option (List ℕ)) (c : Candidate) (n : SoFar) : Type 0 where
  pub flags : n.flags ≡ now.flags ++ here s now c ∷ []
  pub state : n.state ≡ (if is_valid (here s now c) then state_by (record { block = s.number; tx = place }) c now.state else now.state)
  pub history : n.history ≡ with_entries now.history (if is_valid (here s now c) then entries_by (record { block = s.number; tx = place }) c else [])
  pub policies : n.policies ≡ with_definitions now.policies (if is_valid (here s now c) then definitions_by c else [])
  pub replaced : n.replaced ≡ last_or now.replaced (if is_valid (here s now c) then definitions_by c else [])
  pub policy_written : n.policy_written ≡ (if endorsed s now c then now.policy_written ++ touched_by c else now.policy_written)
  pub first_uses : n.first_uses ≡ with_uses now.first_uses (map (λ x. (x, use_of s place (here s now c))) (option_to_list id))

module _ (s : Setting) (place : ℕ) (now : SoFar) where
  pub none_next : Next s place now None (flagged early.BadPayload) (taken s place now None)
  none_next = record {
    flags = refl;
    state = refl;
    history = sym (with_entries-none now.history);
    policies = definitions-none now.policies;
    replaced = refl;
    policy_written = refl;
    first_uses = sym (with_uses-none now.first_uses);
  }

  abbrev v : Version
  v = record { block = s.number; tx = place }

  uses_next : (i : Item) (flag : Flag) (b : Bool)
      → (if b then with_use now.first_uses (origin_of i).id (use_of s place flag) else now.first_uses)
      ≡ with_uses now.first_uses (map (λ x. (x, use_of s place flag)) (option_to_list (if b then Some (origin_of i).id else None)))
  uses_next i flag true = sym (with_uses-one now.first_uses ((origin_of i).id, use_of s place flag))
  uses_next i flag false = sym (with_uses-none now.first_uses)

  -- an item with any flag
  abbrev taken_as : Item → Flag → SoFar
  taken_as i flag =
      let after = if is_valid flag then applied v i now else now in
      record after {
        flags = now.flags ++ flag ∷ [];
        first_uses = if all_pass (origin_tests s i) then with_use now.first_uses (origin_of i).id (use_of s place flag) else now.first_uses;
        policy_written = if all_pass (tests_before_reads s now i) then now.policy_written ++ policy_keys_of i else now.policy_written;
      }

  next_as : (i : Item) → Next s place now (used_id (channel_of s) s.accepts (Some i)) (own s now i) (taken_as i (here s now (own s now i)))
  next_as i =
      let m = makes_so s now v i (origin_fault (channel_of s) s.accepts i) (content_fault (channel_of s) s.alone _ i) in
      record {
        flags = refl;
        state = m.state;
        history = m.history;
        policies = m.policies;
        replaced = m.replaced;
        policy_written = (λ k. if endorsed_same s now i k then now.policy_written ++ policy_keys_of i else now.policy_written) ∙ m.policy_written;
        first_uses =
            (λ k. if origin_same s i k then with_use now.first_uses (origin_of i).id (use_of s place (here s now (own s now i))) else now.first_uses)
            ∙ uses_next i (here s now (own s now i)) (is_none (origin_fault (channel_of s) s.accepts i));
      }

  pub some_next : (i : Item) → Next s place now (used_id (channel_of s) s.accepts (Some i)) (own s now i) (taken s place now (Some i))
  some_next i = subst (λ (flag : Flag). Next s place now (used_id (channel_of s) s.accepts (Some i)) (own s now i) (taken_as i flag)) (sym (flag_same s now i)) (next_as i)
