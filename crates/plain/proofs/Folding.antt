-- What runs along in the code is what runs along in the definition.
use Rattle.std.proofs.Common.{◌≡◌, ℕ, suc, ◌+◌, ◌<◌, cond, List, [], ◌∷◌, ◌++◌, length, get_or, map, Option, sym, ap, ◌∙◌, add-one, arith}
use Rattle.std.specs.List.{range_with_len}
use Rattle.std.proofs.lemmas.List.{get_or-map, length-map}
use Rattle.std.proofs.lemmas.List.FromFn.{map-range_with_len_more}
use Rattle.policy.specs.Tree.{Tree}
use Rattle.policy.specs.Policies.{Policies}
use Rattle.rules.specs.declared.early_flag.EarlyFlag.TheVariants.{BadPayload}
use Rattle.rules.specs.Flags.{is_valid}
use Rattle.rules.specs.State.{State, with_changes}
use Rattle.rules.specs.Candidate as candidate
use Rattle.rules.specs.Job.{Job, candidate_at, version_of, touched_by, changes_by, entries_by, definitions_by, endorsement_by, reads_by, flag_by}
use Rattle.rules.specs.Fold.{running, endorsed, flag, changes_to, entries_to, definitions_to}
use Rattle.rules.specs.Delta.{changes_in, entries_in, definitions_in}
use Rattle.rules.proofs.Deltas.{changes_to-running}
use Rattle.plain.specs.declared.candidate.Candidate.{Candidate}
use Rattle.plain.specs.declared.fold.Running.{Running}
use Rattle.plain.specs.Keys.{keys_of}
use Rattle.plain.specs.Seen.{seen, job_over}
use Rattle.plain.specs.Taking.{state_in, endorsement_in, next_flag, IsRunning, IsTaken, IsFolded}

module _ (admin : Option Tree) (definitions : Policies) (number : ℕ) (s : State) (cs : List Candidate) where
  abbrev j : Job
  j = job_over admin definitions number s cs

  candidate-seen : (i : ℕ) (c : Candidate) → i < length cs → c ≡ get_or cs i c → candidate_at j i ≡ seen c
  candidate-seen i c lt is = get_or-map seen cs i c (candidate.flagged BadPayload) lt ∙ ap seen (sym is)

  module _ (i : ℕ) (c : candidate.Candidate) (old : Running) (here : candidate_at j i ≡ c) (before : IsRunning j i old) where
    state-is : state_in s old ≡ (running j i).state
    state-is = ap (with_changes s) before.changes ∙ changes_to-running j i

    endorsement-is : endorsement_in admin definitions s old c ≡ endorsed j i
    endorsement-is = ap (λ t. endorsement_by admin definitions s t c) before.touched ∙ ap (endorsement_by admin definitions s (running j i).touched) (sym here)

    flag-is : next_flag admin definitions s old c ≡ flag j i
    flag-is =
        ap (λ e. flag_by c e (reads_by (state_in s old) c)) endorsement-is
        ∙ ap (λ t. flag_by c (endorsed j i) (reads_by t c)) state-is
        ∙ ap (λ x. flag_by x (endorsed j i) (reads_by (running j i).state x)) (sym here)

    touched-is : cond (endorsement_in admin definitions s old c) (keys_of old.touched.items ++ touched_by c) (keys_of old.touched.items) ≡ (running j (suc i)).touched
    unfolding running
    touched-is =
        ap (λ e. cond e (keys_of old.touched.items ++ touched_by c) (keys_of old.touched.items)) endorsement-is
        ∙ ap (λ t. cond (endorsed j i) (t ++ touched_by c) t) before.touched
        ∙ ap (λ x. cond (endorsed j i) ((running j i).touched ++ touched_by x) (running j i).touched) (sym here)

    changes-is : changes_in old.changes.items ++ cond (is_valid (next_flag admin definitions s old c)) (changes_by (version_of j i) c (state_in s old)) [] ≡ changes_to j (suc i)
    unfolding changes_to
    changes-is =
        ap (λ l. l ++ cond (is_valid (next_flag admin definitions s old c)) (changes_by (version_of j i) c (state_in s old)) []) before.changes
        ∙ ap (λ f. changes_to j i ++ cond (is_valid f) (changes_by (version_of j i) c (state_in s old)) []) flag-is
        ∙ ap (λ t. changes_to j i ++ cond (is_valid (flag j i)) (changes_by (version_of j i) c t) []) state-is
        ∙ ap (λ x. changes_to j i ++ cond (is_valid (flag j i)) (changes_by (version_of j i) x (running j i).state) []) (sym here)

    entries-is : entries_in old.entries.items ++ cond (is_valid (next_flag admin definitions s old c)) (entries_by (version_of j i) c) [] ≡ entries_to j (suc i)
    unfolding entries_to
    entries-is =
        ap (λ l. l ++ cond (is_valid (next_flag admin definitions s old c)) (entries_by (version_of j i) c) []) before.entries
        ∙ ap (λ f. entries_to j i ++ cond (is_valid f) (entries_by (version_of j i) c) []) flag-is
        ∙ ap (λ x. entries_to j i ++ cond (is_valid (flag j i)) (entries_by (version_of j i) x) []) (sym here)

    definitions-is : definitions_in old.definitions.items ++ cond (is_valid (next_flag admin definitions s old c)) (definitions_by c) [] ≡ definitions_to j (suc i)
    unfolding definitions_to
    definitions-is =
        ap (λ l. l ++ cond (is_valid (next_flag admin definitions s old c)) (definitions_by c) []) before.definitions
        ∙ ap (λ f. definitions_to j i ++ cond (is_valid f) (definitions_by c) []) flag-is
        ∙ ap (λ x. definitions_to j i ++ cond (is_valid (flag j i)) (definitions_by x) []) (sym here)

    flags-is : old.flags.items ++ next_flag admin definitions s old c ∷ [] ≡ map (flag j) (range_with_len 0 (i + 1))
    flags-is =
        ap (λ l. l ++ next_flag admin definitions s old c ∷ []) before.flags
        ∙ ap (λ f. map (flag j) (range_with_len 0 i) ++ f ∷ []) flag-is
        ∙ sym (map-range_with_len_more (flag j) 0 i i (omega arith))

  -- one candidate more was taken
  pub running-more : (i : ℕ) (c : Candidate) (old new : Running) → i < length cs → c ≡ get_or cs i c → IsRunning j i old
      → IsTaken admin definitions s (version_of j i) (seen c) old new
      → new.flags.items ≡ old.flags.items ++ next_flag admin definitions s old (seen c) ∷ []
      → IsRunning j (i + 1) new
  running-more i c old new lt is before taken flags =
      let here = candidate-seen i c lt is in record {
        touched = taken.touched ∙ touched-is i (seen c) old here before ∙ ap (λ k. (running j k).touched) (sym (add-one i));
        changes = taken.changes ∙ changes-is i (seen c) old here before ∙ ap (changes_to j) (sym (add-one i));
        entries = taken.entries ∙ entries-is i (seen c) old here before ∙ ap (entries_to j) (sym (add-one i));
        definitions = taken.definitions ∙ definitions-is i (seen c) old here before ∙ ap (definitions_to j) (sym (add-one i));
        flags = flags ∙ flags-is i (seen c) old here before;
      }

  pub running-first : (r : Running) → r.touched.items ≡ [] → r.changes.items ≡ [] → r.entries.items ≡ [] → r.definitions.items ≡ [] → r.flags.items ≡ [] → IsRunning j 0 r
  unfolding running changes_to entries_to definitions_to
  running-first r touched changes entries defined flags = record {
    touched = ap keys_of touched;
    changes = ap changes_in changes;
    entries = ap entries_in entries;
    definitions = ap definitions_in defined;
    flags = flags;
  }

  -- all candidates were taken
  pub folded-all : (r : Running) → IsRunning j (length cs) r → IsFolded j r
  folded-all r all =
      let count : length cs ≡ length j.candidates = sym (length-map cs seen) in record {
        changes = all.changes ∙ ap (changes_to j) count;
        entries = all.entries ∙ ap (entries_to j) count;
        definitions = all.definitions ∙ ap (definitions_to j) count;
        flags = all.flags ∙ ap (λ n. map (flag j) (range_with_len 0 n)) count;
      }
