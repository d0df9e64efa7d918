-- What was taken in and folded is what the next block makes of any world that holds this.
use Rattle.std.proofs.Common.{◌≡◌, ℕ, ◌==◌, List, [], length, map, Option, sym, ap, ◌∙◌}
use Rattle.std.proofs.lemmas.List.{length-map}
use Rattle.std.proofs.lemmas.List.FromFn.{length-map-range_with_len}
use Rattle.transaction.specs.declared.item.Item.{Item}
use Rattle.channel.specs.Configuration.{Configuration}
use Rattle.policy.specs.Tree.{Tree}
use Rattle.policy.specs.Policies.{Policies}
use Rattle.policy_eval.specs.Accepts.{Accepts}
use Rattle.rules.specs.declared.committed.CommittedBlock.{CommittedBlock}
use Rattle.rules.specs.declared.delta.NewUse.{NewUse}
use Rattle.rules.specs.Candidate as candidate
use Rattle.rules.specs.Commit.{job_of, uses_from, committed}
use Rattle.rules.specs.Delta.{changes_in, entries_in, uses_in, definitions_in}
use Rattle.rules.specs.Definitions.{with_definitions}
use Rattle.rules.specs.FirstUses.{with_uses}
use Rattle.rules.specs.Fold.{flag, final_state, entries_to, definitions_to}
use Rattle.rules.specs.History.{with_entries}
use Rattle.rules.specs.Job.{Job}
use Rattle.rules.specs.World.{World}
use Rattle.rules.proofs.Candidates.{length-candidates_from}
use Rattle.rules.proofs.Deltas.{final_state-by_changes}
use Rattle.plain.specs.declared.candidate.Candidate.{Candidate}
use Rattle.plain.specs.declared.fold.Running.{Running}
use Rattle.plain.specs.Held.{Held, held_in, held_after, IsBefore}
use Rattle.plain.specs.Seen.{seen, channel_with, job_over, next_job}
use Rattle.plain.specs.Taking.{IsFolded}

module _ (channel : Configuration) (accepts : Accepts) (number : ℕ) (h : Held) (items : List (Option Item)) where
  abbrev job : Job
  job = next_job channel accepts number h items

  -- one candidate, one id or none, and one flag for each item
  pub count-candidates : (cs : List Candidate) → map seen cs ≡ job.candidates → length cs ≡ length items
  count-candidates cs are =
      let seen_count : length (map seen cs) ≡ length cs = length-map cs seen in
      sym seen_count ∙ ap length are ∙ length-candidates_from (channel_with channel h) accepts (length items == 1) h.first_uses [] items

  pub count-ids : (ids : List (Option (List ℕ))) → ids ≡ map (candidate.used_id channel accepts) items → length ids ≡ length items
  count-ids ids are = ap length are ∙ length-map items _

  pub same_job : (admin : Option Tree) (definitions : Policies) (cs : List Candidate) → admin ≡ channel.admin → definitions ≡ h.definitions → map seen cs ≡ job.candidates
      → job_over admin definitions number h.state cs ≡ job
  same_job admin definitions cs may named are = λ i. record { number = number; state = h.state; definitions = named i; admin = may i; candidates = are i }

  pub count-flags : (r : Running) → IsFolded job r → length r.flags.items ≡ length items
  count-flags r folded = ap length folded.flags ∙ length-map-range_with_len (flag job) 0 (length job.candidates) ∙ length-candidates_from (channel_with channel h) accepts (length items == 1) h.first_uses [] items

  module _ (w : World) (before : IsBefore w number h) where
    pub job_is : job ≡ job_of channel accepts w items
    job_is = λ i. next_job channel accepts (sym before.0 i) (sym before.1 i) items

    -- what a job makes of what is held
    abbrev after : Job → Held → Held
    after j held = record {
      state = final_state j;
      history = with_entries held.history (entries_to j (length j.candidates));
      first_uses = with_uses held.first_uses (uses_from j 0 (map (candidate.used_id channel accepts) items));
      definitions = with_definitions held.definitions (definitions_to j (length j.candidates));
    }

    pub held_next : (kept : CommittedBlock) (r : Running) (uses : List NewUse) → IsFolded job r → uses_in uses ≡ uses_from job 0 (map (candidate.used_id channel accepts) items)
        → held_after h (changes_in r.changes.items) (entries_in r.entries.items) (uses_in uses) (definitions_in r.definitions.items)
        ≡ held_in (committed channel accepts w items kept)
    held_next kept r uses folded used =
        (λ i. held_after h (folded.changes i) (folded.entries i) (used i) (folded.definitions i))
        ∙ (λ i. record (after job h) { state = sym (final_state-by_changes job) i })
        ∙ (λ i. after (job_is i) (sym before.1 i))
