-- The first fault of a candidate's namespaces.
use Rattle.std.proofs.Common.{◌≡◌, ℕ, List, ◌∷◌, map, Bool, true, None, ap, subst, ◌∙◌}
use Rattle.std.specs.Prelude.{if◌then◌else◌}
use Rattle.std.specs.List.{list_all}
use Rattle.transaction.specs.declared.transaction.NsSet.{NsSet}
use Rattle.rules.specs.declared.read_verdict.ReadVerdict.{ReadVerdict}
use Rattle.rules.specs.declared.read_verdict.ReadVerdict.TheVariants.{Good, Stale, Phantom}
use Rattle.rules.specs.Candidate.{Candidate}
use Rattle.rules.specs.Job.{Job, reads_by}
use Rattle.rules.specs.Ranges.{range_holds}
use Rattle.rules.specs.Reads.{read_holds, set_verdict, or_next, first_fault}
use Rattle.rules.specs.Assignment.{Assignment, state_under, reads_under}
use Rattle.rules.specs.Depends.{looks_at, ReadsDepend}
use Rattle.rules.specs.Sure.{Agrees, Sure}
use Rattle.rules.proofs.Locality.{reads_depend_on_writers}
use Rattle.candidates.specs.declared.open_tx.OpenTx.{OpenTx}
use Rattle.key_chains.specs.declared.decision.Decision.{Decision}
use Rattle.key_chains.specs.declared.decision.Decision.TheVariants as decision
use Rattle.key_chains.specs.Decided.{MatchDecision}
use Rattle.key_chains.specs.Job.{IsOpened}
use Rattle.key_chains.specs.Known.{Known, Grows, valid_in}
use Rattle.mvcc.specs.Waiting.{WaitsFor, sets_at}
use Rattle.mvcc.proofs.Agreeing.{agrees_before}

-- what the namespaces from here on find
abbrev found : Job → Assignment → ℕ → List NsSet → ReadVerdict
found j called i sets = first_fault (map (set_verdict (state_under j called i)) sets)

-- the namespaces that are left decide
abbrev pub SetsLeft : Job → Known → ℕ → List NsSet → List NsSet → Type 0
SetsLeft j known i all left =
    (called : Assignment) → Agrees (valid_in known) i called → first_fault (map (set_verdict (state_under j called i)) all) ≡ first_fault (map (set_verdict (state_under j called i)) left)

pub one_set : (j : Job) (old new : Known) (i : ℕ) (all left rest : List NsSet) (s : NsSet) (v : ReadVerdict) → Grows old new → left ≡ s ∷ rest → SetsLeft j old i all left
    → ((called : Assignment) → Agrees (valid_in new) i called → set_verdict (state_under j called i) s ≡ v)
    → (called : Assignment) → Agrees (valid_in new) i called → found j called i all ≡ or_next v (found j called i rest)
one_set j old new i all left rest s v grows first so_far here called agrees =
    so_far called (agrees_before old new i called grows agrees)
    ∙ ap (found j called i) first
    ∙ ap (λ (w : ReadVerdict). or_next w (found j called i rest)) (here called agrees)

-- of the open candidate it is the verdict, and what it waits for is what the verdict depends on
module _ (j : Job) (known : Known) (i : ℕ) (o : OpenTx) (d : Decision ReadVerdict) (opened : IsOpened j i o) where
  abbrev IsDecided : List NsSet → Type 0
  IsDecided sets = MatchDecision d (λ v. Sure (λ called n. found j called n sets) (valid_in known) i v) (WaitsFor j known i (sets_at sets))

  by_sets : (e : Decision ReadVerdict) → MatchDecision e (λ v. Sure (λ called n. found j called n o.tx.namespaces) (valid_in known) i v) (WaitsFor j known i (sets_at o.tx.namespaces))
      → MatchDecision e (λ v. Sure (reads_under j) (valid_in known) i v) (λ h. ReadsDepend j i h × (known.flag h ≡ None))
  by_sets (decision.Sure v) sure = λ called agrees. ap (reads_by (state_under j called i)) opened ∙ sure called agrees
  by_sets (decision.Blocked h) waits = (reads_depend_on_writers j waits.key i h (ap (λ (c : Candidate). looks_at c waits.key) opened ∙ waits.is_looked_at) waits.depends, waits.unknown)

  pub decided_reads : (sets : List NsSet) → sets ≡ o.tx.namespaces → IsDecided sets → MatchDecision d (λ v. Sure (reads_under j) (valid_in known) i v) (λ h. ReadsDepend j i h × (known.flag h ≡ None))
  decided_reads sets all decided = by_sets d (subst IsDecided all decided)

-- ---- one namespace

-- its reads hold, so its ranges decide
pub ranges_decide : (j : Job) (old new : Known) (i : ℕ) (s : NsSet) (b : Bool) → Grows old new
    → ((called : Assignment) → Agrees (valid_in old) i called → list_all (read_holds (state_under j called i) s.name) s.reads ≡ true)
    → ((called : Assignment) → Agrees (valid_in new) i called → list_all (range_holds (state_under j called i) s.name) s.ranges ≡ b)
    → (called : Assignment) → Agrees (valid_in new) i called → set_verdict (state_under j called i) s ≡ (if b then Good else Phantom)
ranges_decide j old new i s b grows reads ranges called agrees =
    λ x. if reads called (agrees_before old new i called grows agrees) x then (if ranges called agrees x then Good else Phantom) else Stale
