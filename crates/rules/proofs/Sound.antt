-- Every known cell of a run of the machine is the fold's verdict.
use Rattle.std.proofs.Common.{◌≡◌, ℕ, zero, suc, Bool, true, false, Option, Some, None, List, [], ◌∷◌, map, get_or, set, ⊎_elim, inl, inr, refl, sym, ap, ◌∙◌, ◌⊎◌}
use Rattle.std.specs.Prelude.{option_map}
use Rattle.rules.specs.declared.flag.Flag.{Flag}
use Rattle.rules.specs.declared.early_flag.EarlyFlag.{EarlyFlag}
use Rattle.rules.specs.declared.early_flag.EarlyFlag.TheVariants.{BadPayload}
use Rattle.rules.specs.declared.read_verdict.ReadVerdict.{ReadVerdict}
use Rattle.rules.specs.declared.read_verdict.ReadVerdict.TheVariants.{Good}
use Rattle.rules.specs.declared.event.Event.{Event}
use Rattle.rules.specs.declared.event.Event.TheVariants.{Endorse, Reads}
use Rattle.rules.specs.Flags.{is_valid, flag_of}
use Rattle.rules.specs.Candidate.{Candidate, flagged, opened, updates}
use Rattle.rules.specs.Job.{Job, candidate_at, reads, flag_by, endorsement_by}
use Rattle.rules.specs.Fold.{running, endorsed, flag}
use Rattle.rules.specs.Machine.{Board, known, first_endorsement, first_flag, first_board, SureEndorsement, SureReads, SetsEndorsement, SetsFlag, EndorseStep, ReadsStep, MachineStep, Run, ShowsFold}
use Rattle.rules.proofs.Bridge.{valid, endorsement_under-endorsed, reads_under-valid}

-- ---- what is sure on a board that shows the fold is the fold's

pub sure_endorsement : (j : Job) (b : Board) (i : ℕ) (v : Bool) → ShowsFold j b → SureEndorsement j b i v → v ≡ endorsed j i
sure_endorsement j b i v shows sure = sym (sure (endorsed j) (λ h w lt e. sym (shows.endorsements h w e))) ∙ endorsement_under-endorsed j i

flag_behind : (o : Option Flag) (w : Bool) → option_map is_valid o ≡ Some w → (f : Flag) × (o ≡ Some f) × (is_valid f ≡ w)
flag_behind None w e = absurd cc
flag_behind (Some f) w e = (f, refl, cc)

pub sure_reads : (j : Job) (b : Board) (i : ℕ) (v : ReadVerdict) → ShowsFold j b → SureReads j b i v → v ≡ reads j i (running j i).state
sure_reads j b i v shows sure =
    sym (sure (valid j) (λ h w lt e. let k = flag_behind (known b.flags h) w e in ap is_valid (sym (shows.flags h k.0 k.1)) ∙ k.2))
    ∙ reads_under-valid j i

-- ---- a cell that becomes known

module _ {X : Type 0} where
  some_same : (x y : X) → Some x ≡ Some y → x ≡ y
  some_same x y e = cc

  pub known-set : (cells : List (Option X)) (i : ℕ) (x : X) (h : ℕ) (y : X) → known (set cells i (Some x)) h ≡ Some y → ((h ≡ i) × (x ≡ y)) ⊎ (known cells h ≡ Some y)
  known-set [] i x h y e = inr e
  known-set (c ∷ cells) zero x zero y e = inl (refl, some_same x y e)
  known-set (c ∷ cells) zero x (suc h) y e = inr e
  known-set (c ∷ cells) (suc i) x zero y e = inr e
  known-set (c ∷ cells) (suc i) x (suc h) y e = ⊎_elim (λ l. inl (ap suc l.0, l.1)) (λ r. inr r) (known-set cells i x h y e)

pub shows-set_endorsement : (j : Job) (b c : Board) (i : ℕ) (v : Bool) → ShowsFold j b → v ≡ endorsed j i → SetsEndorsement b i v c → ShowsFold j c
shows-set_endorsement j b c i v shows is e = rw e (record {
  endorsements = λ h w k. ⊎_elim (λ l. sym l.1 ∙ is ∙ ap (endorsed j) (sym l.0)) (λ r. shows.endorsements h w r) (known-set b.endorsements i v h w k);
  flags = shows.flags;
})

pub shows-set_flag : (j : Job) (b c : Board) (i : ℕ) (f : Flag) → ShowsFold j b → f ≡ flag j i → SetsFlag b i f c → ShowsFold j c
shows-set_flag j b c i f shows is e = rw e (record {
  endorsements = shows.endorsements;
  flags = λ h w k. ⊎_elim (λ l. sym l.1 ∙ is ∙ ap (flag j) (sym l.0)) (λ r. shows.flags h w r) (known-set b.flags i f h w k);
})

-- ---- steps and runs

shows-endorse : (j : Job) (i : ℕ) (cell : Option Bool) (b c : Board) → ShowsFold j b → EndorseStep j i cell b c → ShowsFold j c
shows-endorse j i (Some v) b c shows e = rw e shows
shows-endorse j i None b c shows (inl s) = shows-set_endorsement j b c i s.0 shows (sure_endorsement j b i s.0 shows s.1) s.2
shows-endorse j i None b c shows (inr s) = rw s.1 shows

-- where the endorsement is no the reads don't matter
pub flag_by-false : (c : Candidate) (v w : ReadVerdict) → flag_by c false v ≡ flag_by c false w
flag_by-false (flagged flag) v w = refl
flag_by-false (opened tx signers) v w = refl
flag_by-false (updates u signers) v w = refl

-- the flag of a candidate whose endorsement verdict is this
flag_after : (j : Job) (i : ℕ) (p : Bool) → p ≡ endorsed j i → flag_by (candidate_at j i) p (reads j i (running j i).state) ≡ flag j i
flag_after j i p is = ap (λ (q : Bool). flag_by (candidate_at j i) q (reads j i (running j i).state)) is

shows-reads : (j : Job) (i : ℕ) (cell : Option Flag) (e : Option Bool) (b c : Board) → known b.endorsements i ≡ e → ShowsFold j b → ReadsStep j i cell e b c → ShowsFold j c
shows-reads j i (Some f) e b c is shows s = rw s shows
shows-reads j i None None b c is shows s = rw s shows
shows-reads j i None (Some false) b c is shows s =
    shows-set_flag j b c i (flag_by (candidate_at j i) false Good) shows (flag_by-false (candidate_at j i) Good (reads j i (running j i).state) ∙ flag_after j i false (shows.endorsements i false is)) s
shows-reads j i None (Some true) b c is shows (inl s) =
    shows-set_flag j b c i (flag_by (candidate_at j i) true s.0) shows (ap (flag_by (candidate_at j i) true) (sure_reads j b i s.0 shows s.1) ∙ flag_after j i true (shows.endorsements i true is)) s.2
shows-reads j i None (Some true) b c is shows (inr s) = rw s.1 shows

pub shows-step : (j : Job) (e : Event) (b c : Board) → ShowsFold j b → MachineStep j e b c → ShowsFold j c
shows-step j (Endorse i) b c shows (inl s) = shows-endorse j i (known b.endorsements i) b c shows s.1
shows-step j (Endorse i) b c shows (inr s) = rw s.1 shows
shows-step j (Reads i) b c shows (inl s) = shows-reads j i (known b.flags i) (known b.endorsements i) b c refl shows s.1
shows-step j (Reads i) b c shows (inr s) = rw s.1 shows

pub shows-run : (j : Job) (es : List Event) (b c : Board) → ShowsFold j b → Run j b es c → ShowsFold j c
shows-run j [] b c shows e = rw e shows
shows-run j (e ∷ es) b c shows r = shows-run j es r.0 c (shows-step j e b r.0 shows r.1) r.2

-- ---- the first board

known-first_endorsement : (cs : List Candidate) (i : ℕ) (v : Bool) → known (map first_endorsement cs) i ≡ Some v → (f : EarlyFlag) × (get_or cs i (flagged BadPayload) ≡ flagged f) × (v ≡ false)
known-first_endorsement [] i v e = absurd cc
known-first_endorsement (flagged f ∷ cs) zero v e = (f, refl, cc)
known-first_endorsement (opened tx signers ∷ cs) zero v e = absurd cc
known-first_endorsement (updates u signers ∷ cs) zero v e = absurd cc
known-first_endorsement (c ∷ cs) (suc i) v e = known-first_endorsement cs i v e

known-first_flag : (cs : List Candidate) (i : ℕ) (f : Flag) → known (map first_flag cs) i ≡ Some f → (g : EarlyFlag) × (get_or cs i (flagged BadPayload) ≡ flagged g) × (flag_of g ≡ f)
known-first_flag [] i f e = absurd cc
known-first_flag (flagged g ∷ cs) zero f e = (g, refl, some_same (flag_of g) f e)
known-first_flag (opened tx signers ∷ cs) zero f e = absurd cc
known-first_flag (updates u signers ∷ cs) zero f e = absurd cc
known-first_flag (c ∷ cs) (suc i) f e = known-first_flag cs i f e

pub shows-first : (j : Job) → ShowsFold j (first_board j)
shows-first j = record {
  endorsements = λ i v e.
      let k = known-first_endorsement j.candidates i v e in
      k.2 ∙ ap (endorsement_by j.admin j.definitions j.state (running j i).touched) (sym k.1);
  flags = λ i f e.
      let k = known-first_flag j.candidates i f e in
      sym k.2 ∙ ap (λ (c : Candidate). flag_by c (endorsed j i) (reads j i (running j i).state)) (sym k.1);
}

-- every list of events leads from the first board to boards that show the fold
pub runs_show : (j : Job) (es : List Event) (b : Board) → Run j (first_board j) es b → ShowsFold j b
runs_show j es b r = shows-run j es (first_board j) b (shows-first j) r
