-- Runs of the machine go on, keep what is known, decide what they can, and never disagree.
use Rattle.std.proofs.Common.{◌≡◌, ◌⊎◌, ℕ, zero, suc, ◌<◌, ◌≤◌, Bool, true, false, leb, Option, Some, None, List, [], ◌∷◌, length, set, inl, inr, refl, sym, ap, subst, ◌∙◌, arith}
use Rattle.std.specs.Prelude.{option_map, is_some, IsSome}
use Rattle.std.specs.List.{list_any}
use Rattle.std.proofs.lemmas.Bool.Decides.{leb_tells}
use Rattle.std.proofs.lemmas.List.{get_or-set_same, length-set, length-map}
use Rattle.rules.specs.declared.flag.Flag.{Flag}
use Rattle.rules.specs.declared.read_verdict.ReadVerdict.TheVariants.{Good}
use Rattle.rules.specs.declared.event.Event.{Event}
use Rattle.rules.specs.declared.event.Event.TheVariants.{Endorse, Reads}
use Rattle.rules.specs.Flags.{is_valid}
use Rattle.rules.specs.Job.{Job, candidate_at, touched_by, operated_by, flag_by}
use Rattle.rules.specs.Assignment.{endorsement_under, reads_under}
use Rattle.rules.specs.Depends.{shares_key, looks_at, EndorsementDepends, ReadsDepend}
use Rattle.rules.specs.Machine.{Board, known, known_valid, first_endorsement, first_flag, first_board, SetsEndorsement, SetsFlag, EndorseStep, ReadsStep, MachineStep, Run}
use Rattle.rules.proofs.Certainty.{as_known, agrees-as_known}
use Rattle.rules.proofs.Locality.{sure_endorsement_if_known, sure_reads_if_known}
use Rattle.rules.proofs.Sound.{runs_show}

-- ---- going on

-- below n something is asked for and unknown, or all that is asked for is known
waiting_or_known : {X : Type 0} (asked : ℕ → Bool) (cell : ℕ → Option X) (n : ℕ)
    → ((h : ℕ) × (h < n) × (asked h ≡ true) × (cell h ≡ None)) ⊎ ((h : ℕ) → h < n → asked h ≡ true → IsSome (cell h))
waiting_or_known asked cell zero = inr (λ h lt is. absurd (omega arith))
waiting_or_known {X} asked cell (suc n) = by (asked n) refl (cell n) refl (waiting_or_known asked cell n)
  where
    below : ((h : ℕ) → h < n → asked h ≡ true → IsSome (cell h)) → (asked n ≡ true → IsSome (cell n)) → (h : ℕ) → ((leb n h ≡ true) × (n ≤ h)) ⊎ ((leb n h ≡ false) × (h < n)) → h < suc n → asked h ≡ true → IsSome (cell h)
    below all last h (inl d) lt is = let same : n ≡ h = omega arith in subst (λ (x : ℕ). asked x ≡ true → IsSome (cell x)) same last is
    below all last h (inr d) lt is = all h d.1 is

    by : (b : Bool) → asked n ≡ b → (o : Option X) → cell n ≡ o
        → ((h : ℕ) × (h < n) × (asked h ≡ true) × (cell h ≡ None)) ⊎ ((h : ℕ) → h < n → asked h ≡ true → IsSome (cell h))
        → ((h : ℕ) × (h < suc n) × (asked h ≡ true) × (cell h ≡ None)) ⊎ ((h : ℕ) → h < suc n → asked h ≡ true → IsSome (cell h))
    by b e o k (inl w) = inl (w.0, omega arith, w.2, w.3)
    by true e None k (inr all) = inl (n, omega arith, e, k)
    by true e (Some x) k (inr all) = inr (λ h lt is. below all (λ a. ap is_some k) h (leb_tells n h) lt is)
    by false e o k (inr all) = inr (λ h lt is. below all (λ a. absurd (let wrong : false ≡ true = sym e ∙ a in cc)) h (leb_tells n h) lt is)

known_flag_counts : (o : Option Flag) → IsSome o → IsSome (option_map is_valid o)
known_flag_counts None some = some
known_flag_counts (Some f) some = refl

endorse_from : (j : Job) (i : ℕ) (cell : Option Bool) (b : Board) → (c : Board) × EndorseStep j i cell b c
endorse_from j i (Some v) b = (b, refl)
endorse_from j i None b = by (waiting_or_known (λ h. shares_key (touched_by (candidate_at j h)) (operated_by (candidate_at j i))) (known b.endorsements) i)
  where
    by : ((h : ℕ) × (h < i) × (shares_key (touched_by (candidate_at j h)) (operated_by (candidate_at j i)) ≡ true) × (known b.endorsements h ≡ None))
        ⊎ ((h : ℕ) → h < i → shares_key (touched_by (candidate_at j h)) (operated_by (candidate_at j i)) ≡ true → IsSome (known b.endorsements h))
        → (c : Board) × EndorseStep j i None b c
    by (inl w) = (b, inr ((w.0, (w.1, w.2), w.3), refl))
    by (inr all) =
        let v = endorsement_under j (as_known (known b.endorsements)) i in
        (record b { endorsements = set b.endorsements i (Some v) }, inl (v, sure_endorsement_if_known (known b.endorsements) i j (as_known (known b.endorsements)) (agrees-as_known (known b.endorsements) i) (λ h d. all h d.0 d.1), refl))

reads_from : (j : Job) (i : ℕ) (cell : Option Flag) (e : Option Bool) (b : Board) → (c : Board) × ReadsStep j i cell e b c
reads_from j i (Some f) e b = (b, refl)
reads_from j i None None b = (b, refl)
reads_from j i None (Some false) b = (record b { flags = set b.flags i (Some (flag_by (candidate_at j i) false Good)) }, refl)
reads_from j i None (Some true) b = by (waiting_or_known (λ h. list_any (looks_at (candidate_at j i)) (operated_by (candidate_at j h))) (known b.flags) i)
  where
    by : ((h : ℕ) × (h < i) × (list_any (looks_at (candidate_at j i)) (operated_by (candidate_at j h)) ≡ true) × (known b.flags h ≡ None))
        ⊎ ((h : ℕ) → h < i → list_any (looks_at (candidate_at j i)) (operated_by (candidate_at j h)) ≡ true → IsSome (known b.flags h))
        → (c : Board) × ReadsStep j i None (Some true) b c
    by (inl w) = (b, inr ((w.0, (w.1, w.2), w.3), refl))
    by (inr all) =
        let v = reads_under j (as_known (known_valid b)) i in
        (record b { flags = set b.flags i (Some (flag_by (candidate_at j i) true v)) }, inl (v, sure_reads_if_known (known_valid b) i j (as_known (known_valid b)) (agrees-as_known (known_valid b) i) (λ h d. known_flag_counts (known b.flags h) (all h d.0 d.1)), refl))

-- every event has a step from every board
pub step_from : (j : Job) (e : Event) (b : Board) → (c : Board) × MachineStep j e b c
step_from j (Endorse i) b = by (leb_tells (suc i) (length j.candidates))
  where
    by : ((leb (suc i) (length j.candidates) ≡ true) × (suc i ≤ length j.candidates)) ⊎ ((leb (suc i) (length j.candidates) ≡ false) × (length j.candidates < suc i)) → (c : Board) × MachineStep j (Endorse i) b c
    by (inl d) = let s = endorse_from j i (known b.endorsements i) b in (s.0, inl (d.1, s.1))
    by (inr d) = (b, inr ((λ lt. absurd (omega arith)), refl))
step_from j (Reads i) b = by (leb_tells (suc i) (length j.candidates))
  where
    by : ((leb (suc i) (length j.candidates) ≡ true) × (suc i ≤ length j.candidates)) ⊎ ((leb (suc i) (length j.candidates) ≡ false) × (length j.candidates < suc i)) → (c : Board) × MachineStep j (Reads i) b c
    by (inl d) = let s = reads_from j i (known b.flags i) (known b.endorsements i) b in (s.0, inl (d.1, s.1))
    by (inr d) = (b, inr ((λ lt. absurd (omega arith)), refl))

-- and every list of events a run
pub run_from : (j : Job) (es : List Event) (b : Board) → (c : Board) × Run j b es c
run_from j [] b = (b, refl)
run_from j (e ∷ es) b =
    let first = step_from j e b in
    let rest = run_from j es first.0 in
    (rest.0, (first.0, first.1, rest.1))

-- ---- keeping

known-set-kept : {X : Type 0} (cells : List (Option X)) (i : ℕ) (x : X) (h : ℕ) (y : X) → known cells i ≡ None → known cells h ≡ Some y → known (set cells i (Some x)) h ≡ Some y
known-set-kept [] i x h y none some = some
known-set-kept {X} (c ∷ cells) zero x zero y none some = let wrong : ◌≡◌ {A = Option X} None (Some y) = sym none ∙ some in absurd cc
known-set-kept (c ∷ cells) zero x (suc h) y none some = some
known-set-kept (c ∷ cells) (suc i) x zero y none some = some
known-set-kept (c ∷ cells) (suc i) x (suc h) y none some = known-set-kept cells i x h y none some

-- what is known on one board is known on the other, of as many cells
pub record Keeps (old new : Board) : Type 0 where
  pub endorsements : (i : ℕ) (v : Bool) → known old.endorsements i ≡ Some v → known new.endorsements i ≡ Some v
  pub flags : (i : ℕ) (f : Flag) → known old.flags i ≡ Some f → known new.flags i ≡ Some f
  pub lengths : (length new.endorsements ≡ length old.endorsements) × (length new.flags ≡ length old.flags)

keeps-same : (b c : Board) → c ≡ b → Keeps b c
keeps-same b c e = rw e (record { endorsements = λ i v k. k; flags = λ i f k. k; lengths = (refl, refl) })

keeps-set_endorsement : (b c : Board) (i : ℕ) (v : Bool) → known b.endorsements i ≡ None → SetsEndorsement b i v c → Keeps b c
keeps-set_endorsement b c i v none e = rw e (record { endorsements = λ h w k. known-set-kept b.endorsements i v h w none k; flags = λ h f k. k; lengths = (length-set b.endorsements i (Some v), refl) })

keeps-set_flag : (b c : Board) (i : ℕ) (f : Flag) → known b.flags i ≡ None → SetsFlag b i f c → Keeps b c
keeps-set_flag b c i f none e = rw e (record { endorsements = λ h w k. k; flags = λ h g k. known-set-kept b.flags i f h g none k; lengths = (refl, length-set b.flags i (Some f)) })

keeps-endorse : (j : Job) (i : ℕ) (cell : Option Bool) (b c : Board) → known b.endorsements i ≡ cell → EndorseStep j i cell b c → Keeps b c
keeps-endorse j i (Some v) b c is s = keeps-same b c s
keeps-endorse j i None b c is (inl s) = keeps-set_endorsement b c i s.0 is s.2
keeps-endorse j i None b c is (inr s) = keeps-same b c s.1

keeps-reads : (j : Job) (i : ℕ) (cell : Option Flag) (e : Option Bool) (b c : Board) → known b.flags i ≡ cell → ReadsStep j i cell e b c → Keeps b c
keeps-reads j i (Some f) e b c is s = keeps-same b c s
keeps-reads j i None None b c is s = keeps-same b c s
keeps-reads j i None (Some false) b c is s = keeps-set_flag b c i (flag_by (candidate_at j i) false Good) is s
keeps-reads j i None (Some true) b c is (inl s) = keeps-set_flag b c i (flag_by (candidate_at j i) true s.0) is s.2
keeps-reads j i None (Some true) b c is (inr s) = keeps-same b c s.1

pub steps_keep : (j : Job) (e : Event) (b c : Board) → MachineStep j e b c → Keeps b c
steps_keep j (Endorse i) b c (inl s) = keeps-endorse j i (known b.endorsements i) b c refl s.1
steps_keep j (Endorse i) b c (inr s) = keeps-same b c s.1
steps_keep j (Reads i) b c (inl s) = keeps-reads j i (known b.flags i) (known b.endorsements i) b c refl s.1
steps_keep j (Reads i) b c (inr s) = keeps-same b c s.1

-- a known cell never changes
pub runs_keep : (j : Job) (es : List Event) (b c : Board) → Run j b es c → Keeps b c
runs_keep j [] b c e = keeps-same b c e
runs_keep j (e ∷ es) b c r =
    let first = steps_keep j e b r.0 r.1 in
    let rest = runs_keep j es r.0 c r.2 in
    record { endorsements = λ i v k. rest.endorsements i v (first.endorsements i v k); flags = λ i f k. rest.flags i f (first.flags i f k); lengths = (rest.lengths.0 ∙ first.lengths.0, rest.lengths.1 ∙ first.lengths.1) }

-- a board has two cells for each candidate
pub runs_have_lengths : (j : Job) (es : List Event) (b : Board) → Run j (first_board j) es b → (length b.endorsements ≡ length j.candidates) × (length b.flags ≡ length j.candidates)
runs_have_lengths j es b r =
    let kept = (runs_keep j es (first_board j) b r).lengths in
    (kept.0 ∙ length-map j.candidates first_endorsement, kept.1 ∙ length-map j.candidates first_flag)

-- two runs never disagree on a cell
pub runs_agree_on_endorsements : (j : Job) (es fs : List Event) (b c : Board) → Run j (first_board j) es b → Run j (first_board j) fs c
    → (i : ℕ) (v w : Bool) → known b.endorsements i ≡ Some v → known c.endorsements i ≡ Some w → v ≡ w
runs_agree_on_endorsements j es fs b c r s i v w k l = (runs_show j es b r).endorsements i v k ∙ sym ((runs_show j fs c s).endorsements i w l)

pub runs_agree_on_flags : (j : Job) (es fs : List Event) (b c : Board) → Run j (first_board j) es b → Run j (first_board j) fs c
    → (i : ℕ) (f g : Flag) → known b.flags i ≡ Some f → known c.flags i ≡ Some g → f ≡ g
runs_agree_on_flags j es fs b c r s i f g k l = (runs_show j es b r).flags i f k ∙ sym ((runs_show j fs c s).flags i g l)

-- ---- deciding

known-now : {X : Type 0} (cells : List (Option X)) (i : ℕ) (x : X) → i < length cells → IsSome (known (set cells i (Some x)) i)
known-now cells i x lt = ap is_some (get_or-set_same cells i (Some x) None lt)

unknown_known : {X : Type 0} (o : Option X) → o ≡ None → IsSome o → {A : Type 0} → A
unknown_known o none some = absurd (let wrong : false ≡ true = sym (ap is_some none) ∙ some in cc)

endorse_decides-by_cell : (j : Job) (i : ℕ) (cell : Option Bool) (b c : Board) → known b.endorsements i ≡ cell → i < length b.endorsements
    → ((h : ℕ) → EndorsementDepends j i h → IsSome (known b.endorsements h)) → EndorseStep j i cell b c → IsSome (known c.endorsements i)
endorse_decides-by_cell j i (Some v) b c is lt all s = rw s (ap is_some is)
endorse_decides-by_cell j i None b c is lt all (inl s) = rw s.2 (known-now b.endorsements i s.0 lt)
endorse_decides-by_cell j i None b c is lt all (inr s) = unknown_known (known b.endorsements s.0.0) s.0.2 (all s.0.0 s.0.1)

-- an endorsement check decides where all that it depends on is known
pub endorse_decides : (j : Job) (i : ℕ) (b c : Board) → i < length j.candidates → i < length b.endorsements
    → ((h : ℕ) → EndorsementDepends j i h → IsSome (known b.endorsements h)) → MachineStep j (Endorse i) b c → IsSome (known c.endorsements i)
endorse_decides j i b c inside lt all (inl s) = endorse_decides-by_cell j i (known b.endorsements i) b c refl lt all s.1
endorse_decides j i b c inside lt all (inr s) = absurd (s.0 inside)

reads_decide-by_cell : (j : Job) (i : ℕ) (cell : Option Flag) (e : Option Bool) (b c : Board) → known b.flags i ≡ cell → IsSome e → i < length b.flags
    → ((h : ℕ) → ReadsDepend j i h → IsSome (known b.flags h)) → ReadsStep j i cell e b c → IsSome (known c.flags i)
reads_decide-by_cell j i (Some f) e b c is some lt all s = rw s (ap is_some is)
reads_decide-by_cell j i None None b c is some lt all s = absurd cc
reads_decide-by_cell j i None (Some false) b c is some lt all s = rw s (known-now b.flags i (flag_by (candidate_at j i) false Good) lt)
reads_decide-by_cell j i None (Some true) b c is some lt all (inl s) = rw s.2 (known-now b.flags i (flag_by (candidate_at j i) true s.0) lt)
reads_decide-by_cell j i None (Some true) b c is some lt all (inr s) = unknown_known (known b.flags s.0.0) s.0.2 (all s.0.0 s.0.1)

-- and a read check where the endorsement is known too
pub reads_decide : (j : Job) (i : ℕ) (b c : Board) → i < length j.candidates → i < length b.flags → IsSome (known b.endorsements i)
    → ((h : ℕ) → ReadsDepend j i h → IsSome (known b.flags h)) → MachineStep j (Reads i) b c → IsSome (known c.flags i)
reads_decide j i b c inside lt some all (inl s) = reads_decide-by_cell j i (known b.flags i) (known b.endorsements i) b c refl some lt all s.1
reads_decide j i b c inside lt some all (inr s) = absurd (s.0 inside)

-- where the endorsement is no, whatever else is known
pub reads_decide-refused : (j : Job) (i : ℕ) (b c : Board) → i < length j.candidates → i < length b.flags → known b.endorsements i ≡ Some false
    → MachineStep j (Reads i) b c → IsSome (known c.flags i)
reads_decide-refused j i b c inside lt refused (inl s) = by (known b.flags i) refl (subst (λ (o : Option Bool). ReadsStep j i (known b.flags i) o b c) refused s.1)
  where
    by : (cell : Option Flag) → known b.flags i ≡ cell → ReadsStep j i cell (Some false) b c → IsSome (known c.flags i)
    by (Some f) is e = rw e (ap is_some is)
    by None is e = rw e (known-now b.flags i (flag_by (candidate_at j i) false Good) lt)
reads_decide-refused j i b c inside lt refused (inr s) = absurd (s.0 inside)
