-- Words that are unknown or the fold's verdicts show a sound board.
use Rattle.std.proofs.Common.{◌≡◌, ℕ, ◌<◌, ◌≤◌, ◌⊎◌, leb, Bool, true, false, List, length, map, get_or, Option, Some, None, inl, inr, refl, sym, ap, ◌∙◌, arith}
use Rattle.std.specs.Option.{option_or}
use Rattle.std.specs.List.{range_with_len}
use Rattle.std.proofs.Math.ListN.{get_or-eq_default}
use Rattle.std.proofs.lemmas.Bool.Decides.{leb_tells}
use Rattle.std.proofs.lemmas.List.{get_or-map, length-map}
use Rattle.std.proofs.lemmas.List.FromFn.{length-map-range_with_len, get_or-map-range_with_len}
use Rattle.rules.specs.declared.flag.Flag.{Flag}
use Rattle.rules.specs.declared.early_flag.EarlyFlag.TheVariants.{BadPayload}
use Rattle.rules.specs.Flags.{flag_of}
use Rattle.rules.specs.Candidate.{Candidate, flagged, opened, updates}
use Rattle.rules.specs.Job.{Job, candidate_at, reads, flag_by, endorsement_by}
use Rattle.rules.specs.Fold.{running, endorsed, flag}
use Rattle.rules.specs.Machine.{known, first_endorsement, first_flag}
use Rattle.verdict_words.specs.Cells.{verdict_word, known_in, Within}
use Rattle.verdict_words.specs.Board.{board_in, IsSound}
use Rattle.verdict_words.proofs.Words.{same_item, shows_endorsed, shows_flag}

-- ---- rows of cells

module _ {X : Type 0} where
  -- a known cell of a row of n cells stands below n
  known-row : (cell : ℕ → Option X) (n i : ℕ) (x : X) → known (map cell (range_with_len 0 n)) i ≡ Some x → (i < n) × (cell i ≡ Some x)
  known-row cell n i x e = by (leb_tells n i)
    where
      by : ((leb n i ≡ true) × (n ≤ i)) ⊎ ((leb n i ≡ false) × (i < n)) → (i < n) × (cell i ≡ Some x)
      by (inl out) =
          let long : length (map cell (range_with_len 0 n)) ≡ n = length-map-range_with_len cell 0 n in
          let past : length (map cell (range_with_len 0 n)) ≤ i = let le = out.1 in omega (arith, le, long) in
          let none : None ≡ Some x = sym (get_or-eq_default (map cell (range_with_len 0 n)) None past) ∙ e in
          absurd cc
      by (inr within) = (within.1, sym (get_or-map-range_with_len cell 0 n i i None within.1 (omega arith)) ∙ e)

  row-known : (cell : ℕ → Option X) (n i : ℕ) (x : X) → i < n → cell i ≡ Some x → known (map cell (range_with_len 0 n)) i ≡ Some x
  row-known cell n i x lt e = get_or-map-range_with_len cell 0 n i i None lt (omega arith) ∙ e

  known-first : (cell : Candidate → Option X) (cs : List Candidate) (i : ℕ) (x : X) → known (map cell cs) i ≡ Some x → (i < length cs) × (cell (get_or cs i (flagged BadPayload)) ≡ Some x)
  known-first cell cs i x e = by (leb_tells (length cs) i)
    where
      by : ((leb (length cs) i ≡ true) × (length cs ≤ i)) ⊎ ((leb (length cs) i ≡ false) × (i < length cs)) → (i < length cs) × (cell (get_or cs i (flagged BadPayload)) ≡ Some x)
      by (inl out) =
          let long : length (map cell cs) ≡ length cs = length-map cs cell in
          let past : length (map cell cs) ≤ i = let le = out.1 in omega (arith, le, long) in
          let none : None ≡ Some x = sym (get_or-eq_default (map cell cs) None past) ∙ e in
          absurd cc
      by (inr within) = (within.1, sym (get_or-map cell cs i (flagged BadPayload) None within.1) ∙ e)

  or-first : (o p : Option X) (x : X) → o ≡ Some x → option_or o p ≡ Some x
  or-first (Some y) p x e = e
  or-first None p x e = absurd cc

-- ---- one candidate

endorsement_is : (j : Job) (i : ℕ) (k : Option Bool) (v : Bool) → ((w : Bool) → k ≡ Some w → endorsed j i ≡ w) → option_or (first_endorsement (candidate_at j i)) k ≡ Some v → v ≡ endorsed j i
endorsement_is j i k v shown e = by (candidate_at j i) refl e
  where
    by : (c : Candidate) → candidate_at j i ≡ c → option_or (first_endorsement c) k ≡ Some v → v ≡ endorsed j i
    by (flagged f) is_c is = sym (same_item false v is) ∙ ap (endorsement_by j.admin j.definitions j.state (running j i).touched) (sym is_c)
    by (opened tx signers) is_c is = sym (shown v is)
    by (updates u signers) is_c is = sym (shown v is)

flag_is : (j : Job) (i : ℕ) (k : Option Flag) (f : Flag) → ((g : Flag) → k ≡ Some g → flag j i ≡ g) → option_or (first_flag (candidate_at j i)) k ≡ Some f → f ≡ flag j i
flag_is j i k f shown e = by (candidate_at j i) refl e
  where
    by : (c : Candidate) → candidate_at j i ≡ c → option_or (first_flag c) k ≡ Some f → f ≡ flag j i
    by (flagged g) is_c is = sym (same_item (flag_of g) f is) ∙ ap (λ (c : Candidate). flag_by c (endorsed j i) (reads j i (running j i).state)) (sym is_c)
    by (opened tx signers) is_c is = sym (shown f is)
    by (updates u signers) is_c is = sym (shown f is)

pub words_are_sound : (j : Job) (words : List ℕ) → Within words (verdict_word j) → IsSound j (board_in j words)
words_are_sound j words within = record {
  endorsements = length-map-range_with_len _ 0 (length j.candidates);
  flags = length-map-range_with_len _ 0 (length j.candidates);
  first_endorsements = λ i v e.
      let k = known-first first_endorsement j.candidates i v e in
      row-known _ (length j.candidates) i v k.0 (or-first (first_endorsement (candidate_at j i)) ((known_in words).endorsed i) v k.1);
  first_flags = λ i f e.
      let k = known-first first_flag j.candidates i f e in
      row-known _ (length j.candidates) i f k.0 (or-first (first_flag (candidate_at j i)) ((known_in words).flag i) f k.1);
  fold = record {
    endorsements = λ i v e. endorsement_is j i ((known_in words).endorsed i) v (shows_endorsed j words within i) (known-row _ (length j.candidates) i v e).1;
    flags = λ i f e. flag_is j i ((known_in words).flag i) f (shows_flag j words within i) (known-row _ (length j.candidates) i f e).1;
  };
}
