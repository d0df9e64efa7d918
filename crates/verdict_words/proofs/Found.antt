-- What a check is sure of, over verdicts that are the fold's, is the fold's verdict.
use Rattle.std.proofs.Common.{◌≡◌, ℕ, ◌+◌, ◌*◌, Bool, true, false, List, Some, sym, ap, subst, ◌∙◌}
use Rattle.rules.specs.declared.flag.Flag.{Flag}
use Rattle.rules.specs.declared.early_flag.EarlyFlag.{EarlyFlag}
use Rattle.rules.specs.declared.read_verdict.ReadVerdict.{ReadVerdict}
use Rattle.rules.specs.declared.read_verdict.ReadVerdict.TheVariants.{Good}
use Rattle.rules.specs.Flags.{flag_of}
use Rattle.rules.specs.Candidate.{Candidate, flagged}
use Rattle.rules.specs.Job.{Job, candidate_at, reads, flag_by}
use Rattle.rules.specs.Fold.{running, endorsed, flag}
use Rattle.rules.specs.Assignment.{endorsement_under, reads_under}
use Rattle.rules.specs.Sure.{Sure}
use Rattle.rules.proofs.Bridge.{valid, endorsement_under-endorsed, reads_under-valid}
use Rattle.rules.proofs.Sound.{flag_by-false}
use Rattle.key_chains.specs.Known.{valid_in}
use Rattle.verdict_words.specs.Cells.{endorsed_word, flag_word, verdict_word, known_in, Within}
use Rattle.verdict_words.proofs.Words.{word_of_endorsement, word_of_flag, shows_endorsed, shows_valid}

-- k is the job of a seat that knows xs

at_seat : (j k : Job) (xs : List ℕ) → k ≡ j → Within xs (verdict_word k) → Within xs (verdict_word j)
at_seat j k xs same within = subst (λ (x : Job). Within xs (verdict_word x)) same within

flag_word_is : (j k : Job) (i : ℕ) (f : Flag) → k ≡ j → flag j i ≡ f → flag_word f ≡ verdict_word k (2 * i + 1)
flag_word_is j k i f same is = ap flag_word (sym is) ∙ sym (word_of_flag j i) ∙ ap (λ (x : Job). verdict_word x (2 * i + 1)) (sym same)

pub endorsement_found : (j k : Job) (i : ℕ) (v : Bool) (xs : List ℕ) → k ≡ j → Sure (endorsement_under j) (known_in xs).endorsed i v → Within xs (verdict_word k) → endorsed_word v ≡ verdict_word k (2 * i)
endorsement_found j k i v xs same sure within =
    let fold = at_seat j k xs same within in
    let is : endorsed j i ≡ v = sym (endorsement_under-endorsed j i) ∙ sure (endorsed j) (λ h b _ e. shows_endorsed j xs fold h b e) in
    ap endorsed_word (sym is) ∙ sym (word_of_endorsement j i) ∙ ap (λ (x : Job). verdict_word x (2 * i)) (sym same)

pub flag_found : (j k : Job) (i : ℕ) (f : EarlyFlag) (g : Flag) → k ≡ j → candidate_at j i ≡ flagged f → g ≡ flag_of f → flag_word g ≡ verdict_word k (2 * i + 1)
flag_found j k i f g same is flags = flag_word_is j k i g same (ap (λ (c : Candidate). flag_by c (endorsed j i) (reads j i (running j i).state)) is ∙ sym flags)

pub refusal_found : (j k : Job) (i : ℕ) (f : Flag) (xs : List ℕ) → k ≡ j → f ≡ flag_by (candidate_at j i) false Good → (known_in xs).endorsed i ≡ Some false → Within xs (verdict_word k) → flag_word f ≡ verdict_word k (2 * i + 1)
refusal_found j k i f xs same is known within =
    let said : endorsed j i ≡ false = shows_endorsed j xs (at_seat j k xs same within) i false known in
    flag_word_is j k i f same
    (ap (λ (b : Bool). flag_by (candidate_at j i) b (reads j i (running j i).state)) said ∙ flag_by-false (candidate_at j i) (reads j i (running j i).state) Good ∙ sym is)

pub reads_found : (j k : Job) (i : ℕ) (v : ReadVerdict) (f : Flag) (xs : List ℕ) → k ≡ j → f ≡ flag_by (candidate_at j i) true v → (known_in xs).endorsed i ≡ Some true → Sure (reads_under j) (valid_in (known_in xs)) i v → Within xs (verdict_word k)
    → flag_word f ≡ verdict_word k (2 * i + 1)
reads_found j k i v f xs same is known sure within =
    let fold = at_seat j k xs same within in
    let said : endorsed j i ≡ true = shows_endorsed j xs fold i true known in
    let found : reads j i (running j i).state ≡ v = sym (reads_under-valid j i) ∙ sure (valid j) (λ h b _ e. shows_valid j xs fold h b e) in
    flag_word_is j k i f same ((λ t. flag_by (candidate_at j i) (said t) (found t)) ∙ sym is)
