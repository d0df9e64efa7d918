-- Words and the verdicts that they show.
use Rattle.std.proofs.Common.{◌≡◌, ◌≢◌, ℕ, ◌+◌, ◌*◌, ◌/◌, ◌%◌, ◌<◌, Bool, true, false, List, slice_index, Option, Some, None, refl, sym, ap, ◌∙◌, ⊎_elim, arith}
use Rattle.std.specs.Prelude.{option_map}
use Rattle.rules.specs.declared.flag.Flag.{Flag}
use Rattle.rules.specs.Flags.{is_valid}
use Rattle.rules.specs.Job.{Job}
use Rattle.rules.specs.Fold.{endorsed, flag}
use Rattle.rules.proofs.Numbers.{flag_back}
use Rattle.key_chains.specs.Known.{valid_in}
use Rattle.verdict_words.specs.Cells.{endorsed_word, endorsed_in, flag_word, flag_in, verdict_word, known_in, IsKnown, Within}

none_some : {X : Type 0} (x : X) → None ≡ Some x → ⊥
none_some x e = cc

pub same_item : {X : Type 0} (x y : X) → Some x ≡ Some y → x ≡ y
same_item x y e = cc

pub endorsed_back : (b : Bool) → endorsed_in (endorsed_word b) ≡ Some b
endorsed_back false = refl
endorsed_back true = refl

pub endorsed_known : (b : Bool) → endorsed_word b ≢ 0
endorsed_known false e = absurd (omega arith)
endorsed_known true e = absurd (omega arith)

pub flag_known : (f : Flag) → flag_word f ≢ 0
flag_known f e = absurd (omega arith)

pub word_of_endorsement : (j : Job) (i : ℕ) → verdict_word j (2 * i) ≡ endorsed_word (endorsed j i)
unfolding verdict_word
word_of_endorsement j i =
    let even : 2 * i % 2 ≡ 0 = omega arith in
    let half : 2 * i / 2 ≡ i = omega arith in
    rw even (ap (λ (n : ℕ). endorsed_word (endorsed j n)) half)

pub word_of_flag : (j : Job) (i : ℕ) → verdict_word j (2 * i + 1) ≡ flag_word (flag j i)
unfolding verdict_word
word_of_flag j i =
    let odd : (2 * i + 1) % 2 ≡ 1 = omega arith in
    let half : (2 * i + 1) / 2 ≡ i = omega arith in
    rw odd (ap (λ (n : ℕ). flag_word (flag j n)) half)

-- ---- a known verdict is the fold's

pub shows_endorsed : (j : Job) (xs : List ℕ) → Within xs (verdict_word j) → (h : ℕ) (b : Bool) → (known_in xs).endorsed h ≡ Some b → endorsed j h ≡ b
shows_endorsed j xs within h b e =
    ⊎_elim (λ zero. absurd (none_some b (ap endorsed_in (sym zero) ∙ e)))
    (λ is. same_item (endorsed j h) b (sym (endorsed_back (endorsed j h)) ∙ ap endorsed_in (sym (word_of_endorsement j h)) ∙ ap endorsed_in (sym is) ∙ e))
    (within (2 * h))

pub shows_flag : (j : Job) (xs : List ℕ) → Within xs (verdict_word j) → (h : ℕ) (f : Flag) → (known_in xs).flag h ≡ Some f → flag j h ≡ f
shows_flag j xs within h f e =
    ⊎_elim (λ zero. absurd (none_some f (ap flag_in (sym zero) ∙ e)))
    (λ is. same_item (flag j h) f (sym (flag_back (flag j h)) ∙ ap flag_in (sym (word_of_flag j h)) ∙ ap flag_in (sym is) ∙ e))
    (within (2 * h + 1))

validity : (f : Flag) (o : Option Flag) (b : Bool) → ((g : Flag) → o ≡ Some g → f ≡ g) → option_map is_valid o ≡ Some b → is_valid f ≡ b
validity f None b shown e = absurd (none_some b e)
validity f (Some g) b shown e = ap is_valid (shown g refl) ∙ same_item (is_valid g) b e

pub shows_valid : (j : Job) (xs : List ℕ) → Within xs (verdict_word j) → (h : ℕ) (b : Bool) → valid_in (known_in xs) h ≡ Some b → is_valid (flag j h) ≡ b
shows_valid j xs within h b e = validity (flag j h) ((known_in xs).flag h) b (shows_flag j xs within h) e

-- a flag that isn't shown is unknown
pub flag_unknown : (j : Job) (xs : List ℕ) → Within xs (verdict_word j) → (h : ℕ) → (known_in xs).flag h ≡ None → slice_index xs (2 * h + 1) ≡ 0
flag_unknown j xs within h none =
    ⊎_elim (λ zero. zero) (λ is. absurd (none_some (flag j h) (sym none ∙ ap flag_in (is ∙ word_of_flag j h) ∙ flag_back (flag j h)))) (within (2 * h + 1))

-- ---- what is known stays so

pub stays_known : (xs ys : List ℕ) → Within xs (slice_index ys) → (task : ℕ) → IsKnown xs task → IsKnown ys task
stays_known xs ys within task known zero = ⊎_elim known (λ same. known (same ∙ zero)) (within task)

pub stay_known : (n : ℕ) (xs ys : List ℕ) → Within xs (slice_index ys) → ((task : ℕ) → task < n → IsKnown xs task) → (task : ℕ) → task < n → IsKnown ys task
stay_known n xs ys within known task lt = stays_known xs ys within task (known task lt)

-- A known flag's word, in what a seat knows behind a load: k is the seat's job.
pub known_flag_is : (j k : Job) (i word : ℕ) (xs ys : List ℕ) (o : Option Flag) → k ≡ j → Within xs (slice_index ys) → Within ys (verdict_word k) → IsKnown xs (2 * i + 1) → slice_index ys (2 * i + 1) ≡ word → o ≡ flag_in word → o ≡ Some (flag j i)
known_flag_is j k i word xs ys o same within fold known here read =
    read ∙ ap flag_in (sym here)
    ∙ ⊎_elim (λ zero. absurd (stays_known xs ys within (2 * i + 1) known zero)) (λ is. ap flag_in (is ∙ word_of_flag k i) ∙ flag_back (flag k i)) (fold (2 * i + 1))
    ∙ ap (λ (x : Job). Some (flag x i)) same
