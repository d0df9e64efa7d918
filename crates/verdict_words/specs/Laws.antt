-- The laws of a seat as a board.
use Rattle.std.specs.Prelude.{◌≡◌, ℕ, ◌+◌, ◌*◌, List, length, slice_index, Some, None}
use Rattle.std.proofs.Common.{refl, sym, ap, ◌∙◌, inl, inr, ⊎_elim}
use Rattle.rules.specs.Job.{Job}
use Rattle.key_chains.specs.Known.{Grows}
use Rattle.verdict_words.specs.declared.view.View.{View}
use Rattle.verdict_words.specs.Cells.{endorsed_in, flag_in, known_in, Within}
use Rattle.verdict_words.specs.Seats.{Moves}

pub within_itself : (xs : List ℕ) → Within xs (slice_index xs)
within_itself xs task = inr refl

pub within_on : (xs ys : List ℕ) (given : ℕ → ℕ) → Within xs (slice_index ys) → Within ys given → Within xs given
within_on xs ys given a b task = ⊎_elim inl (λ e. ⊎_elim (λ z. inl (e ∙ z)) (λ f. inr (e ∙ f)) (b task)) (a task)

pub stays : (a : View) → Moves a a
stays a = record { job = refl; stays = within_itself a.known }

pub goes_on : (a b c : View) → Moves a b → Moves b c → Moves a c
goes_on a b c one two = record { job = two.job ∙ one.job; stays = within_on a.known b.known (slice_index c.known) one.stays two.stays }

pub same_count : (a b : View) → Moves a b → length b.job.candidates ≡ length a.job.candidates
same_count a b moves = ap (λ (j : Job). length j.candidates) moves.job

none_some : {X : Type 0} (x : X) → None ≡ Some x → ⊥
none_some x e = cc

more_known : (xs ys : List ℕ) → Within xs (slice_index ys) → Grows (known_in xs) (known_in ys)
more_known xs ys within = record {
  endorsed = λ h b e. ⊎_elim (λ z. absurd (none_some b (ap endorsed_in (sym z) ∙ e))) (λ same. ap endorsed_in (sym same) ∙ e) (within (2 * h));
  flag = λ h f e. ⊎_elim (λ z. absurd (none_some f (ap flag_in (sym z) ∙ e))) (λ same. ap flag_in (sym same) ∙ e) (within (2 * h + 1));
}

pub grows : (a b : View) → Moves a b → Grows (known_in a.known) (known_in b.known)
grows a b moves = more_known a.known b.known moves.stays
