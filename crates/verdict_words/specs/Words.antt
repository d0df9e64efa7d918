-- The rule that the words of a job keep between any two steps, and what each step tells its seat.
use Rattle.std.specs.Prelude.{◌≡◌, ℕ, ◌*◌, List, length, slice_index, slice_set, replicate}
use mathlib.Core.Option.{some}
use lib.ListN.{get_elem?}
use Rattle.atomic_table.specs.Table.{State, Step, Me}
use Rattle.rules.specs.Job.{Job}
use Rattle.verdict_words.specs.declared.view.View.{View}
use Rattle.verdict_words.specs.Cells.{Within, verdict_word}

-- a seat knows of this job alone, and each verdict that it knows stands in the words
pub record IsSeen (j : Job) (words : List ℕ) (v : View) : Type 0 where
  pub job : v.job ≡ j
  pub count : length v.known ≡ length words
  pub stands : Within v.known (slice_index words)

-- two words for each candidate, each unknown or the fold's verdict, and so is all that a seat knows
pub record IsFound (j : Job) (s : State ℕ View) : Type 0 where
  pub count : length s.words ≡ 2 * length j.candidates
  pub fold : Within s.words (verdict_word j)
  pub seats : (seat : ℕ) (v : View) → get_elem? s.views seat ≡ some v → IsSeen j s.words v

-- nothing is known
abbrev pub fresh : Job → View
fresh j = record { known = replicate (2 * length j.candidates) 0; job = j }

-- A load or a store of one word: the seat knows it from now on. What it knew stays, and all of it is the fold's.
pub record Learns (task word : ℕ) (v w : View) : Type 0 where
  pub known : w.known ≡ slice_set v.known task word
  pub job : w.job ≡ v.job
  pub stays : Within v.known (slice_index w.known)
  pub fold : Within w.known (verdict_word w.job)

abbrev pub sees : {S : Type 0} → Step S → Me S View → ℕ → Me S View → Type 0
sees st me word after = Learns st.word word me.0 after.0 × (after.1 ≡ me.1)

-- a new seat knows what the first one does
abbrev pub begins : {S : Type 0} → Step S → Me S View → ℕ → Me S View → Type 0
begins st me word after = after ≡ me
