-- What a seat's calls may do, and what a task waits for.
use Rattle.std.specs.Prelude.{◌≡◌, ◌⊎◌, ℕ, ◌+◌, ◌*◌, [], length, slice_index}
use Rattle.atomic_table.specs.Table.{Me}
use Rattle.rules.specs.Job.{Job}
use Rattle.rules.specs.Depends.{EndorsementDepends, ReadsDepend}
use Rattle.key_chains.specs.Job.{IsOpen}
use Rattle.verdict_words.specs.declared.view.View.{View}
use Rattle.verdict_words.specs.Cells.{Within, verdict_word}

-- the seat stays at its job, and a known verdict stays
pub record Moves (v w : View) : Type 0 where
  pub job : w.job ≡ v.job
  pub stays : Within v.known (slice_index w.known)

-- an endorsement check waits for one that it depends on; a read check for its own candidate's endorsement, where that is open,
-- or for a read check that it depends on
abbrev pub Waits : Job → ℕ → ℕ → Type 0
Waits j task h =
    ((i : ℕ) × (g : ℕ) × (task ≡ 2 * i) × (h ≡ 2 * g) × EndorsementDepends j i g)
    ⊎ (((i : ℕ) × (task ≡ 2 * i + 1) × (h ≡ 2 * i) × IsOpen j i)
    ⊎ ((i : ℕ) × (g : ℕ) × (task ≡ 2 * i + 1) × (h ≡ 2 * g + 1) × ReadsDepend j i g))

-- a seat at the words of this job
pub record Sits (j : Job) (size : ℕ) (me : Me ℕ View) : Type 0 where
  pub free : me.1 ≡ []
  pub job : me.0.job ≡ j
  pub words : size ≡ 2 * length j.candidates
  pub count : length me.0.known ≡ 2 * length j.candidates
  pub fold : Within me.0.known (verdict_word j)
