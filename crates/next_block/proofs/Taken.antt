-- A block that was taken in has no more transactions than a block may have.
use Rattle.std.proofs.Common.{◌≡◌, ◌≤◌, ◌∙◌, ℕ, List, Option, length, ap, sym, subst, arith}
use Rattle.std.proofs.lemmas.List.{length-map}
use Rattle.block.specs.declared.block.Block.{Block}
use Rattle.block.specs.Limits.{max_txs}
use Rattle.channel.specs.Configuration.{Configuration}
use Rattle.intake.specs.declared.taking.Taken.{Taken}
use Rattle.intake.specs.Tentative.{AreTentative}
use Rattle.intake.specs.Place.{taken_of, shown}
use Rattle.policy_eval.specs.Accepts.{Accepts}
use Rattle.rules.specs.Candidate.{Candidate}
use Rattle.rules.specs.Commit.{items_of}
use Rattle.next_block.specs.declared.tentative.TentativeJob.{TentativeJob}
use Rattle.next_block.specs.Tentative.{AreTentativeIn}
use Rattle.next_block.specs.Taken.{IsTaken}

pub few : (channel : Configuration) (accepts : Accepts) (bytes : List ℕ) (b : Block) (taken : List Taken) → IsTaken channel accepts bytes b taken → length taken ≤ max_txs
few channel accepts bytes b taken is =
    let same = sym (length-map taken shown) ∙ ap length is.taken ∙ length-map (items_of b) (taken_of channel accepts) ∙ length-map b.txs _ in
    omega (arith, same, is.spelled.count)

-- ---- what was tentative of it

as_many-ids : (taken : List Taken) (ids : List (Option (List ℕ))) (cs : List Candidate) → AreTentative taken ids cs → length ids ≡ length taken
as_many-ids taken ids cs are = ap length are.are_ids ∙ length-map taken _

pub as_many : (taken : List Taken) (f : TentativeJob) → AreTentativeIn taken f → length f.key_writers ≡ length f.ids.items
as_many taken f are =
    ap length are.are_candidates ∙ length-map taken _ ∙ sym (as_many-ids taken f.ids.items f.key_writers are)

pub few-tentative : (taken : List Taken) (f : TentativeJob) → length taken ≤ max_txs → AreTentativeIn taken f → length f.ids.items ≤ max_txs
few-tentative taken f few are = subst (λ n. n ≤ max_txs) (sym (as_many-ids taken f.ids.items f.key_writers are)) few
