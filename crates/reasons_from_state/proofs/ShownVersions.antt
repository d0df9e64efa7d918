-- What is sure where all verdicts are known is the fold's.
use Rattle.std.proofs.Common.{◌≡◌, ℕ, ◌≤◌, List, length, Option, Some, None, sym, ap, ◌∙◌, arith}
use Rattle.std.specs.Prelude.{option_map}
use Rattle.transaction.specs.declared.transaction.Version.{Version}
use Rattle.rules.specs.Flags.{is_valid}
use Rattle.rules.specs.State.{State, StateKey, version_in}
use Rattle.rules.specs.Job.{Job}
use Rattle.rules.specs.Fold.{running, flag}
use Rattle.rules.specs.Assignment.{version_under}
use Rattle.rules.specs.Sure.{Sure}
use Rattle.rules.proofs.Bridge.{valid, state_under-valid}
use Rattle.key_chains.specs.declared.plain_board.Cells.{Cells}
use Rattle.key_chains.specs.Known.{valid_in}
use Rattle.key_chains.specs.Cells.{known_of}
use Rattle.key_chains.specs.Shown.{Shows}

some_same : {X : Type 0} (o : Option X) (x y : X) → o ≡ Some x → o ≡ Some y → x ≡ y
some_same None x y e f = absurd cc
some_same (Some z) x y e f = cc

pub shown_version : (j : Job) (k : StateKey) (i : ℕ) (v : Option Version) (old new : List Cells) → Shows j old → i ≤ length j.candidates → new ≡ old
    → Sure (version_under j k) (valid_in (known_of new)) i v → v ≡ version_in (running j i).state k
shown_version j k i v old new shows le same sure =
    sym (sure (valid j) (λ h b lt known. some_same (valid_in (known_of old) h) (is_valid (flag j h)) b (ap (option_map is_valid) (shows.verdicts.flag h (omega (arith, lt, le)))) (ap (λ (cells : List Cells). valid_in (known_of cells) h) (sym same) ∙ known)))
    ∙ ap (λ (s : State). version_in s k) (state_under-valid j i)
