-- Why a command ends, said of more than one function.
use Rattle.std.proofs.Common.{◌≡◌, ◌∷◌, ◌<◌, ℕ, zero, suc, List, [], length, get_or, take, Option, Some, None, IfSome, ◌↔◌, inl, inr, Result, Ok, Err, IsErrAnd, refl, sym, subst, arith}
use Rattle.channel.specs.Fault as channel
use Rattle.channel.specs.Configuration.{Configuration}
use Rattle.channel.specs.Text.{configuration_of}
use Rattle.channel.specs.declared.fault.ChannelFault.{ChannelFault}
use Rattle.channel.specs.declared.fault.ChannelFault.TheVariants as channel_fault
use Rattle.command_files.specs.declared.fault.Fault.{Fault}
use Rattle.command_files.specs.declared.fault.Fault.TheVariants.{Memory}
use Rattle.command_files.specs.Failing.{AtFault, Because, FilesFail, HasChannelFault, at_fault, of_channel_text}
use Rattle.command_files.specs.Reading.{AreHeld}

pub because : (P Q : AtFault → Type 0) → ((what : AtFault) → P what → Q what) → (fault : Fault) → Because P fault → Because Q fault
because P Q f fault = by (at_fault fault)
  where
    by : (o : Option AtFault) → IfSome o P → IfSome o Q
    by None h = h
    by (Some what) h = f what h

-- The files before this one are read, and it isn't.
pub FilesFail-at : {X : Type 0} (Holds : X → List ℕ → Type 0) (Fails : X → AtFault → Type 0) (paths : List X) (i : ℕ) (d : X) (blocks : List (List ℕ)) (what : AtFault)
    → i < length paths → AreHeld Holds (take i paths) blocks → Fails (get_or paths i d) what → FilesFail Holds Fails paths what
FilesFail-at Holds Fails [] i d blocks what lt are fails = absurd (omega (arith, lt))
FilesFail-at Holds Fails (path ∷ paths) zero d blocks what lt are fails = inl fails
FilesFail-at Holds Fails (path ∷ paths) (suc i) d [] what lt are fails = absurd are
FilesFail-at Holds Fails (path ∷ paths) (suc i) d (bytes ∷ blocks) what lt are fails = inr (bytes, are.0, FilesFail-at Holds Fails paths i d blocks what (omega (arith, lt)) are.1 fails)

pub channel_fails : (path text : List ℕ) (e : ChannelFault) (fault : Fault)
    → (fault ≡ Memory ↔ e ≡ channel_fault.Memory) → ((why : channel.Fault) → channel.fault_of e ≡ Some why → at_fault fault ≡ Some (of_channel_text path why))
    → channel.Refuses e (configuration_of text) → Because (HasChannelFault path text) fault
channel_fails path text e fault memory of_why (inl is) = subst (λ f. Because (HasChannelFault path text) f) (sym (memory.1 is)) tt
channel_fails path text e fault memory of_why (inr is) = by (configuration_of text) refl is
  where
    by : (r : Result Configuration channel.Fault) → configuration_of text ≡ r → IsErrAnd r (λ why. channel.fault_of e ≡ Some why) → Because (HasChannelFault path text) fault
    by (Ok c) same h = absurd h
    by (Err why) same h = subst (λ (o : Option AtFault). IfSome o (HasChannelFault path text)) (sym (of_why why h)) (record { why = why; has_fault = same; is_what = refl })
