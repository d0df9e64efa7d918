-- Steps of the walk over the operations that are left.
use Rattle.std.proofs.Common.{◌≡◌, ℕ, List, [], ◌∷◌, Option, sym, subst, ap, ◌∙◌}
use Rattle.std.proofs.lemmas.List.Elements.{Contains-append_right}
use Rattle.transaction.specs.declared.transaction.Version.{Version}
use Rattle.rules.specs.Assignment.{Assignment}
use Rattle.rules.specs.Sure.{Agrees}
use Rattle.key_chains.specs.declared.operation.Operation.{Operation}
use Rattle.key_chains.specs.Known.{Known, Grows, valid_in}
use Rattle.mvcc.specs.declared.walk.Finding.{Finding}
use Rattle.mvcc.specs.Versions.{noted_over, operated, version_over, IsOperator}
use Rattle.mvcc.specs.Findings.{over_finding}
use Rattle.mvcc.proofs.Agreeing.{agrees_before}

-- these operations, under this noted version, make what all of them make
abbrev pub AreLeft : ℕ → ℕ → Known → List Operation → Option Version → List Operation → Type 0
AreLeft number i known all noted left =
    (called : Assignment) (before : Option Version) → Agrees (valid_in known) i called → version_over number called all before ≡ noted_over noted (version_over number called left before)

-- one more is looked at
pub one_step : (number i : ℕ) (old new : Known) (all left rest : List Operation) (o : Operation) (noted : Option Version) (seen finding : Finding) → Grows old new → left ≡ o ∷ rest
    → AreLeft number i old all noted left
    → ((called : Assignment) (older : Option Version) → Agrees (valid_in new) i called → noted_over noted (operated number called o older) ≡ over_finding seen older) → seen ≡ finding
    → (called : Assignment) (before : Option Version) → Agrees (valid_in new) i called → version_over number called all before ≡ over_finding finding (version_over number called rest before)
one_step number i old new all left rest o noted seen finding grows first so_far look is called before agrees =
    so_far called before (agrees_before old new i called grows agrees)
    ∙ ap (λ (os : List Operation). noted_over noted (version_over number called os before)) first
    ∙ look called (version_over number called rest before) agrees
    ∙ ap (λ (f : Finding). over_finding f (version_over number called rest before)) is

-- an operation behind the first is one of all that were left
pub behind_first : (h : ℕ) (left rest : List Operation) (o : Operation) → left ≡ o ∷ rest → IsOperator h rest → IsOperator h left
behind_first h left rest o first has = subst (IsOperator h) (sym first) (record { operation = has.operation; is_among = Contains-append_right (o ∷ []) rest has.operation has.is_among; is_its = has.is_its })
