-- The version of a key over the operations on it, the newest first. No public contract cites it: it is a step between the
-- rules and the walk.
use Rattle.std.specs.Prelude.{◌≡◌, ℕ, List, [], ◌∷◌, if◌then◌else◌, Option, Some, None, option_map}
use Rattle.std.specs.List.{Contains}
use Rattle.transaction.specs.declared.transaction.Version.{Version}
use Rattle.rules.specs.Assignment.{Assignment}
use Rattle.key_chains.specs.declared.operation.Kind.{Kind}
use Rattle.key_chains.specs.declared.operation.Kind.TheVariants.{Value, Delete, Policy}
use Rattle.key_chains.specs.declared.operation.Operation.{Operation}

-- a newer policy write gives a key that has a version its own
abbrev pub noted_over : Option Version → Option Version → Option Version
noted_over None older = older
noted_over (Some newer) older = option_map (λ _. newer) older

-- what an operation of this version makes of the older one
abbrev pub made_by : Kind → Version → Option Version → Option Version
made_by Value v older = Some v
made_by Delete v older = None
made_by Policy v older = noted_over (Some v) older

-- in the block of this number it counts where its candidate is called yes
abbrev pub operated : ℕ → Assignment → Operation → Option Version → Option Version
operated number called o older = if called o.tx then made_by o.kind (record { block = number; tx = o.tx }) older else older

-- over all of them, and over the version before the block
abbrev pub version_over : ℕ → Assignment → List Operation → Option Version → Option Version
version_over number called [] before = before
version_over number called (o ∷ os) before = operated number called o (version_over number called os before)

-- one of the operations is this candidate's
pub record IsOperator (h : ℕ) (operations : List Operation) : Type 0 where
  pub operation : Operation
  pub is_among : Contains operations operation
  pub is_its : operation.tx ≡ h
