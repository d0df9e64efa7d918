-- The id that a transaction should have, where its own was used first, and what has no definition.
use Rattle.std.specs.Prelude.{◌≡◌, ℕ, List, ◌∷◌, Bool, not, map, find, position, take, Option, Some, None, option_to_list}
use Rattle.std.specs.Str.{bytes_eq}
use Rattle.std.specs.List.{list_any}
use Rattle.std.specs.FinMap.{get}
use Rattle.transaction.specs.declared.transaction.Tx.{Tx}
use Rattle.transaction.specs.declared.item.Item.{Item}
use Rattle.transaction.specs.Grammar.{identity_bytes}
use Rattle.header_hash.specs.Hashes.{tx_id_of}
use Rattle.policy.specs.Policies.{Policies}
use Rattle.policy_eval.specs.Accepts.{Accepts}
use Rattle.channel.specs.Configuration.{Configuration}
use Rattle.rules.specs.Effect.{written_keys}
use Rattle.rules.specs.Candidate.{is_defined, origin_of, used_id}
use Rattle.rules.specs.Commit.{job_of}
use Rattle.rules.specs.Fold.{flag}
use Rattle.rules.specs.World.{World}
use Rattle.reasons.specs.declared.id_use.IdUse.{IdUse}
use Rattle.reasons.specs.declared.id_use.IdUse.TheVariants.{Earlier, Here}

-- that of its nonce and its creator
abbrev pub wanted_id : Item → List ℕ
wanted_id i = tx_id_of (origin_of i).nonce (identity_bytes (origin_of i).creator)

abbrev pub uses_id : Configuration → Accepts → List ℕ → Option Item → Bool
uses_id channel accepts id tx = list_any (bytes_eq id) (option_to_list (used_id channel accepts tx))

-- The first use of an id before place i of a block, with its flag: in an accepted block, or else at the first place of this one that
-- uses it.
abbrev pub IsFirstUse : Configuration → Accepts → World → List (Option Item) → ℕ → List ℕ → IdUse → Type 0
IsFirstUse channel accepts w items i id (Earlier block place given) = get w.first_uses id ≡ Some (record { block = block; place = place; flag = given })
IsFirstUse channel accepts w items i id (Here place given) =
    (get w.first_uses id ≡ None) × (position (uses_id channel accepts id) (take i items) ≡ Some place)
    × (given ≡ flag (job_of channel accepts w items) place)

-- the first name without a definition: of the chaincode that is named, and then of the namespaces that are written
abbrev pub first_undefined : Policies → Tx → Option (List ℕ)
first_undefined definitions tx = find (λ name. not (is_defined definitions name)) (tx.chaincode ∷ map (λ k. k.0) (written_keys tx))
