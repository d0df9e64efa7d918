-- A step between the first uses and the code: where the first use of an id is found.
use Rattle.std.specs.Prelude.{◌≡◌, ◌==◌, ℕ, List, Option, Some, None, if◌then◌else◌}
use Rattle.std.specs.FinMap.{get}
use Rattle.std.specs.Map.{lookup}
use Rattle.std.specs.Option.{option_or}
use Rattle.std.specs.Str.{bytes_eq}
use Rattle.rules.specs.declared.delta.NewUse.{NewUse}
use Rattle.rules.specs.declared.first_use.FirstUse.{FirstUse}
use Rattle.rules.specs.FirstUses.{FirstUses}
use Rattle.txid_index.specs.declared.lists.UsePlace.{UsePlace}
use Rattle.txid_index.specs.Hash.{id_hash}
use Rattle.txid_index.specs.Lists.{use_in}

-- the place that is kept for a hash
abbrev pub first_at : List (ℕ × UsePlace) → ℕ → Option UsePlace
first_at firsts hash = lookup (λ h. hash == h) firsts

-- the use that is kept by its id
abbrev pub other_of : List (List ℕ × FirstUse) → List ℕ → Option FirstUse
other_of others id = lookup (bytes_eq id) others

-- of an id, where its hash has this place
abbrev pub found_from : List (List NewUse) → List (List ℕ × FirstUse) → List ℕ → Option UsePlace → Option FirstUse
found_from lists others id None = None
found_from lists others id (Some p) = if bytes_eq (use_in lists p).id id then Some (use_in lists p).first_use else other_of others id

abbrev pub found : List (List NewUse) → List (ℕ × UsePlace) → List (List ℕ × FirstUse) → List ℕ → Option FirstUse
found lists firsts others id = found_from lists others id (first_at firsts (id_hash id))

-- it is found for each id, and none is kept by its id where its hash has no place
pub record IsIndex (lists : List (List NewUse)) (firsts : List (ℕ × UsePlace)) (others : List (List ℕ × FirstUse)) (uses : FirstUses) : Type 0 where
  pub finds : (id : List ℕ) → found lists firsts others id ≡ get uses id
  pub behind : (id : List ℕ) → first_at firsts (id_hash id) ≡ None → other_of others id ≡ None

-- a use more, where its id has none
abbrev pub if_its : NewUse → List ℕ → Option FirstUse
if_its u id = if bytes_eq id u.id then Some u.first_use else None

-- the same uses by their ids, and this one where its id has none
abbrev pub IsOneMore : List (List ℕ × FirstUse) → NewUse → List (List ℕ × FirstUse) → Type 0
IsOneMore old u new = (id : List ℕ) → other_of new id ≡ option_or (other_of old id) (if_its u id)
