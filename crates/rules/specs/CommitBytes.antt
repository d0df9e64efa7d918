-- What is hashed of a block that is committed, behind the commit hash before it. Numbers have the highest byte first.
use Rattle.std.specs.Prelude.{ℕ, ◌^◌, ◌<◌, List, [], ◌∷◌, ◌++◌, length, map, replicate, Option, Some, None, IfSome, option_map}
use Rattle.std.specs.List.{AllByRecursion}
use Rattle.byteorder.specs.Endian.{big_bytes}
use Rattle.transaction.specs.declared.block_version.BlockVersion.{BlockVersion}
use Rattle.transaction.specs.declared.block_version.BlockVersion.TheVariants.{V1, V2}
use Rattle.transaction.specs.declared.transaction.Version.{Version}
use Rattle.transaction.specs.Grammar.{counted, listed, optional, version_bytes, IsVersion}
use Rattle.policy.specs.Tree.{Tree}
use Rattle.policy.specs.Text.{text_of}
use Rattle.rules.specs.declared.flag.Flag.{Flag}
use Rattle.rules.specs.declared.row.Row.{Row}
use Rattle.rules.specs.Flags.{number_of}
use Rattle.rules.specs.State.{State, ChangeOf}
use Rattle.rules.specs.Differing.{differing, policy_text}

-- What a block is and does, as far as its commit hash covers it.
pub record BlockCommit : Type 0 where
  pub version : BlockVersion
  pub number : ℕ
  pub flags : List Flag
  -- the states before and after it
  pub before : State
  pub after : State
  -- the chaincode whose policy it replaces, and the new one
  pub definition : Option (List ℕ × Tree)

abbrev pub version_number : BlockVersion → ℕ
version_number V1 = 1
version_number V2 = 2

-- version, value, text of the policy
abbrev pub row_bytes : Row → List ℕ
row_bytes r = version_bytes r.version ++ (counted 4 r.value ++ counted 2 (policy_text r.policy))

-- namespace and key; then 0 where the row is gone, or 1 and the row
abbrev pub change_bytes : ChangeOf Row → List ℕ
change_bytes c = counted 1 c.0.0 ++ (counted 2 c.0.1 ++ optional row_bytes c.1)

-- the count of the rows that differ between two states, and these rows
abbrev pub update_bytes : State → State → List ℕ
update_bytes before after = listed 4 change_bytes (differing before after)

-- a chaincode's name, and the text of its new policy
abbrev pub definition_bytes : List ℕ × Tree → List ℕ
definition_bytes d = counted 1 d.0 ++ counted 2 (text_of d.1)

abbrev pub commit_bytes : BlockCommit → List ℕ
commit_bytes c =
    version_number c.version ∷ (big_bytes 8 c.number ++ (listed 4 (λ f. number_of f ∷ []) c.flags ++ (update_bytes c.before c.after ++ optional definition_bytes c.definition)))

-- what stands for the commit hash before block 0
abbrev pub commit_hash_before : Option (List ℕ) → List ℕ
commit_hash_before None = replicate 32 0
commit_hash_before (Some hash) = hash

-- ---- what the bytes tell: of a policy its canonical text

abbrev pub ToldRow : Type 0
ToldRow = Version × (List ℕ × List ℕ)

abbrev pub told_row : Row → ToldRow
told_row r = (r.version, (r.value, policy_text r.policy))

abbrev pub ToldChange : Type 0
ToldChange = List ℕ × (List ℕ × Option ToldRow)

abbrev pub told_change : ChangeOf Row → ToldChange
told_change c = (c.0.0, (c.0.1, option_map told_row c.1))

abbrev pub told_definition : List ℕ × Tree → List ℕ × List ℕ
told_definition d = (d.0, text_of d.1)

-- lengths and numbers that have room in their bytes
abbrev pub HasRoomForRow : ToldRow → Type 0
HasRoomForRow r = IsVersion r.0 × ((length r.1.0 < 2 ^ 32) × (length r.1.1 < 2 ^ 16))

abbrev pub HasRoomForChange : ToldChange → Type 0
HasRoomForChange c = (length c.0 < 2 ^ 8) × ((length c.1.0 < 2 ^ 16) × IfSome c.1.1 HasRoomForRow)

pub record HasRoom (c : BlockCommit) : Type 0 where
  pub number : c.number < 2 ^ 64
  pub flags : length c.flags < 2 ^ 32
  pub count : length (differing c.before c.after) < 2 ^ 32
  pub rows : AllByRecursion HasRoomForChange (map told_change (differing c.before c.after))
  pub definition : IfSome (option_map told_definition c.definition) (λ d. (length d.0 < 2 ^ 8) × (length d.1 < 2 ^ 16))
