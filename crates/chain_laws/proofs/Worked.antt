-- Worked out: a first block of no transactions is accepted, and what is hashed of it; rows that have no room; blocks of
-- which the hash covers different things.
use Rattle.std.proofs.Common.{◌≡◌, ℕ, ◌^◌, ◌≤◌, Bool, cond, List, [], ◌∷◌, ◌++◌, length, map, Some, None, refl, sym, ap, ◌∙◌, arith}
use Rattle.std.specs.Prelude.{replicate}
use Rattle.std.specs.FinMap.{get, empty, insert, entries, put as in_place, get-empty, get-insert, entries-insert, len-entries, len-empty}
use Rattle.std.proofs.lemmas.List.{nil_from_length}
use Rattle.sha2.proofs.Facts256.{length-sha256}
use Rattle.transaction.specs.declared.block_version.BlockVersion.TheVariants.{V1, V2}
use Rattle.block.specs.declared.block.Block.{Block}
use Rattle.block.specs.declared.block.Previous.TheVariants.{Empty}
use Rattle.block.specs.Grammar.{bytes_of, Spells}
use Rattle.header_hash.specs.Hashes.{joined, data_hash_of}
use Rattle.policy.specs.Tree.{Tree}
use Rattle.policy_eval.specs.Accepts.{Accepts}
use Rattle.channel.specs.Configuration.{Configuration}
use Rattle.rules.specs.declared.flag.Flag.TheVariants.{Valid, BadPayload}
use Rattle.rules.specs.declared.row.Row.{Row}
use Rattle.rules.specs.State.{StateKey, State, key_cmp, is_same_key, with_changes}
use Rattle.rules.specs.Differing.{policy_text, differing}
use Rattle.rules.specs.Fold.{running, definitions_to}
use Rattle.rules.specs.CommitBytes.{BlockCommit, told_change, HasRoomForChange}
use Rattle.rules.specs.World.{empty_world}
use Rattle.rules.specs.Linked.{IsLinked}
use Rattle.rules.specs.Commit.{world_after}
use Rattle.rules.specs.Step.{accepted_of}
use Rattle.rules.proofs.Keys.{key_cmp_total, key_ties, same_as_itself}
use Rattle.chain_laws.specs.Room.{RowsHaveRoom}
use Rattle.chain_laws.specs.AcceptedBlock.{AcceptedBlock, hashed_of}
use Rattle.chain_laws.specs.ToldAlike.{AreToldAlike}

-- ---- small states

no_row : (q : StateKey) → get (empty {X = Row} {R = key_cmp}) q ≡ None
no_row q = get-empty key_cmp q

put_row : (m : State) (k : StateKey) (row : Row) (q : StateKey) → get (insert m k row) q ≡ cond (is_same_key q k) (Some row) (get m q)
put_row m k row q = get-insert key_cmp_total m k row q ∙ ap (λ (b : Bool). cond b (Some row) (get m q)) (key_ties q k)

no_entries : entries {X = Row} {R = key_cmp} empty ≡ []
no_entries = nil_from_length (entries {X = Row} {R = key_cmp} empty) (sym (len-entries empty) ∙ len-empty key_cmp Row)

put_entries : (m : State) (k : StateKey) (row : Row) → entries (insert m k row) ≡ in_place key_cmp k row (entries m)
put_entries m k row = entries-insert key_cmp_total m k row

ruleset computed = (no_row, put_row, no_entries, put_entries)

-- ---- a first block

abbrev no_transactions : Block
no_transactions = record { version = V1; header = record { number = 0; previous = Empty; data_hash = data_hash_of [] }; txs = [] }

pub spelled : Spells (bytes_of no_transactions) no_transactions
spelled = record { header = record { number = omega arith; previous = tt; data_hash = length-sha256 (joined []) }; count = omega arith; each = tt; fields = refl }

pub linked : (channel : Configuration) → IsLinked (empty_world channel.definitions) no_transactions
linked channel = record { number = refl; previous = refl; data_hash = refl; version = refl }

-- every channel accepts it
abbrev pub first_block : Configuration → Accepts → AcceptedBlock
first_block channel accepts = record {
  channel = channel;
  submissions = [];
  answers = [];
  before = empty_world channel.definitions;
  chain = refl;
  submission = record { bytes = bytes_of no_transactions; accepts = accepts };
  answer = accepted_of channel accepts (empty_world channel.definitions) no_transactions;
  after = world_after channel accepts (empty_world channel.definitions) (bytes_of no_transactions) no_transactions;
  step = (no_transactions, spelled, linked channel, refl, refl);
}

-- 32 zeros, the version, and no flag, row or definition
pub first_block_hashed : (channel : Configuration) (accepts : Accepts) → hashed_of (first_block channel accepts) ≡ replicate 32 0 ++ 1 ∷ replicate 17 0
unfolding differing with_changes running definitions_to
first_block_hashed channel accepts = simp computed refl

-- ---- rows without room

module _ (k : StateKey) (row : Row) (rows : RowsHaveRoom (insert empty k row)) where
  own_room : HasRoomForChange (told_change (k, Some row))
  own_room = rows k row (put_row empty k row k ∙ ap (λ (b : Bool). cond b (Some row) (get (empty {R = key_cmp}) k)) (same_as_itself k))

  pub long_name : 2 ^ 8 ≤ length k.0 → ⊥
  long_name long = omega (arith, long, own_room.0)

  pub long_key : 2 ^ 16 ≤ length k.1 → ⊥
  long_key long = omega (arith, long, own_room.1.0)

  pub late_block : 2 ^ 64 ≤ row.version.block → ⊥
  late_block late = omega (arith, late, own_room.1.1.0.block)

  pub late_place : 2 ^ 32 ≤ row.version.tx → ⊥
  late_place late = omega (arith, late, own_room.1.1.0.tx)

  pub long_value : 2 ^ 32 ≤ length row.value → ⊥
  long_value long = omega (arith, long, own_room.1.1.1.0)

  pub long_policy : 2 ^ 16 ≤ length (policy_text row.policy) → ⊥
  long_policy long = omega (arith, long, own_room.1.1.1.1)

-- ---- blocks of which the hash covers different things

pub other_version : (c : BlockCommit) → AreToldAlike (record c { version = V1 }) (record c { version = V2 }) → ⊥
other_version c alike = let same : V1 ≡ V2 = alike.version in absurd cc

pub other_number : (c : BlockCommit) → AreToldAlike (record c { number = 0 }) (record c { number = 1 }) → ⊥
other_number c alike = omega (arith, alike.number)

pub other_flags : (c : BlockCommit) → AreToldAlike (record c { flags = Valid ∷ [] }) (record c { flags = BadPayload ∷ [] }) → ⊥
other_flags c alike = let same : Valid ∷ [] ≡ BadPayload ∷ [] = alike.flags in absurd cc

pub no_definition : (c : BlockCommit) (d : List ℕ × Tree) → AreToldAlike (record c { definition = None }) (record c { definition = Some d }) → ⊥
no_definition c d alike = absurd (none _ alike.definition)
  where
    none : (x : List ℕ × List ℕ) → None ≡ Some x → ⊥
    none x e = absurd cc

abbrev put : Row
put = record { value = 7 ∷ []; version = record { block = 0; tx = 0 }; policy = None }

pub other_rows : (c : BlockCommit) → AreToldAlike (record c { before = empty; after = empty }) (record c { before = empty; after = insert empty (9 ∷ [], 8 ∷ []) put }) → ⊥
unfolding differing with_changes
other_rows c alike =
    let nothing : length (map told_change (differing empty empty)) ≡ 0 = simp computed refl in
    let one : length (map told_change (differing empty (insert empty (9 ∷ [], 8 ∷ []) put))) ≡ 1 = simp computed refl in
    omega (arith, ap length alike.changes, nothing, one)
