-- What a history tells.
use Rattle.std.specs.Prelude.{◌≡◌, ◌⊎◌, ℕ, ◌+◌, List, [], ◌∷◌, ◌++◌, length, nat_le, ◌&&◌, if◌then◌else◌, Option, None, Some, is_none, unwrap_or}
use Rattle.std.specs.List.{flat_map}
use Rattle.std.specs.Bool.{MatchBool}
use Rattle.values.specs.Name.{is_name}
use Rattle.values.specs.Key.{is_key}
use Rattle.rules.specs.declared.history.HistoryEntry.{HistoryEntry}
use Rattle.rules.specs.Answers.{history_answer}
use Rattle.c_handle.specs.declared.kept.Kept.{Kept}
use Rattle.c_calls.specs.declared.codes.TheConstants.{OK, MEMORY, CLOSED, NO_NAME, SMALL}
use Rattle.c_calls.specs.declared.history.Past.{Past}
use Rattle.c_calls.specs.declared.history.PastWrite.{PastWrite}
use Rattle.c_calls.specs.declared.history.HistorySizes.{HistorySizes}
use Rattle.c_calls.specs.Buffers.{with_front}

-- the value of a write; a delete has none
abbrev pub value_of : HistoryEntry → List ℕ
value_of e = unwrap_or e.value []

-- what the pool has of an entry: the transaction's id, the value
abbrev pub pooled_write : HistoryEntry → List ℕ
pooled_write e = e.id ++ value_of e

abbrev pub past_pool : List HistoryEntry → List ℕ
past_pool entries = flat_map pooled_write entries

-- the entry whose bytes begin at this place of the pool
abbrev pub write_at : ℕ → HistoryEntry → PastWrite
write_at n e = record {
  id = record { at = n; len = length e.id };
  value = record { at = n + length e.id; len = length (value_of e) };
  block = e.version.block;
  tx = e.version.tx;
  deleted = is_none e.value;
}

-- entries whose bytes stand one after the other from this place on
abbrev pub past_writes : ℕ → List HistoryEntry → List PastWrite
past_writes n [] = []
past_writes n (e ∷ entries) = write_at n e ∷ past_writes (n + length (pooled_write e)) entries

-- entries with their pool
pub record IsPast (entries : List HistoryEntry) (p : Past) : Type 0 where
  pub pool_is : p.pool.items ≡ past_pool entries
  pub writes_are : p.writes.items ≡ past_writes 0 entries

-- The sizes were told. Where both fit, both were written, and else neither.
pub record TheseWrites (bytes : List ℕ) (list : List PastWrite) (pool pool' : List ℕ) (writes writes' : List PastWrite) (sizes' : HistorySizes) (code : ℕ) : Type 0 where
  pub told_sizes : sizes' ≡ record { pool = length bytes; writes = length list }
  pub told_code : code ≡ (if nat_le (length bytes) (length pool) && nat_le (length list) (length writes) then OK else SMALL)
  pub pool_after : pool' ≡ (if nat_le (length bytes) (length pool) && nat_le (length list) (length writes) then with_front bytes pool else pool)
  pub writes_after : writes' ≡ (if nat_le (length bytes) (length pool) && nat_le (length list) (length writes) then with_front list writes else writes)

-- Nothing was told but the code.
pub record NoWrites (why : ℕ) (pool pool' : List ℕ) (writes writes' : List PastWrite) (sizes sizes' : HistorySizes) (code : ℕ) : Type 0 where
  pub told_code : code ≡ why
  pub pool_same : pool' ≡ pool
  pub writes_same : writes' ≡ writes
  pub sizes_same : sizes' ≡ sizes

abbrev pub PastGiven : List HistoryEntry → List ℕ → List ℕ → List PastWrite → List PastWrite → HistorySizes → HistorySizes → ℕ → Type 0
PastGiven entries pool pool' writes writes' sizes sizes' code =
    TheseWrites (past_pool entries) (past_writes 0 entries) pool pool' writes writes' sizes' code ⊎ NoWrites MEMORY pool pool' writes writes' sizes sizes' code

abbrev pub PastTold : Option Kept → List ℕ → List ℕ → List ℕ → List ℕ → List PastWrite → List PastWrite → HistorySizes → HistorySizes → ℕ → Type 0
PastTold None namespace key pool pool' writes writes' sizes sizes' code = NoWrites CLOSED pool pool' writes writes' sizes sizes' code
PastTold (Some kept) namespace key pool pool' writes writes' sizes sizes' code =
    MatchBool (is_name namespace && is_key key) (PastGiven (history_answer kept.ledger.world (namespace, key)) pool pool' writes writes' sizes sizes' code)
    (NoWrites NO_NAME pool pool' writes writes' sizes sizes' code)
