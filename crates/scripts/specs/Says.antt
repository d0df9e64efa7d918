-- What one line of a script says, whatever stands before it, where its block has this version.
use Rattle.std.specs.Prelude.{ℕ, ◌&&◌, nat_lt, Bool, true, false, if◌then◌else◌, List, [], length, codes, Option, Some, None, option_map}
use Rattle.std.specs.Result.{result_ok}
use Rattle.std.specs.Str.{bytes_eq}
use Rattle.hex.specs.Hex.{decode_of}
use Rattle.values.specs.Name.{is_name}
use Rattle.values.specs.Key.{is_key, is_bound}
use Rattle.text_lines.specs.Lines.{first_part, after_first_part}
use Rattle.text_lines.specs.Words.{word_bytes}
use Rattle.transaction.specs.Limits.{max_tx_bytes}
use Rattle.transaction.specs.Combined.{◌>>=◌}
use Rattle.transaction.specs.declared.block_version.BlockVersion.{BlockVersion}
use Rattle.transaction.specs.declared.block_version.BlockVersion.TheVariants.{V1, V2}
use Rattle.transaction.specs.declared.transaction.Version.{Version}
use Rattle.transaction.specs.declared.transaction.Read.{Read}
use Rattle.transaction.specs.declared.transaction.KeyVersion.{KeyVersion}
use Rattle.transaction.specs.declared.transaction.Range.{Range}
use Rattle.transaction.specs.declared.transaction.Write.{Write}
use Rattle.transaction.specs.declared.transaction.PolicyWrite.{PolicyWrite}
use Rattle.key_book.specs.BookText.{identity_of}
use Rattle.scripts.specs.declared.draft.Content.{Content}
use Rattle.scripts.specs.declared.draft.Content.TheVariants as content
use Rattle.scripts.specs.declared.saying.Entry.{Entry}
use Rattle.scripts.specs.declared.saying.Entry.TheVariants as entry
use Rattle.scripts.specs.declared.saying.Saying.{Saying}
use Rattle.scripts.specs.declared.saying.Saying.TheVariants as saying
use Rattle.scripts.specs.Limits.{max_nonce_bytes, max_value_bytes, max_policy_bytes, at_most}
use Rattle.scripts.specs.Numbers.{number_of}

-- ---- parts of a line

abbrev pub name_of : List ℕ → Option (List ℕ)
name_of part = if is_name part then Some part else None

-- a word that spells a key
abbrev pub key_of : List ℕ → Option (List ℕ)
key_of part = do
  key ← word_bytes part
  if is_key key then Some key else None

-- a word that spells a bound
abbrev pub bound_of : List ℕ → Option (List ℕ)
bound_of part = do
  bound ← word_bytes part
  if is_bound bound then Some bound else None

-- a word that spells at most so many bytes
abbrev pub word_of : ℕ → List ℕ → Option (List ℕ)
word_of most part = word_bytes part >>= at_most most

-- `NUM NUM`
abbrev pub version_of : List ℕ → Option Version
version_of text = do
  block ← number_of 64 (first_part text)
  tx ← number_of 32 (after_first_part text)
  Some (record { block = block; tx = tx })

-- ---- what stands behind the first word

-- `absent`, or `NUM NUM`
abbrev pub read_version_of : List ℕ → Option (Option Version)
read_version_of text = if bytes_eq text (codes "absent") then Some None else option_map Some (version_of text)

-- `KEY absent`, or `KEY NUM NUM`
abbrev pub read_of : List ℕ → Option Read
read_of text = do
  key ← key_of (first_part text)
  version ← read_version_of (after_first_part text)
  Some (record { key = key; version = version })

-- `all` where the range is exhausted, `part` where it isn't
abbrev pub exhausted_of : List ℕ → Option Bool
exhausted_of part =
    if bytes_eq part (codes "all") then Some true
    else if bytes_eq part (codes "part") then Some false
    else None

-- `START END all`, or `START END part`
abbrev pub range_of : List ℕ → Option Range
range_of text = do
  start ← bound_of (first_part text)
  end ← bound_of (first_part (after_first_part text))
  exhausted ← exhausted_of (after_first_part (after_first_part text))
  Some (record { start = start; end = end; exhausted = exhausted; results = [] })

-- `KEY NUM NUM`
abbrev pub result_of : List ℕ → Option KeyVersion
result_of text = do
  key ← key_of (first_part text)
  version ← version_of (after_first_part text)
  Some (record { key = key; version = version })

-- `KEY VALUE`
abbrev pub write_of : List ℕ → Option Write
write_of text = do
  key ← key_of (first_part text)
  value ← word_of max_value_bytes (after_first_part text)
  Some (record { key = key; value = Some value })

-- `KEY`
abbrev pub delete_of : List ℕ → Option Write
delete_of text = do
  key ← key_of text
  Some (record { key = key; value = None })

-- the rest of a line, which isn't empty
abbrev pub policy_text_of : List ℕ → Option (List ℕ)
policy_text_of rest = if nat_lt 0 (length rest) then at_most max_policy_bytes rest else None

-- `KEY TEXT`
abbrev pub policy_of : List ℕ → Option PolicyWrite
policy_of text = do
  key ← key_of (first_part text)
  policy ← policy_text_of (after_first_part text)
  Some (record { key = key; policy = Some policy })

-- `KEY`
abbrev pub no_policy_of : List ℕ → Option PolicyWrite
no_policy_of text = do
  key ← key_of text
  Some (record { key = key; policy = None })

-- the parts IDENTITY, NONCE and NAME, and what the transaction or update has beside them
abbrev pub begins_of : List ℕ → List ℕ → List ℕ → Content → Option Saying
begins_of creator nonce name asked = do
  creator ← identity_of creator
  nonce ← word_of max_nonce_bytes nonce
  chaincode ← name_of name
  Some (saying.Begins creator nonce chaincode asked)

-- `IDENTITY NONCE NAME`
abbrev pub tx_of : List ℕ → Option Saying
tx_of text =
    begins_of (first_part text) (first_part (after_first_part text)) (after_first_part (after_first_part text)) (content.Tx [])

-- `IDENTITY NONCE NAME TEXT`; whether the text is a policy isn't asked
abbrev pub update_of : List ℕ → Option Saying
update_of text = do
  policy ← policy_text_of (after_first_part (after_first_part (after_first_part text)))
  begins_of (first_part text) (first_part (after_first_part text)) (first_part (after_first_part (after_first_part text)))
      (content.Update policy)

-- hexadecimal digits, two for each byte, or nothing where there is no byte
abbrev pub raw_of : List ℕ → Option (List ℕ)
raw_of digits = result_ok (decode_of digits) >>= at_most max_tx_bytes

-- ---- lines

-- a block of version 1 has transactions alone
abbrev pub has_updates : BlockVersion → Bool
has_updates V1 = false
has_updates V2 = true

-- the first word of an update's line
abbrev pub is_update : BlockVersion → List ℕ → Bool
is_update version word = has_updates version && bytes_eq word (codes "update")

-- a line of a namespace
abbrev pub entry_of : List ℕ → List ℕ → Option Entry
entry_of word rest =
    if bytes_eq word (codes "read") then option_map entry.Read (read_of rest)
    else if bytes_eq word (codes "range") then option_map entry.Range (range_of rest)
    else if bytes_eq word (codes "result") then option_map entry.Found (result_of rest)
    else if bytes_eq word (codes "write") then option_map entry.Write (write_of rest)
    else if bytes_eq word (codes "delete") then option_map entry.Write (delete_of rest)
    else if bytes_eq word (codes "policy") then option_map entry.Policy (policy_of rest)
    else if bytes_eq word (codes "nopolicy") then option_map entry.Policy (no_policy_of rest)
    else None

-- what a line says, or none where it has no form of the table, or a part over its limit
abbrev pub says : BlockVersion → List ℕ → Option Saying
says version line =
    if bytes_eq (first_part line) (codes "tx") then tx_of (after_first_part line)
    else if is_update version (first_part line) then update_of (after_first_part line)
    else if bytes_eq (first_part line) (codes "raw") then option_map saying.Raw (raw_of (after_first_part line))
    else if bytes_eq (first_part line) (codes "ns") then option_map saying.Namespace (name_of (after_first_part line))
    else if bytes_eq (first_part line) (codes "endorse") then option_map saying.Endorse (identity_of (after_first_part line))
    else option_map saying.Adds (entry_of (first_part line) (after_first_part line))
