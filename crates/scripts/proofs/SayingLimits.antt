-- What a line says is within its limits.
use Rattle.std.proofs.Common.{◌≡◌, ℕ, ◌<◌, ◌≤◌, ◌^◌, ◌&&◌, Bool, true, false, cond, List, [], length, Option, Some, None, refl, arith}
use Rattle.std.specs.Prelude.{IsTrue, IfSome, option_map, option_and_then, nat_le, nat_lt, codes}
use Rattle.std.specs.Str.{bytes_eq}
use Rattle.std.specs.Result.{result_ok}
use Rattle.std.proofs.lemmas.Bool.Decides.{nat_tests}
use Rattle.std.specs.Str.Parse.{digits_value}
use Rattle.hex.specs.Hex.{decode_of}
use Rattle.values.specs.Name.{is_name}
use Rattle.values.specs.Key.{is_key, is_bound}
use Rattle.text_lines.specs.Lines.{first_part, after_first_part}
use Rattle.text_lines.specs.Words.{word_bytes}
use Rattle.transaction.specs.Combined.{◌>>=◌}
use Rattle.transaction.specs.Grammar.{IsIdentity, IsVersion, IsRead, IsResult, IsRange, IsWrite, IsPolicyWrite}
use Rattle.transaction.specs.Limits.{max_tx_bytes}
use Rattle.transaction.specs.declared.identity.Identity.{Identity}
use Rattle.transaction.specs.declared.identity.Role.{Role}
use Rattle.transaction.specs.declared.block_version.BlockVersion.{BlockVersion}
use Rattle.transaction.specs.declared.block_version.BlockVersion.TheVariants.{V1, V2}
use Rattle.transaction.specs.declared.transaction.Version.{Version}
use Rattle.key_book.specs.BookText.{identity_of, member_of, label_of, role_of, around_colon}
use Rattle.scripts.specs.declared.draft.Content.{Content}
use Rattle.scripts.specs.declared.draft.Content.TheVariants as content
use Rattle.scripts.specs.declared.saying.Entry.{Entry}
use Rattle.scripts.specs.declared.saying.Entry.TheVariants as entry
use Rattle.scripts.specs.declared.saying.Saying.{Saying}
use Rattle.scripts.specs.declared.saying.Saying.TheVariants as saying
use Rattle.scripts.specs.Limits.{at_most, max_nonce_bytes, max_value_bytes, max_policy_bytes}
use Rattle.scripts.specs.Numbers.{is_number, number_of}
use Rattle.scripts.specs.Says as spec
use Rattle.scripts.specs.Within.{IsContent, IsOf}

-- ---- choices

pub kept : {A : Type 0} (b : Bool) (x : A) (P : A → Type 0) → (IsTrue b → P x) → IfSome (cond b (Some x) None) P
kept true x P holds = holds refl
kept false x P holds = tt

pub either : {A : Type 0} (b : Bool) (x y : Option A) (P : A → Type 0) → IfSome x P → IfSome y P → IfSome (cond b x y) P
either true x y P first second = first
either false x y P first second = second

pub mapped : {A B : Type 0} (f : A → B) (o : Option A) (P : A → Type 0) (Q : B → Type 0) → ((x : A) → P x → Q (f x)) → IfSome o P → IfSome (option_map f o) Q
mapped f None P Q to h = tt
mapped f (Some x) P Q to h = to x h

tested : (test : List ℕ → Bool) (o : Option (List ℕ)) → IfSome (o >>= λ x. cond (test x) (Some x) None) (λ x. IsTrue (test x))
tested test None = tt
tested test (Some x) = kept (test x) x (λ y. IsTrue (test y)) (λ holds. holds)

no_more : (a b : ℕ) → nat_le a b ≡ true → a ≤ b
no_more a b test = grind (arith, nat_tests)

pub below : (a b : ℕ) → nat_lt a b ≡ true → a < b
below a b test = grind (arith, nat_tests)

-- ---- parts

at_most_within : (most : ℕ) (bytes : List ℕ) → IfSome (at_most most bytes) (λ b. length b ≤ most)
at_most_within most bytes = kept (nat_le (length bytes) most) bytes (λ b. length b ≤ most) (no_more (length bytes) most)

bounded : (most : ℕ) (o : Option (List ℕ)) → IfSome (o >>= at_most most) (λ b. length b ≤ most)
bounded most None = tt
bounded most (Some bytes) = at_most_within most bytes

key_within : (part : List ℕ) → IfSome (spec.key_of part) (λ key. IsTrue (is_key key))
key_within part = tested is_key (word_bytes part)

bound_within : (part : List ℕ) → IfSome (spec.bound_of part) (λ bound. IsTrue (is_bound bound))
bound_within part = tested is_bound (word_bytes part)

name_within : (part : List ℕ) → IfSome (spec.name_of part) (λ name. IsTrue (is_name name))
name_within part = kept (is_name part) part (λ name. IsTrue (is_name name)) (λ holds. holds)

number_within : (bits : ℕ) (text : List ℕ) → IfSome (number_of bits text) (λ n. n < 2 ^ bits)
number_within bits text =
    let n = digits_value 10 text in
    either (is_number text) (cond (nat_lt n (2 ^ bits)) (Some n) None) None (λ m. m < 2 ^ bits)
    (kept (nat_lt n (2 ^ bits)) n (λ m. m < 2 ^ bits) (below n (2 ^ bits))) tt

version_made : (block tx : Option ℕ) → IfSome block (λ n. n < 2 ^ 64) → IfSome tx (λ n. n < 2 ^ 32)
    → IfSome (block >>= λ b. tx >>= λ t. Some (record { block = b; tx = t })) IsVersion
version_made None tx b t = tt
version_made (Some block) None b t = tt
version_made (Some block) (Some tx) b t = record { block = b; tx = t }

version_within : (text : List ℕ) → IfSome (spec.version_of text) IsVersion
version_within text =
    version_made (number_of 64 (first_part text)) (number_of 32 (after_first_part text)) (number_within 64 (first_part text)) (number_within 32 (after_first_part text))

-- ---- identities

identity_made : (org : List ℕ) (role : Option Role) (label : Option (List ℕ)) → IsTrue (is_name org) → IfSome label (λ l. length l ≤ 255)
    → IfSome (option_and_then (λ r. option_map (λ l. record { org = org; role = r; label = l }) label) role) IsIdentity
identity_made org None label o l = tt
identity_made org (Some role) None o l = tt
identity_made org (Some role) (Some label) o l = record { org = o; label = omega arith }

label_within : (word : List ℕ) → IfSome (label_of word) (λ l. length l ≤ 255)
label_within word = bounded 255 (word_bytes word)

member_when : (b : Bool) (org role label : List ℕ) → (b ≡ true → IsTrue (is_name org))
    → IfSome (cond b (option_and_then (λ r. option_map (λ l. record { org = org; role = r; label = l }) (label_of label)) (role_of role)) None) IsIdentity
member_when true org role label named = identity_made org (role_of role) (label_of label) (named refl) (label_within label)
member_when false org role label named = tt

member_within : (org role label : List ℕ) → IfSome (member_of org role label) IsIdentity
member_within org role label = member_when (is_name org) org role label (λ named. named)

identity_from : (org : Option (List ℕ × List ℕ)) → IfSome (option_and_then (λ o. option_and_then (λ role. member_of o.0 role.0 role.1) (around_colon o.1)) org) IsIdentity
identity_from None = tt
identity_from (Some org) = identity_in org.0 (around_colon org.1)
  where
    identity_in : (org : List ℕ) (role : Option (List ℕ × List ℕ)) → IfSome (option_and_then (λ r. member_of org r.0 r.1) role) IsIdentity
    identity_in org None = tt
    identity_in org (Some role) = member_within org role.0 role.1

pub identity_within : (text : List ℕ) → IfSome (identity_of text) IsIdentity
identity_within text = identity_from (around_colon text)

-- ---- what stands behind the first word

read_made : (key : Option (List ℕ)) (version : Option (Option Version)) → IfSome key (λ k. IsTrue (is_key k)) → IfSome version (λ v. IfSome v IsVersion)
    → IfSome (key >>= λ k. version >>= λ v. Some (record { key = k; version = v })) IsRead
read_made None version k v = tt
read_made (Some key) None k v = tt
read_made (Some key) (Some version) k v = record { key = k; version = v }

read_version_within : (text : List ℕ) → IfSome (spec.read_version_of text) (λ v. IfSome v IsVersion)
read_version_within text =
    either (bytes_eq text (codes "absent")) (Some None) (option_map Some (spec.version_of text)) (λ v. IfSome v IsVersion) tt
    (mapped Some (spec.version_of text) IsVersion (λ v. IfSome v IsVersion) (λ v h. h) (version_within text))

read_within : (text : List ℕ) → IfSome (spec.read_of text) IsRead
read_within text = read_made (spec.key_of (first_part text)) (spec.read_version_of (after_first_part text)) (key_within (first_part text)) (read_version_within (after_first_part text))

range_made : (start end : Option (List ℕ)) (exhausted : Option Bool) → IfSome start (λ b. IsTrue (is_bound b)) → IfSome end (λ b. IsTrue (is_bound b))
    → IfSome (start >>= λ s. end >>= λ e. exhausted >>= λ x. Some (record { start = s; end = e; exhausted = x; results = [] })) IsRange
range_made None end exhausted s e = tt
range_made (Some start) None exhausted s e = tt
range_made (Some start) (Some end) None s e = tt
range_made (Some start) (Some end) (Some exhausted) s e = record { start = s; end = e; results = (omega arith, tt) }

range_within : (text : List ℕ) → IfSome (spec.range_of text) IsRange
range_within text =
    let rest = after_first_part text in
    range_made (spec.bound_of (first_part text)) (spec.bound_of (first_part rest)) (spec.exhausted_of (after_first_part rest)) (bound_within (first_part text)) (bound_within (first_part rest))

result_made : (key : Option (List ℕ)) (version : Option Version) → IfSome key (λ k. IsTrue (is_key k)) → IfSome version IsVersion
    → IfSome (key >>= λ k. version >>= λ v. Some (record { key = k; version = v })) IsResult
result_made None version k v = tt
result_made (Some key) None k v = tt
result_made (Some key) (Some version) k v = record { key = k; version = v }

result_within : (text : List ℕ) → IfSome (spec.result_of text) IsResult
result_within text = result_made (spec.key_of (first_part text)) (spec.version_of (after_first_part text)) (key_within (first_part text)) (version_within (after_first_part text))

write_made : (key value : Option (List ℕ)) → IfSome key (λ k. IsTrue (is_key k)) → IfSome value (λ v. length v ≤ max_value_bytes)
    → IfSome (key >>= λ k. value >>= λ v. Some (record { key = k; value = Some v })) IsWrite
write_made None value k v = tt
write_made (Some key) None k v = tt
write_made (Some key) (Some value) k v = record { key = k; value = omega arith }

write_within : (text : List ℕ) → IfSome (spec.write_of text) IsWrite
write_within text =
    write_made (spec.key_of (first_part text)) (spec.word_of max_value_bytes (after_first_part text)) (key_within (first_part text)) (bounded max_value_bytes (word_bytes (after_first_part text)))

delete_made : (key : Option (List ℕ)) → IfSome key (λ k. IsTrue (is_key k)) → IfSome (key >>= λ k. Some (record { key = k; value = None })) IsWrite
delete_made None k = tt
delete_made (Some key) k = record { key = k; value = tt }

delete_within : (text : List ℕ) → IfSome (spec.delete_of text) IsWrite
delete_within text = delete_made (spec.key_of text) (key_within text)

policy_text_within : (rest : List ℕ) → IfSome (spec.policy_text_of rest) (λ t. length t ≤ max_policy_bytes)
policy_text_within rest =
    either (nat_lt 0 (length rest)) (at_most max_policy_bytes rest) None (λ t. length t ≤ max_policy_bytes) (at_most_within max_policy_bytes rest) tt

policy_made : (key policy : Option (List ℕ)) → IfSome key (λ k. IsTrue (is_key k)) → IfSome policy (λ t. length t ≤ max_policy_bytes)
    → IfSome (key >>= λ k. policy >>= λ p. Some (record { key = k; policy = Some p })) IsPolicyWrite
policy_made None policy k p = tt
policy_made (Some key) None k p = tt
policy_made (Some key) (Some policy) k p = record { key = k; policy = omega arith }

policy_within : (text : List ℕ) → IfSome (spec.policy_of text) IsPolicyWrite
policy_within text =
    policy_made (spec.key_of (first_part text)) (spec.policy_text_of (after_first_part text)) (key_within (first_part text)) (policy_text_within (after_first_part text))

no_policy_made : (key : Option (List ℕ)) → IfSome key (λ k. IsTrue (is_key k)) → IfSome (key >>= λ k. Some (record { key = k; policy = None })) IsPolicyWrite
no_policy_made None k = tt
no_policy_made (Some key) k = record { key = k; policy = tt }

no_policy_within : (text : List ℕ) → IfSome (spec.no_policy_of text) IsPolicyWrite
no_policy_within text = no_policy_made (spec.key_of text) (key_within text)

-- ---- lines

abbrev pub IsEntry : Entry → Type 0
IsEntry (entry.Read read) = IsRead read
IsEntry (entry.Range range) = IsRange range
IsEntry (entry.Found found) = IsResult found
IsEntry (entry.Write write) = IsWrite write
IsEntry (entry.Policy write) = IsPolicyWrite write

abbrev pub IsSaying : BlockVersion → Saying → Type 0
IsSaying version (saying.Begins creator nonce chaincode asked) =
    IsIdentity creator × (length nonce ≤ max_nonce_bytes) × IsTrue (is_name chaincode) × IsContent asked × IsOf version asked
IsSaying version (saying.Raw bytes) = length bytes ≤ max_tx_bytes
IsSaying version (saying.Namespace name) = IsTrue (is_name name)
IsSaying version (saying.Adds e) = IsEntry e
IsSaying version (saying.Endorse endorser) = IsIdentity endorser

entry_within : (word rest : List ℕ) → IfSome (spec.entry_of word rest) IsEntry
entry_within word rest =
    either (bytes_eq word (codes "read")) _ _ IsEntry (mapped entry.Read (spec.read_of rest) IsRead IsEntry (λ x h. h) (read_within rest))
    (either (bytes_eq word (codes "range")) _ _ IsEntry (mapped entry.Range (spec.range_of rest) IsRange IsEntry (λ x h. h) (range_within rest))
    (either (bytes_eq word (codes "result")) _ _ IsEntry (mapped entry.Found (spec.result_of rest) IsResult IsEntry (λ x h. h) (result_within rest))
    (either (bytes_eq word (codes "write")) _ _ IsEntry (mapped entry.Write (spec.write_of rest) IsWrite IsEntry (λ x h. h) (write_within rest))
    (either (bytes_eq word (codes "delete")) _ _ IsEntry (mapped entry.Write (spec.delete_of rest) IsWrite IsEntry (λ x h. h) (delete_within rest))
    (either (bytes_eq word (codes "policy")) _ _ IsEntry (mapped entry.Policy (spec.policy_of rest) IsPolicyWrite IsEntry (λ x h. h) (policy_within rest))
    (either (bytes_eq word (codes "nopolicy")) _ _ IsEntry (mapped entry.Policy (spec.no_policy_of rest) IsPolicyWrite IsEntry (λ x h. h) (no_policy_within rest))
    tt))))))

begins_made : (version : BlockVersion) (creator : Option Identity) (nonce chaincode : Option (List ℕ)) (asked : Content) → IfSome creator IsIdentity → IfSome nonce (λ n. length n ≤ max_nonce_bytes)
    → IfSome chaincode (λ n. IsTrue (is_name n)) → IsContent asked → IsOf version asked
    → IfSome (creator >>= λ c. nonce >>= λ n. chaincode >>= λ cc. Some (saying.Begins c n cc asked)) (IsSaying version)
begins_made version None nonce chaincode asked in_creator in_nonce in_name fits kind = tt
begins_made version (Some creator) None chaincode asked in_creator in_nonce in_name fits kind = tt
begins_made version (Some creator) (Some nonce) None asked in_creator in_nonce in_name fits kind = tt
begins_made version (Some creator) (Some nonce) (Some name) asked in_creator in_nonce in_name fits kind = (in_creator, in_nonce, in_name, fits, kind)

begins_within : (version : BlockVersion) (creator nonce name : List ℕ) (asked : Content) → IsContent asked → IsOf version asked
    → IfSome (spec.begins_of creator nonce name asked) (IsSaying version)
begins_within version creator nonce name asked fits kind =
    begins_made version (identity_of creator) (spec.word_of max_nonce_bytes nonce) (spec.name_of name) asked
    (identity_within creator) (bounded max_nonce_bytes (word_bytes nonce)) (name_within name) fits kind

tx_within : (version : BlockVersion) (text : List ℕ) → IfSome (spec.tx_of text) (IsSaying version)
tx_within version text =
    let rest = after_first_part text in
    begins_within version (first_part text) (first_part rest) (after_first_part rest) (content.Tx []) (omega arith, tt) tt

update_with : (creator nonce name : List ℕ) (policy : Option (List ℕ)) → IfSome policy (λ t. length t ≤ max_policy_bytes)
    → IfSome (policy >>= λ t. spec.begins_of creator nonce name (content.Update t)) (IsSaying V2)
update_with creator nonce name None short = tt
update_with creator nonce name (Some text) short = begins_within V2 creator nonce name (content.Update text) (omega (arith, short)) tt

update_within : (text : List ℕ) → IfSome (spec.update_of text) (IsSaying V2)
update_within text =
    let rest = after_first_part text in
    let named = after_first_part rest in
    update_with (first_part text) (first_part rest) (first_part named) (spec.policy_text_of (after_first_part named)) (policy_text_within (after_first_part named))

-- an update's line is one in version 2 alone
update_when : (version : BlockVersion) (is_word : Bool) (text : List ℕ) (others : Option Saying) → IfSome others (IsSaying version)
    → IfSome (cond (spec.has_updates version && is_word) (spec.update_of text) others) (IsSaying version)
update_when V1 is_word text others rest = rest
update_when V2 is_word text others rest = either is_word (spec.update_of text) others (IsSaying V2) (update_within text) rest

pub says_within : (version : BlockVersion) (line : List ℕ) → IfSome (spec.says version line) (IsSaying version)
says_within version line =
    let word = first_part line in
    let rest = after_first_part line in
    let Is = IsSaying version in
    either (bytes_eq word (codes "tx")) _ _ Is (tx_within version rest)
    (update_when version (bytes_eq word (codes "update")) rest _
    (either (bytes_eq word (codes "raw")) _ _ Is
    (mapped saying.Raw (spec.raw_of rest) (λ b. length b ≤ max_tx_bytes) Is (λ x h. h) (bounded max_tx_bytes (result_ok (decode_of rest))))
    (either (bytes_eq word (codes "ns")) _ _ Is (mapped saying.Namespace (spec.name_of rest) (λ n. IsTrue (is_name n)) Is (λ x h. h) (name_within rest))
    (either (bytes_eq word (codes "endorse")) _ _ Is (mapped saying.Endorse (identity_of rest) IsIdentity Is (λ x h. h) (identity_within rest))
    (mapped saying.Adds (spec.entry_of word rest) IsEntry Is (λ x h. h) (entry_within word rest))))))
