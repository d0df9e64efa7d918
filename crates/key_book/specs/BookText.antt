-- The text of a key book: lines `ORG:ROLE:LABEL HEXKEY`, of identities that differ.
use Rattle.std.specs.Prelude.{ℕ, ◌+◌, ◌==◌, ◌&&◌, nat_le, if◌then◌else◌, List, [], ◌∷◌, ◌++◌, length, take, drop, position, codes, Option, Some, None, option_map, option_and_then, is_some, Result, Ok, Err}
use Rattle.std.specs.Result.{result_ok}
use Rattle.std.specs.Str.{bytes_eq}
use Rattle.hex.specs.Hex.{decode_of}
use Rattle.values.specs.Name.{is_name}
use Rattle.text_lines.specs.Lines.{Statement, statements, first_part, after_first_part}
use Rattle.text_lines.specs.Words.{word_bytes}
use Rattle.transaction.specs.declared.identity.Identity.{Identity}
use Rattle.transaction.specs.declared.identity.Role.{Role}
use Rattle.transaction.specs.declared.identity.Role.TheVariants.{Admin, Client, Peer, Orderer}
use Rattle.key_book.specs.declared.fault.KeyBookFault.{KeyBookFault}
use Rattle.key_book.specs.declared.fault.KeyBookFault.TheVariants.{Line}
use Rattle.key_book.specs.Entry.{Entry}
use Rattle.key_book.specs.Book.{key_in_book}

-- the bytes before the first `:`, and those behind it
abbrev pub around_colon : List ℕ → Option (List ℕ × List ℕ)
around_colon text = option_map (λ i. (take i text, drop (i + 1) text)) (position (λ b. b == 58) text)

abbrev pub role_of : List ℕ → Option Role
role_of word =
    if bytes_eq word (codes "admin") then Some Admin
    else if bytes_eq word (codes "client") then Some Client
    else if bytes_eq word (codes "peer") then Some Peer
    else if bytes_eq word (codes "orderer") then Some Orderer
    else None

-- the most bytes of a label
abbrev pub max_label_bytes : ℕ
max_label_bytes = 255

-- a word that spells at most 255 bytes
abbrev pub label_of : List ℕ → Option (List ℕ)
label_of word = option_and_then (λ label. if nat_le (length label) max_label_bytes then Some label else None) (word_bytes word)

abbrev pub member_of : List ℕ → List ℕ → List ℕ → Option Identity
member_of org role label =
    if is_name org then option_and_then (λ r. option_map (λ l. record { org = org; role = r; label = l }) (label_of label)) (role_of role)
    else None

-- `ORG:ROLE:LABEL`, where the label may have more `:`
abbrev pub identity_of : List ℕ → Option Identity
identity_of text =
    option_and_then (λ org. option_and_then (λ role. member_of org.0 role.0 role.1) (around_colon org.1)) (around_colon text)

-- the most digits of a key, two for each byte
abbrev pub max_digits : ℕ
max_digits = 128

-- 2 to 128 hexadecimal digits of either case
abbrev pub key_of_digits : List ℕ → Option (List ℕ)
key_of_digits digits = if nat_le 2 (length digits) && nat_le (length digits) max_digits then result_ok (decode_of digits) else None

-- `IDENTITY HEXKEY`
abbrev pub entry_of : List ℕ → Option Entry
entry_of line =
    option_and_then (λ identity. option_map (λ key. record { identity = identity; key = key }) (key_of_digits (after_first_part line)))
    (identity_of (first_part line))

-- the entries with that of line n, or the fault of the line
abbrev pub with_entry : ℕ → List Entry → Option Entry → Result (List Entry) KeyBookFault
with_entry n entries None = Err (Line n)
with_entry n entries (Some entry) =
    if is_some (key_in_book entry.identity entries) then Err (Line n) else Ok (entries ++ entry ∷ [])

infixl 10 ◌>>=◌
abbrev pub ◌>>=◌ : Result (List Entry) KeyBookFault → (List Entry → Result (List Entry) KeyBookFault) → Result (List Entry) KeyBookFault
(Ok entries) >>= f = f entries
(Err fault) >>= f = Err fault

-- line by line: the first fault, or the entries of all lines
abbrev pub book_from : List Entry → List Statement → Result (List Entry) KeyBookFault
book_from entries [] = Ok entries
book_from entries (s ∷ more) = with_entry s.line entries (entry_of s.bytes) >>= λ next. book_from next more

-- the entries that a text gives in order, or its first faulty line
abbrev pub book_of : List ℕ → Result (List Entry) KeyBookFault
book_of text = book_from [] (statements text)
