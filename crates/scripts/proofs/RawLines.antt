-- A script of raw lines alone says their bytes.
use Rattle.std.proofs.Common.{◌≡◌, ℕ, ◌+◌, ◌-◌, ◌/◌, ◌%◌, ◌<◌, ◌≤◌, ◌==◌, zero, suc, Bool, true, false, cond, List, [], ◌∷◌, ◌++◌, length, reverse, map, drop, take, Option, Some, None, Ok, ap, refl, sym, ◌∙◌, subst, nat_lt, arith}
use Rattle.std.specs.Prelude.{codes, slice_index, ◌||◌, if◌then◌else◌, nat_le, option_map}
use Rattle.std.specs.Result.{result_ok}
use Rattle.std.specs.Str.{bytes_eq}
use Rattle.std.specs.List.{All, AllByRecursion, slice_split, prefix_len}
use Rattle.std.specs.Str.Lines.{lines, lines_of_parts, strip_carriage_return}
use Rattle.std.proofs.lemmas.List.{append-nil, append_assoc, length-append, reverse-append, reverse-reverse}
use Rattle.std.proofs.lemmas.List.Elements.{All-cons}
use Rattle.std.proofs.lemmas.List.Splits.{slice_split_at, length-slice_split}
use Rattle.std.proofs.lemmas.Bool.{ne_eqb}
use Rattle.std.proofs.lemmas.Bool.Decides.{nat_tests}
use Rattle.hex.specs.Hex.{IsBytes, encode_lower, encode_with, decode_of, decode_pairs, lower_digits}
use Rattle.hex.proofs.HexLemmas.{decode_of-encode_lower}
use Rattle.text_lines.specs.Lines.{Statement, is_space, without_front_spaces, trimmed, says_nothing, statements_from, first_part, after_first_part}
use Rattle.transaction.specs.Limits.{max_tx_bytes}
use Rattle.transaction.specs.Combined.{◌>>=◌}
use Rattle.transaction.specs.declared.block_version.BlockVersion.{BlockVersion}
use Rattle.transaction.specs.declared.block_version.BlockVersion.TheVariants.{V1, V2}
use Rattle.block.specs.Limits.{max_txs}
use Rattle.key_book.specs.Entry as book
use Rattle.key_book.specs.BookText.{identity_of}
use Rattle.scripts.specs.declared.saying.Saying.{Saying}
use Rattle.scripts.specs.declared.saying.Saying.TheVariants as saying
use Rattle.scripts.specs.declared.script.Item.{Item}
use Rattle.scripts.specs.declared.script.Item.TheVariants.{Raw}
use Rattle.scripts.specs.declared.so_far.SoFar.{SoFar}
use Rattle.scripts.specs.Limits.{at_most}
use Rattle.scripts.specs.Says.{name_of, tx_of, update_of, raw_of, is_update, entry_of, says}
use Rattle.scripts.specs.Script.{ended, ends_before, before, said_by, said_with, or_stops, script_from, script_of}
use Rattle.scripts.specs.RawLines.{raw_line, raw_lines}

-- ---- a line

-- without the line feed
abbrev said_line : List ℕ → List ℕ
said_line [] = codes "raw"
said_line (b ∷ more) = codes "raw " ++ encode_lower (b ∷ more)

abbrev AreHigh : List ℕ → Type 0
AreHigh xs = AllByRecursion (λ c. 33 ≤ c) xs

lower_high : AreHigh lower_digits
lower_high = search (arith)

all_at : (xs : List ℕ) → AreHigh xs → (k : ℕ) → k < length xs → 33 ≤ slice_index xs k
all_at [] all k h = absurd (omega arith)
all_at (x ∷ xs) all zero h = all.0
all_at (x ∷ xs) all (suc k) h = all_at xs all.1 k (omega arith)

digit_high : (k : ℕ) → k < 16 → 33 ≤ slice_index lower_digits k
digit_high k h = all_at lower_digits lower_high k h

digits_high : (xs : List ℕ) → IsBytes xs → AreHigh (encode_lower xs)
unfolding encode_with
digits_high [] h = tt
digits_high (b ∷ xs) h = (digit_high (b / 16) (omega (arith, h 0)), (digit_high (b % 16) (omega arith), digits_high xs (λ i. h (suc i))))

abbrev has_feed : ℕ → Bool
has_feed b = b == 10

AreWide : List ℕ → Type 0
AreWide xs = AllByRecursion (λ c. 32 ≤ c) xs

widened : (xs : List ℕ) → AreHigh xs → AreWide xs
unfolding AreWide
widened [] h = tt
widened (x ∷ xs) h = (omega (arith, h.0), widened xs h.1)

line_wide : (tx : List ℕ) → IsBytes tx → AreWide (said_line tx)
unfolding AreWide
line_wide [] h = search (arith)
line_wide (b ∷ more) h = (omega arith, (omega arith, (omega arith, (omega arith, widened (encode_lower (b ∷ more)) (digits_high (b ∷ more) h)))))

no_feed : (xs : List ℕ) → AreWide xs → All (λ b. has_feed b ≡ false) xs
unfolding AreWide
no_feed [] h = λ k d l. absurd (omega arith)
no_feed (x ∷ xs) h = All-cons (λ b. has_feed b ≡ false) x xs (ne_eqb x 10 (λ e. omega (arith, h.0))) (no_feed xs h.1)

no_return : (xs : List ℕ) → AreWide xs → (k : ℕ) → (slice_index xs k == 13) ≡ false
unfolding AreWide
no_return [] h k = refl
no_return (x ∷ xs) h zero = ne_eqb x 13 (λ e. omega (arith, h.0))
no_return (x ∷ xs) h (suc k) = no_return xs h.1 k

stays : (xs : List ℕ) → AreWide xs → strip_carriage_return xs ≡ xs
stays xs h = ap (λ t. cond t (take (length xs - 1) xs) xs) (no_return xs h (length xs - 1))

first_of_parts : (x : List ℕ) (parts : List (List ℕ)) → 0 < length parts → lines_of_parts (x ∷ parts) ≡ strip_carriage_return x ∷ lines_of_parts parts
first_of_parts x [] l = absurd (omega arith)
first_of_parts x (y ∷ more) l = refl

-- a line before others
line_first : (line rest : List ℕ) → AreWide line → lines (line ++ 10 ∷ rest) ≡ line ∷ lines rest
line_first line rest h =
    ap lines_of_parts (slice_split_at has_feed line 10 rest (no_feed line h) refl) ∙ first_of_parts line (slice_split has_feed rest) (omega (arith, length-slice_split has_feed rest))
    ∙ ap (λ x. x ∷ lines rest) (stays line h)

-- of bytes that aren't empty
pub some_line : (bytes : List ℕ) → (length bytes == 0) ≡ false → raw_line bytes ≡ codes "raw " ++ (encode_lower bytes ++ 10 ∷ [])
some_line [] h = cc
some_line (b ∷ more) h = refl

-- ---- a statement

no_space_first : (d : ℕ) (xs : List ℕ) → 33 ≤ d → without_front_spaces (d ∷ xs) ≡ d ∷ xs
no_space_first d xs h = ap (λ t. drop (length (take (cond t (1 + prefix_len is_space xs) 0) (d ∷ xs))) (d ∷ xs)) (ne_eqb d 32 (λ e. omega arith))

kept_at_end : (xs : List ℕ) (d : ℕ) → 33 ≤ d → reverse (without_front_spaces (reverse (xs ++ d ∷ []))) ≡ xs ++ d ∷ []
kept_at_end xs d h =
    let back : reverse (xs ++ d ∷ []) ≡ d ∷ reverse xs = reverse-append xs (d ∷ []) in
    let kept : without_front_spaces (reverse (xs ++ d ∷ [])) ≡ reverse (xs ++ d ∷ []) = ap without_front_spaces back ∙ no_space_first d (reverse xs) h ∙ sym back in
    ap reverse kept ∙ reverse-reverse (xs ++ d ∷ [])

-- the last of high bytes
record Ends (xs : List ℕ) : Type 0 where
  front : List ℕ
  last : ℕ
  high : 33 ≤ last
  is : xs ≡ front ++ last ∷ []

ends : (x : ℕ) (xs : List ℕ) → AreHigh (x ∷ xs) → Ends (x ∷ xs)
ends x [] h = record { front = []; last = x; high = h.0; is = refl }
ends x (y ∷ xs) h = let more = ends y xs h.1 in record { front = x ∷ more.front; last = more.last; high = more.high; is = ap (λ l. x ∷ l) more.is }

last_digit : (b : ℕ) (more : List ℕ) → AreHigh (encode_lower (b ∷ more)) → Ends (encode_lower (b ∷ more))
unfolding encode_with
last_digit b more h = ends (slice_index lower_digits (b / 16)) (slice_index lower_digits (b % 16) ∷ encode_with lower_digits more) h

line_trimmed : (tx : List ℕ) → IsBytes tx → trimmed (said_line tx) ≡ said_line tx
line_trimmed [] h = refl
line_trimmed (b ∷ more) h =
    let digits = digits_high (b ∷ more) h in
    let e = last_digit b more digits in
    let line = codes "raw " ++ encode_lower (b ∷ more) in
    let is : line ≡ (codes "raw " ++ e.front) ++ e.last ∷ [] = ap (λ l. codes "raw " ++ l) e.is in
    subst (λ (l : List ℕ). reverse (without_front_spaces (reverse l)) ≡ l) (sym is) (kept_at_end (codes "raw " ++ e.front) e.last e.high)

-- ---- its parts

digits_of : List ℕ → List ℕ
digits_of [] = []
digits_of (b ∷ more) = encode_lower (b ∷ more)

line_begins : (tx : List ℕ) → first_part (said_line tx) ≡ codes "raw"
line_begins [] = refl
line_begins (b ∷ more) = refl

line_goes_on : (tx : List ℕ) → IsBytes tx → after_first_part (said_line tx) ≡ digits_of tx
unfolding digits_of encode_with
line_goes_on [] h = refl
line_goes_on (b ∷ more) h =
    let d = slice_index lower_digits (b / 16) in
    let rest = slice_index lower_digits (b % 16) ∷ encode_with lower_digits more in
    let high : 33 ≤ d = digit_high (b / 16) (omega (arith, h 0)) in
    ap (λ t. drop (length (take (1 + cond t (1 + prefix_len is_space rest) 0) (32 ∷ d ∷ rest))) (32 ∷ d ∷ rest)) (ne_eqb d 32 (λ e. omega (arith, high)))

line_says_something : (tx : List ℕ) → says_nothing (said_line tx) ≡ false
line_says_something [] = refl
line_says_something (b ∷ more) = ap (λ t. t || false) (ne_eqb (length (said_line (b ∷ more))) 0 (λ e. omega arith))

digits_are_read : (tx : List ℕ) → IsBytes tx → decode_of (digits_of tx) ≡ Ok tx
unfolding digits_of decode_pairs
digits_are_read [] h = refl
digits_are_read (b ∷ more) h = decode_of-encode_lower (b ∷ more) h

within : (a b : ℕ) → a ≤ b → nat_le a b ≡ true
within a b h = grind (arith, nat_tests)

below : (a b : ℕ) → a < b → nat_lt a b ≡ true
below a b h = grind (arith, nat_tests)

raw_is_read : (tx : List ℕ) → IsBytes tx → length tx ≤ max_tx_bytes → raw_of (digits_of tx) ≡ Some tx
raw_is_read tx h short =
    ap (λ r. result_ok r >>= at_most max_tx_bytes) (digits_are_read tx h) ∙ ap (λ t. cond t (Some tx) None) (within (length tx) max_tx_bytes short)

by_parts : BlockVersion → List ℕ → List ℕ → Option Saying
by_parts version word rest =
    if bytes_eq word (codes "tx") then tx_of rest
    else if is_update version word then update_of rest
    else if bytes_eq word (codes "raw") then option_map saying.Raw (raw_of rest)
    else if bytes_eq word (codes "ns") then option_map saying.Namespace (name_of rest)
    else if bytes_eq word (codes "endorse") then option_map saying.Endorse (identity_of rest)
    else option_map saying.Adds (entry_of word rest)

raw_part : (version : BlockVersion) (rest : List ℕ) → by_parts version (codes "raw") rest ≡ option_map saying.Raw (raw_of rest)
unfolding by_parts
raw_part V1 rest = refl
raw_part V2 rest = refl

line_is_read : (version : BlockVersion) (tx : List ℕ) → IsBytes tx → length tx ≤ max_tx_bytes → says version (said_line tx) ≡ Some (saying.Raw tx)
unfolding by_parts
line_is_read version tx h short =
    let parts : says version (said_line tx) ≡ by_parts version (first_part (said_line tx)) (after_first_part (said_line tx)) = refl in
    parts ∙ ap (λ w. by_parts version w (after_first_part (said_line tx))) (line_begins tx) ∙ ap (by_parts version (codes "raw")) (line_goes_on tx h) ∙ raw_part version (digits_of tx)
    ∙ ap (option_map saying.Raw) (raw_is_read tx h short)

-- ---- a script

nothing_open : List Item → SoFar
nothing_open items = record { items = items; drafting = None }

ends_by : BlockVersion → List ℕ → Bool
ends_by version word = bytes_eq word (codes "tx") || bytes_eq word (codes "raw") || is_update version word

line_ends : (version : BlockVersion) (tx : List ℕ) → ends_before version (said_line tx) ≡ true
unfolding ends_by
line_ends version tx =
    let parts : ends_before version (said_line tx) ≡ ends_by version (first_part (said_line tx)) = refl in
    parts ∙ ap (ends_by version) (line_begins tx)

stays_before : (version : BlockVersion) (tx : List ℕ) (items : List Item) → before version (said_line tx) (nothing_open items) ≡ nothing_open items
unfolding nothing_open
stays_before version tx items =
    ap (λ t. cond t (ended (nothing_open items)) (nothing_open items)) (line_ends version tx) ∙ ap (λ i. nothing_open i) (append-nil items)

raw_is_said : (version : BlockVersion) (keys : List book.Entry) (n : ℕ) (items : List Item) (tx : List ℕ) → IsBytes tx → length tx ≤ max_tx_bytes → length items < max_txs
    → said_with version keys n (nothing_open items) (said_line tx) ≡ Some (nothing_open (items ++ Raw tx ∷ []))
unfolding nothing_open
raw_is_said version keys n items tx h short few =
    ap (λ saying. saying >>= said_by keys n (nothing_open items)) (line_is_read version tx h short)
    ∙ ap (λ t. option_map (λ i. nothing_open i) (cond t (Some (items ++ Raw tx ∷ [])) None)) (below (length items) max_txs few)

raw_step : (version : BlockVersion) (keys : List book.Entry) (n : ℕ) (items : List Item) (tx : List ℕ) (more : List Statement) → IsBytes tx → length tx ≤ max_tx_bytes → length items < max_txs
    → script_from version keys (nothing_open items) (record { line = n; bytes = said_line tx } ∷ more) ≡ script_from version keys (nothing_open (items ++ Raw tx ∷ [])) more
raw_step version keys n items tx more h short few =
    let go = λ (next : SoFar). script_from version keys next more in
    ap (λ (s : SoFar). or_stops go n s.items (said_with version keys n s (said_line tx))) (stays_before version tx items)
    ∙ ap (or_stops go n (nothing_open items).items) (raw_is_said version keys n items tx h short few)

whole_line : (tx rest : List ℕ) → raw_line tx ++ rest ≡ said_line tx ++ 10 ∷ rest
whole_line [] rest = refl
whole_line (b ∷ more) rest = ap (λ l. codes "raw " ++ l) (append_assoc (encode_lower (b ∷ more)) (10 ∷ []) rest)

one_statement : (n : ℕ) (tx : List ℕ) (others : List (List ℕ)) → IsBytes tx
    → statements_from n (said_line tx ∷ others) ≡ record { line = n; bytes = said_line tx } ∷ statements_from (suc n) others
one_statement n tx others h =
    let left = statements_from (suc n) others in
    ap (λ b. cond (says_nothing b) left (record { line = n; bytes = b } ∷ left)) (line_trimmed tx h)
    ∙ ap (λ t. cond t left (record { line = n; bytes = said_line tx } ∷ left)) (line_says_something tx)

raw_from : (version : BlockVersion) (keys : List book.Entry) (n : ℕ) (items : List Item) (txs : List (List ℕ)) → AllByRecursion IsBytes txs → AllByRecursion (λ tx. length tx ≤ max_tx_bytes) txs
    → length items + length txs ≤ max_txs → script_from version keys (nothing_open items) (statements_from n (lines (raw_lines txs))) ≡ record { items = items ++ map Raw txs; fault = None }
unfolding nothing_open
raw_from version keys n items [] bytes short few = refl
raw_from version keys n items (tx ∷ txs) bytes short few =
    let rest = raw_lines txs in
    let first : lines (raw_lines (tx ∷ txs)) ≡ said_line tx ∷ lines rest = ap lines (whole_line tx rest) ∙ line_first (said_line tx) rest (line_wide tx bytes.0) in
    let more = raw_from version keys (suc n) (items ++ Raw tx ∷ []) txs bytes.1 short.1 (omega (arith, length-append items (Raw tx ∷ []))) in
    ap (λ l. script_from version keys (nothing_open items) (statements_from n l)) first ∙ ap (script_from version keys (nothing_open items)) (one_statement n tx (lines rest) bytes.0)
    ∙ raw_step version keys n items tx (statements_from (suc n) (lines rest)) bytes.0 short.0 (omega arith) ∙ more
    ∙ ap (λ i. record { items = i; fault = None }) (append_assoc items (Raw tx ∷ []) (map Raw txs))

pub raw_script : (version : BlockVersion) (keys : List book.Entry) (txs : List (List ℕ)) → AllByRecursion IsBytes txs → length txs ≤ max_txs → AllByRecursion (λ tx. length tx ≤ max_tx_bytes) txs
    → script_of version keys (raw_lines txs) ≡ record { items = map Raw txs; fault = None }
unfolding nothing_open
raw_script version keys txs bytes count short = raw_from version keys 1 [] txs bytes short (omega (arith, count))
