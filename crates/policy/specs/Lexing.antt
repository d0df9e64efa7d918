-- The next token of a text, computed. It stands between the code and the grammar, to which the law `policy_reading`
-- joins it.
use Rattle.std.specs.Prelude.{ℕ, ◌+◌, ◌-◌, ◌*◌, List, [], ◌∷◌, length, drop, take, Bool, ◌||◌, ◌==◌, nat_lt, if◌then◌else◌, codes}
use Rattle.std.specs.Char.{is_ascii_digit, is_ascii_alphabetic}
use Rattle.std.specs.List.{prefix_len, position_or_len, before_first, after_first}
use Rattle.std.specs.Str.{bytes_eq}
use Rattle.values.specs.Name.{is_name}
use Rattle.policy.specs.declared.tree.PolicyRole.{PolicyRole}
use Rattle.policy.specs.declared.tree.PolicyRole.TheVariants.{Member, Admin, Client, Peer, Orderer}
use Rattle.policy.specs.declared.token.Word.TheVariants.{All, Any, OutOf}
use Rattle.policy.specs.declared.token.Token.TheVariants as found
use Rattle.policy.specs.declared.token.Token as code
use Rattle.policy.specs.Token.{Token, opening, closing, comma, word, number, principal_token, no_principal, broken, ended, role_name}

-- a token of the code, without where it lies in memory
abbrev pub seen : code.Token → Token
seen found.End = ended
seen found.Opening = opening
seen found.Closing = closing
seen found.Comma = comma
seen (found.Word w) = word w
seen (found.Number n) = number n
seen (found.Principal org role) = principal_token org.bytes.now role
seen found.NoPrincipal = no_principal
seen found.Broken = broken
seen found.Unclosed = broken

-- the bytes behind the spaces
abbrev pub after_spaces : List ℕ → List ℕ
after_spaces [] = []
after_spaces (b ∷ bytes) = if b == 32 then after_spaces bytes else b ∷ bytes

-- what stands between quotes, before the dot of this role
abbrev pub named_in : List ℕ → PolicyRole → Token
named_in org role = if is_name org then principal_token org role else no_principal

abbrev pub ends_with_role : List ℕ → PolicyRole → Bool
ends_with_role inside role =
    bytes_eq (drop (length inside - length (46 ∷ role_name role)) inside) (46 ∷ role_name role)

abbrev pub before_role : List ℕ → PolicyRole → Token
before_role inside role = named_in (take (length inside - length (46 ∷ role_name role)) inside) role

unfoldable pub principal_in : List ℕ → Token
principal_in inside =
    if ends_with_role inside Member then before_role inside Member
    else if ends_with_role inside Admin then before_role inside Admin
    else if ends_with_role inside Client then before_role inside Client
    else if ends_with_role inside Peer then before_role inside Peer
    else if ends_with_role inside Orderer then before_role inside Orderer
    else no_principal

-- behind an opening quote
unfoldable pub quoted_at : ℕ → List ℕ → Token × List ℕ
quoted_at q bytes =
    if nat_lt (position_or_len (λ b. b == q) bytes) (length bytes)
    then (principal_in (before_first (λ b. b == q) bytes), after_first (λ b. b == q) bytes)
    else (broken, bytes)

abbrev pub number_in : List ℕ → Token
number_in [] = broken
number_in (a ∷ []) = number (a - 48)
number_in (a ∷ b ∷ []) = number ((a - 48) * 10 + (b - 48))
number_in (a ∷ b ∷ c ∷ []) = number ((a - 48) * 100 + (b - 48) * 10 + (c - 48))
number_in (a ∷ b ∷ c ∷ d ∷ more) = broken

unfoldable pub number_at : List ℕ → Token × List ℕ
number_at bytes =
    let n = prefix_len is_ascii_digit bytes in (number_in (take n bytes), drop n bytes)

unfoldable pub word_in : List ℕ → Token
word_in letters =
    if bytes_eq letters (codes "AND") || (bytes_eq letters (codes "And") || bytes_eq letters (codes "and")) then word All
    else if bytes_eq letters (codes "OR") || (bytes_eq letters (codes "Or") || bytes_eq letters (codes "or")) then word Any
    else if bytes_eq letters (codes "OutOf") || (bytes_eq letters (codes "outof") || bytes_eq letters (codes "OUTOF")) then word OutOf
    else broken

unfoldable pub word_at : List ℕ → Token × List ℕ
word_at bytes =
    let n = prefix_len is_ascii_alphabetic bytes in (word_in (take n bytes), drop n bytes)

-- the token at the front, where no space stands, and what follows it
unfoldable pub front_at : List ℕ → Token × List ℕ
front_at [] = (ended, [])
front_at (b ∷ bytes) =
    if b == 40 then (opening, bytes)
    else if b == 41 then (closing, bytes)
    else if b == 44 then (comma, bytes)
    else if b == 39 then quoted_at 39 bytes
    else if b == 34 then quoted_at 34 bytes
    else if is_ascii_digit b then number_at (b ∷ bytes)
    else word_at (b ∷ bytes)

abbrev pub token_at : List ℕ → Token × List ℕ
token_at bytes = front_at (after_spaces bytes)
