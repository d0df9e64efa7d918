-- The tokens of a policy's text, and how each is spelled.
use Rattle.std.specs.Prelude.{◌≡◌, ◌≢◌, ℕ, ◌≤◌, List, [], ◌∷◌, ◌++◌, length, Bool, false, ◌==◌, not, ◌⊎◌, codes, IsTrue}
use Rattle.std.specs.Char.{is_ascii_digit, is_ascii_alphabetic}
use Rattle.std.specs.List.{AllPass}
use Rattle.std.specs.Str.Parse.{digits_value}
use Rattle.values.specs.Name.{is_name}
use Rattle.policy.specs.declared.tree.PolicyRole.{PolicyRole}
use Rattle.policy.specs.declared.tree.PolicyRole.TheVariants.{Member, Admin, Client, Peer, Orderer}
use Rattle.policy.specs.declared.token.Word.{Word}
use Rattle.policy.specs.declared.token.Word.TheVariants.{All, Any, OutOf}

pub data Token : Type 0 where
  opening : Token
  closing : Token
  comma : Token
  word : Word → Token
  number : ℕ → Token
  principal_token : List ℕ → PolicyRole → Token
  -- between quotes, but no principal
  no_principal : Token
  -- no token begins so
  broken : Token
  -- the text ends
  ended : Token

-- ---- principals

abbrev pub role_name : PolicyRole → List ℕ
role_name Member = codes "member"
role_name Admin = codes "admin"
role_name Client = codes "client"
role_name Peer = codes "peer"
role_name Orderer = codes "orderer"

-- What stands between the quotes: organization, dot and role. No role has a dot, so the role is what follows the last.
abbrev pub named : List ℕ → PolicyRole → List ℕ
named org role = org ++ 46 ∷ role_name role

-- `'` or `"`
abbrev pub IsQuote : ℕ → Type 0
IsQuote q = (q ≡ 39) ⊎ (q ≡ 34)

-- both quotes alike
abbrev pub quoted : ℕ → List ℕ → List ℕ
quoted q inside = q ∷ (inside ++ q ∷ [])

-- ---- the bytes of a token

abbrev pub IsToken : Token → List ℕ → Type 0
IsToken opening bytes = bytes ≡ codes "("
IsToken closing bytes = bytes ≡ codes ")"
IsToken comma bytes = bytes ≡ codes ","
IsToken (word All) bytes = (bytes ≡ codes "AND") ⊎ ((bytes ≡ codes "And") ⊎ (bytes ≡ codes "and"))
IsToken (word Any) bytes = (bytes ≡ codes "OR") ⊎ ((bytes ≡ codes "Or") ⊎ (bytes ≡ codes "or"))
IsToken (word OutOf) bytes = (bytes ≡ codes "OutOf") ⊎ ((bytes ≡ codes "outof") ⊎ (bytes ≡ codes "OUTOF"))
IsToken (number n) bytes =
    AllPass is_ascii_digit bytes × (1 ≤ length bytes) × (length bytes ≤ 3) × (n ≡ digits_value 10 bytes)
IsToken (principal_token org role) bytes =
    (q : ℕ) × IsQuote q × IsTrue (is_name org) × (bytes ≡ quoted q (named org role))
IsToken no_principal bytes =
    (q : ℕ) × (inside : List ℕ) × IsQuote q × AllPass (λ b. not (b == q)) inside
    × ((org : List ℕ) (role : PolicyRole) → IsTrue (is_name org) → inside ≢ named org role)
    × (bytes ≡ quoted q inside)
IsToken broken bytes = ⊥
IsToken ended bytes = ⊥

abbrev pub DoesntBegin : (ℕ → Bool) → List ℕ → Type 0
DoesntBegin p [] = Unit {0}
DoesntBegin p (b ∷ bytes) = p b ≡ false

-- A word is all the letters that stand there, and a number all the digits.
abbrev pub Ends : Token → List ℕ → Type 0
Ends (word w) rest = DoesntBegin is_ascii_alphabetic rest
Ends (number n) rest = DoesntBegin is_ascii_digit rest
Ends t rest = Unit {0}

-- The bytes begin with the token, and the rest follows it.
pub record BeginsWith (t : Token) (bytes rest : List ℕ) : Type 0 where
  pub spelled_by : List ℕ
  pub spelled : IsToken t spelled_by
  pub parts : bytes ≡ spelled_by ++ rest
  pub ends : Ends t rest

-- ---- spaced tokens

-- The bytes, of which the first is no space, begin with no token.
abbrev pub IsBroken : List ℕ → Type 0
IsBroken bytes =
    (bytes ≢ []) × DoesntBegin (λ b. b == 32) bytes × ((t : Token) (rest : List ℕ) → BeginsWith t bytes rest → ⊥)

abbrev pub IsAt : Token → List ℕ → List ℕ → Type 0
IsAt broken bytes rest = IsBroken bytes
IsAt ended bytes rest = (bytes ≡ []) × (rest ≡ [])
IsAt t bytes rest = BeginsWith t bytes rest

-- Behind spaces stands the token, and then the rest.
pub record Next (t : Token) (bytes rest : List ℕ) : Type 0 where
  pub spaces : List ℕ
  pub after : List ℕ
  pub blank : AllPass (λ b. b == 32) spaces
  pub parts : bytes ≡ spaces ++ after
  pub here : IsAt t after rest

-- The text is these tokens, with spaces before, between and after them. Where no token begins, the list ends by
-- `broken`. So every text is spaced tokens in one way.
abbrev pub Spaced : List Token → List ℕ → Type 0
Spaced [] bytes = Next ended bytes []
Spaced (broken ∷ ts) bytes = (ts ≡ []) × Next broken bytes []
Spaced (ended ∷ ts) bytes = ⊥
Spaced (t ∷ ts) bytes = (rest : List ℕ) × Next t bytes rest × Spaced ts rest
