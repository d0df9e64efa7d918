-- The limits of what a script says.
use Rattle.std.specs.Prelude.{ℕ, nat_lt, nat_le, if◌then◌else◌, List, [], ◌∷◌, ◌++◌, length, Option, Some, None}

-- the most namespaces of a transaction, and the most reads, ranges, writes and policy writes of a namespace, and results of
-- a range: as many as two bytes count
abbrev pub max_list : ℕ
max_list = 65535

-- the most bytes of a nonce, whose length has one byte
abbrev pub max_nonce_bytes : ℕ
max_nonce_bytes = 255

-- the most bytes of a value, whose length has four bytes
abbrev pub max_value_bytes : ℕ
max_value_bytes = 4294967295

-- the most bytes of a policy's text, whose length has two bytes
abbrev pub max_policy_bytes : ℕ
max_policy_bytes = 65535

-- a list with one more at the end, where it then has at most so many
abbrev pub with_one : {A : Type 0} → ℕ → List A → A → Option (List A)
with_one most items item = if nat_lt (length items) most then Some (items ++ item ∷ []) else None

-- bytes, where they are at most so many
abbrev pub at_most : ℕ → List ℕ → Option (List ℕ)
at_most most bytes = if nat_le (length bytes) most then Some bytes else None
