-- The limits of policies.
use Rattle.std.specs.Prelude.{ℕ}

-- the most bytes of a text
abbrev pub max_text_bytes : ℕ
max_text_bytes = 4096

-- the most principals of a policy
abbrev pub max_principals : ℕ
max_principals = 256

-- the most gates inside one another
abbrev pub max_nested_gates : ℕ
max_nested_gates = 32
