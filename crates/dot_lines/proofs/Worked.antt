-- Rows worked by hand, which compute.
use Rattle.std.proofs.Common.{◌≡◌, ℕ, true, false, List, [], ◌∷◌, ◌++◌, Option, Some, None, refl, codes}
use Rattle.std.specs.Fmt.{digits}
use Rattle.rules.specs.declared.flag.Flag.TheVariants.{Valid}
use Rattle.reasons.specs.declared.endorsement_fault.EndorsementFault.TheVariants.{Touched}
use Rattle.reasons.specs.declared.id_use.IdUse.TheVariants as id_use
use Rattle.reasons.specs.declared.reason.Reason.{Reason}
use Rattle.reasons.specs.declared.reason.Reason.TheVariants.{NoFault, NoTransaction, UsedId, NotEndorsed, ReadConflict}
use Rattle.transaction.specs.declared.transaction.Version.{Version}
use Rattle.dot_lines.specs.declared.named.Named.TheVariants.{Here, Earlier}
use Rattle.dot_lines.specs.Dot.{quoted_word, read_string}
use Rattle.dot_lines.specs.Edges.{named_by, label_of}
use Rattle.dot_lines.specs.Graph.{is_shown, style, graph_text}

-- ---- strings

letters : quoted_word (codes "car1") ≡ codes "car1"
letters = refl

no_bytes : quoted_word [] ≡ codes "%"
no_bytes = refl

quote : quoted_word (codes "a\"b") ≡ codes "a\\\"b"
quote = refl

backslash : quoted_word (codes "\\") ≡ codes "\\\\"
backslash = refl

-- no name of a character
ampersand : quoted_word (codes "&lt;") ≡ codes "&amp;lt;"
ampersand = refl

spelled : quoted_word (10 ∷ 32 ∷ 255 ∷ []) ≡ codes "%0A%20%FF"
spelled = refl

read : read_string false (codes "a\\\"b\\\\\" x") ≡ Some (codes "a\"b\\", codes " x")
read = refl

bare_quote : read_string false (codes "a\"b\"") ≡ Some (codes "a", codes "b\"")
bare_quote = refl

no_end : read_string false (codes "a\\\"") ≡ None
no_end = refl

-- ---- edges

abbrev version : ℕ → ℕ → Version
version block tx = record { block = block; tx = tx }

abbrev stale : Option Version → Option ℕ → Reason
stale there writer = ReadConflict (record { namespace = codes "cc"; key = codes "a"; read = None; there = there; writer = writer })

-- the writer in the block takes precedence over the writer of what exists
written_here : named_by (stale (Some (version 1 2)) (Some 4)) ≡ Some (Here 4)
written_here = refl

written_earlier : named_by (stale (Some (version 1 2)) None) ≡ Some (Earlier 1 2)
written_earlier = refl

-- of a key that an earlier block deleted, no writer is known
never_written : named_by (stale None None) ≡ None
never_written = refl

touched : label_of (NotEndorsed (Touched (codes "cc") (codes "a b") 0)) ≡ codes "cc a%20b"
touched = refl

-- ---- graphs

-- 1 reads what 0 wrote, 2 encodes nothing, and 3 has the id of a transaction of block 5
abbrev reasons : List Reason
reasons = NoFault ∷ stale (Some (version 6 0)) (Some 0) ∷ NoTransaction ∷ UsedId (id_use.Earlier 5 7 Valid) ∷ []

named_and_naming : is_shown false reasons 0 ≡ true
named_and_naming = refl

neither : is_shown false reasons 2 ≡ false
neither = refl

all_are : is_shown true reasons 2 ≡ true
all_are = refl

graph : graph_text 6 false reasons ≡
    codes "digraph \"block 6\" {\n" ++ (style ++ codes "  t0 [label=\"0\\n0 VALID\", shape=ellipse, fillcolor=\"#dcefdc\"]\n  t1 [label=\"1\\n11 MVCC_READ_CONFLICT\", shape=octagon, fillcolor=\"#f8c9c4\"]\n  t1 -> t0 [label=\"cc a\"]\n  t3 [label=\"3\\n9 DUPLICATE_TXID\", shape=trapezium, fillcolor=\"#cfe2f7\"]\n  b5_7 [label=\"5 7\", shape=plain, style=\"\", fontsize=10]\n  t3 -> b5_7 [label=\"id\"]\n}\n")
unfolding digits
graph = refl
