-- Policies that differ in the order of members alone.
use Rattle.std.specs.Prelude.{◌≡◌, ◌⊎◌, true, ⊤}
use Rattle.policy.specs.Tree.{Tree, Trees, principal, gate, none, more}
use Rattle.reasons.specs.Shortfall.{is_wide}

-- the second members are the first with one more somewhere among them
abbrev pub IsPutAmong : Tree → Trees → Trees → Type 0
IsPutAmong t first none = ⊥
IsPutAmong t first (more u us) = ((u ≡ t) × (us ≡ first)) ⊎ ((rest : Trees) × (first ≡ more u rest) × IsPutAmong t rest us)

abbrev mutual
  -- The gates are the same, each with its members in some order.
  pub IsReordered : Tree → Tree → Type 0
  IsReordered (principal org role) other = other ≡ principal org role
  IsReordered (gate threshold members) other = (others : Trees) × (other ≡ gate threshold others) × AreReordered members others

  pub AreReordered : Trees → Trees → Type 0
  AreReordered none others = others ≡ none
  AreReordered (more t ts) others = (u : Tree) × (us : Trees) × IsReordered t u × AreReordered ts us × IsPutAmong u us others

-- ---- members of any role

abbrev pub AreWide : Trees → Type 0
AreWide none = ⊤
AreWide (more t ts) = (is_wide t ≡ true) × AreWide ts

abbrev mutual
  -- In each gate, behind a principal that each role fills stand such ones alone.
  pub AsksWideLast : Tree → Type 0
  AsksWideLast (principal org role) = ⊤
  AsksWideLast (gate threshold members) = AskWideLast members

  pub AskWideLast : Trees → Type 0
  AskWideLast none = ⊤
  AskWideLast (more t ts) = AsksWideLast t × (is_wide t ≡ true → AreWide ts) × AskWideLast ts
