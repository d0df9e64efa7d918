-- Endorsement policies as trees.
use Rattle.std.specs.Prelude.{◌≡◌, ℕ, suc, ◌+◌, List}
use Rattle.std.proofs.Common.{refl}
use Rattle.std.specs.Coded.{Coded, coded_list, coded_ℕ}
use base.Stored.{Gv, gnil, gnum, gcons}
use Rattle.policy.specs.declared.tree.PolicyRole.{PolicyRole}
use Rattle.policy.specs.contracts.tree.PolicyRole as role

mutual
  -- a principal with its organization's name, or a gate that asks for so many of its members
  pub data Tree : Type 0 where
    principal : List ℕ → PolicyRole → Tree
    gate : ℕ → Trees → Tree

  pub data Trees : Type 0 where
    none : Trees
    more : Tree → Trees → Trees

-- how many principals it has
abbrev mutual
  pub leaves : Tree → ℕ
  leaves (principal org r) = 1
  leaves (gate n members) = all_leaves members

  pub all_leaves : Trees → ℕ
  all_leaves none = 0
  all_leaves (more t ts) = leaves t + all_leaves ts

-- how many principals and gates it has
abbrev mutual
  pub size_of : Tree → ℕ
  size_of (principal org r) = 1
  size_of (gate n members) = suc (size_of_all members)

  pub size_of_all : Trees → ℕ
  size_of_all none = 0
  size_of_all (more t ts) = size_of t + size_of_all ts

-- ---- by which trees are told apart

abbrev pub role_code : Coded PolicyRole
role_code = (role.the_row).coded

abbrev mutual
  pub code_of : Tree → Gv
  code_of (principal org r) = gcons gnil (gcons ((coded_list coded_ℕ).code org) (role_code.code r))
  code_of (gate n members) = gcons (gnum n) (code_of_all members)

  pub code_of_all : Trees → Gv
  code_of_all none = gnil
  code_of_all (more t ts) = gcons (code_of t) (code_of_all ts)

mutual
  pub same_code : (s t : Tree) → code_of s ≡ code_of t → s ≡ t
  same_code (principal a r) (principal b q) e =
      let orgs : a ≡ b = (coded_list coded_ℕ).inj a b cc in
      let roles : r ≡ q = role_code.inj r q cc in
      cc
  same_code (principal a r) (gate n ts) e = absurd cc
  same_code (gate m ss) (principal b q) e = absurd cc
  same_code (gate m ss) (gate n ts) e =
      let thresholds : m ≡ n = cc in
      let members : ss ≡ ts = same_codes ss ts cc in
      cc

  pub same_codes : (ss ts : Trees) → code_of_all ss ≡ code_of_all ts → ss ≡ ts
  same_codes none none e = refl
  same_codes none (more t ts) e = absurd cc
  same_codes (more s ss) none e = absurd cc
  same_codes (more s ss) (more t ts) e =
      let firsts : s ≡ t = same_code s t cc in
      let others : ss ≡ ts = same_codes ss ts cc in
      cc

abbrev pub tree_code : Coded Tree
tree_code = record { code = code_of; inj = same_code }
