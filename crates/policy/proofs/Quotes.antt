-- What stands between quotes, and the token that is computed from it.
use Rattle.std.proofs.Common.{◌≡◌, ◌≢◌, ℕ, ◌-◌, ◌+◌, Bool, true, false, cond, List, [], ◌∷◌, ◌++◌, length, take, drop, refl, sym, ap, ◌∙◌, subst, append_assoc, length-append, inl, inr, arith}
use Rattle.std.specs.Prelude.{nat_lt, not, ◌==◌}
use Rattle.std.specs.List.{AllByRecursion, position_or_len, list_all}
use Rattle.std.proofs.lemmas.Bool.Decides.{nat_tests}
use Rattle.std.proofs.lemmas.List.{take_at, drop_at, take-append-drop}
use Rattle.std.proofs.lemmas.Slice.Eq.{bytes_eq-Decides}
use Rattle.policy.specs.declared.tree.PolicyRole.{PolicyRole}
use Rattle.policy.specs.declared.tree.PolicyRole.TheVariants.{Member, Admin, Client, Peer, Orderer}
use Rattle.policy.specs.Token.{Token, principal_token, no_principal, role_name, named, IsQuote, quoted}
use Rattle.policy.specs.Lexing.{ends_with_role, before_role, principal_in, quoted_at, front_at}
use Rattle.values.specs.Name.{is_name, is_name_byte}
use Rattle.policy.proofs.Ascii.{both_true, name_parts}
use Rattle.policy.proofs.Runs.{Each, each_of_test, lt_test, each_weaker, each_append, run_len}
use Rattle.policy.proofs.Words.{FrontOf}

-- ---- principals

-- no dot
NoDot : List ℕ → Type 0
NoDot xs = AllByRecursion (λ x. x ≢ 46) xs

no_dot_inside : (a b : List ℕ) → NoDot (a ++ 46 ∷ b) → ⊥
unfolding NoDot
no_dot_inside [] b h = h.0 refl
no_dot_inside (x ∷ a) b h = unfold NoDot in no_dot_inside a b h.1

cons_tail : (x y : ℕ) (xs ys : List ℕ) → x ∷ xs ≡ y ∷ ys → (x ≡ y) × (xs ≡ ys)
cons_tail x y xs ys e = (cc, cc)

-- the last dot is where it is
last_dot : (a b r s : List ℕ) → NoDot r → NoDot s → a ++ 46 ∷ r ≡ b ++ 46 ∷ s → (a ≡ b) × (r ≡ s)
last_dot [] [] r s h k e = (refl, (cons_tail 46 46 r s e).1)
last_dot [] (y ∷ b) r s h k e = absurd (no_dot_inside b s (subst NoDot (cons_tail 46 y r (b ++ 46 ∷ s) e).1 h))
last_dot (x ∷ a) [] r s h k e = absurd (no_dot_inside a r (subst NoDot (sym (cons_tail x 46 (a ++ 46 ∷ r) s e).1) k))
last_dot (x ∷ a) (y ∷ b) r s h k e =
    let p = cons_tail x y (a ++ 46 ∷ r) (b ++ 46 ∷ s) e in
    let q = last_dot a b r s h k p.1 in
    let xy : x ≡ y = p.0 in
    let ab : a ≡ b = q.0 in
    (cc, q.1)

NoDot-of_test : (xs : List ℕ) → list_all (λ x. not (x == 46)) xs ≡ true → NoDot xs
unfolding NoDot
NoDot-of_test [] e = tt
NoDot-of_test (x ∷ xs) e =
    let q = both_true (not (x == 46)) (list_all (λ x. not (x == 46)) xs) e in
    let d : x ≢ 46 = grind (arith, nat_tests, q.0) in
    unfold NoDot in (d, NoDot-of_test xs q.1)

name_no_dot : (r : PolicyRole) → NoDot (role_name r)
name_no_dot Member = NoDot-of_test (role_name Member) refl
name_no_dot Admin = NoDot-of_test (role_name Admin) refl
name_no_dot Client = NoDot-of_test (role_name Client) refl
name_no_dot Peer = NoDot-of_test (role_name Peer) refl
name_no_dot Orderer = NoDot-of_test (role_name Orderer) refl

-- by the first letter
named_by : ℕ → PolicyRole
named_by b = cond (b == 109) Member (cond (b == 97) Admin (cond (b == 99) Client (cond (b == 112) Peer Orderer)))

letter_of : List ℕ → ℕ
letter_of [] = 0
letter_of (b ∷ bytes) = b

named_back : (r : PolicyRole) → named_by (letter_of (role_name r)) ≡ r
unfolding named_by letter_of
named_back Member = refl
named_back Admin = refl
named_back Client = refl
named_back Peer = refl
named_back Orderer = refl

same_role : (r s : PolicyRole) → role_name r ≡ role_name s → r ≡ s
same_role r s e = sym (named_back r) ∙ ap (λ (x : List ℕ). named_by (letter_of x)) e ∙ named_back s

-- ---- between quotes

-- what the token says of the bytes between quotes
unfoldable pub PrincipalIs : List ℕ → Token → Type 0
PrincipalIs inside (principal_token org role) = (is_name org ≡ true) × (inside ≡ named org role)
PrincipalIs inside no_principal = (org : List ℕ) (role : PolicyRole) → is_name org ≡ true → inside ≢ named org role
PrincipalIs inside t = ⊥

named_case : (inside org : List ℕ) (role : PolicyRole) (b : Bool) → is_name org ≡ b → inside ≡ named org role
    → PrincipalIs inside (cond b (principal_token org role) no_principal)
unfolding PrincipalIs
named_case inside org role true e is = (e, is)
named_case inside org role false e is = λ org' role' ok is'.
    let p = last_dot org org' (role_name role) (role_name role') (name_no_dot role) (name_no_dot role') (sym is ∙ is') in
    let t : is_name org' ≡ true = ok in
    let f : is_name org' ≡ false = subst (λ (x : List ℕ). is_name x ≡ false) p.0 e in
    absurd (let k : true ≡ false = sym t ∙ f in cc)

ends_true : (inside : List ℕ) (role : PolicyRole) → ends_with_role inside role ≡ true
    → inside ≡ named (take (length inside - length (46 ∷ role_name role)) inside) role
ends_true inside role e =
    let n = length inside - length (46 ∷ role_name role) in
    let d : drop n inside ≡ 46 ∷ role_name role = (bytes_eq-Decides (drop n inside) (46 ∷ role_name role)).0 e in
    sym (take-append-drop n inside) ∙ ap (λ (x : List ℕ). take n inside ++ x) d

ends_false : (inside org : List ℕ) (role : PolicyRole) → ends_with_role inside role ≡ false → inside ≢ named org role
ends_false inside org role e is =
    let s = 46 ∷ role_name role in
    let n : length inside - length s ≡ length org = omega (arith, ap length is, length-append org s) in
    let d : drop (length inside - length s) inside ≡ s = rw n (ap (drop (length org)) is ∙ drop_at org s (length org) refl) in
    let t : ends_with_role inside role ≡ true = (bytes_eq-Decides (drop (length inside - length s) inside) s).1 d in
    let k : true ≡ false = sym t ∙ e in
    absurd cc

-- one role after another
role_case : (inside : List ℕ) (role : PolicyRole) (t : Token) (b : Bool) → ends_with_role inside role ≡ b
    → (((org : List ℕ) → inside ≢ named org role) → PrincipalIs inside t)
    → PrincipalIs inside (cond b (before_role inside role) t)
role_case inside role t true e other =
    let org = take (length inside - length (46 ∷ role_name role)) inside in
    named_case inside org role (is_name org) refl (ends_true inside role e)
role_case inside role t false e other = other (λ org. ends_false inside org role e)

no_role : (inside : List ℕ) → ((org : List ℕ) → inside ≢ named org Member)
    → ((org : List ℕ) → inside ≢ named org Admin) → ((org : List ℕ) → inside ≢ named org Client)
    → ((org : List ℕ) → inside ≢ named org Peer) → ((org : List ℕ) → inside ≢ named org Orderer)
    → (org : List ℕ) (role : PolicyRole) → inside ≢ named org role
no_role inside a b c d e org Member = a org
no_role inside a b c d e org Admin = b org
no_role inside a b c d e org Client = c org
no_role inside a b c d e org Peer = d org
no_role inside a b c d e org Orderer = e org

pub principal_is : (inside : List ℕ) → PrincipalIs inside (principal_in inside)
unfolding principal_in
principal_is inside =
    role_case inside Member _ (ends_with_role inside Member) refl (λ a.
    role_case inside Admin _ (ends_with_role inside Admin) refl (λ b.
    role_case inside Client _ (ends_with_role inside Client) refl (λ c.
    role_case inside Peer _ (ends_with_role inside Peer) refl (λ d.
    role_case inside Orderer no_principal (ends_with_role inside Orderer) refl (λ e.
    unfold PrincipalIs in λ org role ok. no_role inside a b c d e org role)))))

pub same_principal : (org : List ℕ) (role : PolicyRole) (t : Token) → is_name org ≡ true
    → PrincipalIs (named org role) t → t ≡ principal_token org role
unfolding PrincipalIs
same_principal org role (principal_token o r) ok h =
    let p = last_dot org o (role_name role) (role_name r) (name_no_dot role) (name_no_dot r) h.1 in
    let a : org ≡ o = p.0 in
    let b : role ≡ r = same_role role r p.1 in
    cc
same_principal org role no_principal ok h = absurd (h org role ok refl)
same_principal org role t ok h = absurd h

pub same_no_principal : (inside : List ℕ) (t : Token)
    → ((org : List ℕ) (role : PolicyRole) → is_name org ≡ true → inside ≢ named org role) → PrincipalIs inside t
    → t ≡ no_principal
unfolding PrincipalIs
same_no_principal inside (principal_token o r) none h = absurd (none o r h.0 h.1)
same_no_principal inside no_principal none h = refl
same_no_principal inside t none h = absurd h

-- ---- quotes

abbrev pub IsNot : ℕ → ℕ → Bool
IsNot q b = not (b == q)

quote_place : (q : ℕ) (inside rest : List ℕ) → Each (IsNot q) inside
    → position_or_len (λ b. b == q) (inside ++ q ∷ rest) ≡ length inside
quote_place q inside rest h =
    let e : IsNot q q ≡ false = grind (arith, nat_tests) in run_len (IsNot q) inside (q ∷ rest) h e

quoted_run : (q : ℕ) (inside rest : List ℕ) → Each (IsNot q) inside
    → quoted_at q (inside ++ q ∷ rest) ≡ (principal_in inside, rest)
unfolding quoted_at
quoted_run q inside rest h =
    let n = quote_place q inside rest h in
    let l : nat_lt (length inside) (length (inside ++ q ∷ rest)) ≡ true = lt_test (length inside) (length (inside ++ q ∷ rest)) (omega (arith, length-append inside (q ∷ rest))) in
    let r : drop (length inside + 1) (inside ++ q ∷ rest) ≡ rest = ap (drop (length inside + 1)) (sym (append_assoc inside (q ∷ []) rest)) ∙ drop_at (inside ++ q ∷ []) rest (length inside + 1) (omega (arith, length-append inside (q ∷ []))) in
    rw (n, l, take_at inside (q ∷ rest) (length inside) refl, r) refl

quote_front : (q : ℕ) (bytes : List ℕ) → IsQuote q → front_at (q ∷ bytes) ≡ quoted_at q bytes
unfolding front_at
quote_front q bytes (inl e) = rw e refl
quote_front q bytes (inr e) = rw e refl

quote_no_space : (q : ℕ) → IsQuote q → (q == 32) ≡ false
quote_no_space q (inl e) = rw e refl
quote_no_space q (inr e) = rw e refl

pub quoted_front : (t : Token) (q : ℕ) (inside w bytes rest : List ℕ) → IsQuote q → Each (IsNot q) inside
    → principal_in inside ≡ t → w ≡ quoted q inside → bytes ≡ w ++ rest → FrontOf t bytes rest
quoted_front t q inside w bytes rest quote h is spelled e =
    let whole : bytes ≡ q ∷ (inside ++ q ∷ rest) = e ∙ ap (λ (x : List ℕ). x ++ rest) spelled ∙ ap (λ (x : List ℕ). q ∷ x) (append_assoc inside (q ∷ []) rest) in
    let f : front_at (q ∷ (inside ++ q ∷ rest)) ≡ (t, rest) = quote_front q (inside ++ q ∷ rest) quote ∙ quoted_run q inside rest h ∙ ap (λ (x : Token). (x, rest)) is in
    subst (λ (x : List ℕ). FrontOf t x rest) (sym whole) (f, quote_no_space q quote)

-- no quote stands in a principal
org_not_quote : (q b : ℕ) → IsQuote q → is_name_byte b ≡ true → IsNot q b ≡ true
org_not_quote q b (inl e) h = rw e (grind (arith, nat_tests))
org_not_quote q b (inr e) h = rw e (grind (arith, nat_tests))

name_bytes : (role : PolicyRole) → Each is_name_byte (46 ∷ role_name role)
name_bytes Member = each_of_test is_name_byte (46 ∷ role_name Member) refl
name_bytes Admin = each_of_test is_name_byte (46 ∷ role_name Admin) refl
name_bytes Client = each_of_test is_name_byte (46 ∷ role_name Client) refl
name_bytes Peer = each_of_test is_name_byte (46 ∷ role_name Peer) refl
name_bytes Orderer = each_of_test is_name_byte (46 ∷ role_name Orderer) refl

pub named_no_quote : (q : ℕ) (org : List ℕ) (role : PolicyRole) → IsQuote q → is_name org ≡ true
    → Each (IsNot q) (named org role)
named_no_quote q org role quote ok =
    each_weaker is_name_byte (IsNot q) (named org role) (λ b. org_not_quote q b quote) (each_append is_name_byte org (46 ∷ role_name role) (each_of_test is_name_byte org (name_parts org ok).2) (name_bytes role))
