-- The next token of spaced tokens.
use Rattle.std.proofs.Common.{◌≡◌, ◌≢◌, ℕ, zero, suc, ◌≤◌, ◌<◌, List, [], ◌∷◌, ◌++◌, length, refl, sym, ap, ◌∙◌, subst, length-append, inl, inr, arith}
use Rattle.policy.specs.declared.tree.PolicyRole.{PolicyRole}
use Rattle.policy.specs.declared.token.Word.{Word}
use Rattle.policy.specs.Token.{Token, opening, closing, comma, word, number, principal_token, no_principal, broken, ended, Spaced, Next, IsAt, IsBroken, BeginsWith, DoesntBegin}
use Rattle.policy.specs.Lexing.{token_at, front_at, after_spaces}
use Rattle.policy.specs.Fault.{first}
use Rattle.std.specs.Prelude.{◌==◌}
use Rattle.std.specs.List.{AllPass}
use Rattle.policy.proofs.Runs.{Blank, blank_of}
use Rattle.policy.proofs.Tokens.{FrontIs, front_found, front_is, front_spelled, begins_shorter, skip_spaces, blank_pass}

after_is : (bytes spaces after : List ℕ) → bytes ≡ spaces ++ after → AllPass (λ b. b == 32) spaces
    → DoesntBegin (λ b. b == 32) after → after_spaces bytes ≡ after
after_is bytes spaces after e blank d = ap after_spaces e ∙ skip_spaces spaces after blank d

-- behind spaces stands the token that is computed
pub next_is : (t : Token) (bytes rest : List ℕ) → t ≢ broken → Next t bytes rest → token_at bytes ≡ (t, rest)
next_is t bytes rest whole n =
    let f = front_is t n.after rest whole n.here in
    ap front_at (after_is bytes n.spaces n.after n.parts n.blank f.1) ∙ f.0

broken_case : (after : List ℕ) (t : Token) (r : List ℕ) → FrontIs after (t, r) → IsBroken after → t ≡ broken
broken_case after broken r f h = refl
broken_case after ended r (inl e) h = e
broken_case after ended r (inr a) h = absurd (h.0 a.0)
broken_case after t r (inl e) h = e
broken_case after t r (inr a) h = absurd (h.2 t r a)

pub broken_is : (bytes : List ℕ) → Next broken bytes [] → (token_at bytes).0 ≡ broken
broken_is bytes n =
    let e = after_is bytes n.spaces n.after n.parts n.blank n.here.1 in
    ap (λ (x : List ℕ). (front_at x).0) e ∙ broken_case n.after (front_at n.after).0 (front_at n.after).1 (front_found n.after) n.here

-- ---- every text is spaced tokens

module _ (bytes after : List ℕ) (s : Blank bytes after) where
  next_of : (t : Token) (r : List ℕ) → IsAt t after r → Next t bytes r
  next_of t r a =
      record { spaces = s.spaces; after = after; blank = blank_pass s.spaces s.blank; parts = s.parts; here = a }

  no_token : (r : List ℕ) → front_at after ≡ (broken, r) → IsBroken after
  unfolding front_at
  no_token r e = (not_empty, s.stops, none_begins)
    where
      not_empty : after ≢ []
      not_empty h =
          let k : ended ≡ broken = subst (λ (x : List ℕ). (front_at x).0 ≡ broken) h (ap (λ (x : Token × List ℕ). x.0) e) in absurd cc

      none_begins : (t : Token) (rest : List ℕ) → BeginsWith t after rest → ⊥
      none_begins t rest b =
          let k : t ≡ broken = ap (λ (x : Token × List ℕ). x.0) (sym (front_spelled t after rest b).0 ∙ e) in
          let b' : BeginsWith broken after rest = subst (λ (x : Token). BeginsWith x after rest) k b in
          absurd b'.spelled

  shorter : (t : Token) (r : List ℕ) → BeginsWith t after r → length r < length bytes
  shorter t r b = omega (arith, begins_shorter t after r b, ap length s.parts, length-append s.spaces after)

  spaced_step : (t : Token) (r : List ℕ) → front_at after ≡ (t, r) → FrontIs after (t, r)
      → ((r' : List ℕ) → length r' < length bytes → (ts : List Token) × Spaced ts r')
      → (ts : List Token) × Spaced ts bytes
  spaced_step broken r e f others = (broken ∷ [], (refl, next_of broken [] (no_token r e)))
  spaced_step ended r e (inl b) others = absurd cc
  spaced_step ended r e (inr a) others = ([], next_of ended [] (a.0, refl))
  spaced_step t r e (inl b) others = absurd cc
  spaced_step t r e (inr a) others = let o = others r (shorter t r a) in (t ∷ o.0, (r, next_of t r a, o.1))

spaced_within : (n : ℕ) (bytes : List ℕ) → length bytes ≤ n → (ts : List Token) × Spaced ts bytes
spaced_within zero bytes le =
    let x = front_at (after_spaces bytes) in spaced_step bytes (after_spaces bytes) (blank_of bytes) x.0 x.1 refl (front_found (after_spaces bytes)) (λ r lt. absurd (omega arith))
spaced_within (suc n) bytes le =
    let x = front_at (after_spaces bytes) in spaced_step bytes (after_spaces bytes) (blank_of bytes) x.0 x.1 refl (front_found (after_spaces bytes)) (λ r lt. spaced_within n r (omega arith))

pub all_spaced : (bytes : List ℕ) → (ts : List Token) × Spaced ts bytes
all_spaced bytes = spaced_within (length bytes) bytes (omega arith)

-- ---- the token at the front, and what is left of the text

pub record Front (t : Token) (ts : List Token) (bytes : List ℕ) : Type 0 where
  pub rest : List ℕ
  pub is : token_at bytes ≡ (t, rest)
  pub spaced : Spaced ts rest

front_of : (t : Token) (ts : List Token) (bytes : List ℕ) → t ≢ broken
    → (rest : List ℕ) × Next t bytes rest × Spaced ts rest → Front t ts bytes
front_of t ts bytes whole sp = record { rest = sp.0; is = next_is t bytes sp.0 whole sp.1; spaced = sp.2 }

pub next_opening : (ts : List Token) (bytes : List ℕ) → Spaced (opening ∷ ts) bytes → Front opening ts bytes
next_opening ts bytes sp = front_of opening ts bytes (λ e. absurd cc) sp

pub next_closing : (ts : List Token) (bytes : List ℕ) → Spaced (closing ∷ ts) bytes → Front closing ts bytes
next_closing ts bytes sp = front_of closing ts bytes (λ e. absurd cc) sp

pub next_comma : (ts : List Token) (bytes : List ℕ) → Spaced (comma ∷ ts) bytes → Front comma ts bytes
next_comma ts bytes sp = front_of comma ts bytes (λ e. absurd cc) sp

pub next_word : (w : Word) (ts : List Token) (bytes : List ℕ) → Spaced (word w ∷ ts) bytes → Front (word w) ts bytes
next_word w ts bytes sp = front_of (word w) ts bytes (λ e. absurd cc) sp

pub next_number : (n : ℕ) (ts : List Token) (bytes : List ℕ) → Spaced (number n ∷ ts) bytes
    → Front (number n) ts bytes
next_number n ts bytes sp = front_of (number n) ts bytes (λ e. absurd cc) sp

pub next_principal : (org : List ℕ) (role : PolicyRole) (ts : List Token) (bytes : List ℕ)
    → Spaced (principal_token org role ∷ ts) bytes → Front (principal_token org role) ts bytes
next_principal org role ts bytes sp = front_of (principal_token org role) ts bytes (λ e. absurd cc) sp

pub next_no_principal : (ts : List Token) (bytes : List ℕ) → Spaced (no_principal ∷ ts) bytes
    → Front no_principal ts bytes
next_no_principal ts bytes sp = front_of no_principal ts bytes (λ e. absurd cc) sp

-- the first token is the one that is computed
pub first_is : (ts : List Token) (bytes : List ℕ) → Spaced ts bytes → (token_at bytes).0 ≡ first ts
first_is [] bytes sp = ap (λ (x : Token × List ℕ). x.0) (next_is ended bytes [] (λ e. absurd cc) sp)
first_is (opening ∷ ts) bytes sp = ap (λ (x : Token × List ℕ). x.0) (next_opening ts bytes sp).is
first_is (closing ∷ ts) bytes sp = ap (λ (x : Token × List ℕ). x.0) (next_closing ts bytes sp).is
first_is (comma ∷ ts) bytes sp = ap (λ (x : Token × List ℕ). x.0) (next_comma ts bytes sp).is
first_is (word w ∷ ts) bytes sp = ap (λ (x : Token × List ℕ). x.0) (next_word w ts bytes sp).is
first_is (number n ∷ ts) bytes sp = ap (λ (x : Token × List ℕ). x.0) (next_number n ts bytes sp).is
first_is (principal_token org role ∷ ts) bytes sp =
    ap (λ (x : Token × List ℕ). x.0) (next_principal org role ts bytes sp).is
first_is (no_principal ∷ ts) bytes sp = ap (λ (x : Token × List ℕ). x.0) (next_no_principal ts bytes sp).is
first_is (broken ∷ ts) bytes sp = broken_is bytes sp.1
first_is (ended ∷ ts) bytes sp = absurd sp
