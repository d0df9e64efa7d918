-- A set of signatures with one more.
use Rattle.std.proofs.Common.{◌≡◌, ℕ, ◌+◌, ◌<◌, ◌==◌, Bool, true, false, cond, ◌||◌, List, [], ◌∷◌, length, take, get_or, refl, sym, ap, ◌∙◌}
use Rattle.std.specs.Prelude.{◌&&◌}
use Rattle.std.specs.List.{list_any}
use Rattle.std.specs.Str.{bytes_eq}
use Rattle.std.specs.Cmp.Lexicographic.{bytes_decides}
use Rattle.std.proofs.lemmas.Bool.{eq-eqb, eqb-true}
use Rattle.std.proofs.lemmas.List.Folds.{list_any_more}
use Rattle.transaction.specs.Grammar.{role_byte}
use Rattle.transaction.specs.declared.identity.Identity.{Identity}
use Rattle.verdicts.specs.declared.verdict.Piece.{Piece}
use Rattle.verdicts.specs.declared.verdict.Verdict.{Verdict}
use Rattle.verdicts.specs.declared.signed.Signed.{Signed}
use Rattle.verdicts.specs.Said.{piece, is_on, says}
use Rattle.verdicts.specs.Tags.{tag_of}
use Rattle.verdicts.specs.Index.{is_this, is_in, AnswerAlike}

-- two tests that hold alike are one
one_test : (a b : Bool) → (a ≡ true → b ≡ true) → (b ≡ true → a ≡ true) → a ≡ b
one_test true b f g = sym (f refl)
one_test false true f g = g refl
one_test false false f g = refl

bytes_turned : (x y : List ℕ) → bytes_eq x y ≡ bytes_eq y x
bytes_turned x y =
    one_test (bytes_eq x y) (bytes_eq y x) (λ e. (bytes_decides y x).1 (sym ((bytes_decides x y).0 e))) (λ e. (bytes_decides x y).1 (sym ((bytes_decides y x).0 e)))

role_turned : (x y : ℕ) → (x == y) ≡ (y == x)
role_turned x y = one_test (x == y) (y == x) (λ e. eq-eqb y x (sym (eqb-true x y e))) (λ e. eq-eqb x y (sym (eqb-true y x e)))

-- a set's own test: the tags first
abbrev pub is_equal : Signed → Signed → Bool
is_equal a b =
    (a.tag == b.tag)
    && (bytes_eq a.signature.now b.signature.now
    && ((a.role == b.role) && (bytes_eq a.org.now b.org.now && (bytes_eq a.label.now b.label.now && bytes_eq a.message.now b.message.now))))

-- the tags tell nothing more
with_tag : (k : Signed) (identity : Identity) (message signature : List ℕ) → ((tag_of signature == k.tag) && is_this k identity message signature) ≡ is_this k identity message signature
with_tag k identity message signature = by (bytes_eq signature k.signature.now) refl
  where
    rest : Bool
    rest = (role_byte identity.role == k.role) && (bytes_eq identity.org k.org.now && (bytes_eq identity.label k.label.now && bytes_eq message k.message.now))

    no_and : (a : Bool) → (a && false) ≡ false
    no_and true = refl
    no_and false = refl

    by : (b : Bool) → bytes_eq signature k.signature.now ≡ b → ((tag_of signature == k.tag) && is_this k identity message signature) ≡ is_this k identity message signature
    by true e =
        let same : signature ≡ k.signature.now = (bytes_decides signature k.signature.now).0 e in
        let tags : tag_of signature ≡ k.tag = ap tag_of same ∙ sym k.tagged in
        λ i. eq-eqb (tag_of signature) k.tag tags i && is_this k identity message signature
    by false e = (λ i. (tag_of signature == k.tag) && (e i && rest)) ∙ no_and (tag_of signature == k.tag) ∙ (λ i. sym e i && rest)

any_same : (f g : Signed → Bool) → ((k : Signed) → f k ≡ g k) → (keys : List Signed) → list_any f keys ≡ list_any g keys
any_same f g same [] = refl
any_same f g same (k ∷ keys) = λ i. same k i || any_same f g same keys i

-- a signature that is asked about, as one of a set
abbrev pub asked : Signed → Identity → List ℕ → List ℕ → Signed
asked s identity message signature = record {
  tag = tag_of signature;
  signature = record s.signature { now = signature };
  role = role_byte identity.role;
  org = record s.org { now = identity.org };
  label = record s.label { now = identity.label };
  message = record s.message { now = message };
  tagged = refl;
}

-- what a set answers to one that is asked about
pub found : (keys : List Signed) (a : Signed) (identity : Identity) (message signature : List ℕ)
    → a.signature.now ≡ signature → a.role ≡ role_byte identity.role → a.org.now ≡ identity.org → a.label.now ≡ identity.label → a.message.now ≡ message
    → list_any (is_equal a) keys ≡ is_in keys identity message signature
found keys a identity message signature b c d e f =
    let tag : a.tag ≡ tag_of signature = a.tagged ∙ ap tag_of b in
    any_same (is_equal a) (λ k. is_this k identity message signature)
    (λ k. (λ i. (tag i == k.tag) && (bytes_eq (b i) k.signature.now && ((c i == k.role) && (bytes_eq (d i) k.org.now && (bytes_eq (e i) k.label.now && bytes_eq (f i) k.message.now)))))
    ∙ with_tag k identity message signature)
    keys

turned : (s : Signed) (identity : Identity) (message signature : List ℕ) → is_equal s (asked s identity message signature) ≡ is_this s identity message signature
turned s identity message signature =
    let t = role_turned s.tag (tag_of signature) in
    let a = bytes_turned s.signature.now signature in
    let b = role_turned s.role (role_byte identity.role) in
    let c = bytes_turned s.org.now identity.org in
    let d = bytes_turned s.label.now identity.label in
    let e = bytes_turned s.message.now message in
    (λ i. t i && (a i && (b i && (c i && (d i && e i))))) ∙ with_tag s identity message signature

or_known : (a b : Bool) → cond a true b ≡ (b || a)
or_known true true = refl
or_known true false = refl
or_known false true = refl
or_known false false = refl

pub one_more : (old new : List Signed) (s : Signed) (identity : Identity) (message signature : List ℕ)
    → list_any (is_equal (asked s identity message signature)) new ≡ cond (is_equal s (asked s identity message signature)) true (list_any (is_equal (asked s identity message signature)) old)
    → is_in new identity message signature ≡ (is_in old identity message signature || is_this s identity message signature)
one_more old new s identity message signature h =
    let q = asked s identity message signature in
    sym (found new q identity message signature refl refl refl refl refl)
    ∙ h
    ∙ (λ i. cond (turned s identity message signature i) true (found old q identity message signature refl refl refl refl refl i))
    ∙ or_known (is_this s identity message signature) (is_in old identity message signature)

abbrev nowhere : Piece
nowhere = record { at = 0; len = 0 }

-- what no list holds
abbrev pub no_verdict : Verdict
no_verdict = record { org = nowhere; label = nowhere; message = nowhere; signature = nowhere; role = 0; accepted = false }

module _ (pool : List ℕ) (v : Verdict) where
  -- one that accepts is put in
  pub put_in : (old new : List Signed) (s : Signed) → v.accepted ≡ true
      → s.signature.now ≡ piece pool v.signature → s.role ≡ v.role → s.org.now ≡ piece pool v.org → s.label.now ≡ piece pool v.label → s.message.now ≡ piece pool v.message
      → ((identity : Identity) (message signature : List ℕ) → is_in new identity message signature ≡ (is_in old identity message signature || is_this s identity message signature))
      → (identity : Identity) (message signature : List ℕ) → is_in new identity message signature ≡ (is_in old identity message signature || says pool v identity message signature)
  put_in old new s accepts a b c d e put identity message signature =
      put identity message signature
      ∙ (λ i. is_in old identity message signature
      || ((sym accepts) i && (bytes_eq signature (a i) && ((role_byte identity.role == b i) && (bytes_eq identity.org (c i) && (bytes_eq identity.label (d i) && bytes_eq message (e i)))))))

  or_no : (a : Bool) → a ≡ (a || false)
  or_no true = refl
  or_no false = refl

  -- one that refuses isn't
  pub left_out : (old : List Signed) → v.accepted ≡ false
      → (identity : Identity) (message signature : List ℕ) → is_in old identity message signature ≡ (is_in old identity message signature || says pool v identity message signature)
  left_out old refuses identity message signature =
      or_no (is_in old identity message signature)
      ∙ (λ i. is_in old identity message signature || ((sym refuses) i && is_on pool v identity message signature))

  -- a step of the loop over verdicts
  pub step : (verdicts : List Verdict) (n : ℕ) (old new : List Signed) → n < length verdicts → (d : Verdict) → v ≡ get_or verdicts n d
      → ((identity : Identity) (message signature : List ℕ) → is_in new identity message signature ≡ (is_in old identity message signature || says pool v identity message signature))
      → AnswerAlike old pool (take n verdicts) → AnswerAlike new pool (take (n + 1) verdicts)
  step verdicts n old new bound d is_v put before identity message signature =
      let test : Verdict → Bool = λ x. says pool x identity message signature in
      put identity message signature
      ∙ (λ i. before identity message signature i || test (is_v i))
      ∙ sym (list_any_more test verdicts n d bound)
