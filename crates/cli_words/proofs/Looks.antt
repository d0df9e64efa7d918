-- What a word looks like, to the definition and to clap alike.
use Rattle.std.proofs.Common.{◌≡◌, ◌==◌, ◌⊎◌, inl, inr, ℕ, Bool, true, false, cond, refl, sym, ap, ap₂, List, [], ◌∷◌, Option, Some, None, arith}
use Rattle.std.specs.Prelude.{codes}
use Rattle.std.specs.Str.{bytes_eq}
use Rattle.std.proofs.lemmas.Bool.Decides.{nat_tests}
use Rattle.clap.specs.Lexer.{long_of, short_of}
use Rattle.cli_words.specs.Items.{Text, after_hyphens, is_plain, name_in, value_in}

abbrev pub hyphens : Text
hyphens = 45 ∷ 45 ∷ []

pub record PlainWord (word : Text) : Type 0 where
  pub plain : is_plain word ≡ true
  pub no_hyphens : bytes_eq word hyphens ≡ false
  pub long : long_of word ≡ None
  pub short : short_of word ≡ None

pub record LongWord (word : Text) : Type 0 where
  pub first : ℕ
  pub rest : Text
  pub plain : is_plain word ≡ false
  pub no_hyphens : bytes_eq word hyphens ≡ false
  pub after : after_hyphens word ≡ Some (first ∷ rest)
  pub long : long_of word ≡ Some (name_in (first ∷ rest), value_in (first ∷ rest))

pub record ShortWord (word : Text) : Type 0 where
  pub first : ℕ
  pub rest : Text
  pub is : word ≡ 45 ∷ first ∷ rest
  pub plain : is_plain word ≡ false
  pub no_hyphens : bytes_eq word hyphens ≡ false
  pub after : after_hyphens word ≡ None
  pub long : long_of word ≡ None
  pub short : short_of word ≡ Some (first ∷ rest)

abbrev pub Look : Text → Type 0
Look word = PlainWord word ⊎ (LongWord word ⊎ (ShortWord word ⊎ (word ≡ hyphens)))

equal : (a b : ℕ) → (a == b) ≡ true → a ≡ b
equal a b e = grind (arith, nat_tests)

pub look : (word : Text) → Look word
look [] = inl (record { plain = refl; no_hyphens = refl; long = refl; short = refl })
look (a ∷ []) = go (a == 45) refl
  where
    go : (s : Bool) → (a == 45) ≡ s → Look (a ∷ [])
    go true e = inl (record { plain = refl; no_hyphens = rw e refl; long = rw e refl; short = rw e refl })
    go false e = inl (record { plain = refl; no_hyphens = rw e refl; long = rw e refl; short = rw e refl })
look (a ∷ b ∷ []) = go (a == 45) refl (b == 45) refl
  where
    go : (s : Bool) → (a == 45) ≡ s → (t : Bool) → (b == 45) ≡ t → Look (a ∷ b ∷ [])
    go true e true f = inr (inr (inr (ap₂ (λ x y. x ∷ y ∷ []) (equal a 45 e) (equal b 45 f))))
    go true e false f = inr (inr (inl (record {
      first = b;
      rest = [];
      is = ap (λ x. x ∷ b ∷ []) (equal a 45 e);
      plain = rw e refl;
      no_hyphens = rw (e, f) refl;
      after = rw (e, f) refl;
      long = rw (e, f) refl;
      short = rw (e, f) refl;
    })))
    go false e t f = inl (record { plain = rw e refl; no_hyphens = rw e refl; long = rw e refl; short = rw e refl })
look (a ∷ b ∷ c ∷ rest) = go (a == 45) refl (b == 45) refl
  where
    go : (s : Bool) → (a == 45) ≡ s → (t : Bool) → (b == 45) ≡ t → Look (a ∷ b ∷ c ∷ rest)
    go true e true f = inr (inl (record {
      first = c;
      rest = rest;
      plain = rw e refl;
      no_hyphens = rw (e, f) refl;
      after = rw (e, f) refl;
      long = rw (e, f) refl;
    }))
    go true e false f = inr (inr (inl (record {
      first = b;
      rest = c ∷ rest;
      is = ap (λ x. x ∷ b ∷ c ∷ rest) (equal a 45 e);
      plain = rw e refl;
      no_hyphens = rw (e, f) refl;
      after = rw (e, f) refl;
      long = rw (e, f) refl;
      short = rw (e, f) refl;
    })))
    go false e t f = inl (record { plain = rw e refl; no_hyphens = rw e refl; long = rw e refl; short = rw e refl })
