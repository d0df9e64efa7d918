-- What getters of matches give of rows that hold items.
use Rattle.std.proofs.Common.{◌≡◌, ◌∙◌, ◌⊎◌, inl, inr, ℕ, Bool, cond, true, false, refl, sym, ap, ap₂, subst, List, [], ◌∷◌, ◌++◌, map, Option, Some, None, true≢false, arith}
use Rattle.std.specs.Char.{encode_utf8}
use Rattle.std.specs.Prelude.{codes, drop, is_some, option_map, slice_get, unwrap_or, Box}
use Rattle.std.specs.Borrow.{Bor}
use Rattle.std.specs.Box.{box_value}
use Rattle.std.specs.List.{AllByRecursion}
use Rattle.std.specs.Str.{IsUtf8, chars, chars_after, continuation_len, encode_utf8_all, lead_bits}
use Rattle.std.proofs.lemmas.Str.{chars-encodes}
use Rattle.std.proofs.lemmas.Bool.Decides.{nat_tests}
use Rattle.clap.specs.Matches.{found_of, subcommand_name_of}
use Rattle.clap.specs.Simple.{subcommand_rows}
use Rattle.clap.specs.Walk.{Row, Text, rows_of}
use Rattle.clap.specs.declared.parser.matches.SubCommand.{SubCommand}
use Rattle.clap.specs.declared.parser.matches.ArgMatches.TheViews.{out-SubCommand}
use Rattle.cli_words.specs.Matched.{IsFirst, IsSet}
use Rattle.cli_words.proofs.Walks.{IsText}

-- an option with a value, without a default
pub given_once : (uses : List (Option Text)) (first : Option Text) (v : Text) → Some v ≡ first → IsFirst uses None first → uses ≡ Some v ∷ []
given_once uses first v e (inl (none, d)) = absurd (true≢false (ap is_some (e ∙ d)))
given_once uses first v e (inr (value, (is, f))) = is ∙ ap (λ o. Some (unwrap_or o v) ∷ []) (sym f ∙ sym e)

-- an option without a value
pub set_once : (uses : List (Option Text)) (value : Option Text) (b : Bool) → (value ≡ Some (codes "true") → b ≡ true) → (value ≡ Some (codes "false") → b ≡ false)
    → IsSet uses value → uses ≡ cond b (None ∷ []) []
set_once uses value b on off (inl (none, is)) = none ∙ ap (λ (x : Bool). cond x (None ∷ []) []) (sym (off is))
set_once uses value b on off (inr (one, is)) = one ∙ ap (λ (x : Bool). cond x (None ∷ []) []) (sym (on is))

-- operands, or none
pub all_given : (o : Option (Bor (List (Bor Text)))) (none : Bor (List (Bor Text))) (all : Option (List Text)) → none.now ≡ []
    → option_map (λ s. map (λ v. v.now) s.now) o ≡ all → map (λ v. v.now) (unwrap_or o none).now ≡ unwrap_or all []
all_given None none all e f = ap (map (λ v. v.now)) e ∙ ap (λ (x : Option (List Text)). unwrap_or x []) f
all_given (Some s) none all e f = ap (λ (x : Option (List Text)). unwrap_or x []) f

module _ {Z : Type 0} where
  -- the subcommand's name and rows together
  pub entered_rows : (sub : Option (Box SubCommand Z)) (name : Text) (rows : List Row)
      → Some name ≡ option_map (λ b. (out-SubCommand (box_value b)).name.now) sub → Some rows ≡ option_map (λ p. p.1) (subcommand_rows sub) → subcommand_rows sub ≡ Some (name, rows)
  entered_rows None name rows e f = absurd (true≢false (ap is_some e))
  entered_rows (Some b) name rows e f = ap₂ (λ x y. Some (unwrap_or x name, unwrap_or y rows)) (sym e) (sym f)

-- ---- words that are texts

abbrev some_left : List ℕ → Bool
some_left [] = false
some_left (x ∷ xs) = true

first_some : (cs : List ℕ) → some_left cs ≡ true → is_some (slice_get cs 0) ≡ true
first_some [] e = absurd (true≢false (sym e))
first_some (c ∷ cs) e = refl

-- a hyphen is a character of its own
hyphen_first : (first : ℕ) (rest : Text) → chars (45 ∷ first ∷ rest) ≡ 45 ∷ chars (first ∷ rest)
unfolding chars
hyphen_first first rest = refl

one_hyphen : encode_utf8_all (45 ∷ []) ≡ 45 ∷ []
unfolding encode_utf8
one_hyphen = refl

abbrev second_left : List ℕ → Bool
second_left [] = false
second_left (x ∷ []) = false
second_left (x ∷ y ∷ xs) = true

pub is_text : (word : Text) → IsUtf8 word → IsText word
is_text word (cs, (scalar, spelled)) first rest is = first_some (chars (first ∷ rest)) (go (chars (first ∷ rest)) whole)
  where
    whole : cs ≡ 45 ∷ chars (first ∷ rest)
    whole = sym (chars-encodes cs scalar) ∙ ap chars (spelled ∙ is) ∙ hyphen_first first rest

    go : (more : List ℕ) → cs ≡ 45 ∷ more → some_left more ≡ true
    go (c ∷ more) e = refl
    go [] e = absurd (true≢false (sym (ap second_left (sym one_hyphen ∙ ap encode_utf8_all (sym e) ∙ spelled ∙ is))))

pub are_texts : (words : List Text) → AllByRecursion IsUtf8 words → AllByRecursion IsText (drop 1 words)
are_texts [] all = tt
are_texts (program ∷ words) all = each words all.1
  where
    each : (words : List Text) → AllByRecursion IsUtf8 words → AllByRecursion IsText words
    each [] all = tt
    each (word ∷ words) all = (is_text word all.0, each words all.1)
