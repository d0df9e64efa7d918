-- Strings that are shown one after the other.
use Rattle.std.proofs.Common.{◌≡◌, ◌++◌, ◌∷◌, ◌∙◌, ◌+◌, ◌<◌, ℕ, suc, Bool, true, false, ◌&&◌, List, [], Option, Some, None, drop, get_or, length, refl, sym, ap, subst, append-nil, drop-cons, add-one}
use Rattle.std.specs.Io.KnownBytes.{Appends, Keeps}
use Rattle.cli_lines.proofs.Written.{then}
use Rattle.command_files.specs.declared.inputs.Configuration.{Configuration}
use Rattle.ledger_commands.specs.Showing.{AreShown, IsShownAs, Prints, separator}

pub kept : (a b : Option (List ℕ)) → Keeps a b → Appends a b []
kept None b h = tt
kept (Some xs) None h = absurd h
kept (Some xs) (Some ys) h = h ∙ sym (append-nil xs)

and-assoc : (a b c : Bool) → ((a && b) && c) ≡ (a && (b && c))
and-assoc true b c = refl
and-assoc false b c = refl

and-true : (a : Bool) → (a && true) ≡ a
and-true true = refl
and-true false = refl

module _ (known : Option Configuration) (blocks : List (List ℕ)) (first : Option (List ℕ)) where
  -- what is yet to be shown after `i` byte strings
  abbrev pub Left : ℕ → Bool → Option (List ℕ) → Type 0
  Left i so_far out = (now : Option (List ℕ)) → (text : List ℕ) → (others : Bool) → AreShown known i (drop i blocks) text others → Appends out now text → Prints known blocks first (so_far && others) now

  pub one_more : (i : ℕ) (so_far : Bool) (out later : Option (List ℕ)) (bytes one : List ℕ) (is_block : Bool) → i < length blocks → bytes ≡ get_or blocks i bytes
      → Left i so_far out → IsShownAs known (suc i) bytes one is_block → Appends out later (separator i ++ one) → Left (i + 1) (so_far && is_block) later
  one_more i so_far out later bytes one is_block within is left shown written now text others are more =
      let at_once : drop i blocks ≡ bytes ∷ drop (suc i) blocks = drop-cons blocks i bytes within ∙ ap (λ (l : List ℕ). l ∷ drop (suc i) blocks) (sym is) in
      let are_next : AreShown known (suc i) (drop (suc i) blocks) text others = subst (λ (n : ℕ). AreShown known n (drop n blocks) text others) (add-one i) are in
      let all : AreShown known i (drop i blocks) ((separator i ++ one) ++ text) (is_block && others) =
      subst (λ (l : List (List ℕ)). AreShown known i l ((separator i ++ one) ++ text) (is_block && others)) (sym at_once) (one, text, is_block, others, shown, are_next, refl, refl) in
      subst (λ (b : Bool). Prints known blocks first b now) (sym (and-assoc so_far is_block others)) (left now ((separator i ++ one) ++ text) (is_block && others) all (then out later now (separator i ++ one) text written more))

  pub none_left : (i : ℕ) (so_far : Bool) (out now : Option (List ℕ)) → drop i blocks ≡ [] → Left i so_far out → Keeps out now → Prints known blocks first so_far now
  none_left i so_far out now none left keeps =
      let are : AreShown known i (drop i blocks) [] true = subst (λ (l : List (List ℕ)). AreShown known i l [] true) (sym none) (refl, refl) in
      subst (λ (b : Bool). Prints known blocks first b now) (and-true so_far) (left now [] true are (kept out now keeps))
