-- What files hold that a command reads.
use Rattle.std.specs.Prelude.{◌≡◌, ℕ, List, [], ◌∷◌, Ok}
use Rattle.channel.specs.Configuration.{Configuration}
use Rattle.channel.specs.Text.{configuration_of}
use Rattle.key_book.specs.BookText.{book_of}
use Rattle.key_book.specs.Entry.{Entry}
use Rattle.std.specs.Str.{IsUtf8}

-- these strings of bytes are what the files of these paths hold, in their order
abbrev pub AreHeld : {X : Type 0} → (X → List ℕ → Type 0) → List X → List (List ℕ) → Type 0
AreHeld Holds [] [] = Unit {0}
AreHeld Holds (path ∷ paths) (bytes ∷ all) = Holds path bytes × AreHeld Holds paths all
AreHeld Holds [] (bytes ∷ all) = ⊥
AreHeld Holds (path ∷ paths) [] = ⊥

-- a file that holds such bytes holds a channel text, which configures this
pub record HoldsChannel (Holds : List ℕ → Type 0) (channel : Configuration) : Type 0 where
  pub text : List ℕ
  pub held : Holds text
  pub utf8 : IsUtf8 text
  pub configures : configuration_of text ≡ Ok channel

-- a file that holds such bytes holds a key book with these entries
pub record HoldsKeys (Holds : List ℕ → Type 0) (keys : List Entry) : Type 0 where
  pub text : List ℕ
  pub held : Holds text
  pub utf8 : IsUtf8 text
  pub gives : book_of text ≡ Ok keys

-- both do
abbrev pub HoldConfiguration : (List ℕ → Type 0) → (List ℕ → Type 0) → Configuration → List Entry → Type 0
HoldConfiguration HoldsThere HoldsKeysThere channel keys = HoldsChannel HoldsThere channel × HoldsKeys HoldsKeysThere keys
