-- What `fabcommit_open` answers.
use Rattle.std.specs.Prelude.{◌≡◌, ◌⊎◌, ℕ, List, Ok, is_err, true}
use Rattle.std.specs.Str.{IsUtf8}
use Rattle.channel.specs.Text.{configuration_of}
use Rattle.key_book.specs.BookText.{book_of}
use Rattle.rules.specs.World.{empty_world}
use Rattle.c_handle.specs.declared.kept.Kept.{Kept}
use Rattle.c_calls.specs.declared.codes.TheConstants.{MEMORY, NO_TEXT, NO_CHANNEL, NO_KEYS}

-- The ledger of height 0 of a channel text, with the keys of a text of keys.
pub record IsOpened (channel keys : List ℕ) (kept : Kept) : Type 0 where
  pub of_channel : configuration_of channel ≡ Ok kept.ledger.channel
  pub of_keys : book_of keys ≡ Ok kept.keys
  pub at_height_0 : kept.ledger.world ≡ empty_world kept.ledger.channel.definitions

-- the text is no channel's, as the code says, or memory was refused
abbrev pub IsNoChannel : List ℕ → ℕ → Type 0
IsNoChannel text code = (code ≡ MEMORY) ⊎ (((code ≡ NO_TEXT) × ¬ (IsUtf8 text)) ⊎ ((code ≡ NO_CHANNEL) × (is_err (configuration_of text) ≡ true)))

-- the text is no key book
abbrev pub IsNoBook : List ℕ → ℕ → Type 0
IsNoBook text code = (code ≡ MEMORY) ⊎ (((code ≡ NO_TEXT) × ¬ (IsUtf8 text)) ⊎ ((code ≡ NO_KEYS) × (is_err (book_of text) ≡ true)))

-- one of the two is none
abbrev pub IsNotOpened : List ℕ → List ℕ → ℕ → Type 0
IsNotOpened channel keys code = IsNoChannel channel code ⊎ IsNoBook keys code
