-- Which signatures a key book accepts.
use Rattle.std.specs.Prelude.{ℕ, Bool, false, if◌then◌else◌, List, [], ◌∷◌, Option, Some, None, option_map}
use Rattle.std.specs.Option.{option_map_or}
use Rattle.std.specs.Str.{bytes_eq}
use Rattle.transaction.specs.declared.identity.Identity.{Identity}
use Rattle.transaction.specs.Same.{is_same_identity}
use Rattle.key_book.specs.Entry.{Entry}
use Rattle.key_book.specs.Hmac.{hmac}

-- the key of an identity that is in the book
abbrev pub key_in_book : Identity → List Entry → Option (List ℕ)
key_in_book identity [] = None
key_in_book identity (entry ∷ more) = if is_same_identity entry.identity identity then Some entry.key else key_in_book identity more

-- the 32 bytes by which an identity of the book signs a message
abbrev pub signature_of : List Entry → Identity → List ℕ → Option (List ℕ)
signature_of book identity message = option_map (λ key. hmac key message) (key_in_book identity book)

-- The identity is in the book, and the signature is the one by which it signs the message.
abbrev pub accepts : List Entry → Identity → List ℕ → List ℕ → Bool
accepts book identity message signature = option_map_or (λ signed. bytes_eq signed signature) (signature_of book identity message) false
