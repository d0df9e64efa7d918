-- The parts of what is spelled are spelled.
use Rattle.std.proofs.Common.{◌≡◌, ◌≤◌, ◌++◌, length, List, ℕ, refl, ap, arith, length-append}
use Rattle.transaction.specs.Limits.{max_tx_bytes}
use Rattle.transaction.specs.declared.transaction.Tx.{Tx}
use Rattle.transaction.specs.declared.update.Update.{Update}
use Rattle.transaction.specs.Grammar.{counted, listed, endorsement_bytes, body_bytes, SpellsBody}
use Rattle.transaction.specs.UpdateGrammar.{update_body_bytes, SpellsUpdateBody}
use Rattle.transaction.specs.Spelled.{IsSpelled, IsSpelledUpdate}

front_is_short : (a b c whole : List ℕ) (most : ℕ) → whole ≡ (a ++ b) ++ c → length whole ≤ most → length a ≤ most
front_is_short a b c whole most e h = omega (arith, ap length e, length-append (a ++ b) c, length-append a b)

pub spelled_body : (tx : Tx) → IsSpelled tx → SpellsBody (body_bytes tx) tx
spelled_body tx s = record {
  fits = s.spelled.fits.signed.body;
  fields = refl;
  short = front_is_short (body_bytes tx) (listed 1 endorsement_bytes tx.endorsements) (counted 2 tx.signature) s.bytes max_tx_bytes s.spelled.fields s.spelled.short;
}

pub spelled_update_body : (u : Update) → IsSpelledUpdate u → SpellsUpdateBody (update_body_bytes u) u
spelled_update_body u s = record {
  fits = s.spelled.fits.signed.body;
  fields = refl;
  short = front_is_short (update_body_bytes u) (listed 1 endorsement_bytes u.endorsements) (counted 2 u.signature) s.bytes max_tx_bytes s.spelled.fields s.spelled.short;
}
