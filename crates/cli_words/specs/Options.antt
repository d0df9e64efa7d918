-- The options of each subcommand, and which take a value.
use Rattle.std.specs.Prelude.{List, [], ◌∷◌, true, false, codes}
use Rattle.cli_words.specs.Items.{Options}

abbrev pub with_ledger : Options → Options
with_ledger options = (codes "channel", true) ∷ (codes "keys", true) ∷ options

abbrev pub printing : Options
printing = (codes "quiet", false) ∷ (codes "json", false) ∷ []

-- of `get` and `history`
abbrev pub keyed_options : Options
keyed_options = with_ledger ((codes "ns", true) ∷ (codes "key", true) ∷ printing)

abbrev pub definition_options : Options
definition_options = with_ledger ((codes "ns", true) ∷ printing)
