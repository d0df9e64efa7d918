-- Words and the items that they are, by hand; words that aren't items.
use Rattle.std.proofs.Common.{◌≡◌, refl, List, [], ◌∷◌, Some, None}
use Rattle.std.specs.Prelude.{codes}
use Rattle.cli_words.specs.Items.{Text, given, items_after, operand, operands, option}
use Rattle.cli_words.specs.Options.{definition_options, keyed_options}

-- options and operands in any order, values in their own word or the next
mixed : items_after keyed_options None (codes "b0" ∷ codes "--key=k" ∷ codes "--json" ∷ codes "--ns" ∷ codes "cc" ∷ codes "b1" ∷ [])
    ≡ Some (operand (codes "b0") ∷ option (codes "key") (Some (codes "k")) ∷ option (codes "json") None ∷ option (codes "ns") (Some (codes "cc"))
    ∷ operand (codes "b1") ∷ [])
mixed = refl

-- a value is all that comes after the first sign
two_signs : items_after keyed_options None (codes "--key=a=b" ∷ []) ≡ Some (option (codes "key") (Some (codes "a=b")) ∷ [])
two_signs = refl

empty_value : items_after keyed_options None (codes "--key=" ∷ []) ≡ Some (option (codes "key") (Some []) ∷ [])
empty_value = refl

hyphen_value : items_after keyed_options None (codes "--key=-x" ∷ []) ≡ Some (option (codes "key") (Some (codes "-x")) ∷ [])
hyphen_value = refl

-- a hyphen alone, and no byte at all, are words like others
hyphen_alone : items_after keyed_options None (codes "--key" ∷ codes "-" ∷ codes "-" ∷ [] ∷ [])
    ≡ Some (option (codes "key") (Some (codes "-")) ∷ operand (codes "-") ∷ operand [] ∷ [])
hyphen_alone = refl

-- after two hyphens all are operands
after_two : items_after keyed_options None (codes "--quiet" ∷ codes "--" ∷ codes "--json" ∷ codes "-x" ∷ codes "--" ∷ [])
    ≡ Some (option (codes "quiet") None ∷ operand (codes "--json") ∷ operand (codes "-x") ∷ operand (codes "--") ∷ [])
after_two = refl

-- an option may be given twice as an item; that a call has it once is said of its uses
twice : given (codes "key") (option (codes "key") (Some (codes "a")) ∷ operand (codes "b") ∷ option (codes "key") (Some (codes "c")) ∷ [])
    ≡ Some (codes "a") ∷ Some (codes "c") ∷ []
twice = refl

operands_in_order : operands (operand (codes "b1") ∷ option (codes "json") None ∷ operand (codes "b0") ∷ []) ≡ codes "b1" ∷ codes "b0" ∷ []
operands_in_order = refl

-- ---- no items

unknown : items_after definition_options None (codes "--key" ∷ codes "k" ∷ []) ≡ None
unknown = refl

shortened : items_after keyed_options None (codes "--ke" ∷ codes "k" ∷ []) ≡ None
shortened = refl

short : items_after keyed_options None (codes "-k" ∷ codes "k" ∷ []) ≡ None
short = refl

asks_for_help : items_after keyed_options None (codes "--help" ∷ []) ≡ None
asks_for_help = refl

no_value : items_after keyed_options None (codes "--key" ∷ []) ≡ None
no_value = refl

an_option_as_value : items_after keyed_options None (codes "--key" ∷ codes "--json" ∷ []) ≡ None
an_option_as_value = refl

a_hyphened_value : items_after keyed_options None (codes "--key" ∷ codes "-x" ∷ []) ≡ None
a_hyphened_value = refl

two_hyphens_as_value : items_after keyed_options None (codes "--key" ∷ codes "--" ∷ codes "k" ∷ []) ≡ None
two_hyphens_as_value = refl

a_flag_with_value : items_after keyed_options None (codes "--json=yes" ∷ []) ≡ None
a_flag_with_value = refl
