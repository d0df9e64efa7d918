-- The words after a subcommand's name: options and operands, in any order.
use Rattle.std.specs.Prelude.{◌≡◌, ◌==◌, ℕ, Bool, true, false, not, List, [], ◌∷◌, map, Option, Some, None}
use Rattle.std.specs.Prelude.{if◌then◌else◌, find, option_map}
use Rattle.std.specs.List.{before_first, after_first, list_any}
use Rattle.std.specs.Str.{bytes_eq}

abbrev pub Text : Type 0
Text = List ℕ

-- What a call has after the name of its subcommand: an option, with its value if it takes one, or an operand.
pub data Item : Type 0 where
  option : Text → Option Text → Item
  operand : Text → Item

-- the names of a subcommand's options, and whether each takes a value
abbrev pub Options : Type 0
Options = List (Text × Bool)

abbrev pub takes_value : Options → Text → Option Bool
takes_value options name = option_map (λ o. o.1) (find (λ o. bytes_eq o.0 name) options)

-- a hyphen (45) begins options, except alone
abbrev pub is_plain : Text → Bool
is_plain [] = true
is_plain (only ∷ []) = true
is_plain (first ∷ second ∷ rest) = not (first == 45)

-- what a word has after two hyphens
abbrev pub after_hyphens : Text → Option Text
after_hyphens [] = None
after_hyphens (first ∷ []) = None
after_hyphens (first ∷ second ∷ rest) = if first == 45 then (if second == 45 then Some rest else None) else None

-- NAME, and VALUE if it is there, of NAME=VALUE (61 is the sign)
abbrev pub name_in : Text → Text
name_in = before_first (λ c. c == 61)

abbrev pub value_in : Text → Option Text
value_in text = if list_any (λ c. c == 61) text then Some (after_first (λ c. c == 61) text) else None

abbrev pub with_item : Item → Option (List Item) → Option (List Item)
with_item item = option_map (λ items. item ∷ items)

-- An option: with the value that its own word has, or the next word, or without one, as the subcommand takes it. `next`
-- has the items after its word, if this option waits for its value or none does.
abbrev pub option_given : Text → Option Text → Option Bool → (Option Text → Option (List Item))
    → Option (List Item)
option_given name (Some value) (Some true) next = with_item (option name (Some value)) (next None)
option_given name (Some value) _ next = None
option_given name None (Some true) next = next (Some name)
option_given name None (Some false) next = with_item (option name None) (next None)
option_given name None None next = None

-- a word that begins with a hyphen; after `--` all words are operands
abbrev pub hyphened : Options → Option Text → List Text → (Option Text → Option (List Item)) → Option (List Item)
hyphened options None rest next = None
hyphened options (Some []) rest next = Some (map operand rest)
hyphened options (Some (first ∷ text)) rest next =
    option_given (name_in (first ∷ text)) (value_in (first ∷ text)) (takes_value options (name_in (first ∷ text)))
    next

-- The items of words, in their order, if an option waits for its value or none does. None if they aren't items.
abbrev pub items_after : Options → Option Text → List Text → Option (List Item)
items_after options None [] = Some []
items_after options (Some name) [] = None
items_after options None (word ∷ rest) =
    if is_plain word then with_item (operand word) (items_after options None rest)
    else hyphened options (after_hyphens word) rest (λ waiting. items_after options waiting rest)
items_after options (Some name) (word ∷ rest) =
    if is_plain word then with_item (option name (Some word)) (items_after options None rest) else None

-- each use of the option of this name, with its value if it takes one
abbrev pub given : Text → List Item → List (Option Text)
given name [] = []
given name (option other value ∷ items) = if bytes_eq other name then value ∷ given name items else given name items
given name (operand word ∷ items) = given name items

abbrev pub operands : List Item → List Text
operands [] = []
operands (option name value ∷ items) = operands items
operands (operand word ∷ items) = word ∷ operands items

-- the option is given once, with this value
abbrev pub IsGiven : List Item → Text → Text → Type 0
IsGiven items name value = given name items ≡ Some value ∷ []

-- the option without a value is given once, or not
abbrev pub IsFlag : List Item → Text → Bool → Type 0
IsFlag items name is_set = given name items ≡ (if is_set then None ∷ [] else [])

-- the words are items, which ask for this
abbrev pub AsItems : Options → List Text → (List Item → Type 0) → Type 0
AsItems options words Is = (items : List Item) × (items_after options None words ≡ Some items) × Is items
