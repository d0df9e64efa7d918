-- Channel texts: one line `channel NAME`, up to 256 lines `chaincode NAME POLICY` whose names differ, and at most one
-- line `admin POLICY`.
use Rattle.std.specs.Prelude.{ℕ, ◌&&◌, nat_lt, if◌then◌else◌, List, [], ◌∷◌, length, codes, Option, Some, None, is_some, Result, Ok, Err}
use Rattle.std.specs.FinMap.{contains_key, empty, insert, len}
use Rattle.std.specs.Str.{bytes_eq}
use Rattle.values.specs.Name.{is_name}
use Rattle.policy.specs.Tree.{Tree}
use Rattle.policy.specs.Fault as policy
use Rattle.policy.specs.Meaning.{policy_or_fault}
use Rattle.policy.specs.Policies.{Policies}
use Rattle.text_lines.specs.Lines.{Statement, statements, first_part, after_first_part}
use Rattle.channel.specs.Configuration.{Configuration, max_chaincodes}
use Rattle.channel.specs.Fault.{Fault, no_form, repeated, no_policy, too_many, no_channel}

-- what one line states, or that it has none of the forms
pub data Says : Type 0 where
  names_channel : List ℕ → Says
  -- a chaincode, and the text of its policy
  defines : List ℕ → List ℕ → Says
  -- the text of the admin policy
  sets_admin : List ℕ → Says
  nothing_known : Says

abbrev pub says_channel : List ℕ → Says
says_channel name = if is_name name then names_channel name else nothing_known

-- the policy's text is the rest of the line, and not empty
abbrev pub says_chaincode : List ℕ → List ℕ → Says
says_chaincode chaincode text =
    if is_name chaincode && nat_lt 0 (length text) then defines chaincode text else nothing_known

-- the policy's text is the rest of the line, and not empty
abbrev pub says_admin : List ℕ → Says
says_admin text = if nat_lt 0 (length text) then sets_admin text else nothing_known

abbrev pub says : List ℕ → Says
says line =
    if bytes_eq (first_part line) (codes "channel") then says_channel (after_first_part line)
    else if bytes_eq (first_part line) (codes "chaincode") then says_chaincode (first_part (after_first_part line)) (after_first_part (after_first_part line))
    else if bytes_eq (first_part line) (codes "admin") then says_admin (after_first_part line)
    else nothing_known

-- What the lines so far state: the channel's name, the policies of chaincodes, and the admin policy.
pub record SoFar : Type 0 where
  pub name : Option (List ℕ)
  pub definitions : Policies
  pub admin : Option Tree

abbrev pub nothing_said : SoFar
nothing_said = record { name = None; definitions = empty; admin = None }

-- the channel's name on line n, with an earlier one or none
abbrev pub said_name : ℕ → SoFar → List ℕ → Option (List ℕ) → Result SoFar Fault
said_name n so_far name None = Ok (record so_far { name = Some name })
said_name n so_far name (Some other) = Err (repeated n)

abbrev pub on_line : ℕ → Result Tree policy.Fault → Result Tree Fault
on_line n (Ok tree) = Ok tree
on_line n (Err f) = Err (no_policy n f)

-- the policy on line n that the text encodes
abbrev pub policy_on : ℕ → List ℕ → Result Tree Fault
policy_on n text = on_line n (policy_or_fault text)

abbrev pub with_policy : SoFar → List ℕ → Tree → SoFar
with_policy so_far chaincode tree = record so_far { definitions = insert so_far.definitions chaincode tree }

-- a chaincode on line n that isn't defined so far, with its policy
abbrev pub said_policy : ℕ → SoFar → List ℕ → Result Tree Fault → Result SoFar Fault
said_policy n so_far chaincode (Err fault) = Err fault
said_policy n so_far chaincode (Ok tree) =
    if nat_lt (len so_far.definitions) max_chaincodes
    then Ok (with_policy so_far chaincode tree)
    else Err (too_many n)

-- the first admin policy
abbrev pub said_admin : SoFar → Result Tree Fault → Result SoFar Fault
said_admin so_far (Err fault) = Err fault
said_admin so_far (Ok tree) = Ok (record so_far { admin = Some tree })

-- the lowest fault of line n after the lines so far, or what is stated with it
abbrev pub said_by : ℕ → SoFar → Says → Result SoFar Fault
said_by n so_far nothing_known = Err (no_form n)
said_by n so_far (names_channel name) = said_name n so_far name so_far.name
said_by n so_far (defines chaincode text) =
    if contains_key so_far.definitions chaincode then Err (repeated n)
    else said_policy n so_far chaincode (policy_on n text)
said_by n so_far (sets_admin text) = if is_some so_far.admin then Err (repeated n) else said_admin so_far (policy_on n text)

abbrev pub said_next : (SoFar → Result SoFar Fault) → Result SoFar Fault → Result SoFar Fault
said_next f (Ok so_far) = f so_far
said_next f (Err fault) = Err fault

-- line by line: the first fault, or what all lines state
abbrev pub said_from : SoFar → List Statement → Result SoFar Fault
said_from so_far [] = Ok so_far
said_from so_far (s ∷ more) = said_next (λ next. said_from next more) (said_by s.line so_far (says s.bytes))

abbrev pub named : SoFar → Option (List ℕ) → Result Configuration Fault
named so_far None = Err no_channel
named so_far (Some name) = Ok (record { name = name; definitions = so_far.definitions; admin = so_far.admin })

-- what all lines configure, if one of them names the channel
abbrev pub whole : SoFar → Result Configuration Fault
whole so_far = named so_far so_far.name

abbrev pub ended : Result SoFar Fault → Result Configuration Fault
ended (Ok so_far) = whole so_far
ended (Err fault) = Err fault

-- what a text configures, or the first line's fault, on one line the lowest, and last that no line names the channel
abbrev pub configuration_of : List ℕ → Result Configuration Fault
configuration_of text = ended (said_from nothing_said (statements text))
