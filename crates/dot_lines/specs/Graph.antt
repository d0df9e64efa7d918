-- The graph of a block, in DOT: a node for each transaction, and an edge to the one that its reason names.
use Rattle.std.specs.Prelude.{◌≡◌, ℕ, zero, suc, ◌<◌, ◌||◌, if◌then◌else◌, Bool, false, true, List, [], ◌++◌, length, get_or, set, codes, is_some, Option, Some, None}
use Rattle.std.specs.List.{list_any}
use Rattle.std.specs.Fmt.{decimal}
use Rattle.rules.specs.declared.flag.Flag.{Flag}
use Rattle.rules.specs.declared.flag.Flag.TheVariants.{Valid, DuplicateTxId, EndorsementPolicyFailure, MvccReadConflict, PhantomReadConflict}
use Rattle.rules.specs.Flags.{number_of}
use Rattle.reasons.specs.declared.reason.Reason.{Reason}
use Rattle.reasons.specs.declared.reason.Reason.TheVariants.{NoFault}
use Rattle.reasons.specs.Reason.{flag_of}
use Rattle.cli_lines.specs.ConflictLines.{flag_name}
use Rattle.dot_lines.specs.declared.named.Named.{Named}
use Rattle.dot_lines.specs.declared.named.Named.TheVariants.{Here, Earlier}
use Rattle.dot_lines.specs.Edges.{named_by, is_here, label_of}

-- flags differ in shape, and in colour
abbrev pub shape_of : Flag → List ℕ
shape_of Valid = codes "ellipse"
shape_of EndorsementPolicyFailure = codes "house"
shape_of MvccReadConflict = codes "octagon"
shape_of PhantomReadConflict = codes "hexagon"
shape_of DuplicateTxId = codes "trapezium"
shape_of _ = codes "box"

abbrev pub colour_of : Flag → List ℕ
colour_of Valid = codes "#dcefdc"
colour_of EndorsementPolicyFailure = codes "#fbe3b6"
colour_of MvccReadConflict = codes "#f8c9c4"
colour_of PhantomReadConflict = codes "#e3cdf2"
colour_of DuplicateTxId = codes "#cfe2f7"
colour_of _ = codes "#e6e6e6"

abbrev pub node_name : Named → List ℕ
node_name (Here place) = codes "t" ++ decimal place
node_name (Earlier block tx) = codes "b" ++ (decimal block ++ (codes "_" ++ decimal tx))

abbrev pub node_label : ℕ → Flag → List ℕ
node_label place flag =
    codes "  t" ++ (decimal place ++ (codes " [label=\"" ++ (decimal place ++ (codes "\\n" ++ (decimal (number_of flag) ++ (codes " " ++ (flag_name flag ++ codes "\"")))))))

abbrev pub look_of : Flag → List ℕ
look_of flag = codes ", shape=" ++ (shape_of flag ++ (codes ", fillcolor=\"" ++ (colour_of flag ++ codes "\"]\n")))

abbrev pub node_line : ℕ → Flag → List ℕ
node_line place flag = node_label place flag ++ look_of flag

-- a transaction of an earlier block, by its block and place; those of the block have their own lines
abbrev pub earlier_node : Named → List ℕ
earlier_node (Here place) = []
earlier_node (Earlier block tx) =
    codes "  " ++ (node_name (Earlier block tx) ++ (codes " [label=\"" ++ (decimal block ++ (codes " " ++ (decimal tx ++ codes "\", shape=plain, style=\"\", fontsize=10]\n")))))

abbrev pub arrow : ℕ → Named → List ℕ
arrow place named = codes "  t" ++ (decimal place ++ (codes " -> " ++ (node_name named ++ codes " [label=\"")))

abbrev pub edge_lines : ℕ → Named → Reason → List ℕ
edge_lines place named reason = earlier_node named ++ (arrow place named ++ (label_of reason ++ codes "\"]\n"))

abbrev pub edges_to : Option Named → ℕ → Reason → List ℕ
edges_to (Some named) place reason = edge_lines place named reason
edges_to None place reason = []

abbrev pub place_lines : ℕ → Reason → List ℕ
place_lines place reason = node_line place (flag_of reason) ++ edges_to (named_by reason) place reason

-- whether one of these names the transaction at this place
abbrev pub is_named : List Reason → ℕ → Bool
is_named reasons place = list_any (λ reason. is_here place (named_by reason)) reasons

abbrev pub reason_at : List Reason → ℕ → Reason
reason_at reasons place = get_or reasons place NoFault

-- a transaction is shown if all are, or if it has an edge
abbrev pub is_shown : Bool → List Reason → ℕ → Bool
is_shown all reasons place = all || (is_some (named_by (reason_at reasons place)) || is_named reasons place)

abbrev pub lines_at : Bool → List Reason → ℕ → List ℕ
lines_at all reasons place = if is_shown all reasons place then place_lines place (reason_at reasons place) else []

-- of the first n places
abbrev pub first_lines : Bool → List Reason → ℕ → List ℕ
first_lines all reasons zero = []
first_lines all reasons (suc n) = first_lines all reasons n ++ lines_at all reasons n

abbrev pub style : List ℕ
style = codes "  rankdir=RL\n  node [fontname=\"sans-serif\", fontsize=12, style=filled]\n  edge [fontname=\"sans-serif\", fontsize=10]\n"

abbrev pub opening : ℕ → List ℕ
opening number = (codes "digraph \"block " ++ (decimal number ++ codes "\" {\n")) ++ style

abbrev pub graph_text : ℕ → Bool → List Reason → List ℕ
graph_text number all reasons = opening number ++ (first_lines all reasons (length reasons) ++ codes "}\n")

-- ---- steps between this and the code

-- a mark if the block has this one
abbrev pub with_named : Option Named → List Bool → List Bool
with_named (Some (Here place)) places = set places place true
with_named (Some (Earlier block tx)) places = places
with_named None places = places

-- whether each place is named
pub record AreNamed (reasons : List Reason) (places : List Bool) : Type 0 where
  pub count : length places ≡ length reasons
  pub each : (i : ℕ) → i < length reasons → get_or places i false ≡ is_named reasons i
