-- Which transaction made another invalid, and about what, by its reason.
use Rattle.std.specs.Prelude.{ℕ, ◌==◌, Bool, false, List, [], ◌++◌, codes, Option, Some, None}
use Rattle.transaction.specs.declared.transaction.Version.{Version}
use Rattle.reasons.specs.declared.endorsement_fault.EndorsementFault.{EndorsementFault}
use Rattle.reasons.specs.declared.endorsement_fault.EndorsementFault.TheVariants.{Touched}
use Rattle.reasons.specs.declared.id_use.IdUse.{IdUse}
use Rattle.reasons.specs.declared.id_use.IdUse.TheVariants as id_use
use Rattle.reasons.specs.declared.reason.Reason.{Reason}
use Rattle.reasons.specs.declared.reason.Reason.TheVariants.{UsedId, NotEndorsed, ReadConflict, PhantomConflict}
use Rattle.dot_lines.specs.declared.named.Named.{Named}
use Rattle.dot_lines.specs.declared.named.Named.TheVariants.{Here, Earlier}
use Rattle.dot_lines.specs.Dot.{quoted_word}

abbrev pub use_of : IdUse → Named
use_of (id_use.Earlier block place flag) = Earlier block place
use_of (id_use.Here place flag) = Here place

-- the last writer of a key: of the block, or otherwise of an earlier one, if the key exists
abbrev pub writer_of : Option ℕ → Option Version → Option Named
writer_of (Some place) there = Some (Here place)
writer_of None (Some version) = Some (Earlier version.block version.tx)
writer_of None None = None

abbrev pub touched_by : EndorsementFault → Option Named
touched_by (Touched namespace key place) = Some (Here place)
touched_by _ = None

abbrev pub named_by : Reason → Option Named
named_by (UsedId first) = Some (use_of first)
named_by (NotEndorsed fault) = touched_by fault
named_by (ReadConflict read) = writer_of read.writer read.there
named_by (PhantomConflict x) = writer_of x.writer x.there
named_by _ = None

-- whether this is the transaction at this place of the block
abbrev pub is_here : ℕ → Option Named → Bool
is_here place (Some (Here other)) = other == place
is_here place (Some (Earlier block tx)) = false
is_here place None = false

-- ---- labels

abbrev pub key_label : List ℕ → List ℕ → List ℕ
key_label namespace key = quoted_word namespace ++ (codes " " ++ quoted_word key)

abbrev pub touched_label : EndorsementFault → List ℕ
touched_label (Touched namespace key place) = key_label namespace key
touched_label _ = []

abbrev pub label_of : Reason → List ℕ
label_of (UsedId first) = codes "id"
label_of (NotEndorsed fault) = touched_label fault
label_of (ReadConflict read) = key_label read.namespace read.key
label_of (PhantomConflict x) = key_label x.range.namespace x.key
label_of _ = []
