-- What a pointer owns that may stand for a box.
use Rattle.std.specs.Prelude.{Option, None, Some}
use Rattle.std.specs.Coded.{coded_option}
use Rattle.std.specs.Box.Ownership.{box_owns}
use Rattle.std.specs.Global.{Global}
use Rattle.std_heap.specs.contracts.GlobalAllocator.TheImpl.{ghosts}
use base.Fml.{Fml, ftrue}
use base.Stored.{Coded}
use denote.RawPtr.{Ptr}
use Rattle.c_handle.specs.contracts.kept.Kept.{the_row}

-- the value there and the right to free its memory; nothing where there is none
abbrev pub owned : Global → Ptr → Option the_row.Denot → Fml
owned a p None = ftrue
owned a p (Some x) = box_owns (ghosts.dealloc_token a) the_row p x

abbrev pub owned_coded : Coded (Option the_row.Denot)
owned_coded = coded_option the_row.coded
