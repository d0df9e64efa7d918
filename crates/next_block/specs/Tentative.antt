-- What of a block's job needs no world.
use Rattle.std.specs.Prelude.{List}
use Rattle.intake.specs.declared.taking.Taken.{Taken}
use Rattle.intake.specs.Tentative.{AreTentative}
use Rattle.next_block.specs.declared.tentative.TentativeJob.{TentativeJob}

-- of a block of which this was taken in
abbrev pub AreTentativeIn : List Taken → TentativeJob → Type 0
AreTentativeIn taken f = AreTentative taken f.ids.items f.key_writers
