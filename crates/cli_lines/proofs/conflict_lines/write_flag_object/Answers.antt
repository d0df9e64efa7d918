use Rattle.cli_lines.proofs.conflict_lines.write_flag_object.Goals as goal

pub returns : goal.returns
returns g c = rw (← c.name_of-name.ensures, ← c.number-code.ensures) c.writeln.ensures.bytes
