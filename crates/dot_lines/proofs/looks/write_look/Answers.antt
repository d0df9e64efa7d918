use Rattle.dot_lines.proofs.looks.write_look.Goals as goal

pub returns : goal.returns
returns g c = rw (← c.shape_of-shape.ensures, ← c.colour_of-colour.ensures) c.writeln.ensures.bytes
