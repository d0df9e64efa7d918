-- What a contract sees of a statement, and of what is left of a text.
use Rattle.std.specs.Prelude.{ℕ, ◌+◌, List}
use Rattle.std.specs.Str.Lines.{lines}
use Rattle.text_lines.specs.declared.lines.Statement as declared
use Rattle.text_lines.specs.Lines.{Statement, statements_from}

-- a statement without where it lies in memory
abbrev pub view_of : declared.Statement → Statement
view_of s = record { line = s.line; bytes = s.bytes.now }

-- those of the text that follows this many lines
abbrev pub statements_after : ℕ → List ℕ → List Statement
statements_after taken text = statements_from (taken + 1) (lines text)
