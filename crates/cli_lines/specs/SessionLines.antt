-- The lines that a session has besides those of calls, each with the line feed that ends it.
use Rattle.std.specs.Prelude.{ℕ, List, ◌++◌, codes}
use Rattle.cli_values.specs.declared.format.Format.{Format}
use Rattle.cli_values.specs.declared.format.Format.TheVariants.{Plain, Json}
use Rattle.cli_lines.specs.RowLines.{end_of, kind_of, name_of, number_of, text_in}

-- the last line of each answer
abbrev pub end_line : Format → ℕ → List ℕ
end_line format status = kind_of format (codes "end") ++ (number_of format (codes "status") status ++ end_of format)

-- of a kind, with a text
abbrev pub text_line : Format → List ℕ → List ℕ → List ℕ
text_line format kind text = kind_of format kind ++ ((name_of format (codes "text") ++ text_in format text) ++ end_of format)

abbrev pub fault_line : Format → List ℕ → List ℕ
fault_line format text = text_line format (codes "fault") text

-- a line of help, which plain lines have as it is
abbrev pub help_line : Format → List ℕ → List ℕ
help_line Plain text = text ++ codes "\n"
help_line Json text = text_line Json (codes "help") text
