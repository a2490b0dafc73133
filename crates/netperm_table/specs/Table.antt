-- The table that a text is.
use Rattle.std.specs.Prelude.{ℕ, ◌+◌, List, [], ◌∷◌, ◌++◌, option_to_list, Option, Result, Ok, Err}
use Rattle.std.specs.List.{enumerate_from}
use Rattle.std.specs.Option.{option_flatten}
use Rattle.std.specs.Result.{result_err, result_ok}
use Rattle.std.specs.Str.Lines.{lines}
use Rattle.netperm_table.specs.declared.line.Line.{Line}
use Rattle.netperm_table.specs.declared.table_fault.TableFault.{TableFault}
use Rattle.netperm_table.specs.Reading.{reading}

-- these lines, and then those of a table
abbrev pub with_lines : List Line → Result (List Line) TableFault → Result (List Line) TableFault
with_lines some (Ok more) = Ok (some ++ more)
with_lines some (Err fault) = Err fault

-- what a line is read as, and then the lines after it; its fault comes before theirs
abbrev pub line_then : Result (Option Line) TableFault → Result (List Line) TableFault → Result (List Line) TableFault
line_then (Ok line) more = with_lines (option_to_list line) more
line_then (Err fault) more = Err fault

-- the lines, numbered from this number on: those that aren't skipped, or the fault of the first that can't be read
abbrev pub table_from : ℕ → List (List ℕ) → Result (List Line) TableFault
table_from number [] = Ok []
table_from number (line ∷ more) = line_then (reading number line) (table_from (number + 1) more)

-- the text is cut into lines at its LFs, and one CR before an LF is dropped; a last line without LF counts where it isn't empty
abbrev pub table_of : List ℕ → Result (List Line) TableFault
table_of text = table_from 1 (lines text)

-- The same in whole lists: the pieces of a text, with their numbers from 1.
abbrev pub pieces : List ℕ → List (ℕ × List ℕ)
pieces text = enumerate_from 1 (lines text)

-- the line that a piece is, where it passes the tests and isn't skipped
abbrev pub line_in : ℕ × List ℕ → Option Line
line_in piece = option_flatten (result_ok (reading piece.0 piece.1))

-- the first test that a piece fails
abbrev pub fault_in : ℕ × List ℕ → Option TableFault
fault_in piece = result_err (reading piece.0 piece.1)

-- the first of these faults, or the lines where there are none
abbrev pub unless_any_fault : List TableFault → List Line → Result (List Line) TableFault
unless_any_fault [] some = Ok some
unless_any_fault (first ∷ others) some = Err first
