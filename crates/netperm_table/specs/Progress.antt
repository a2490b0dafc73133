-- How far a table was read, and what that says of what is still to come.
-- No public clause cites these: they say what private functions answer.
use Rattle.std.specs.Prelude.{◌≡◌, ℕ, ◌+◌, ◌*◌, ◌<◌, ◌≤◌, ◌==◌, false, All, List, [], ◌++◌, length, option_to_list, Option, Result, Ok, Err}
use Rattle.std.specs.Str.Lines.{lines, strip_carriage_return}
use Rattle.netperm_table.specs.declared.line.Line.{Line}
use Rattle.netperm_table.specs.declared.table_fault.TableFault.{TableFault}
use Rattle.netperm_table.specs.Reading.{reading}
use Rattle.netperm_table.specs.Table.{with_lines, table_from}

-- the lines read, the number of the line that is being read, and its bytes so far
pub record Progress : Type 0 where
  pub made : List Line
  pub number : ℕ
  pub line : List ℕ

-- nothing was read
abbrev pub no_progress : Progress
no_progress = record { made = []; number = 1; line = [] }

-- the table, where this text is still to come
abbrev pub table_with : Progress → List ℕ → Result (List Line) TableFault
table_with p rest = with_lines p.made (table_from p.number (lines (p.line ++ rest)))

-- these bytes lead from one point to the next and what is left of them, whatever follows
pub record Leads (old : Progress) (bytes : List ℕ) (new : Progress) (left : List ℕ) : Type 0 where
  pub same : (rest : List ℕ) → table_with old (bytes ++ rest) ≡ table_with new (left ++ rest)

-- these bytes show a fault, whatever follows
pub record ShowsFault (old : Progress) (bytes : List ℕ) (fault : TableFault) : Type 0 where
  pub same : (rest : List ℕ) → table_with old (bytes ++ rest) ≡ Err fault

-- the line with these bytes was added where it isn't skipped
pub record AddsLine (number : ℕ) (bytes : List ℕ) (old new : List Line) : Type 0 where
  pub line : Option Line
  pub read : reading number bytes ≡ Ok line
  pub kept : new ≡ old ++ option_to_list line

-- the line that is being read is not too long yet, whether or not a CR at its end is dropped, and a line may have its number
pub record MayGoOn (p : Progress) : Type 0 where
  pub one : All (λ b. (b == 10) ≡ false) p.line
  pub short : length (strip_carriage_return p.line) ≤ 2048
  pub numbered : 0 < length p.line → p.number ≤ 65535

-- how far it is, which grows with each byte
abbrev pub reached : Progress → ℕ
reached p = p.number * 2050 + length p.line

-- and which has an end: 65,536 lines of 2,049 bytes
abbrev pub farthest : ℕ
farthest = 65536 * 2050 + 2049
