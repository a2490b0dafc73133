-- One line of a table, put to the tests in their order.
use Rattle.std.specs.Prelude.{ℕ, Bool, true, not, ◌==◌, nat_lt, List, [], ◌∷◌, length, find, Option, Some, None, Result, Ok, Err, if◌then◌else◌}
use Rattle.std.specs.List.{list_any, before_first, after_first}
use Rattle.host_pattern.specs.declared.word.Word.{Word}
use Rattle.netperm_table.specs.declared.line.Line.{Line}
use Rattle.netperm_table.specs.declared.table_fault.TableFault.{TableFault}
use Rattle.netperm_table.specs.declared.table_fault.TableFault.TheVariants.{LongLine, NulByte, NoColon, NoKeyword, OpenQuote, NoAttribute, ManyLines}
use Rattle.netperm_table.specs.Bytes.{is_blank, is_colon, is_nul}
use Rattle.netperm_table.specs.Words.{keywords_of, words_of}

-- nothing, or the sign of a comment
abbrev pub is_no_text : Option ℕ → Bool
is_no_text None = true
is_no_text (Some b) = b == 35

-- blanks alone, or the first byte that isn't a blank is `#`
abbrev pub is_skipped : List ℕ → Bool
is_skipped bytes = is_no_text (find (λ b. not (is_blank b)) bytes)

-- the line with these keywords and words, of which the first is its attribute; a quote that isn't closed comes before a missing attribute
abbrev pub line_with : ℕ → List (List ℕ) → Option (List Word) → Result (Option Line) TableFault
line_with number keywords None = Err (OpenQuote number)
line_with number keywords (Some []) = Err (NoAttribute number)
line_with number keywords (Some (word ∷ words)) = Ok (Some (record { number = number; keywords = keywords; attribute = word.text; words = words }))

-- the line with at least one keyword
abbrev pub line_for : ℕ → List (List ℕ) → Option (List Word) → Result (Option Line) TableFault
line_for number keywords words = if length keywords == 0 then Err (NoKeyword number) else line_with number keywords words

-- the line with a colon: its keywords come before the first, and its words after it
abbrev pub line_at_colon : ℕ → List ℕ → Result (Option Line) TableFault
line_at_colon number bytes = line_for number (keywords_of (before_first is_colon bytes)) (words_of (after_first is_colon bytes))

-- what the line with this number and these bytes is read as: a line, nothing where it is skipped, or the fault of the
-- first test that it fails. Kept by `Table::read` (`lines`, `fault`); body: src/read_line.rt.
abbrev pub reading : ℕ → List ℕ → Result (Option Line) TableFault
reading number bytes =
    if nat_lt 65535 number then Err ManyLines
    else if nat_lt 2048 (length bytes) then Err (LongLine number)
    else if list_any is_nul bytes then Err (NulByte number)
    else if is_skipped bytes then Ok None
    else if not (list_any is_colon bytes) then Err (NoColon number)
    else line_at_colon number bytes
