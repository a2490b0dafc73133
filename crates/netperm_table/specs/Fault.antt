-- What is wrong with a table, as the log says it.
use Rattle.std.specs.Prelude.{ℕ, List, [], Option, Some, None, codes}
use Rattle.netperm_table.specs.declared.table_fault.TableFault.{TableFault}
use Rattle.netperm_table.specs.declared.table_fault.TableFault.TheVariants.{LongLine, NulByte, NoColon, NoKeyword, OpenQuote, NoAttribute, ManyLines, ReadFault, NoMemory}

-- the line at fault
abbrev pub line_of : TableFault → Option ℕ
line_of (LongLine line) = Some line
line_of (NulByte line) = Some line
line_of (NoColon line) = Some line
line_of (NoKeyword line) = Some line
line_of (OpenQuote line) = Some line
line_of (NoAttribute line) = Some line
line_of ManyLines = Some 65536
line_of ReadFault = None
line_of NoMemory = None

-- what is wrong with it, and nothing where no line is at fault
abbrev pub table_why_text : TableFault → List ℕ
table_why_text (LongLine line) = codes "long line"
table_why_text (NulByte line) = codes "nul byte"
table_why_text (NoColon line) = codes "no colon"
table_why_text (NoKeyword line) = codes "no keyword"
table_why_text (OpenQuote line) = codes "open quote"
table_why_text (NoAttribute line) = codes "no attribute"
table_why_text ManyLines = codes "many lines"
table_why_text ReadFault = []
table_why_text NoMemory = []
