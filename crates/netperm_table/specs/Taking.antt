-- What reading a table does to its source.
use Rattle.std.specs.Prelude.{◌≡◌, ℕ, ◌≤◌, ◌⊎◌, Bool, true, false, List, [], ◌++◌, length, Option, Some, None, Result, Ok, Err}
use Rattle.fw_outside.specs.Counts.{Grew, Rose}
use Rattle.fw_outside.specs.SourceView.{SourceView}
use Rattle.fw_outside.specs.ToldList.{grown, preceded, IsOver}
use Rattle.netperm_table.specs.declared.line.Line.{Line}
use Rattle.netperm_table.specs.declared.table_fault.TableFault.{TableFault}
use Rattle.netperm_table.specs.declared.table_fault.TableFault.TheVariants.{ReadFault, NoMemory}
use Rattle.netperm_table.specs.Table.{table_of}

-- the first of the bytes that were left were taken, and nothing else changed
pub record Took (old new : SourceView) : Type 0 where
  pub part : List ℕ
  pub rest : Option (List ℕ)
  pub next : old.left ≡ preceded part rest
  pub count : ℕ
  pub grew : Grew (length part) old.amount count
  pub is : new ≡ record old { taken = grown old.taken part; left = rest; amount = count }

-- bytes were taken to the end of what was left
pub record TookAll (old new : SourceView) : Type 0 where
  pub took : Took old new
  pub over : IsOver new.left

-- the first of the bytes that were left were taken, and then the source failed or nothing came in time: one of the counts rose, and the other stands
pub record TookFront (old new : SourceView) : Type 0 where
  pub part : List ℕ
  pub rest : Option (List ℕ)
  pub faults : ℕ
  pub idles : ℕ
  pub waited : ℕ
  pub next : old.left ≡ preceded part rest
  pub count : ℕ
  pub grew : Grew (length part) old.amount count
  pub rose : (Rose old.faults faults × (idles ≡ old.idles) × (waited ≡ old.waited)) ⊎ (Rose old.idles idles × (faults ≡ old.faults) × (waited ≡ old.waits))
  pub is : new ≡ record old { taken = grown old.taken part; left = rest; amount = count; faults = faults; idles = idles; waited = waited }

-- what an answer leaves of the source
abbrev pub SourceAfterRead : Result (List Line) TableFault → SourceView → SourceView → Type 0
SourceAfterRead (Ok _) old new = TookAll old new
SourceAfterRead (Err ReadFault) old new = TookFront old new
SourceAfterRead (Err _) old new = Took old new

-- these bytes settle the fault: whatever follows them, it is the text's
abbrev pub Settles : List ℕ → TableFault → Type 0
Settles bytes fault = (rest : List ℕ) → table_of (bytes ++ rest) ≡ Err fault

-- reading stopped at the first take that settled a fault: what was taken before it settles none. A take has at most 4,096
-- bytes, and the one in which the source failed has none.
pub record TookToFault (fault : TableFault) (old new : SourceView) : Type 0 where
  pub front : List ℕ
  pub last : List ℕ
  pub next : old.left ≡ preceded (front ++ last) new.left
  pub is : new.taken ≡ grown old.taken (front ++ last)
  pub grew : Grew (length (front ++ last)) old.amount new.amount
  pub unsettled : (any : TableFault) → ¬ Settles front any
  pub few : length last ≤ 4096
  pub none : fault ≡ ReadFault → last ≡ []

-- whether the answer is that the source failed
abbrev pub is_read_fault : Result (List Line) TableFault → Bool
is_read_fault (Ok _) = false
is_read_fault (Err ReadFault) = true
is_read_fault (Err _) = false

-- the lines are those of the text that was left, where that is told
abbrev pub AreLinesOf : Option (List ℕ) → List Line → Type 0
AreLinesOf None lines = Unit {0}
AreLinesOf (Some text) lines = table_of text ≡ Ok lines

-- the fault is that of the text that was left, where that is told and a line is at fault
abbrev pub IsFaultOf : Option (List ℕ) → TableFault → Type 0
IsFaultOf None fault = Unit {0}
IsFaultOf (Some text) ReadFault = Unit {0}
IsFaultOf (Some text) NoMemory = Unit {0}
IsFaultOf (Some text) fault = table_of text ≡ Err fault
