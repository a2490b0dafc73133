-- What the files were asked for: a file by its name.
use Rattle.std.specs.Prelude.{◌≡◌, ℕ, ◌⊎◌, List, Option}
use Rattle.fw_outside.specs.Counts.{Rose}
use Rattle.fw_outside.specs.FilesView.{FilesView, MissesFile}
use Rattle.fw_outside.specs.ToldList.{AddsOne}
use Rattle.bastion.specs.Inputs.{OfText}

-- the files were asked for the table, by its name, and for nothing else
pub record AsksTable (name : List ℕ) (old new : FilesView) : Type 0 where
  pub asked : Option (List (List ℕ))
  pub adds : AddsOne name old.asked asked
  pub is : new ≡ record old { asked = asked }

-- the files took a source of the table back that had failed, which is counted
pub record TookBackFailed (name : List ℕ) (old new : FilesView) : Type 0 where
  pub asked : Option (List (List ℕ))
  pub adds : AddsOne name old.asked asked
  pub count : ℕ
  pub rose : Rose old.read_faults count
  pub is : new ≡ record old { asked = asked; read_faults = count }

-- or they gave none
abbrev pub FilesFailed : List ℕ → FilesView → FilesView → Type 0
FilesFailed name old new = MissesFile name old new ⊎ TookBackFailed name old new

-- a fact of the text under a name, where the files tell it; it was asked for
pub record OfFile (name : List ℕ) (P : List ℕ → Type 0) (old new : FilesView) : Type 0 where
  pub of_text : OfText old.holds name P
  pub asks : AsksTable name old new
