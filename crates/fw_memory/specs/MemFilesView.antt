-- Files in memory.
use Rattle.std.specs.Prelude.{◌≡◌, ℕ, Bool, true, List, [], ◌∷◌, ◌++◌, Option, Some, None, if◌then◌else◌}
use Rattle.fw_outside.specs.Counts.{Rose}
use Rattle.fw_outside.specs.FilesView.{FilesView, bytes_under}
use Rattle.fw_memory.specs.CallsView.{CallsView}
use Rattle.fw_memory.specs.MemSourceView.{MemSourceView, new_mem_source}

-- names with their bytes, how their sources give, fail and idle; the names for which a source was asked, in order, and
-- whether there was no memory for one; the counts, and how many sources are out
pub record MemFilesView : Type 0 where
  pub files : List (List ℕ × List ℕ)
  pub piece : ℕ
  pub fails : CallsView
  pub idle : CallsView
  pub asked : List (List ℕ)
  pub asked_past : Bool
  pub missing : ℕ
  pub read_faults : ℕ
  pub out : ℕ

-- they tell all, but not what was asked once there was no memory for it
abbrev pub files_view_of : MemFilesView → FilesView
files_view_of s = record {
  holds = Some s.files;
  asked = if s.asked_past then None else Some s.asked;
  missing = s.missing;
  read_faults = s.read_faults;
  out = s.out;
}

-- the source is a new one of the bytes, which gives as the files were told
abbrev pub IsSourceOf : MemFilesView → Option (List ℕ) → MemSourceView → Type 0
IsSourceOf s None source = ⊥
IsSourceOf s (Some bytes) source = source ≡ new_mem_source bytes s.piece s.fails s.idle

-- there is a source where the files have the name, and none where they don't
abbrev pub IfHeld : MemFilesView → List ℕ → Option MemSourceView → Type 0
IfHeld s name None = bytes_under s.files name ≡ None
IfHeld s name (Some source) = IsSourceOf s (bytes_under s.files name) source

-- what was told stands
pub record KeepsFiles (old new : MemFilesView) : Type 0 where
  pub files : new.files ≡ old.files
  pub piece : new.piece ≡ old.piece
  pub fails : new.fails ≡ old.fails
  pub idle : new.idle ≡ old.idle

-- one name more gave no source
pub record CountsMissing (old new : MemFilesView) : Type 0 where
  pub count : ℕ
  pub rose : Rose old.missing count
  pub is : new ≡ record old { missing = count }

-- the name was noted behind those before it
pub record NotesName (name : List ℕ) (old new : MemFilesView) : Type 0 where
  pub asked : new.asked ≡ old.asked ++ name ∷ []
  pub asked_past : new.asked_past ≡ old.asked_past

-- there was no memory to note a name, so what was asked isn't told any more
pub record NotesNone (old new : MemFilesView) : Type 0 where
  pub asked : new.asked ≡ old.asked
  pub asked_past : new.asked_past ≡ true

-- no name was noted
pub record KeepsNames (old new : MemFilesView) : Type 0 where
  pub asked : new.asked ≡ old.asked
  pub asked_past : new.asked_past ≡ old.asked_past
