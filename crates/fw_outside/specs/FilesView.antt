-- What files mean, and what opening and giving back does to that.
use Rattle.std.specs.Prelude.{◌≡◌, ℕ, ◌+◌, ◌-◌, Bool, ◌||◌, nat_lt, List, Option, Some, None, IsSome, MatchBool}
use Rattle.std.specs.List.{find}
use Rattle.std.specs.Option.{option_map}
use Rattle.std.specs.Str.{bytes_eq}
use Rattle.fw_outside.specs.Counts.{Rose}
use Rattle.fw_outside.specs.SourceView.{SourceView, fresh}
use Rattle.fw_outside.specs.ToldList.{AddsOne}

-- names with their bytes, where the files tell; the names for which a source was asked, in order, where they tell; how often a
-- name gave no source, and how often a source came back that had failed; how many sources are out, given and not yet back
pub record FilesView : Type 0 where
  pub holds : Option (List (List ℕ × List ℕ))
  pub asked : Option (List (List ℕ))
  pub missing : ℕ
  pub read_faults : ℕ
  pub out : ℕ

-- the bytes under a name: those of the first entry with that name
abbrev pub bytes_under : List (List ℕ × List ℕ) → List ℕ → Option (List ℕ)
bytes_under files name = option_map (λ entry. entry.1) (find (λ entry. bytes_eq entry.0 name) files)

-- the bytes left in a source are those under the name, where the files tell
abbrev pub IsUnder : Option (List (List ℕ × List ℕ)) → List ℕ → Option (List ℕ) → Type 0
IsUnder None name left = Unit {0}
IsUnder (Some files) name left = IsSome left × (left ≡ bytes_under files name)

-- a new source of what stands under the name, which was asked; one more is out
pub record Opens (name : List ℕ) (source : SourceView) (old new : FilesView) : Type 0 where
  pub left : Option (List ℕ)
  pub new_source : source ≡ fresh left
  pub under : IsUnder old.holds name left
  pub asked : Option (List (List ℕ))
  pub adds : AddsOne name old.asked asked
  pub is : new ≡ record old { asked = asked; out = old.out + 1 }

-- no source of the name, which was asked; that is counted
pub record MissesFile (name : List ℕ) (old new : FilesView) : Type 0 where
  pub asked : Option (List (List ℕ))
  pub adds : AddsOne name old.asked asked
  pub count : ℕ
  pub rose : Rose old.missing count
  pub is : new ≡ record old { asked = asked; missing = count }

-- the source failed, or nothing came from it in time
abbrev pub has_failed : SourceView → Bool
has_failed source = nat_lt 0 source.faults || nat_lt 0 source.idles

-- a source that had failed, which is counted
pub record Counts (old new : FilesView) : Type 0 where
  pub count : ℕ
  pub rose : Rose old.read_faults count
  pub is : new ≡ record old { read_faults = count }

-- one source fewer is out
abbrev pub one_back : FilesView → FilesView
one_back old = record old { out = old.out - 1 }

-- what giving a source back leaves
abbrev pub TakesBack : SourceView → FilesView → FilesView → Type 0
TakesBack source old new = MatchBool (has_failed source) (Counts (one_back old) new) (new ≡ one_back old)
