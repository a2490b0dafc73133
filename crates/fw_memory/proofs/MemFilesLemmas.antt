-- What noting a name and counting a missing one does to what files in memory tell.
use Rattle.std.proofs.Common.{◌≡◌, List, ℕ, Bool, Option, Some, None, IfNone, refl, subst, sym}
use Rattle.fw_outside.specs.Counts.{Rose}
use Rattle.fw_outside.specs.FilesView.{MissesFile}
use Rattle.fw_outside.specs.ToldList.{AddsOne}
use Rattle.fw_memory.specs.MemFilesView.{CountsMissing, MemFilesView, files_view_of}

pub missed : (name : List ℕ) (asked : List (List ℕ)) (past : Bool) (old noted new : MemFilesView) → noted ≡ record old { asked = asked; asked_past = past }
    → AddsOne name (files_view_of old).asked (files_view_of noted).asked → CountsMissing noted new → MissesFile name (files_view_of old) (files_view_of new)
missed name asked past old noted new is adds counts = record {
  asked = (files_view_of noted).asked;
  adds = adds;
  count = counts.count;
  rose = subst (λ (w : MemFilesView). Rose w.missing counts.count) is counts.rose;
  is = rw counts.is (rw is refl);
}

pub missed_if : {A : Type 0} (result : Option A) (name : List ℕ) (asked : List (List ℕ)) (past : Bool) (old noted new : MemFilesView) → noted ≡ record old { asked = asked; asked_past = past }
    → AddsOne name (files_view_of old).asked (files_view_of noted).asked → IfNone result (CountsMissing noted new) → IfNone result (MissesFile name (files_view_of old) (files_view_of new))
missed_if (Some one) name asked past old noted new is adds counts = tt
missed_if None name asked past old noted new is adds counts = missed name asked past old noted new is adds counts
