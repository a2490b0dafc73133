-- A launcher in memory, which starts nothing and answers as it is told.
use Rattle.std.specs.Prelude.{◌≡◌, ℕ, false, List, [], ◌∷◌, ◌++◌, map, get_or, Some}
use Rattle.fw_outside.specs.Counts.{counted}
use Rattle.fw_outside.specs.LauncherView.{EndedProgram, LauncherView}
use Rattle.fw_outside.specs.declared.started.Started.{Started}
use Rattle.fw_outside.specs.declared.started.Started.TheVariants.{Ended, Failed}
use Rattle.fw_memory.specs.CallsView.{CallsView, comes_at}

-- the answers by the numbers of the calls, the calls that fail, how many calls there were; the programs with their
-- arguments and their answers; and the count of failures
pub record MemLauncherView : Type 0 where
  pub answers : List ℕ
  pub fails : CallsView
  pub calls : ℕ
  pub started : List (List ℕ × List (List ℕ) × ℕ)
  pub faults : ℕ

abbrev pub ended_program : List ℕ × List (List ℕ) × ℕ → EndedProgram
ended_program entry = record { program = entry.0; args = entry.1; ending = entry.2 }

-- it tells all
abbrev pub launcher_view_of : MemLauncherView → LauncherView
launcher_view_of m = record { started = Some (map ended_program m.started); faults = m.faults }

-- the answer of the next call, if that doesn't fail: the one at its number, and 0 past them
abbrev pub answer_next : MemLauncherView → ℕ
answer_next m = get_or m.answers m.calls 0

-- one more call was made
abbrev pub one_more : MemLauncherView → MemLauncherView
one_more m = record m { calls = counted m.calls }

-- a call that isn't told to fail answers as told, and its program is noted; one that fails is counted
abbrev pub AnswersAsTold : Started → List ℕ → List (List ℕ) → MemLauncherView → MemLauncherView → Type 0
AnswersAsTold (Ended ending) program args old new = (comes_at old.fails old.calls ≡ false) × (ending ≡ answer_next old)
    × (new ≡ record (one_more old) { started = old.started ++ (program, args, answer_next old) ∷ [] })
AnswersAsTold Failed program args old new = new ≡ record (one_more old) { faults = counted old.faults }
