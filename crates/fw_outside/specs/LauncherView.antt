-- What a launcher of programs means, and what starting one does to that.
use Rattle.std.specs.Prelude.{◌≡◌, ℕ, List, [], ◌∷◌, Option}
use Rattle.fw_outside.specs.Counts.{Rose}
use Rattle.fw_outside.specs.ToldList.{grown}
use Rattle.fw_outside.specs.declared.started.Started.{Started}
use Rattle.fw_outside.specs.declared.started.Started.TheVariants.{Ended, Failed}

-- a program that was started with these arguments, and the status with which it ended
pub record EndedProgram : Type 0 where
  pub program : List ℕ
  pub args : List (List ℕ)
  pub ending : ℕ

-- the programs that were started and ended, in order, where the launcher tells; how often it failed
pub record LauncherView : Type 0 where
  pub started : Option (List EndedProgram)
  pub faults : ℕ

-- no program ended with a status, which is counted
pub record LaunchFailed (old new : LauncherView) : Type 0 where
  pub count : ℕ
  pub rose : Rose old.faults count
  pub is : new ≡ record old { faults = count }

-- what starting a program with these arguments answers and leaves
abbrev pub Starts : Started → List ℕ → List (List ℕ) → LauncherView → LauncherView → Type 0
Starts (Ended ending) program args old new =
    new ≡ record old { started = grown old.started (record { program = program; args = args; ending = ending } ∷ []) }
Starts Failed program args old new = LaunchFailed old new
