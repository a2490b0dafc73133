-- Programs of the system, and which command was run.
use Rattle.std.specs.Prelude.{◌≡◌, ℕ, Bool, true, ◌==◌, List, Option, Some, None, pos}
use Rattle.std.specs.List.{list_any}
use Rattle.std.specs.Process.{command_args, command_program, exit_code}
use Rattle.fw_outside.specs.LauncherView.{LauncherView}
use Rattle.fw_outside.specs.declared.started.Started.{Started}
use Rattle.fw_outside.specs.declared.started.Started.TheVariants.{Ended, Failed}
use Rattle.real_links.specs.Commands.{IsPlain}
use Rattle.real_links.specs.declared.ran.Ran.{Ran}

-- a launcher that tells only its count
abbrev pub untold_launcher : ℕ → LauncherView
untold_launcher faults = record { started = None; faults = faults }

abbrev pub is_slash : ℕ → Bool
is_slash b = b == 47

-- the command that was run is this program with these arguments. The program has a slash: another would be looked for in the
-- folders of PATH
pub record Runs (program : List ℕ) (args : List (List ℕ)) (ran : Ran) : Type 0 where
  pub is_program : command_program ran.command.value ≡ program
  pub has_args : command_args ran.command.value ≡ args
  pub plain : IsPlain ran.command.value
  pub slash : list_any is_slash program ≡ true

-- it was run last, and ended with this status
pub record RanAs (program : List ℕ) (args : List (List ℕ)) (ending : ℕ) (last : Option Ran) : Type 0 where
  pub ran : Ran
  pub is : last ≡ Some ran
  pub runs : Runs program args ran
  pub ended : exit_code ran.status ≡ Some (pos ending)

-- what holds of a program that ended with a status
abbrev pub IfEnded : Started → (ℕ → Type 0) → Type 0
IfEnded (Ended ending) Holds = Holds ending
IfEnded Failed Holds = Unit {0}
