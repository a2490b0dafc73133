-- Commands that change nothing of what a program finds.
use Rattle.std.specs.Prelude.{◌≡◌, ℕ, false, List, None}
use Rattle.std.specs.Process.{SameDir, SameEnv, clears_env, command_dir, command_var}
use Rattle.std.specs.declared.process.command.Command.{Command}

-- the program starts in the folder of this process, with its variables
pub record IsPlain {A : Type 0} (command : Command A) : Type 0 where
  pub dir : command_dir command ≡ None
  pub inherits : clears_env command ≡ false
  pub vars : (name : List ℕ) → command_var command name ≡ None

-- the same folder and variables
pub record SameSurroundings {A : Type 0} (old new : Command A) : Type 0 where
  pub dir : SameDir old new
  pub env : SameEnv old new
