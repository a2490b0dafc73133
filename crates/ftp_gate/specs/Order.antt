-- A command of the client: its verb, in upper case, its argument, and the line as it came, without its end.
use Rattle.std.specs.Prelude.{◌≤◌, ℕ, List, length, Option, Some, None}
use Rattle.std.specs.Option.{option_map}
use Rattle.ftp_lines.specs.Command.{ftp_command_of}

pub record Order : Type 0 where
  pub verb : List ℕ
  pub arg : List ℕ
  pub line : List ℕ

-- the command that a line is, if it is one
unfoldable pub order_of : List ℕ → Option Order
order_of line = option_map (λ command. record { verb = command.0; arg = command.1; line = line }) (ftp_command_of line)

-- its texts have at most 512 bytes
pub record IsShort (order : Order) : Type 0 where
  pub arg : length order.arg ≤ 512
  pub line : length order.line ≤ 512
