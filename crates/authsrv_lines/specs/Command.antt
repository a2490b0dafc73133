-- The commands.
use Rattle.std.specs.Prelude.{ℕ, Bool, ◌||◌, List, Option, Some, None, codes, if◌then◌else◌}
use Rattle.std.specs.Str.{str_eq_ignore_ascii_case}
use Rattle.auth_events.specs.declared.request.Request.{Request}
use Rattle.auth_events.specs.declared.request.Request.TheVariants as requests
use Rattle.authsrv_lines.specs.declared.command.Named.{Named}
use Rattle.authsrv_lines.specs.declared.command.Named.TheVariants.{Authenticate, Deluser, Enable, Disable, Wiz, Unwiz, Superwiz, Display}
use Rattle.authsrv_lines.specs.declared.command.Command.{Command}
use Rattle.authsrv_lines.specs.declared.command.Command.TheVariants as commands

-- in any case
abbrev pub is : List ℕ → List ℕ → Bool
is word command = str_eq_ignore_ascii_case word command

-- a command that is followed by a user's name alone
unfoldable pub named_of : List ℕ → Option Named
named_of word =
    if is word (codes "authenticate") || is word (codes "authorize") then Some Authenticate
    else if is word (codes "deluser") then Some Deluser
    else if is word (codes "enable") then Some Enable
    else if is word (codes "disable") then Some Disable
    else if is word (codes "wiz") then Some Wiz
    else if is word (codes "unwiz") then Some Unwiz
    else if is word (codes "superwiz") then Some Superwiz
    else if is word (codes "display") then Some Display
    else None

-- any other command
unfoldable pub other_of : List ℕ → Option Command
other_of word =
    if is word (codes "response") then Some commands.Response
    else if is word (codes "digest") then Some commands.Digest
    else if is word (codes "operation") then Some commands.Operation
    else if is word (codes "adduser") then Some commands.Adduser
    else if is word (codes "group") then Some commands.Group
    else if is word (codes "proto") then Some commands.Proto
    else if is word (codes "password") then Some commands.Password
    else if is word (codes "otp") then Some commands.Otp
    else if is word (codes "expire") then Some commands.Expire
    else if is word (codes "list") then Some commands.List
    else if is word (codes "quit") then Some commands.Quit
    else None

abbrev pub named_or : Option Named → Option Command → Option Command
named_or (Some named) other = Some (commands.Named named)
named_or None other = other

abbrev pub wire_command_of : List ℕ → Option Command
wire_command_of word = named_or (named_of word) (other_of word)

abbrev pub named_request : Named → List ℕ → Request
named_request Authenticate name = requests.Authenticate name
named_request Deluser name = requests.Deluser name
named_request Enable name = requests.Enable name
named_request Disable name = requests.Disable name
named_request Wiz name = requests.Wiz name
named_request Unwiz name = requests.Unwiz name
named_request Superwiz name = requests.Superwiz name
named_request Display name = requests.Display name
