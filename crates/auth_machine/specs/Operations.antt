-- Lines about operations: what they say, and what they decide.
use Rattle.std.specs.Prelude.{ℕ, Bool, true, false, ◌&&◌, ◌==◌, List, [], ◌∷◌, filter, Option, Some, None, codes, if◌then◌else◌}
use Rattle.std.specs.List.{filter_map}
use Rattle.std.specs.Str.{bytes_eq}
use Rattle.auth_events.specs.declared.request.OpService.{OpService}
use Rattle.auth_events.specs.declared.request.OpService.TheVariants.{Telnet, Rlogin, Ftp}
use Rattle.fw_types.specs.Dest.{party_at}
use Rattle.fw_types.specs.Name.{name_of}
use Rattle.fw_types.specs.declared.host.Host.{Host}
use Rattle.fw_types.specs.declared.peer.Peer.{Peer}
use Rattle.gate_rules.specs.Hours.{hours_of_operation, is_open}
use Rattle.gate_rules.specs.OperationHosts.{hosts_of_operation}
use Rattle.gate_rules.specs.declared.hours.Hours.{Hours}
use Rattle.gate_rules.specs.declared.verdict.Verdict.{Verdict}
use Rattle.gate_rules.specs.declared.verdict.Verdict.TheVariants.{Permit, Deny}
use Rattle.host_pattern.specs.Pattern.{Written}
use Rattle.host_pattern.specs.PatternList.{list_matches}
use Rattle.host_pattern.specs.declared.word.Word.{Word}
use Rattle.netperm_table.specs.declared.line.Line.{Line}
use Rattle.auth_machine.specs.declared.operation.Holder.{Holder}
use Rattle.auth_machine.specs.declared.operation.Holder.TheVariants.{User, Group}
use Rattle.auth_machine.specs.declared.operation.OperationLine.{OperationLine}

-- the words of a line: `user` or `group`; a name or `*`; a gateway or `*`; the host list; and the hours, if it has any

abbrev pub holder_of : List ℕ → Holder
holder_of text = if bytes_eq text (codes "group") then Group else User

-- none for `*`
abbrev pub line_service_of : List ℕ → Option OpService
line_service_of text =
    if bytes_eq text (codes "tn-gw") then Some Telnet
    else if bytes_eq text (codes "rlogin-gw") then Some Rlogin
    else if bytes_eq text (codes "ftp-gw") then Some Ftp
    else None

abbrev pub operation_line_with : ℕ → Bool → List Word → List Written → Option Hours → Option OperationLine
operation_line_with number permits (holder ∷ name ∷ service ∷ words) hosts hours = Some (record {
  number = number;
  permits = permits;
  holder = holder_of holder.text;
  name = name_of name.text;
  service = line_service_of service.text;
  hosts = hosts;
  hours = hours;
})
operation_line_with number permits _ hosts hours = None

abbrev pub line_by : ℕ → Bool → List Word → Option (List Written) → Option Hours → Option OperationLine
line_by number permits words None hours = None
line_by number permits words (Some hosts) hours = operation_line_with number permits words hosts hours

-- what a line of the table says of operations, where it does
abbrev pub operation_line : Line → Option OperationLine
operation_line line = line_by line.number (bytes_eq line.attribute (codes "permit-operation")) line.words (hosts_of_operation line) (hours_of_operation line)

-- the lines about operations, in the table's order
abbrev pub operation_lines : List Line → List OperationLine
operation_lines lines = filter_map operation_line lines

-- the name is the user's, or the user's group's
abbrev pub is_about_user : Holder → List ℕ → List ℕ → Option (List ℕ) → Bool
is_about_user User name user group = bytes_eq name user
is_about_user Group name user None = false
is_about_user Group name user (Some its) = bytes_eq name its

-- `*` is anybody's name
abbrev pub is_whose : Holder → Option (List ℕ) → List ℕ → Option (List ℕ) → Bool
is_whose holder None user group = true
is_whose holder (Some name) user group = is_about_user holder name user group

abbrev pub service_place : OpService → ℕ
service_place Telnet = 0
service_place Rlogin = 1
service_place Ftp = 2

-- `*` is any service
abbrev pub is_through : Option OpService → OpService → Bool
is_through None service = true
is_through (Some one) service = service_place one == service_place service

-- the line fits user, group, service and destination, and is open at this moment; a line without hours always is
abbrev pub fits : List ℕ → Option (List ℕ) → OpService → Peer → ℕ → OperationLine → Bool
fits user group service party moment line =
    is_whose line.holder line.name user group && is_through line.service service && list_matches line.hosts party && is_open line.hours moment

-- the first of these lines decides, and where there is none the operation is denied by line 0
abbrev pub first_decides : List OperationLine → Verdict
first_decides [] = Deny 0
first_decides (line ∷ lines) = if line.permits then Permit line.number else Deny line.number

-- of the lines that fit, the first decides
unfoldable pub operation_verdict : List OperationLine → List ℕ → Option (List ℕ) → OpService → Host → ℕ → Verdict
operation_verdict lines user group service host moment = first_decides (filter (fits user group service (party_at host) moment) lines)
