-- The line that asks for a request, without its end.
use Rattle.std.specs.Prelude.{◌≡◌, ℕ, ◌<◌, ◌^◌, IsTrue, List, [], ◌++◌, length, Option, Some, None, IfSome, codes}
use Rattle.std.specs.Int.{w64, to_be_bytes}
use Rattle.std.specs.Str.{str_to_ascii_lowercase}
use Rattle.hex.specs.Hex.{IsBytes, encode_lower}
use Rattle.fw_types.specs.Host.{host_text}
use Rattle.fw_types.specs.HostName.{is_host_name}
use Rattle.fw_types.specs.Name.{is_name}
use Rattle.fw_types.specs.declared.host.Host.{Host}
use Rattle.fw_types.specs.declared.host.Host.TheVariants as hosts
use Rattle.auth_events.specs.declared.request.OpService.{OpService}
use Rattle.auth_events.specs.declared.request.OpService.TheVariants as services
use Rattle.auth_events.specs.declared.request.Request.{Request}
use Rattle.auth_events.specs.declared.request.Request.TheVariants as requests
use Rattle.authsrv_lines.specs.declared.wire.Wire.{Wire}
use Rattle.authsrv_lines.specs.declared.wire.Wire.TheVariants as wires

abbrev pub service_text : OpService → List ℕ
service_text services.Telnet = codes "tn-gw"
service_text services.Rlogin = codes "rlogin-gw"
service_text services.Ftp = codes "ftp-gw"

-- behind a digest: the one-time password, where it was one
abbrev pub word_text : Option ℕ → List ℕ
word_text None = []
word_text (Some word) = codes " " ++ encode_lower (to_be_bytes w64 word)

-- Only what a gateway asks has a line: who the user is, what the user typed, whether a host may be reached, and the end.
-- What the user typed is told by its digest.
unfoldable pub request_line : Request → Option (List ℕ)
request_line (requests.Authenticate name) = Some (codes "authenticate " ++ name)
request_line (requests.Response hash word) = Some (codes "digest " ++ encode_lower hash ++ word_text word)
request_line (requests.Operation service host) = Some (codes "operation " ++ service_text service ++ codes " " ++ host_text host)
request_line requests.Close = Some (codes "quit")
request_line _ = None

-- what that line asks for
abbrev pub wire_of : Request → Wire
wire_of requests.Close = wires.Quit
wire_of request = wires.Ask request

-- ---- what the types say of these requests

abbrev pub IsHost : Host → Type 0
IsHost (hosts.Addr addr) = (length addr ≡ 4) × IsBytes addr
IsHost (hosts.Name name) = IsTrue (is_host_name name) × (str_to_ascii_lowercase name ≡ name)

abbrev pub IsHash : List ℕ → Type 0
IsHash hash = (length hash ≡ 16) × IsBytes hash

-- what every value of the type `Request` is, where it has a line
abbrev pub IsAsked : Request → Type 0
IsAsked (requests.Authenticate name) = IsTrue (is_name name)
IsAsked (requests.Response hash word) = IsHash hash × IfSome word (λ w. w < 2 ^ 64)
IsAsked (requests.Operation service host) = IsHost host
IsAsked _ = Unit {0}
