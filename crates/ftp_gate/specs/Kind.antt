-- What is done with a command, by its verb, which is in upper case.
use Rattle.std.specs.Prelude.{ℕ, Bool, ◌||◌, List, codes, if◌then◌else◌}
use Rattle.std.specs.Str.{bytes_eq}
use Rattle.session_acts.specs.declared.toward.Toward.TheVariants.{Client, Server}
use Rattle.ftp_gate.specs.declared.kind.Kind.{Kind}
use Rattle.ftp_gate.specs.declared.kind.Kind.TheVariants as kinds
use Rattle.ftp_gate.specs.declared.kind.Outward.{Outward}
use Rattle.ftp_gate.specs.declared.kind.Outward.TheVariants.{User, Served}
use Rattle.ftp_gate.specs.declared.kind.Served as served
use Rattle.ftp_gate.specs.declared.kind.Served.TheVariants.{Port, Pasv, Extended, Transfer, Quit, Other}

abbrev pub is_quit : List ℕ → Bool
is_quit verb = bytes_eq verb (codes "QUIT")

-- from the server to the client
abbrev pub is_down : List ℕ → Bool
is_down verb = bytes_eq verb (codes "RETR") || bytes_eq verb (codes "LIST") || bytes_eq verb (codes "NLST")

-- from the client to the server
abbrev pub is_up : List ℕ → Bool
is_up verb = bytes_eq verb (codes "STOR") || bytes_eq verb (codes "APPE") || bytes_eq verb (codes "STOU")

abbrev pub is_extended : List ℕ → Bool
is_extended verb = bytes_eq verb (codes "EPRT") || bytes_eq verb (codes "EPSV")

abbrev pub served_of : List ℕ → served.Served
served_of verb =
    if bytes_eq verb (codes "PORT") then Port
    else if bytes_eq verb (codes "PASV") then Pasv
    else if is_extended verb then Extended
    else if is_down verb then Transfer Client
    else if is_up verb then Transfer Server
    else if is_quit verb then Quit
    else Other

abbrev pub outward_of : List ℕ → Outward
outward_of verb = if bytes_eq verb (codes "USER") then User else Served (served_of verb)

unfoldable pub kind_of : List ℕ → Kind
kind_of verb =
    if bytes_eq verb (codes "AUTHORIZE") then kinds.Authorize
    else if bytes_eq verb (codes "RESPONSE") then kinds.Response
    else kinds.Outward (outward_of verb)
