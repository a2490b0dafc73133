-- The services that a table speaks of.
use Rattle.std.specs.Prelude.{ℕ, Bool, true, false, List, ◌++◌, drop, Option, None, Some, codes, nat_eq, if◌then◌else◌}
use Rattle.std.specs.List.{starts_with}
use Rattle.std.specs.Fmt.{decimal}
use Rattle.std.specs.Option.{option_map}
use Rattle.std.specs.Str.{bytes_eq}
use Rattle.fw_types.specs.Port.{numbered_port}
use Rattle.gate_rules.specs.declared.service.Service.{Service}
use Rattle.gate_rules.specs.declared.service.Service.TheVariants.{Netacl, TnGw, FtpGw, PlugGw, Smap, Authsrv}
use Rattle.gate_rules.specs.Label.{label_of}

-- the keyword whose lines are the service's
abbrev pub keyword : Service → List ℕ
keyword (Netacl label) = codes "netacl-" ++ label
keyword TnGw = codes "tn-gw"
keyword FtpGw = codes "ftp-gw"
keyword (PlugGw port) = codes "plug-gw"
keyword Smap = codes "smap"
keyword Authsrv = codes "authsrv"

-- its name, in the log and on the command line
abbrev pub service_text : Service → List ℕ
service_text (Netacl label) = codes "netacl-" ++ label
service_text TnGw = codes "tn-gw"
service_text FtpGw = codes "ftp-gw"
service_text (PlugGw port) = codes "plug-gw:" ++ decimal port
service_text Smap = codes "smap"
service_text Authsrv = codes "authsrv"

-- the service whose name has neither a label nor a port
abbrev pub bare_service : List ℕ → Option Service
bare_service text =
    if bytes_eq text (codes "tn-gw") then Some TnGw
    else if bytes_eq text (codes "ftp-gw") then Some FtpGw
    else if bytes_eq text (codes "smap") then Some Smap
    else if bytes_eq text (codes "authsrv") then Some Authsrv
    else None

-- the service that has this name
abbrev pub service_of : List ℕ → Option Service
service_of text =
    if starts_with nat_eq text (codes "netacl-") then option_map Netacl (label_of (drop 7 text))
    else if starts_with nat_eq text (codes "plug-gw:") then option_map PlugGw (numbered_port (drop 8 text))
    else bare_service text

-- the port that it listens on, and 0 where its name has none
abbrev pub plug_port : Service → ℕ
plug_port (Netacl label) = 0
plug_port TnGw = 0
plug_port FtpGw = 0
plug_port (PlugGw port) = port
plug_port Smap = 0
plug_port Authsrv = 0

abbrev pub is_plug : Service → Bool
is_plug (Netacl label) = false
is_plug TnGw = false
is_plug FtpGw = false
is_plug (PlugGw port) = true
is_plug Smap = false
is_plug Authsrv = false

abbrev pub is_smap : Service → Bool
is_smap (Netacl label) = false
is_smap TnGw = false
is_smap FtpGw = false
is_smap (PlugGw port) = false
is_smap Smap = true
is_smap Authsrv = false

abbrev pub is_authsrv : Service → Bool
is_authsrv (Netacl label) = false
is_authsrv TnGw = false
is_authsrv FtpGw = false
is_authsrv (PlugGw port) = false
is_authsrv Smap = false
is_authsrv Authsrv = true
