-- The options of a line: how they are written, one after the other, and what they say together.
use Rattle.std.specs.Prelude.{ℕ, zero, suc, Bool, true, false, List, [], ◌∷◌, length, map, Option, Some, None, Result, Ok, Err, unwrap_or, codes, if◌then◌else◌}
use Rattle.std.specs.List.{list_any}
use Rattle.std.specs.Option.{option_or}
use Rattle.std.specs.Str.{bytes_eq}
use Rattle.fw_types.specs.declared.dest.Dest.{Dest}
use Rattle.fw_types.specs.declared.host.Host.{Host}
use Rattle.fw_types.specs.Host.{host_of}
use Rattle.fw_types.specs.Port.{port_of}
use Rattle.host_pattern.specs.Pattern.{Written}
use Rattle.host_pattern.specs.declared.word.Word.{Word}
use Rattle.gate_rules.specs.declared.options_builder.OptionsBuilder.{OptionsBuilder}
use Rattle.gate_rules.specs.declared.fault.Why.{Why}
use Rattle.gate_rules.specs.declared.fault.Why.TheVariants.{UnknownOption, MissingValue, BadNumber, BadWord}
use Rattle.gate_rules.specs.declared.parsed_option.ParsedOption.{ParsedOption}
use Rattle.gate_rules.specs.declared.parsed_option.ParsedOption.TheVariants as is
use Rattle.gate_rules.specs.declared.option_kind.OptionKind.{OptionKind}
use Rattle.gate_rules.specs.declared.option_kind.OptionKind.TheVariants as kind
use Rattle.gate_rules.specs.declared.options.Options.{Options}
use Rattle.gate_rules.specs.declared.service.Service.{Service}
use Rattle.gate_rules.specs.declared.service.Service.TheVariants.{Netacl, TnGw, FtpGw, PlugGw, Smap, Authsrv}
use Rattle.gate_rules.specs.Lists.{is_option, list_width, mapped, patterns_in, verbs_in}

-- the options of each service

abbrev pub netacl_kind : List ℕ → Option OptionKind
netacl_kind text = if bytes_eq text (codes "-exec") then Some kind.Exec else None

abbrev pub gateway_kind : List ℕ → Option OptionKind
gateway_kind text =
    if bytes_eq text (codes "-dest") then Some kind.Dest
    else if bytes_eq text (codes "-authall") then Some kind.AuthAll
    else if bytes_eq text (codes "-extnd") then Some kind.Extnd
    else None

abbrev pub tn_kind : List ℕ → Option OptionKind
tn_kind text = if bytes_eq text (codes "-auth") then Some kind.Auth else gateway_kind text

abbrev pub ftp_kind : List ℕ → Option OptionKind
ftp_kind text =
    if bytes_eq text (codes "-auth") then Some kind.AuthVerbs
    else if bytes_eq text (codes "-deny") then Some kind.Deny
    else if bytes_eq text (codes "-log") then Some kind.Log
    else gateway_kind text

abbrev pub plug_kind : List ℕ → Option OptionKind
plug_kind text =
    if bytes_eq text (codes "-plug-to") then Some kind.PlugTo
    else if bytes_eq text (codes "-port") then Some kind.Port
    else None

abbrev pub option_kind_of : Service → List ℕ → Option OptionKind
option_kind_of (Netacl label) text = netacl_kind text
option_kind_of TnGw text = tn_kind text
option_kind_of FtpGw text = ftp_kind text
option_kind_of (PlugGw port) text = plug_kind text
option_kind_of Smap text = None
option_kind_of Authsrv text = None

-- the values of options, read from the words after them

-- all words that follow, at least one
abbrev pub exec_option : List Word → Result ParsedOption Why
exec_option [] = Err MissingValue
exec_option (word ∷ words) = Ok (is.Exec (map (λ w. w.text) (word ∷ words)))

abbrev pub target_option : Option Host → Result ParsedOption Why
target_option (Some host) = Ok (is.PlugTo host)
target_option None = Err BadWord

-- a host, which no brace is
abbrev pub target_of : List Word → Result ParsedOption Why
target_of [] = Err MissingValue
target_of (word ∷ words) = target_option (host_of word.text)

abbrev pub port_by : Option ℕ → Result ParsedOption Why
port_by (Some port) = Ok (is.Port port)
port_by None = Err BadNumber

abbrev pub port_in : List Word → Result ParsedOption Why
port_in [] = Err MissingValue
port_in (word ∷ words) = port_by (port_of word.text)

-- the option of this kind, with the words after it
abbrev pub option_of_kind : OptionKind → List Word → Result ParsedOption Why
option_of_kind kind.Exec words = exec_option words
option_of_kind kind.Dest words = mapped is.Dest (patterns_in words)
option_of_kind kind.Auth words = Ok (is.Auth [])
option_of_kind kind.AuthVerbs words = mapped is.Auth (verbs_in words)
option_of_kind kind.AuthAll words = Ok is.AuthAll
option_of_kind kind.Extnd words = Ok is.Extnd
option_of_kind kind.Deny words = mapped is.Deny (verbs_in words)
option_of_kind kind.Log words = mapped is.Log (verbs_in words)
option_of_kind kind.PlugTo words = target_of words
option_of_kind kind.Port words = port_in words

-- how many of these words are its value
abbrev pub width_by : OptionKind → List Word → ℕ
width_by kind.Exec words = length words
width_by kind.Dest words = list_width words
width_by kind.Auth words = 0
width_by kind.AuthVerbs words = list_width words
width_by kind.AuthAll words = 0
width_by kind.Extnd words = 0
width_by kind.Deny words = list_width words
width_by kind.Log words = list_width words
width_by kind.PlugTo words = 1
width_by kind.Port words = 1

-- an option that the service doesn't have is at fault. Kept by `Rules::of` (`fault`); body: src/option_check.rt.
abbrev pub option_if_known : Option OptionKind → List Word → Result ParsedOption Why
option_if_known None words = Err UnknownOption
option_if_known (Some of) words = option_of_kind of words

abbrev pub width_as : Option OptionKind → List Word → ℕ
width_as None words = 0
width_as (Some of) words = width_by of words

-- the option that a word is, with the words after it
unfoldable pub option_at : Service → Word → List Word → Result ParsedOption Why
option_at service word words = if is_option word then option_if_known (option_kind_of service word.text) words else Err BadWord

unfoldable pub width_at : Service → Word → List Word → ℕ
width_at service word words = width_as (option_kind_of service word.text) words

-- an option, and then those after it; its fault comes before theirs
abbrev pub option_then : Result ParsedOption Why → Result (List ParsedOption) Why → Result (List ParsedOption) Why
option_then (Err why) more = Err why
option_then (Ok option) more = mapped (λ options. option ∷ options) more

-- the options that begin after the first n words
unfoldable pub options_after : Service → ℕ → List Word → Result (List ParsedOption) Why
options_after service n [] = Ok []
options_after service (suc n) (word ∷ words) = options_after service n words
options_after service zero (word ∷ words) = option_then (option_at service word words) (options_after service (width_at service word words) words)

-- what they say together: of each kind the first

abbrev pub first : {X : Type 0} → (ParsedOption → Option X) → List ParsedOption → Option X
first what [] = None
first what (option ∷ options) = option_or (what option) (first what options)

abbrev pub exec_by : ParsedOption → Option (List (List ℕ))
exec_by (is.Exec words) = Some words
exec_by _ = None

abbrev pub dest_by : ParsedOption → Option (List Written)
dest_by (is.Dest patterns) = Some patterns
dest_by _ = None

abbrev pub auth_by : ParsedOption → Option (List (List ℕ))
auth_by (is.Auth verbs) = Some verbs
auth_by _ = None

abbrev pub is_authall : ParsedOption → Bool
is_authall is.AuthAll = true
is_authall _ = false

abbrev pub is_extnd : ParsedOption → Bool
is_extnd is.Extnd = true
is_extnd _ = false

abbrev pub deny_by : ParsedOption → Option (List (List ℕ))
deny_by (is.Deny verbs) = Some verbs
deny_by _ = None

abbrev pub log_by : ParsedOption → Option (List (List ℕ))
log_by (is.Log verbs) = Some verbs
log_by _ = None

abbrev pub target_by : ParsedOption → Option Host
target_by (is.PlugTo host) = Some host
target_by _ = None

abbrev pub port_as : ParsedOption → Option ℕ
port_as (is.Port port) = Some port
port_as _ = None

abbrev pub builder_of : List ParsedOption → OptionsBuilder
builder_of options = record {
  exec = first exec_by options;
  dest = first dest_by options;
  auth = first auth_by options;
  authall = list_any is_authall options;
  extnd = list_any is_extnd options;
  deny = first deny_by options;
  log = first log_by options;
  target = first target_by options;
  port = first port_as options;
}

-- a target has the port of `-port`, or else the line's
abbrev pub dest_with : Option Host → ℕ → Option Dest
dest_with None port = None
dest_with (Some host) port = Some (record { host = host; port = port })

abbrev pub finished : ℕ → OptionsBuilder → Options
finished port builder = record {
  exec = unwrap_or builder.exec [];
  dest = builder.dest;
  auth = builder.auth;
  authall = builder.authall;
  extnd = builder.extnd;
  deny = unwrap_or builder.deny [];
  log = unwrap_or builder.log [];
  plug_to = dest_with builder.target (unwrap_or builder.port port);
}

-- what the options that these words are say together
unfoldable pub built : Service → List Word → Result OptionsBuilder Why
built service words = mapped builder_of (options_after service 0 words)

-- the options that these words are, on a line with this port (0 where the line has none)
unfoldable pub options_of : Service → ℕ → List Word → Result Options Why
options_of service port words = mapped (finished port) (built service words)

-- no option
abbrev pub no_options : Options
no_options = record { exec = []; dest = None; auth = None; authall = false; extnd = false; deny = []; log = []; plug_to = None }

-- one more option, which counts unless one of its kind came before
abbrev pub added : OptionsBuilder → ParsedOption → OptionsBuilder
added builder (is.Exec words) = record builder { exec = option_or builder.exec (Some words) }
added builder (is.Dest patterns) = record builder { dest = option_or builder.dest (Some patterns) }
added builder (is.Auth verbs) = record builder { auth = option_or builder.auth (Some verbs) }
added builder is.AuthAll = record builder { authall = true }
added builder is.Extnd = record builder { extnd = true }
added builder (is.Deny verbs) = record builder { deny = option_or builder.deny (Some verbs) }
added builder (is.Log verbs) = record builder { log = option_or builder.log (Some verbs) }
added builder (is.PlugTo host) = record builder { target = option_or builder.target (Some host) }
added builder (is.Port port) = record builder { port = option_or builder.port (Some port) }
