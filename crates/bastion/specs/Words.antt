-- What the words of a command line ask for: `[-t FILE] [-r FILE] [-s FOLDER] [-n SLOTS] [-m PROGRAM] [-a DEST] COMMAND ARGUMENTS`.
use Rattle.std.specs.Prelude.{ℕ, Bool, true, false, ◌&&◌, ◌||◌, ◌==◌, not, List, [], ◌∷◌, length, Option, Some, None, is_some, unwrap_or, codes, if◌then◌else◌}
use Rattle.std.specs.Option.{option_map}
use Rattle.std.specs.Str.{bytes_eq}
use Rattle.fw_types.specs.HostName.{host_name_of}
use Rattle.fw_types.specs.Number.{in_range, number_of}
use Rattle.fw_types.specs.Port.{numbered_port}
use Rattle.fw_types.specs.Quad.{quad_of}
use Rattle.fw_types.specs.declared.dest.Dest.{Dest}
use Rattle.fw_types.specs.declared.peer.Peer.{Peer}
use Rattle.gate_rules.specs.Label.{label_of}
use Rattle.gate_rules.specs.Service.{service_of}
use Rattle.gate_rules.specs.declared.service.Service.{Service}
use Rattle.gate_rules.specs.declared.service.Service.TheVariants as service
use Rattle.bastion.specs.DestWord.{dest_in}
use Rattle.bastion.specs.SpellingView.{SpellingView}
use Rattle.bastion.specs.declared.words.Authorities.{Authorities}
use Rattle.bastion.specs.declared.words.Authorities.TheVariants.{Records, Remote}
use Rattle.bastion.specs.declared.words.Command.{Command}
use Rattle.bastion.specs.declared.words.Command.TheVariants.{Netacl, NetaclRun, Table, Authsrv, PlugGw, Gateway, Smap}
use Rattle.bastion.specs.declared.words.GatewayKind.{GatewayKind}
use Rattle.bastion.specs.declared.words.GatewayKind.TheVariants as kinds
use Rattle.bastion.specs.declared.words.Query.{Query}
use Rattle.bastion.specs.declared.words.Caller.{Caller}
use Rattle.bastion.specs.declared.words.Client.{Client}
use Rattle.bastion.specs.declared.words.Job.{Job}
use Rattle.bastion.specs.declared.words.Job.TheVariants as jobs
use Rattle.bastion.specs.declared.words.Order.{Order}
use Rattle.bastion.specs.declared.words.Order.TheVariants.{ByTable, Alone}
use Rattle.drill_lines.specs.declared.plan.Drill.{Drill}

-- the options that there are
abbrev pub is_option_name : List ℕ → Bool
is_option_name name =
    bytes_eq name (codes "-t") || bytes_eq name (codes "-r") || bytes_eq name (codes "-s") || bytes_eq name (codes "-n") || bytes_eq name (codes "-m") || bytes_eq name (codes "-a")

-- how many slots there are: a decimal number from 1 to 64
abbrev pub slots_in : List ℕ → Option ℕ
slots_in word = in_range 1 64 (number_of word)

-- after `-n` comes such a number, after `-a` a destination, and after any other option a word that isn't empty
abbrev pub is_option_word : List ℕ → List ℕ → Bool
is_option_word name word =
    if bytes_eq name (codes "-n") then is_some (slots_in word)
    else if bytes_eq name (codes "-a") then is_some (dest_in word)
    else not (length word == 0)

-- an option with its word
abbrev pub is_option_pair : List ℕ → List ℕ → Bool
is_option_pair name word = is_option_name name && is_option_word name word

-- the words after the options: the command and its arguments
abbrev pub after_options : List (List ℕ) → List (List ℕ)
after_options (option ∷ word ∷ rest) = if is_option_pair option word then after_options rest else option ∷ word ∷ rest
after_options words = words

-- the word after the first option of this name, where one stands before the command
abbrev pub word_after : List ℕ → List (List ℕ) → Option (List ℕ)
word_after name (option ∷ word ∷ rest) =
    if is_option_pair option word then (if bytes_eq option name then Some word else word_after name rest) else None
word_after name _ = None

-- whether an option of this name stands before the command
unfoldable pub stands : List ℕ → List (List ℕ) → Bool
stands name words = is_some (word_after name words)

-- whether an option stands twice before the command
abbrev pub any_twice : List (List ℕ) → Bool
any_twice (option ∷ word ∷ rest) = is_option_pair option word && (stands option rest || any_twice rest)
any_twice _ = false

-- a peer at this address and with this name, where both could be read
abbrev pub peer_by : Option (List ℕ) → Option (Option (List ℕ)) → Option Peer
peer_by (Some addr) (Some name) = Some (record { addr = Some addr; name = name })
peer_by None _ = None
peer_by (Some addr) None = None

-- no name, or one
abbrev pub name_in : List (List ℕ) → Option (Option (List ℕ))
name_in [] = Some None
name_in (name ∷ []) = option_map Some (host_name_of name)
name_in (name ∷ more ∷ rest) = None

-- `ADDR [NAME]`
abbrev pub peer_in : List (List ℕ) → Option Peer
peer_in (addr ∷ names) = peer_by (quad_of addr) (name_in names)
peer_in [] = None

abbrev pub query_of : Option Service → Option Peer → Option Query
query_of (Some asked) (Some peer) = Some (record { service = asked; peer = peer })
query_of None _ = None
query_of (Some asked) None = None

-- `DAEMON ADDR [NAME]`
abbrev pub netacl_in : List (List ℕ) → Option Query
netacl_in (daemon ∷ words) = query_of (option_map service.Netacl (label_of daemon)) (peer_in words)
netacl_in [] = None

-- `-run DAEMON ADDR [NAME]`
abbrev pub run_in : List (List ℕ) → Option Query
run_in (word ∷ words) = if bytes_eq word (codes "-run") then netacl_in words else None
run_in [] = None

-- `-run` is a label too, so both forms are tried; never do both fit, since no address is a name
abbrev pub netacl_by : Option Query → Option Query → Option Command
netacl_by (Some query) started = Some (Netacl query)
netacl_by None started = option_map NetaclRun started

-- `SERVICE ADDR [NAME]`
abbrev pub table_in : List (List ℕ) → Option Query
table_in (asked ∷ words) = query_of (service_of asked) (peer_in words)
table_in [] = None

abbrev pub client_of : Bool → Option Peer → Option Client
client_of console (Some peer) = Some (record { console = console; peer = peer })
client_of console None = None

-- `-console ADDR [NAME]` or `ADDR [NAME]`
abbrev pub client_in : List (List ℕ) → Option Client
client_in (word ∷ words) = if bytes_eq word (codes "-console") then client_of true (peer_in words) else client_of false (peer_in (word ∷ words))
client_in [] = None

abbrev pub caller_of : Option ℕ → Option Peer → Option Caller
caller_of (Some port) (Some peer) = Some (record { port = port; peer = peer })
caller_of None _ = None
caller_of (Some port) None = None

-- `PORT ADDR [NAME]`: the port is a decimal number from 1 to 65,535
abbrev pub caller_in : List (List ℕ) → Option Caller
caller_in (port ∷ words) = caller_of (numbered_port port) (peer_in words)
caller_in [] = None

abbrev pub gateway_of : GatewayKind → Authorities → Option Peer → Option Command
gateway_of kind authorities (Some peer) = Some (Gateway kind authorities peer)
gateway_of kind authorities None = None

-- `netacl [-run] DAEMON ADDR [NAME]`, `table SERVICE ADDR [NAME]`, `authsrv [-console] ADDR [NAME]`,
-- `plug-gw PORT ADDR [NAME]`, `tn-gw ADDR [NAME]`, `ftp-gw ADDR [NAME]` and `smap ADDR [NAME]`; a gateway goes by these authorities
abbrev pub command_in : Authorities → List (List ℕ) → Option Command
command_in authorities (name ∷ words) =
    if bytes_eq name (codes "netacl") then netacl_by (netacl_in words) (run_in words)
    else if bytes_eq name (codes "table") then option_map Table (table_in words)
    else if bytes_eq name (codes "authsrv") then option_map Authsrv (client_in words)
    else if bytes_eq name (codes "plug-gw") then option_map PlugGw (caller_in words)
    else if bytes_eq name (codes "tn-gw") then gateway_of kinds.Telnet authorities (peer_in words)
    else if bytes_eq name (codes "ftp-gw") then gateway_of kinds.Ftp authorities (peer_in words)
    else if bytes_eq name (codes "smap") then option_map Smap (peer_in words)
    else None
command_in authorities [] = None

abbrev pub drill_by : Option ℕ → Option ℕ → Option Drill
drill_by (Some start) (Some count) = Some (record { start = start; count = count })
drill_by None _ = None
drill_by (Some start) None = None

-- `START N`: decimal numbers, below 2^31, and from 1 to 10,000
abbrev pub drill_in : List (List ℕ) → Option Drill
drill_in (start ∷ count ∷ []) = drill_by (in_range 0 2147483647 (number_of start)) (in_range 1 10000 (number_of count))
drill_in _ = None

-- a job without further words
abbrev pub lone_in : Job → List (List ℕ) → Option Job
lone_in job [] = Some job
lone_in job (word ∷ more) = None

-- `FILE`
abbrev pub calc_in : List (List ℕ) → Option (List ℕ)
calc_in (file ∷ []) = Some file
calc_in _ = None

-- `FILE W1 W2 W3 W4 W5 W6`
abbrev pub hex_in : List (List ℕ) → Option SpellingView
hex_in (file ∷ first ∷ second ∷ third ∷ fourth ∷ fifth ∷ last ∷ []) = Some (record { file = file; words = first ∷ second ∷ third ∷ fourth ∷ fifth ∷ last ∷ [] })
hex_in _ = None

-- a command by the table, or `drill START N`, `spool-init`, `smapd`, `otp-calc FILE` or `otp-hex FILE W1 .. W6`, which need none
abbrev pub order_in : Authorities → List (List ℕ) → Option Order
order_in authorities (name ∷ words) =
    if bytes_eq name (codes "drill") then option_map Alone (option_map jobs.Drill (drill_in words))
    else if bytes_eq name (codes "spool-init") then option_map Alone (lone_in jobs.SpoolInit words)
    else if bytes_eq name (codes "smapd") then option_map Alone (lone_in jobs.Smapd words)
    else if bytes_eq name (codes "otp-calc") then option_map Alone (option_map jobs.OtpCalc (calc_in words))
    else if bytes_eq name (codes "otp-hex") then option_map Alone (option_map jobs.OtpHex (hex_in words))
    else option_map ByTable (command_in authorities (name ∷ words))
order_in authorities [] = None

-- who knows the users: a server elsewhere where `-a` stands before the command, else the records of this host
abbrev pub authorities_in : List (List ℕ) → Authorities
authorities_in words = if stands (codes "-a") words then Remote else Records

-- the order that the words are: options, of which none stands twice, and then a command with its words
unfoldable pub order_of : List (List ℕ) → Option Order
order_of words = if any_twice words then None else order_in (authorities_in words) (after_options words)

-- whether the order is that of a gateway whose users a server elsewhere knows
abbrev pub is_remote : Order → Bool
is_remote (ByTable (Gateway kind Remote peer)) = true
is_remote _ = false

-- the word after an option, or another text where it isn't there
abbrev pub word_or : List ℕ → List ℕ → List (List ℕ) → List ℕ
word_or option other words = unwrap_or (word_after option words) other

-- where the table stands, and where the records are, when no word says so
abbrev pub default_table : List ℕ
default_table = codes "/usr/local/etc/netperm-table"

abbrev pub default_db : List ℕ
default_db = codes "authdb"

-- where the slots are, how many, and the mailer
abbrev pub default_spool : List ℕ
default_spool = codes "spool"

abbrev pub default_slots : ℕ
default_slots = 8

abbrev pub default_mailer : List ℕ
default_mailer = codes "/usr/lib/sendmail"

-- how many slots the word after `-n` says, if there is one
abbrev pub slots_or : ℕ → Option (List ℕ) → ℕ
slots_or other None = other
slots_or other (Some word) = unwrap_or (slots_in word) other

-- what the options but `-t` name
pub record PlaceNames : Type 0 where
  -- the file with the records: the word after `-r`
  pub db : List ℕ
  -- the folder of the slots' files: the word after `-s`
  pub spool : List ℕ
  -- how many slots there are: the word after `-n`
  pub slots : ℕ
  -- the program that mail is handed to: the word after `-m`
  pub mailer : List ℕ
  -- the server that knows the users, where it isn't this host: the word after `-a`
  pub remote : Option Dest

abbrev pub default_places : PlaceNames
default_places = record { db = default_db; spool = default_spool; slots = default_slots; mailer = default_mailer; remote = None }

-- the server that the word after `-a` names, if there is one
abbrev pub remote_of : Option (List ℕ) → Option Dest
remote_of None = None
remote_of (Some word) = dest_in word

abbrev pub places_in : List (List ℕ) → PlaceNames
places_in words = record {
  db = word_or (codes "-r") default_db words;
  spool = word_or (codes "-s") default_spool words;
  slots = slots_or default_slots (word_after (codes "-n") words);
  mailer = word_or (codes "-m") default_mailer words;
  remote = remote_of (word_after (codes "-a") words);
}

-- a command line: the order, the table's name, which is the word after `-t`, and what the other options name
pub record LineView : Type 0 where
  pub order : Order
  pub table : List ℕ
  pub places : PlaceNames

abbrev pub line_with : List (List ℕ) → Option Order → Option LineView
line_with words None = None
line_with words (Some order) = Some (record { order = order; table = word_or (codes "-t") default_table words; places = places_in words })

-- the command line that the words are, if they are one
abbrev pub line_of : List (List ℕ) → Option LineView
line_of words = line_with words (order_of words)

abbrev pub table_by : Option LineView → List ℕ
table_by None = default_table
table_by (Some line) = line.table

abbrev pub places_by : Option LineView → PlaceNames
places_by None = default_places
places_by (Some line) = line.places

-- the table's name; for words that are no command, where it stands when no word says so
abbrev pub table_named : List (List ℕ) → List ℕ
table_named words = table_by (line_of words)
