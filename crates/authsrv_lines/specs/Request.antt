-- What a line asks for, by the table of lines.
use Rattle.std.specs.Prelude.{ℕ, nat_lt, Bool, true, false, List, [], ◌∷◌, length, Option, Some, None, Result, Ok, Err, unwrap_or, codes, if◌then◌else◌}
use Rattle.std.specs.Str.{bytes_eq}
use Rattle.std.specs.Result.{result_ok}
use Rattle.hex.specs.Hex.{decode_sized}
use Rattle.md5.specs.Md5.{md5}
use Rattle.fw_types.specs.declared.host.Host.{Host}
use Rattle.fw_types.specs.Host.{host_of}
use Rattle.fw_types.specs.Name.{name_of}
use Rattle.fw_types.specs.Number.{number_of}
use Rattle.auth_records.specs.declared.record.Proto.{Proto}
use Rattle.auth_records.specs.declared.record.Proto.TheVariants as protos
use Rattle.auth_records.specs.Texts.{long_name_of, seed_of}
use Rattle.otp_md5.specs.Hexadecimal.{read_of}
use Rattle.auth_events.specs.OtpNumber.{otp_number_of}
use Rattle.auth_events.specs.declared.request.OpService.{OpService}
use Rattle.auth_events.specs.declared.request.OpService.TheVariants as services
use Rattle.auth_events.specs.declared.request.Request.TheVariants as requests
use Rattle.authsrv_lines.specs.declared.wire.Wire.{Wire}
use Rattle.authsrv_lines.specs.declared.wire.Wire.TheVariants as wires
use Rattle.authsrv_lines.specs.declared.wire.WireFault.{WireFault}
use Rattle.authsrv_lines.specs.declared.wire.WireFault.TheVariants.{LongLine, Empty, Unknown, Words, BadName}
use Rattle.authsrv_lines.specs.declared.command.Named.{Named}
use Rattle.authsrv_lines.specs.declared.command.Command.{Command}
use Rattle.authsrv_lines.specs.declared.command.Command.TheVariants as commands
use Rattle.authsrv_lines.specs.Command.{wire_command_of, named_request}
use Rattle.authsrv_lines.specs.Words.{after_word, has_none, one_of, one_or_two, text_after, two_of, words}

abbrev pub ReadRequest : Type 0
ReadRequest = Result Wire WireFault

-- ---- words that stand for values

abbrev pub service_named : List ℕ → Option OpService
service_named text =
    if bytes_eq text (codes "tn-gw") then Some services.Telnet
    else if bytes_eq text (codes "rlogin-gw") then Some services.Rlogin
    else if bytes_eq text (codes "ftp-gw") then Some services.Ftp
    else None

abbrev pub proto_named : List ℕ → Option Proto
proto_named text =
    if bytes_eq text (codes "plain") then Some protos.Plain
    else if bytes_eq text (codes "otp") then Some protos.Otp
    else if bytes_eq text (codes "none") then Some protos.None
    else None

abbrev pub as_otp_number : Option ℕ → Option ℕ
as_otp_number None = None
as_otp_number (Some n) = otp_number_of n

-- a count of 1 to 9,999, in 1 to 10 digits
abbrev pub count_of : List ℕ → Option ℕ
count_of text = as_otp_number (number_of text)

-- ---- what follows the commands. The parts that are out of form are Words, and come before a bad name.

-- NAME
abbrev pub about : Named → Option (List ℕ) → ReadRequest
about named None = Err BadName
about named (Some name) = Ok (wires.Ask (named_request named name))

abbrev pub named_request_of : Named → Option (List ℕ) → ReadRequest
named_request_of named None = Err Words
named_request_of named (Some text) = about named (name_of text)

-- TEXT
abbrev pub response_of : Option (List ℕ) → ReadRequest
response_of None = Err Words
response_of (Some text) = Ok (wires.Ask (requests.Response (md5 text) (read_of text)))

-- HASH, HASH WORD: 32 hexadecimal digits, and 16, in either case
abbrev pub hash_of : List ℕ → Option (List ℕ)
hash_of text = result_ok (decode_sized text 16)

abbrev pub digest_alone : Option (List ℕ) → ReadRequest
digest_alone None = Err Words
digest_alone (Some hash) = Ok (wires.Ask (requests.Response hash None))

abbrev pub digest_word : Option (List ℕ) → Option ℕ → ReadRequest
digest_word (Some hash) (Some word) = Ok (wires.Ask (requests.Response hash (Some word)))
digest_word _ _ = Err Words

abbrev pub digested : List ℕ → Option (List ℕ) → ReadRequest
digested hash None = digest_alone (hash_of hash)
digested hash (Some word) = digest_word (hash_of hash) (read_of word)

abbrev pub digest_of : Option (List ℕ × Option (List ℕ)) → ReadRequest
digest_of None = Err Words
digest_of (Some texts) = digested texts.0 texts.1

-- SERVICE HOST
abbrev pub operation_request : Option OpService → Option Host → ReadRequest
operation_request (Some service) (Some host) = Ok (wires.Ask (requests.Operation service host))
operation_request _ _ = Err Words

abbrev pub operation_request_of : Option (List ℕ × List ℕ) → ReadRequest
operation_request_of None = Err Words
operation_request_of (Some texts) = operation_request (service_named texts.0) (host_of texts.1)

-- NAME, NAME TEXT
abbrev pub adduser : Option (List ℕ) → Option (List ℕ) → ReadRequest
adduser name None = Err Words
adduser None (Some long) = Err BadName
adduser (Some name) (Some long) = Ok (wires.Ask (requests.Adduser name long))

abbrev pub adduser_with : List ℕ → List ℕ → ReadRequest
adduser_with name text = adduser (name_of name) (long_name_of text)

abbrev pub adduser_of : List (List ℕ) → Option (List ℕ) → ReadRequest
adduser_of [] text = Err Words
adduser_of (name ∷ _) text = adduser_with name (unwrap_or text [])

-- NAME, NAME NAME
abbrev pub group_none : Option (List ℕ) → ReadRequest
group_none None = Err BadName
group_none (Some name) = Ok (wires.Ask (requests.Group name None))

abbrev pub group_some : Option (List ℕ) → Option (List ℕ) → ReadRequest
group_some (Some name) (Some group) = Ok (wires.Ask (requests.Group name (Some group)))
group_some _ _ = Err BadName

abbrev pub grouped : List ℕ → Option (List ℕ) → ReadRequest
grouped name None = group_none (name_of name)
grouped name (Some group) = group_some (name_of name) (name_of group)

abbrev pub group_request : Option (List ℕ × Option (List ℕ)) → ReadRequest
group_request None = Err Words
group_request (Some texts) = grouped texts.0 texts.1

-- NAME plain, NAME otp, NAME none
abbrev pub proto_set : Option (List ℕ) → Option Proto → ReadRequest
proto_set name None = Err Words
proto_set None (Some proto) = Err BadName
proto_set (Some name) (Some proto) = Ok (wires.Ask (requests.Proto name proto))

abbrev pub proto_request : Option (List ℕ × List ℕ) → ReadRequest
proto_request None = Err Words
proto_request (Some texts) = proto_set (name_of texts.0) (proto_named texts.1)

-- NAME TEXT
abbrev pub password_request : Option (List ℕ) → List ℕ → ReadRequest
password_request None text = Err BadName
password_request (Some name) text = Ok (wires.Password name (md5 text))

abbrev pub password_of : List (List ℕ) → Option (List ℕ) → ReadRequest
password_of (name ∷ _) (Some text) = password_request (name_of name) text
password_of _ _ = Err Words

-- NAME NUMBER SEED TEXT
abbrev pub otp : Option (List ℕ) → Option ℕ → Option (List ℕ) → Option ℕ → ReadRequest
otp (Some name) (Some number) (Some word_seed) (Some kept) = Ok (wires.Ask (requests.Otp name number word_seed kept))
otp None (Some number) (Some word_seed) (Some kept) = Err BadName
otp _ _ _ _ = Err Words

abbrev pub otp_with : List ℕ → List ℕ → List ℕ → List ℕ → ReadRequest
otp_with name number word_seed text = otp (name_of name) (count_of number) (seed_of word_seed) (read_of text)

abbrev pub otp_of : List (List ℕ) → Option (List ℕ) → ReadRequest
otp_of (name ∷ number ∷ word_seed ∷ _) (Some text) = otp_with name number word_seed text
otp_of _ _ = Err Words

-- NAME NUMBER
abbrev pub expire_set : Option (List ℕ) → Option ℕ → ReadRequest
expire_set name None = Err Words
expire_set None (Some until) = Err BadName
expire_set (Some name) (Some until) = Ok (wires.Ask (requests.Expire name until))

abbrev pub expire_request : Option (List ℕ × List ℕ) → ReadRequest
expire_request None = Err Words
expire_request (Some texts) = expire_set (name_of texts.0) (number_of texts.1)

-- nothing
abbrev pub wire_alone : Wire → Bool → ReadRequest
wire_alone wire true = Ok wire
wire_alone wire false = Err Words

-- ---- the table: a command, the words after it, and what follows the command in the line

abbrev pub asked : Command → List (List ℕ) → List ℕ → ReadRequest
asked (commands.Named named) parts rest = named_request_of named (one_of parts)
asked commands.Response parts rest = response_of (text_after 0 rest)
asked commands.Digest parts rest = digest_of (one_or_two parts)
asked commands.Operation parts rest = operation_request_of (two_of parts)
asked commands.Adduser parts rest = adduser_of parts (text_after 1 rest)
asked commands.Group parts rest = group_request (one_or_two parts)
asked commands.Proto parts rest = proto_request (two_of parts)
asked commands.Password parts rest = password_of parts (text_after 1 rest)
asked commands.Otp parts rest = otp_of parts (text_after 3 rest)
asked commands.Expire parts rest = expire_request (two_of parts)
asked commands.List parts rest = wire_alone wires.List (has_none parts)
asked commands.Quit parts rest = wire_alone wires.Quit (has_none parts)

-- ---- the line

abbrev pub by_command : Option Command → List (List ℕ) → List ℕ → ReadRequest
by_command None parts rest = Err Unknown
by_command (Some command) parts rest = asked command parts rest

abbrev pub by_words : List (List ℕ) → List ℕ → ReadRequest
by_words [] rest = Err Empty
by_words (word ∷ parts) rest = by_command (wire_command_of word) parts rest

-- what the line asks for
abbrev pub request_of : List ℕ → ReadRequest
request_of line = if nat_lt 512 (length line) then Err LongLine else by_words (words line) (after_word line)
