-- What a line can ask for.
use Rattle.std.proofs.Common.{◌≡◌, refl, ℕ, nat_lt, Bool, true, false, cond, List, [], ◌∷◌, length, Option, Some, None, Result, Ok, Err}
use Rattle.std.specs.Prelude.{unwrap_or}
use Rattle.fw_types.specs.Host.{host_of}
use Rattle.fw_types.specs.Name.{name_of}
use Rattle.fw_types.specs.Number.{number_of}
use Rattle.fw_types.specs.declared.host.Host.{Host}
use Rattle.auth_records.specs.Texts.{long_name_of, seed_of}
use Rattle.auth_records.specs.declared.record.Proto.{Proto}
use Rattle.auth_events.specs.declared.request.OpService.{OpService}
use Rattle.otp_md5.specs.Hexadecimal.{read_of}
use Rattle.authsrv_lines.specs.Command.{wire_command_of, named_request}
use Rattle.authsrv_lines.specs.Request.{about, adduser, adduser_of, wire_alone, asked, by_command, by_words, count_of, digest_alone, digest_of, digest_word, digested, hash_of, expire_request, expire_set, group_none, group_request, group_some, grouped, named_request_of, operation_request, operation_request_of, otp, otp_of, password_request, password_of, proto_named, proto_request, proto_set, request_of, response_of, service_named}
use Rattle.authsrv_lines.specs.Words.{after_word, has_none, one_of, one_or_two, text_after, two_of, words}
use Rattle.authsrv_lines.specs.declared.command.Command.{Command}
use Rattle.authsrv_lines.specs.declared.command.Command.TheVariants as commands
use Rattle.authsrv_lines.specs.declared.command.Named.{Named}
use Rattle.authsrv_lines.specs.declared.command.Named.TheVariants as names
use Rattle.authsrv_lines.specs.declared.wire.Wire.{Wire}
use Rattle.authsrv_lines.specs.declared.wire.Wire.TheVariants as wires
use Rattle.authsrv_lines.specs.declared.wire.WireFault.{WireFault}
use Rattle.authsrv_lines.specs.declared.wire.WireFault.TheVariants.{LongLine}
use Rattle.auth_events.specs.declared.request.Request.{Request}
use Rattle.auth_events.specs.declared.request.Request.TheVariants.{Open, Password, Close}

-- neither opens nor closes a session, and has no salt
abbrev pub is_without_salt : Request → Bool
is_without_salt (Open console) = false
is_without_salt (Password name salt hash) = false
is_without_salt Close = false
is_without_salt _ = true

-- what a line asks for as it stands neither opens nor closes a session, and has no salt
abbrev pub AsksPlain : Result Wire WireFault → Type 0
AsksPlain (Ok (wires.Ask request)) = is_without_salt request ≡ true
AsksPlain (Ok (wires.Password name hash)) = Unit {0}
AsksPlain (Ok wires.List) = Unit {0}
AsksPlain (Ok wires.Quit) = Unit {0}
AsksPlain (Err fault) = Unit {0}

named_plain : (named : Named) (name : List ℕ) → is_without_salt (named_request named name) ≡ true
named_plain names.Authenticate name = refl
named_plain names.Deluser name = refl
named_plain names.Enable name = refl
named_plain names.Disable name = refl
named_plain names.Wiz name = refl
named_plain names.Unwiz name = refl
named_plain names.Superwiz name = refl
named_plain names.Display name = refl

about_plain : (named : Named) (name : Option (List ℕ)) → AsksPlain (about named name)
about_plain named None = tt
about_plain named (Some name) = named_plain named name

named_of_plain : (named : Named) (text : Option (List ℕ)) → AsksPlain (named_request_of named text)
named_of_plain named None = tt
named_of_plain named (Some text) = about_plain named (name_of text)

response_plain : (text : Option (List ℕ)) → AsksPlain (response_of text)
response_plain None = tt
response_plain (Some text) = refl

digest_alone_plain : (hash : Option (List ℕ)) → AsksPlain (digest_alone hash)
digest_alone_plain None = tt
digest_alone_plain (Some hash) = refl

digest_word_plain : (hash : Option (List ℕ)) (word : Option ℕ) → AsksPlain (digest_word hash word)
digest_word_plain (Some hash) (Some word) = refl
digest_word_plain (Some hash) None = tt
digest_word_plain None word = tt

digested_plain : (hash : List ℕ) (word : Option (List ℕ)) → AsksPlain (digested hash word)
digested_plain hash None = digest_alone_plain (hash_of hash)
digested_plain hash (Some word) = digest_word_plain (hash_of hash) (read_of word)

digest_of_plain : (texts : Option (List ℕ × Option (List ℕ))) → AsksPlain (digest_of texts)
digest_of_plain None = tt
digest_of_plain (Some texts) = digested_plain texts.0 texts.1

operation_plain : (service : Option OpService) (host : Option Host) → AsksPlain (operation_request service host)
operation_plain (Some service) (Some host) = refl
operation_plain (Some service) None = tt
operation_plain None host = tt

operation_of_plain : (texts : Option (List ℕ × List ℕ)) → AsksPlain (operation_request_of texts)
operation_of_plain None = tt
operation_of_plain (Some texts) = operation_plain (service_named texts.0) (host_of texts.1)

adduser_plain : (name long : Option (List ℕ)) → AsksPlain (adduser name long)
adduser_plain None None = tt
adduser_plain (Some name) None = tt
adduser_plain None (Some long) = tt
adduser_plain (Some name) (Some long) = refl

adduser_of_plain : (parts : List (List ℕ)) (text : Option (List ℕ)) → AsksPlain (adduser_of parts text)
adduser_of_plain [] text = tt
adduser_of_plain (name ∷ parts) text = adduser_plain (name_of name) (long_name_of (unwrap_or text []))

group_none_plain : (name : Option (List ℕ)) → AsksPlain (group_none name)
group_none_plain None = tt
group_none_plain (Some name) = refl

group_some_plain : (name group : Option (List ℕ)) → AsksPlain (group_some name group)
group_some_plain (Some name) (Some group) = refl
group_some_plain (Some name) None = tt
group_some_plain None group = tt

grouped_plain : (name : List ℕ) (group : Option (List ℕ)) → AsksPlain (grouped name group)
grouped_plain name None = group_none_plain (name_of name)
grouped_plain name (Some group) = group_some_plain (name_of name) (name_of group)

group_of_plain : (texts : Option (List ℕ × Option (List ℕ))) → AsksPlain (group_request texts)
group_of_plain None = tt
group_of_plain (Some texts) = grouped_plain texts.0 texts.1

proto_set_plain : (name : Option (List ℕ)) (proto : Option Proto) → AsksPlain (proto_set name proto)
proto_set_plain None None = tt
proto_set_plain (Some name) None = tt
proto_set_plain None (Some proto) = tt
proto_set_plain (Some name) (Some proto) = refl

proto_of_plain : (texts : Option (List ℕ × List ℕ)) → AsksPlain (proto_request texts)
proto_of_plain None = tt
proto_of_plain (Some texts) = proto_set_plain (name_of texts.0) (proto_named texts.1)

password_plain : (name : Option (List ℕ)) (text : List ℕ) → AsksPlain (password_request name text)
password_plain None text = tt
password_plain (Some name) text = tt

password_of_plain : (parts : List (List ℕ)) (text : Option (List ℕ)) → AsksPlain (password_of parts text)
password_of_plain [] text = tt
password_of_plain (name ∷ parts) None = tt
password_of_plain (name ∷ parts) (Some text) = password_plain (name_of name) text

otp_plain : (name : Option (List ℕ)) (number : Option ℕ) (word_seed : Option (List ℕ)) (kept : Option ℕ) → AsksPlain (otp name number word_seed kept)
otp_plain (Some name) (Some number) (Some word_seed) (Some kept) = refl
otp_plain (Some name) (Some number) (Some word_seed) None = tt
otp_plain (Some name) (Some number) None kept = tt
otp_plain (Some name) None word_seed kept = tt
otp_plain None (Some number) (Some word_seed) (Some kept) = tt
otp_plain None (Some number) (Some word_seed) None = tt
otp_plain None (Some number) None kept = tt
otp_plain None None word_seed kept = tt

otp_of_plain : (parts : List (List ℕ)) (text : Option (List ℕ)) → AsksPlain (otp_of parts text)
otp_of_plain [] text = tt
otp_of_plain (name ∷ []) text = tt
otp_of_plain (name ∷ number ∷ []) text = tt
otp_of_plain (name ∷ number ∷ word_seed ∷ parts) None = tt
otp_of_plain (name ∷ number ∷ word_seed ∷ parts) (Some text) = otp_plain (name_of name) (count_of number) (seed_of word_seed) (read_of text)

expire_plain : (name : Option (List ℕ)) (until : Option ℕ) → AsksPlain (expire_set name until)
expire_plain None None = tt
expire_plain (Some name) None = tt
expire_plain None (Some until) = tt
expire_plain (Some name) (Some until) = refl

expire_of_plain : (texts : Option (List ℕ × List ℕ)) → AsksPlain (expire_request texts)
expire_of_plain None = tt
expire_of_plain (Some texts) = expire_plain (name_of texts.0) (number_of texts.1)

list_plain : (none : Bool) → AsksPlain (wire_alone wires.List none)
list_plain true = tt
list_plain false = tt

quit_plain : (none : Bool) → AsksPlain (wire_alone wires.Quit none)
quit_plain true = tt
quit_plain false = tt

asked_plain : (command : Command) (parts : List (List ℕ)) (rest : List ℕ) → AsksPlain (asked command parts rest)
asked_plain (commands.Named named) parts rest = named_of_plain named (one_of parts)
asked_plain commands.Response parts rest = response_plain (text_after 0 rest)
asked_plain commands.Digest parts rest = digest_of_plain (one_or_two parts)
asked_plain commands.Operation parts rest = operation_of_plain (two_of parts)
asked_plain commands.Adduser parts rest = adduser_of_plain parts (text_after 1 rest)
asked_plain commands.Group parts rest = group_of_plain (one_or_two parts)
asked_plain commands.Proto parts rest = proto_of_plain (two_of parts)
asked_plain commands.Password parts rest = password_of_plain parts (text_after 1 rest)
asked_plain commands.Otp parts rest = otp_of_plain parts (text_after 3 rest)
asked_plain commands.Expire parts rest = expire_of_plain (two_of parts)
asked_plain commands.List parts rest = list_plain (has_none parts)
asked_plain commands.Quit parts rest = quit_plain (has_none parts)

by_command_plain : (command : Option Command) (parts : List (List ℕ)) (rest : List ℕ) → AsksPlain (by_command command parts rest)
by_command_plain None parts rest = tt
by_command_plain (Some command) parts rest = asked_plain command parts rest

by_words_plain : (parts : List (List ℕ)) (rest : List ℕ) → AsksPlain (by_words parts rest)
by_words_plain [] rest = tt
by_words_plain (word ∷ parts) rest = by_command_plain (wire_command_of word) parts rest

pub line_plain : (line : List ℕ) → AsksPlain (request_of line)
line_plain line = choose (nat_lt 512 (length line))
  where
    choose : (long : Bool) → AsksPlain (cond long (Err LongLine) (by_words (words line) (after_word line)))
    choose true = tt
    choose false = by_words_plain (words line) (after_word line)
