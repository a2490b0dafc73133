-- Lines about operations: who, where, on which hosts and at which hours. Here they are read for their faults alone.
use Rattle.std.specs.Prelude.{ℕ, Bool, ◌||◌, is_some, List, [], ◌∷◌, Option, Some, None, Result, Ok, Err, codes, if◌then◌else◌}
use Rattle.std.specs.Str.{bytes_eq}
use Rattle.fw_types.specs.Name.{name_of}
use Rattle.host_pattern.specs.Pattern.{Written}
use Rattle.host_pattern.specs.declared.word.Word.{Word}
use Rattle.gate_rules.specs.declared.fault.Why.{Why}
use Rattle.gate_rules.specs.declared.fault.Why.TheVariants.{MissingValue, BadWord}
use Rattle.gate_rules.specs.Lists.{hosts_in, options_in, patterns_of}
use Rattle.gate_rules.specs.Times.{hours_fault}

abbrev pub is_holder : List ℕ → Bool
is_holder text = bytes_eq text (codes "user") || bytes_eq text (codes "group")

abbrev pub is_name_or_star : List ℕ → Bool
is_name_or_star text = bytes_eq text (codes "*") || is_some (name_of text)

abbrev pub is_gateway_or_star : List ℕ → Bool
is_gateway_or_star text = bytes_eq text (codes "tn-gw") || bytes_eq text (codes "ftp-gw") || bytes_eq text (codes "rlogin-gw") || bytes_eq text (codes "*")

-- hosts, unless the words after them are bad
abbrev pub hosts_unless : Result (List Written) Why → Option Why → Result (List Written) Why
hosts_unless (Err why) fault = Err why
hosts_unless (Ok hosts) None = Ok hosts
hosts_unless (Ok hosts) (Some why) = Err why

-- a host list, and hours or nothing after it
abbrev pub hosts_and_hours : List Word → Result (List Written) Why
hosts_and_hours words = hosts_unless (patterns_of (hosts_in words)) (hours_fault (options_in words))

-- the host list, which must not be missing
abbrev pub operation_hosts : List Word → Result (List Written) Why
operation_hosts [] = Err MissingValue
operation_hosts (word ∷ words) = hosts_and_hours (word ∷ words)

-- a gateway or `*`, and the host list
abbrev pub operation_at : List Word → Result (List Written) Why
operation_at [] = Err MissingValue
operation_at (word ∷ words) = if is_gateway_or_star word.text then operation_hosts words else Err BadWord

-- a name or `*`, and so on
abbrev pub operation_of : List Word → Result (List Written) Why
operation_of [] = Err MissingValue
operation_of (word ∷ words) = if is_name_or_star word.text then operation_at words else Err BadWord

-- `user` or `group`, and so on
abbrev pub read_operation : List Word → Result (List Written) Why
read_operation [] = Err MissingValue
read_operation (word ∷ words) = if is_holder word.text then operation_of words else Err BadWord
