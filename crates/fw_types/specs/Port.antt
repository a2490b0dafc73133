-- Ports: a decimal number from 1 to 65,535, or one of eight names.
use Rattle.std.specs.Prelude.{ℕ, List, Option, Some, None, codes, if◌then◌else◌}
use Rattle.std.specs.Str.{bytes_eq}
use Rattle.fw_types.specs.Number.{in_range, number_of}

-- the port with this name
abbrev pub named_port : List ℕ → Option ℕ
named_port text =
    if bytes_eq text (codes "ftp") then Some 21
    else if bytes_eq text (codes "telnet") then Some 23
    else if bytes_eq text (codes "smtp") then Some 25
    else if bytes_eq text (codes "finger") then Some 79
    else if bytes_eq text (codes "http") then Some 80
    else if bytes_eq text (codes "pop3") then Some 110
    else if bytes_eq text (codes "nntp") then Some 119
    else if bytes_eq text (codes "login") then Some 513
    else None

abbrev pub or_number : Option ℕ → Option ℕ → Option ℕ
or_number (Some port) number = Some port
or_number None number = number

-- the port with this number
abbrev pub numbered_port : List ℕ → Option ℕ
numbered_port text = in_range 1 65535 (number_of text)

-- the port that the text is
abbrev pub port_of : List ℕ → Option ℕ
port_of text = or_number (named_port text) (numbered_port text)
