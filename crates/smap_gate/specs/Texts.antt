-- What a client of `smap` is told.
use Rattle.std.specs.Prelude.{ℕ, List, ◌++◌, codes}
use Rattle.std.specs.Fmt.{decimal}

abbrev pub ready : List ℕ
ready = codes "220 smap ready\r\n"

abbrev pub hello : List ℕ
hello = codes "250 smap\r\n"

abbrev pub fine : List ℕ
fine = codes "250 Ok\r\n"

abbrev pub help : List ℕ
help = codes "214 HELO MAIL RCPT DATA RSET NOOP QUIT\r\n"

abbrev pub goodbye : List ℕ
goodbye = codes "221 Goodbye\r\n"

-- ---- refusals of a line

abbrev pub syntax_error : List ℕ
syntax_error = codes "501 Syntax error\r\n"

abbrev pub unknown : List ℕ
unknown = codes "500 Syntax error\r\n"

abbrev pub not_implemented : List ℕ
not_implemented = codes "502 Not implemented\r\n"

abbrev pub bad_sequence : List ℕ
bad_sequence = codes "503 Bad sequence\r\n"

abbrev pub not_allowed : List ℕ
not_allowed = codes "553 Path not allowed\r\n"

abbrev pub too_many : List ℕ
too_many = codes "552 Too many recipients\r\n"

-- ---- what becomes of a message

abbrev pub go_ahead : List ℕ
go_ahead = codes "354 End with a period\r\n"

abbrev pub no_slot : List ℕ
no_slot = codes "452 No free slot\r\n"

abbrev pub disk_fault : List ℕ
disk_fault = codes "451 Disk fault\r\n"

abbrev pub too_large : List ℕ
too_large = codes "552 Message too large\r\n"

-- it stands in the slot of this number
abbrev pub kept : ℕ → List ℕ
kept slot = codes "250 Message kept in slot " ++ decimal slot ++ codes "\r\n"
