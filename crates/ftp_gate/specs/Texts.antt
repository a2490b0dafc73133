-- What a client of `ftp-gw` is told, and what the server is told in its place.
use Rattle.std.specs.Prelude.{ℕ, List, ◌++◌, codes}
use Rattle.std.specs.Fmt.{decimal}
use Rattle.ftp_lines.specs.Six.{six_text}
use Rattle.otp_md5.specs.Challenge.{challenge}

abbrev pub ready : List ℕ
ready = codes "220 ftp-gw ready\r\n"

abbrev pub syntax_error : List ℕ
syntax_error = codes "500 Syntax error\r\n"

-- ---- the login

abbrev pub password_asked : List ℕ
password_asked = codes "331 Send RESPONSE password\r\n"

abbrev pub challenge_asked : ℕ → List ℕ → List ℕ
challenge_asked number word_seed = codes "331 " ++ challenge number word_seed ++ codes "\r\n"

abbrev pub login_ok : List ℕ
login_ok = codes "230 Login ok\r\n"

abbrev pub login_denied : List ℕ
login_denied = codes "530 Login denied\r\n"

abbrev pub authorize_first : List ℕ
authorize_first = codes "503 AUTHORIZE first\r\n"

-- ---- denials, by the line with this number, or by none, which is 0

abbrev pub verb_denied : ℕ → List ℕ
verb_denied line = codes "500 Denied (line " ++ decimal line ++ codes ")\r\n"

abbrev pub log_in_first : ℕ → List ℕ
log_in_first line = codes "530 Log in first (line " ++ decimal line ++ codes ")\r\n"

abbrev pub dest_denied : ℕ → List ℕ
dest_denied line = codes "530 Denied (line " ++ decimal line ++ codes ")\r\n"

-- ---- the server

abbrev pub no_destination : List ℕ
no_destination = codes "501 USER name@host\r\n"

abbrev pub user_first : List ℕ
user_first = codes "530 USER name@host first\r\n"

abbrev pub no_route : List ℕ
no_route = codes "425 No route\r\n"

abbrev pub already_connected : List ℕ
already_connected = codes "503 Already connected\r\n"

abbrev pub server_closed : List ℕ
server_closed = codes "421 Server closed\r\n"

abbrev pub goodbye : List ℕ
goodbye = codes "221 Goodbye\r\n"

-- ---- data links

abbrev pub foreign_address : List ℕ
foreign_address = codes "501 PORT must name your own address\r\n"

abbrev pub port_ok : List ℕ
port_ok = codes "200 PORT ok\r\n"

abbrev pub passive_mode : List ℕ → ℕ → List ℕ
passive_mode addr port = codes "227 Entering passive mode (" ++ six_text addr port ++ codes ")\r\n"

abbrev pub no_door : List ℕ
no_door = codes "425 No door\r\n"

abbrev pub not_implemented : List ℕ
not_implemented = codes "502 Not implemented\r\n"

abbrev pub port_first : List ℕ
port_first = codes "425 Use PORT or PASV first\r\n"

abbrev pub no_data_port : List ℕ
no_data_port = codes "425 Server has no data port\r\n"

abbrev pub no_data_link : List ℕ
no_data_link = codes "425 No data link\r\n"

abbrev pub ended_early : List ℕ
ended_early = codes "426 Transfer ended early\r\n"

-- ---- what the server is given

-- a line, with its end
abbrev pub passed_line : List ℕ → List ℕ
passed_line line = line ++ codes "\r\n"

abbrev pub user_text : List ℕ → List ℕ
user_text name = passed_line (codes "USER " ++ name)

abbrev pub pasv_text : List ℕ
pasv_text = passed_line (codes "PASV")
