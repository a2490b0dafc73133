-- What a client of `tn-gw` is told.
use Rattle.std.specs.Prelude.{ℕ, List, [], ◌∷◌, ◌++◌, codes}
use Rattle.std.specs.Fmt.{decimal}
use Rattle.otp_md5.specs.Challenge.{challenge}

-- ---- prompts, which have no end of a line

abbrev pub name_prompt : List ℕ
name_prompt = codes "Username: "

abbrev pub command_prompt : List ℕ
command_prompt = codes "tn-gw-> "

-- IAC WILL ECHO (RFC 857): from now on the gateway would echo, so that the client does not, and what is typed stays hidden
abbrev pub will_echo : List ℕ
will_echo = 255 ∷ 251 ∷ 1 ∷ []

-- IAC WONT ECHO
abbrev pub wont_echo : List ℕ
wont_echo = 255 ∷ 252 ∷ 1 ∷ []

-- a password is asked for, and what is typed stays hidden
abbrev pub password_asked : List ℕ
password_asked = will_echo ++ codes "Password: "

-- the line with the password was ended, which the client didn't show
abbrev pub password_ended : List ℕ
password_ended = wont_echo ++ codes "\r\n"

-- a one-time password is asked for
abbrev pub challenge_asked : ℕ → List ℕ → List ℕ
challenge_asked number word_seed = challenge number word_seed ++ codes "\r\nResponse: "

-- ---- words, behind which the next prompt comes

abbrev pub login_denied : List ℕ
login_denied = codes "Login denied\r\n"

-- a destination is denied by the line with this number, or by none, which is 0
abbrev pub refusal : ℕ → List ℕ
refusal line = codes "Denied (line " ++ decimal line ++ codes ")\r\n"

abbrev pub no_route : List ℕ
no_route = codes "No route\r\n"

abbrev pub help : List ℕ
help = codes "connect HOST [PORT], quit\r\n"

abbrev pub unknown_command : List ℕ
unknown_command = codes "Unknown command\r\n"

-- ---- last words

abbrev pub connected : List ℕ
connected = codes "Connected\r\n"

abbrev pub goodbye : List ℕ
goodbye = codes "Goodbye\r\n"
