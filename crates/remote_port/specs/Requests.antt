-- Requests, as they are written to an authentication server.
use Rattle.std.specs.Prelude.{ℕ, Bool, true, false, List, [], ◌∷◌, ◌++◌, Option, Some, None, is_some}
use Rattle.auth_events.specs.declared.request.Request.{Request}
use Rattle.auth_events.specs.declared.request.Request.TheVariants as requests
use Rattle.authsrv_lines.specs.RequestLine.{request_line}

abbrev pub is_open : Request → Bool
is_open (requests.Open console) = true
is_open _ = false

abbrev pub is_authenticate : Request → Bool
is_authenticate (requests.Authenticate name) = true
is_authenticate _ = false

abbrev pub is_close : Request → Bool
is_close requests.Close = true
is_close _ = false

-- what a gateway asks in a session, which is what has a line
abbrev pub has_line : Request → Bool
has_line request = is_some (request_line request)

abbrev pub ended : Option (List ℕ) → List ℕ
ended None = []
ended (Some line) = line ++ 10 ∷ []

-- the line of a request and its end; nothing for an Open, since a server speaks first
abbrev pub written : Request → List ℕ
written request = ended (request_line request)
