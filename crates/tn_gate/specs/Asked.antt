-- Which destinations are asked for, by what the client said and what the port answered. No place and no row is named here.
use Rattle.std.specs.Prelude.{ℕ, Bool, true, false, not, ◌&&◌, ◌||◌, List, [], ◌∷◌, ◌++◌, filter, Option, Some, None, if◌then◌else◌}
use Rattle.std.specs.List.{list_any}
use Rattle.std.specs.Str.{bytes_eq}
use Rattle.auth_events.specs.Login.{gives_login, is_ok, login_in}
use Rattle.auth_events.specs.declared.reply.Reply.{Reply}
use Rattle.auth_events.specs.declared.reply.Reply.TheVariants as replies
use Rattle.auth_events.specs.declared.request.OpService.{OpService}
use Rattle.auth_events.specs.declared.request.OpService.TheVariants as services
use Rattle.auth_events.specs.declared.request.Request.{Request}
use Rattle.auth_events.specs.declared.request.Request.TheVariants as requests
use Rattle.fw_outside.specs.declared.heard.Heard.{Heard}
use Rattle.fw_outside.specs.declared.heard.Heard.TheVariants.{Line, TooLong, Stopped}
use Rattle.fw_types.specs.declared.dest.Dest.{Dest}
use Rattle.fw_types.specs.declared.host.Host.{Host}
use Rattle.fw_types.specs.declared.host.Host.TheVariants as hosts
use Rattle.gate_rules.specs.Verdict.{allows}
use Rattle.session_acts.specs.Acts.{Act, Outcome}
use Rattle.session_acts.specs.Acts.Act.{Hear}
use Rattle.session_acts.specs.Deeds.{Deed}
use Rattle.session_acts.specs.Hearing.{heard_by}
use Rattle.session_acts.specs.Said.{said_by}
use Rattle.session_acts.specs.Talk.{answered, asked}
use Rattle.session_acts.specs.declared.form.Form.TheVariants.{Telnet}
use Rattle.tn_gate.specs.Command.{command_of}
use Rattle.tn_gate.specs.Gate.{Gate, asks_login}
use Rattle.tn_gate.specs.declared.command.Command.{Command}
use Rattle.tn_gate.specs.declared.command.Command.TheVariants.{Connect}

-- ---- the lines of a session

-- a line that was heard, or the end, and what was asked for it and answered
pub record Turn : Type 0 where
  pub heard : Heard
  pub talk : List (Request × Reply)

-- what an act asked and was answered
abbrev pub talk_in : (act : Act) → Outcome act → List (Request × Reply)
talk_in act outcome = answered (asked act outcome)

-- nothing where a line is heard, else this
abbrev pub unless_heard : Act → List (Request × Reply) → List (Request × Reply)
unless_heard (Hear form) talk = []
unless_heard act talk = talk

-- what was asked and answered up to the next line
abbrev pub talk_before : List Deed → List (Request × Reply)
talk_before [] = []
talk_before (deed ∷ deeds) = unless_heard deed.act (talk_in deed.act deed.outcome ++ talk_before deeds)

-- a line that an act heard, if it did, with this talk
abbrev pub turn_in : (act : Act) → Outcome act → List (Request × Reply) → List Turn
turn_in (Hear form) outcome talk = record { heard = heard_by outcome; talk = talk } ∷ []
turn_in act outcome talk = []

-- what these deeds heard, line by line
abbrev pub turns_of : List Deed → List Turn
turns_of [] = []
turns_of (deed ∷ deeds) = turn_in deed.act deed.outcome (talk_before deeds) ++ turns_of deeds

-- the lines that were heard, up to the end of them
abbrev pub lines_in : List Turn → List (Option (List ℕ))
lines_in [] = []
lines_in (turn ∷ turns) = said_by Telnet turn.heard (lines_in turns)

-- ---- the role of each line

pub data Role : Type 0 where
  IsName : Role
  IsResponse : Role
  IsCommand : Role

-- a name that was answered by asking for a password, or for a one-time password
abbrev pub asks_back : Request × Reply → Bool
asks_back (requests.Authenticate name, replies.Password) = true
asks_back (requests.Authenticate name, replies.Challenge number word_seed) = true
asks_back _ = false

-- Where no login is asked for every line is a command, else the first line is a name.
abbrev pub first_role : Gate → Role
first_role gate = if asks_login gate.options then IsName else IsCommand

-- The line after a name that was so answered is a response. After a response that was right every line is a command. Any
-- other line is a name.
abbrev pub role_after : Role → Turn → Role
role_after IsName turn = if list_any asks_back turn.talk then IsResponse else IsName
role_after IsResponse turn = if list_any gives_login turn.talk then IsCommand else IsName
role_after IsCommand turn = IsCommand

-- ---- the destinations

abbrev pub dest_of : Command → List Dest
dest_of (Connect dest) = dest ∷ []
dest_of _ = []

abbrev pub line_dest : Heard → List Dest
line_dest (Line line) = dest_of (command_of line.items)
line_dest _ = []

-- the candidate is that of a command to connect
abbrev pub candidate : Role → Heard → List Dest
candidate IsCommand heard = line_dest heard
candidate _ heard = []

abbrev pub is_same_host : Host → Host → Bool
is_same_host (hosts.Addr one) (hosts.Addr other) = bytes_eq one other
is_same_host (hosts.Name one) (hosts.Name other) = bytes_eq one other
is_same_host _ _ = false

abbrev pub is_telnet : OpService → Bool
is_telnet services.Telnet = true
is_telnet _ = false

-- permission was asked to reach the host
abbrev pub is_about : Host → Request → Bool
is_about host (requests.Operation service other) = is_telnet service && is_same_host host other
is_about host _ = false

abbrev pub grants : Host → Request × Reply → Bool
grants host (request, reply) = is_about host request && is_ok reply

-- A destination is cleared where a login stands in the talk before the line and, with `-extnd`, the permission that was
-- asked for this line and this destination was given.
abbrev pub is_cleared : Gate → List (Request × Reply) → Turn → Dest → Bool
is_cleared gate talk turn dest = login_in talk && (not gate.options.extnd || list_any (grants dest.host) turn.talk)

-- the destinations of the line lets it pass, and, where a login is asked for, it is cleared
abbrev pub is_asked : Gate → List (Request × Reply) → Turn → Dest → Bool
is_asked gate talk turn dest = allows gate.options dest && (not (asks_login gate.options) || is_cleared gate talk turn dest)

abbrev pub asked_in : Gate → Role → List (Request × Reply) → Turn → List Dest
asked_in gate role talk turn = filter (is_asked gate talk turn) (candidate role turn.heard)

-- those of these lines, of which the first has this role, and before which was this talk
abbrev pub asked_from : Gate → Role → List (Request × Reply) → List Turn → List Dest
asked_from gate role talk [] = []
asked_from gate role talk (turn ∷ turns) =
    asked_in gate role talk turn ++ asked_from gate (role_after role turn) (talk ++ turn.talk) turns

-- The destinations that the deeds of a session ask for. Where one came up no line follows
-- (`the_dialogue_ends`), so nothing has to be cut there.
abbrev pub asked_for : Gate → List Deed → List Dest
asked_for gate deeds = asked_from gate (first_role gate) (talk_before deeds) (turns_of deeds)
