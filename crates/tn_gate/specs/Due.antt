-- Which line the log is given right behind what was heard or answered. No place and no row is named here.
use Rattle.std.specs.Prelude.{◌≡◌, ℕ, Bool, true, false, not, ◌||◌, List, [], ◌∷◌, ◌++◌, Option, Some, None, unwrap_or, if◌then◌else◌}
use Rattle.std.specs.Option.{option_map}
use Rattle.auth_events.specs.Login.{is_ok, login_in}
use Rattle.auth_events.specs.declared.reply.Reply.{Reply}
use Rattle.auth_events.specs.declared.reply.Reply.TheVariants as replies
use Rattle.auth_events.specs.declared.request.Request.{Request}
use Rattle.auth_events.specs.declared.request.Request.TheVariants as requests
use Rattle.fw_outside.specs.declared.heard.Heard.{Heard}
use Rattle.fw_outside.specs.declared.heard.Heard.TheVariants.{Line, TooLong, Stopped}
use Rattle.fw_types.specs.Name.{name_of}
use Rattle.fw_types.specs.declared.dest.Dest.{Dest}
use Rattle.gate_rules.specs.Verdict.{allows}
use Rattle.session_acts.specs.Acts.{Act, Outcome}
use Rattle.session_acts.specs.Acts.Act.{Ask, Hear, Log, Note}
use Rattle.session_acts.specs.Deeds.{Deed, gives}
use Rattle.session_acts.specs.Hearing.{heard_by}
use Rattle.session_acts.specs.Met.{reply_of}
use Rattle.session_acts.specs.Talk.{answered, asked}
use Rattle.tn_gate.specs.Asked.{asks_back}
use Rattle.tn_gate.specs.Command.{command_of}
use Rattle.tn_gate.specs.Dialogue.{reason_of, refusing_line}
use Rattle.tn_gate.specs.Gate.{Gate, asks_login}
use Rattle.tn_gate.specs.LogLines.{connect_line, fail_line, login_line, refuse_line}
use Rattle.tn_gate.specs.declared.command.Command.{Command}
use Rattle.tn_gate.specs.declared.command.Command.TheVariants.{Connect}

-- ---- what was heard and asked last

-- the text of a line
abbrev pub text_of : Heard → List ℕ
text_of (Line line) = line.items
text_of heard = []

abbrev pub heard_or : List ℕ → (act : Act) → Outcome act → List ℕ
heard_or text (Hear form) outcome = text_of (heard_by outcome)
heard_or text act outcome = text

abbrev pub heard_from : List ℕ → List Deed → List ℕ
heard_from text [] = text
heard_from text (deed ∷ deeds) = heard_from (heard_or text deed.act deed.outcome) deeds

-- the line that was heard last, which is empty if none was, or one that was too long
abbrev pub heard_last : List Deed → List ℕ
heard_last deeds = heard_from [] deeds

abbrev pub name_in : List ℕ → Request → List ℕ
name_in name (requests.Authenticate other) = other
name_in name request = name

abbrev pub named_or : List ℕ → (act : Act) → Outcome act → List ℕ
named_or name (Ask request) outcome = name_in name request
named_or name act outcome = name

abbrev pub named_from : List ℕ → List Deed → List ℕ
named_from name [] = name
named_from name (deed ∷ deeds) = named_from (named_or name deed.act deed.outcome) deeds

-- the user who was asked about last, and nobody if none was
abbrev pub named_last : List Deed → List ℕ
named_last deeds = named_from [] deeds

-- Whose login a request is about, after these deeds: an opening is for the name that was heard, a response is of the user
-- who was asked about last.
abbrev pub user_asking : List Deed → Request → List ℕ
user_asking before (requests.Open console) = unwrap_or (name_of (heard_last before)) []
user_asking before (requests.Authenticate name) = name
user_asking before request = named_last before

abbrev pub asks_from : Bool → List (Request × Reply) → Bool
asks_from asks [] = asks
asks_from asks (said ∷ more) = asks_from (asks_back said) more

-- the last of what was asked and answered asks for a response
abbrev pub asks_last : List (Request × Reply) → Bool
asks_last talk = asks_from false talk

-- A line is a command, where no login is asked for or one stands.
abbrev pub takes_commands : Gate → List Deed → Bool
takes_commands gate before = not (asks_login gate.options) || login_in (answered (gives asked before))

-- ---- the line that is due

-- By this answer a login failed: no session was opened, the user wasn't asked for a response, or that was wrong.
abbrev pub fails : Request → Reply → Bool
fails (requests.Open console) (replies.Opened sid) = false
fails (requests.Open console) reply = true
fails (requests.Authenticate name) replies.Password = false
fails (requests.Authenticate name) (replies.Challenge number word_seed) = false
fails (requests.Authenticate name) reply = true
fails (requests.Response hash word) replies.Ok = false
fails (requests.Response hash word) reply = true
fails request reply = false

abbrev pub line_toward : (Dest → Option (List ℕ)) → Command → Option (List ℕ)
line_toward line (Connect dest) = line dest
line_toward line command = None

-- Where a destination is wanted: it is refused, or connected to, or with `-extnd` first asked about.
abbrev pub due_wanted : Gate → Dest → Option (List ℕ)
due_wanted gate dest =
    if allows gate.options dest then if gate.options.extnd then None else Some (connect_line gate dest)
    else Some (refuse_line gate dest gate.line)

abbrev pub due_heard : Gate → Bool → Heard → Option (List ℕ)
due_heard gate true (Line line) = line_toward (due_wanted gate) (command_of line.items)
due_heard gate command heard = None

-- Where permission for it was asked: it is connected to, or refused by the line that denies it.
abbrev pub due_permitted : Gate → Reply → Dest → Option (List ℕ)
due_permitted gate reply dest =
    if is_ok reply then Some (connect_line gate dest) else Some (refuse_line gate dest (refusing_line gate.line reply))

abbrev pub due_failed : Gate → List ℕ → Reply → Bool → Option (List ℕ)
due_failed gate name reply true = Some (fail_line gate name (reason_of reply))
due_failed gate name reply false = None

abbrev pub due_answered : Gate → List Deed → Request → Reply → Option (List ℕ)
due_answered gate before (requests.Operation service host) reply = line_toward (due_permitted gate reply) (command_of (heard_last before))
due_answered gate before (requests.Response hash word) replies.Ok = Some (login_line gate (named_last before))
due_answered gate before request reply = due_failed gate (user_asking before request) reply (fails request reply)

abbrev pub due_asked : Gate → List Deed → Request → Option Reply → Option (List ℕ)
due_asked gate before request None = None
due_asked gate before request (Some reply) = due_answered gate before request reply

-- The line that is due after these deeds and then this one, if one is: for each destination that is wanted or was asked
-- about, for each login, and for each login that failed.
abbrev pub due : Gate → List Deed → (act : Act) → Outcome act → Option (List ℕ)
due gate before (Hear form) outcome = due_heard gate (takes_commands gate before) (heard_by outcome)
due gate before (Ask request) outcome = due_asked gate before request (reply_of outcome)
due gate before act outcome = None

-- the act that gives the log a line, if it is one
abbrev pub writes : Act → Option Act
writes (Log line) = Some (Log line)
writes (Note line) = Some (Note line)
writes act = None

abbrev pub writes_first : List Deed → Option Act
writes_first [] = None
writes_first (deed ∷ deeds) = writes deed.act

-- Right behind each deed the line is logged that is due, and else none: no other line is given to the log, and none is left
-- out, be it that the log takes all of it or stops within it.
pub record LogsWhatIsDue (gate : Gate) (deeds : List Deed) : Type 0 where
  pub begins : writes_first deeds ≡ None
  pub goes_on : (before after : List Deed) (deed : Deed) → deeds ≡ before ++ deed ∷ after → writes_first after ≡ option_map Log (due gate before deed.act deed.outcome)
