-- Which request is asked for what was heard or answered. No place and no row is named here.
use Rattle.std.specs.Prelude.{◌≡◌, ℕ, Bool, true, false, ◌&&◌, List, [], ◌∷◌, ◌++◌, is_some, Option, Some, None, Result, Ok, Err, if◌then◌else◌}
use Rattle.std.specs.Option.{option_map}
use Rattle.auth_events.specs.declared.reply.Reply.{Reply}
use Rattle.auth_events.specs.declared.reply.Reply.TheVariants as replies
use Rattle.auth_events.specs.declared.request.OpService.TheVariants as services
use Rattle.auth_events.specs.declared.request.Request.{Request}
use Rattle.auth_events.specs.declared.request.Request.TheVariants as requests
use Rattle.fw_outside.specs.declared.heard.Heard.{Heard}
use Rattle.fw_outside.specs.declared.heard.Heard.TheVariants.{Line, Stopped}
use Rattle.fw_types.specs.Name.{name_of}
use Rattle.fw_types.specs.declared.dest.Dest.{Dest}
use Rattle.gate_rules.specs.Verdict.{allows}
use Rattle.md5.specs.Md5.{md5}
use Rattle.otp_md5.specs.Hexadecimal.{read_of}
use Rattle.session_acts.specs.Acts.{Act, Outcome}
use Rattle.session_acts.specs.Acts.Act.{Ask, Hear, Renew, Say}
use Rattle.session_acts.specs.Deeds.{Deed, gives}
use Rattle.session_acts.specs.Hearing.{heard_by}
use Rattle.session_acts.specs.Met.{reply_of}
use Rattle.session_acts.specs.Talk.{answered, asked, opened_after}
use Rattle.tn_gate.specs.Asked.{line_dest}
use Rattle.tn_gate.specs.Due.{asks_last, heard_last, takes_commands, text_of}
use Rattle.tn_gate.specs.Gate.{Gate}

-- ---- what a line calls for

-- With `-extnd` permission is asked for the destination of a command to connect, if `-dest` lets it pass.
abbrev pub about_dests : Gate → List Dest → Option Request
about_dests gate [] = None
about_dests gate (dest ∷ dests) =
    if allows gate.options dest && gate.options.extnd then Some (requests.Operation services.Telnet dest.host) else None

-- A response is the text that was typed, which is empty where it was too long.
abbrev pub response_said : Heard → Option Request
response_said (Stopped stop) = None
response_said heard = Some (requests.Response (md5 (text_of heard)) (read_of (text_of heard)))

abbrev pub name_said : Heard → Option (List ℕ)
name_said (Line line) = name_of line.items
name_said heard = None

-- A name is asked about where a session is open, and else one is opened first.
abbrev pub about_name : Bool → List ℕ → Request
about_name true name = requests.Authenticate name
about_name false name = requests.Open false

-- of a line where commands are taken; where not, and a response is waited for; and where neither, and a session is open or not
abbrev pub calls_for : Gate → Bool → Bool → Bool → Heard → Option Request
calls_for gate true awaits is_open heard = about_dests gate (line_dest heard)
calls_for gate false true is_open heard = response_said heard
calls_for gate false false is_open heard = option_map (about_name is_open) (name_said heard)

-- ---- what an answer calls for

-- behind an opening the name that was heard is asked about
abbrev pub behind_opening : List ℕ → Option Reply → Request → Option Request
behind_opening text (Some (replies.Opened sid)) (requests.Open console) = option_map requests.Authenticate (name_of text)
behind_opening text reply request = None

-- ---- the request that is due

-- after these deeds and then this one, which hears or asks
abbrev pub due_request : Gate → List Deed → (act : Act) → Outcome act → Option Request
due_request gate before (Hear form) outcome =
    calls_for gate (takes_commands gate before) (asks_last (answered (gives asked before))) (is_some (opened_after None (gives asked before))) (heard_by outcome)
due_request gate before (Ask request) outcome = behind_opening (heard_last before) (reply_of outcome) request
due_request gate before act outcome = None

abbrev pub is_heard_or_asked : Act → Bool
is_heard_or_asked (Hear form) = true
is_heard_or_asked (Ask request) = true
is_heard_or_asked act = false

-- A session is closed where no request is due.
abbrev pub IsDue : Option Request → Request → Type 0
IsDue due requests.Close = due ≡ None
IsDue due request = due ≡ Some request

abbrev pub UnlessCut : {Done Halted : Type 0} → Result Done Halted → Type 0 → Type 0
UnlessCut (Ok done) Later = Later
UnlessCut (Err halt) Later = Unit {0}

abbrev pub AsksAt : Option Request → (act : Act) → Outcome act → Type 0 → Type 0
AsksAt due (Hear form) outcome Later = due ≡ None
AsksAt due (Ask request) outcome Later = IsDue due request
AsksAt due (Renew name hash) outcome Later = ⊥
AsksAt due (Say text) outcome Later = UnlessCut outcome Later
AsksAt due act outcome Later = Later

-- Before a further line is heard, and before the end, the request that is due is asked, and else none, unless the session
-- stops at a text that the client can't be told.
abbrev pub AsksNext : Option Request → List Deed → Type 0
AsksNext due [] = due ≡ None
AsksNext due (deed ∷ deeds) = AsksAt due deed.act deed.outcome (AsksNext due deeds)

-- So it is behind each line that is heard and each request, and nothing is asked before the first line.
pub record AsksWhatIsDue (gate : Gate) (deeds : List Deed) : Type 0 where
  pub begins : AsksNext None deeds
  pub goes_on : (before after : List Deed) (deed : Deed) → deeds ≡ before ++ deed ∷ after → is_heard_or_asked deed.act ≡ true → AsksNext (due_request gate before deed.act deed.outcome) after
