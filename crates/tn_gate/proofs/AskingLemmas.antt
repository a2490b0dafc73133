-- What the rows ask, and where they end: behind each line the request that is due, and nothing behind the last line.
use Rattle.std.proofs.Common.{◌≡◌, refl, sym, ap, ◌∙◌, ℕ, Bool, true, false, not, ◌&&◌, ◌||◌, List, [], ◌∷◌, ◌++◌, Option, Some, None, Result, Ok, Err}
use Rattle.std.specs.Prelude.{is_some, if◌then◌else◌}
use Rattle.std.specs.Option.{option_map}
use Rattle.auth_events.specs.Login.{gives_login, login_then}
use Rattle.auth_events.specs.declared.denial.Denial.{Denial}
use Rattle.auth_events.specs.declared.reply.Reply.{Reply}
use Rattle.auth_events.specs.declared.reply.Reply.TheVariants as replies
use Rattle.auth_events.specs.declared.request.OpService.TheVariants as services
use Rattle.auth_events.specs.declared.request.Request.{Request}
use Rattle.auth_events.specs.declared.request.Request.TheVariants as requests
use Rattle.fw_acts.specs.Acts.{PlaceTable}
use Rattle.fw_acts.specs.Histories.{Keeps, Leaves, Watch}
use Rattle.fw_outside.specs.declared.heard.Heard.{Heard}
use Rattle.fw_outside.specs.declared.heard.Heard.TheVariants.{Line, TooLong, Stopped}
use Rattle.fw_types.specs.Name.{name_of}
use Rattle.fw_types.specs.declared.dest.Dest.{Dest}
use Rattle.gate_rules.specs.Verdict.{allows}
use Rattle.md5.specs.Md5.{md5}
use Rattle.otp_md5.specs.Hexadecimal.{read_of}
use Rattle.session_acts.specs.Acts.{Act, Outcome}
use Rattle.session_acts.specs.Acts.Act.{Hear, Say, Log, Ask, Dial, Reach, HangUp, Relay, Deposit, OpenDoor, Join}
use Rattle.session_acts.specs.Hearing.{heard_by}
use Rattle.session_acts.specs.Met.{acts, reply_of}
use Rattle.session_acts.specs.Talk.{answered, asked, opened_after}
use Rattle.tn_gate.specs.Asked.{dest_of}
use Rattle.tn_gate.specs.Asking.{IsDue, about_dests, about_name, behind_opening, calls_for}
use Rattle.tn_gate.specs.Command.{command_of}
use Rattle.tn_gate.specs.Dialogue.{answered_row, answering_row, ask_command, ask_name, authenticate_row, command_row, commanding_row, connect_row, dest_row, dialed_row, failed_row, first_by, heard_form, name_row, named_row, naming_row, opened_row, operated_row, permitted_row, reason_of, refuse_row, refusing_line, respond_row, response_row, tn_row, tn_rows}
use Rattle.tn_gate.specs.Due.{asks_from, heard_or}
use Rattle.tn_gate.specs.Ends.{came_up, is_last_heard, is_quit_command, was_reached}
use Rattle.tn_gate.specs.Gate.{Gate, asks_login}
use Rattle.tn_gate.specs.LogLines.{connect_line, fail_line, login_line, refuse_line}
use Rattle.tn_gate.specs.Texts.{help, login_denied, no_route, password_ended, refusal, unknown_command}
use Rattle.tn_gate.specs.declared.command.Command.{Command}
use Rattle.tn_gate.specs.declared.command.Command.TheVariants.{Nothing, Connect, Quit, Help, Unknown}
use Rattle.tn_gate.specs.declared.place.Place.{Place}
use Rattle.tn_gate.specs.declared.place.Place.TheVariants.{Naming, Answering, Commanding}
use Rattle.tn_gate.proofs.AccountLemmas.{Talk}
use Rattle.tn_gate.proofs.DueLemmas.{at_last, clash, still_so}

-- ---- the watch

-- whether a login stands behind what was said, where one did before or not
abbrev pub logins : Bool → Talk → Bool
logins stood [] = stood
logins stood (said ∷ more) = logins (login_then stood said) more

-- the text that was heard last; whether a login stands, and a response is waited for; the session that is open; the request
-- that is due; and whether the dialogue is over
pub record Point : Type 0 where
  pub heard : List ℕ
  pub login : Bool
  pub awaits : Bool
  pub opened : Option ℕ
  pub due : Option Request
  pub over : Bool

abbrev pub commands_at : Gate → Point → Bool
commands_at gate p = not (asks_login gate.options) || p.login

abbrev pub if_told : {Done Halted : Type 0} → Result Done Halted → Option Request → Option Request
if_told (Ok done) due = due
if_told (Err halt) due = None

abbrev pub due_then : Gate → Point → (act : Act) → Outcome act → Option Request
due_then gate p (Hear form) outcome = calls_for gate (commands_at gate p) p.awaits (is_some p.opened) (heard_by outcome)
due_then gate p (Ask request) outcome = behind_opening p.heard (reply_of outcome) request
due_then gate p (Say text) outcome = if_told outcome p.due
due_then gate p act outcome = p.due

abbrev pub ends_at : Gate → Point → (act : Act) → Outcome act → Bool
ends_at gate p (Hear form) outcome = is_last_heard (commands_at gate p) (heard_by outcome)
ends_at gate p (Dial dest) outcome = came_up outcome
ends_at gate p (Reach dest) outcome = was_reached outcome
ends_at gate p act outcome = false

abbrev pub next : Gate → Point → (act : Act) → Outcome act → Point
next gate p act outcome = record {
  heard = heard_or p.heard act outcome;
  login = logins p.login (answered (asked act outcome));
  awaits = asks_from p.awaits (answered (asked act outcome));
  opened = opened_after p.opened (asked act outcome);
  due = due_then gate p act outcome;
  over = ends_at gate p act outcome || p.over;
}

-- an act of a dialogue that goes on
abbrev pub goes_on : Act → Bool
goes_on (Hear form) = true
goes_on (Dial dest) = true
goes_on (Reach dest) = true
goes_on (Deposit sender rcpts words most) = true
goes_on OpenDoor = true
goes_on (Join dest target) = true
goes_on act = false

abbrev pub MayAsk : Option Request → Act → Type 0
MayAsk due (Say text) = Unit {0}
MayAsk due (Ask request) = IsDue due request
MayAsk due (Hear form) = due ≡ None
MayAsk due (Log line) = due ≡ None
MayAsk due (Dial dest) = due ≡ None
MayAsk due HangUp = due ≡ None
MayAsk due Relay = due ≡ None
MayAsk due act = ⊥

pub record May (p : Point) (act : Act) : Type 0 where
  pub asks : MayAsk p.due act
  pub ends : p.over ≡ true → goes_on act ≡ false

abbrev StateAt : Gate → Place → Point → Type 0
StateAt gate (Naming is_open) p = (asks_login gate.options ≡ true) × (p.login ≡ false) × (p.awaits ≡ false) × (is_some p.opened ≡ is_open)
StateAt gate (Answering name hidden) p = (asks_login gate.options ≡ true) × (p.login ≡ false) × (p.awaits ≡ true) × (is_some p.opened ≡ true)
StateAt gate Commanding p = commands_at gate p ≡ true

abbrev WaitsAt : Gate → Place → Point → Type 0
WaitsAt gate place p = (p.due ≡ None) × (p.over ≡ false) × StateAt gate place p

abbrev pub IsOver : Point → Type 0
IsOver p = (p.due ≡ None) × (p.over ≡ true)

abbrev pub asking_watch : (Origin : Type 0) → Gate → Watch (acts Origin) Place
asking_watch Origin gate = record {
  Noted = Point;
  note = λ p act answer. next gate p act (Ok answer);
  may = λ p act. May p act;
  holds = λ p place. WaitsAt gate place p;
  over = λ p. IsOver p;
}

abbrev pub at_start : Point
at_start = record { heard = []; login = false; awaits = false; opened = None; due = None; over = false }

-- ---- what a line comes to

or_false : (b : Bool) → (b || false) ≡ b
or_false true = refl
or_false false = refl

no_commands : (gate : Gate) (p : Point) → asks_login gate.options ≡ true → p.login ≡ false → commands_at gate p ≡ false
no_commands gate p asks login = ap (λ (b : Bool). not b || p.login) asks ∙ login

heard_due : (gate : Gate) (p : Point) (heard : Heard) (commands awaits is_open : Bool) → commands_at gate p ≡ commands → p.awaits ≡ awaits → is_some p.opened ≡ is_open
    → calls_for gate (commands_at gate p) p.awaits (is_some p.opened) heard ≡ calls_for gate commands awaits is_open heard
heard_due gate p heard commands awaits is_open c a o =
    ap (λ (b : Bool). calls_for gate b p.awaits (is_some p.opened) heard) c ∙ ap (λ (b : Bool). calls_for gate commands b (is_some p.opened) heard) a
    ∙ ap (λ (b : Bool). calls_for gate commands awaits b heard) o

-- ---- the rows

module _ (Origin : Type 0) (gate : Gate) where
  abbrev watch : Watch (acts Origin) Place
  watch = asking_watch Origin gate

  ask_name_leaves : (p : Point) (words : List ℕ) (is_open : Bool) → WaitsAt gate (Naming is_open) p → Leaves watch (ask_name words is_open) p
  ask_name_leaves p words is_open waits = (record { asks = tt; ends = λ is. refl }, λ done. waits)

  ask_command_leaves : (p : Point) (words : List ℕ) → WaitsAt gate Commanding p → Leaves watch (ask_command words) p
  ask_command_leaves p words waits = (record { asks = tt; ends = λ is. refl }, λ done. waits)

  -- ---- the login

  failed_leaves : (p : Point) (name : List ℕ) (denial : Denial) (is_open : Bool) → WaitsAt gate (Naming is_open) p → Leaves watch (failed_row gate name denial is_open) p
  failed_leaves p name denial is_open waits =
      (record { asks = waits.0; ends = λ is. refl }, λ logged. ask_name_leaves (next gate p (Log (fail_line gate name denial)) (Ok logged)) login_denied is_open waits)

  module _ (p : Point) (asks : asks_login gate.options ≡ true) (login : p.login ≡ false) (on : p.over ≡ false) where
    none_given : (request : Request) (reply : Reply) → gives_login (request, reply) ≡ false → login_then p.login (request, reply) ≡ false
    none_given request reply none = ap (λ (b : Bool). login_then b (request, reply)) login ∙ ap (λ (b : Bool). b || false) none

    abbrev behind : Request → Reply → Point
    behind request reply = next gate p (Ask request) (Ok reply)

    named_leaves : (name : List ℕ) (reply : Reply) → is_some p.opened ≡ true → Leaves watch (named_row gate name reply) (behind (requests.Authenticate name) reply)
    named_leaves name replies.Password opened =
        (record { asks = tt; ends = λ is. refl }, λ done. (refl, on, (asks, none_given (requests.Authenticate name) replies.Password refl, refl, opened)))
    named_leaves name (replies.Challenge number word_seed) opened =
        (record { asks = tt; ends = λ is. refl }, λ done. (refl, on, (asks, none_given (requests.Authenticate name) (replies.Challenge number word_seed) refl, refl, opened)))
    named_leaves name (replies.Denied denial) opened =
        failed_leaves (behind (requests.Authenticate name) (replies.Denied denial)) name denial true (refl, on, (asks, none_given (requests.Authenticate name) (replies.Denied denial) refl, refl, opened))
    named_leaves name (replies.Opened sid) opened =
        failed_leaves (behind (requests.Authenticate name) (replies.Opened sid)) name (reason_of (replies.Opened sid)) true (refl, on, (asks, none_given (requests.Authenticate name) (replies.Opened sid) refl, refl, opened))
    named_leaves name replies.Ok opened =
        failed_leaves (behind (requests.Authenticate name) replies.Ok) name (reason_of replies.Ok) true (refl, on, (asks, none_given (requests.Authenticate name) replies.Ok refl, refl, opened))
    named_leaves name (replies.Shown summary) opened =
        failed_leaves (behind (requests.Authenticate name) (replies.Shown summary)) name (reason_of (replies.Shown summary)) true
        (refl, on, (asks, none_given (requests.Authenticate name) (replies.Shown summary) refl, refl, opened))

    authenticate_leaves : (name : List ℕ) → p.due ≡ Some (requests.Authenticate name) → is_some p.opened ≡ true → Leaves watch (authenticate_row gate name) p
    authenticate_leaves name due opened = (record { asks = due; ends = λ is. refl }, λ reply. named_leaves name reply opened)

    module _ (name text : List ℕ) (opened : is_some p.opened ≡ true) where
      abbrev response : Request
      response = requests.Response (md5 text) (read_of text)

      wrong_leaves : (reply : Reply) → behind_opening p.heard (Some reply) response ≡ None → gives_login (response, reply) ≡ false → (behind response reply).awaits ≡ false
          → Leaves watch (failed_row gate name (reason_of reply) true) (behind response reply)
      wrong_leaves reply none gives_none awaits = failed_leaves (behind response reply) name (reason_of reply) true (none, on, (asks, none_given response reply gives_none, awaits, opened))

      answered_leaves : (reply : Reply) → Leaves watch (answered_row gate name reply) (behind response reply)
      answered_leaves replies.Ok = (
        record { asks = refl; ends = λ is. refl },
        λ logged. ask_command_leaves (next gate (behind response replies.Ok) (Log (login_line gate name)) (Ok logged)) [] (refl, on, at_last (not (asks_login gate.options))),
      )
      answered_leaves (replies.Denied denial) = wrong_leaves (replies.Denied denial) refl refl refl
      answered_leaves (replies.Opened sid) = wrong_leaves (replies.Opened sid) refl refl refl
      answered_leaves replies.Password = wrong_leaves replies.Password refl refl refl
      answered_leaves (replies.Challenge number word_seed) = wrong_leaves (replies.Challenge number word_seed) refl refl refl
      answered_leaves (replies.Shown summary) = wrong_leaves (replies.Shown summary) refl refl refl

      respond_leaves : p.due ≡ Some response → Leaves watch (respond_row gate name text) p
      respond_leaves due = (record { asks = due; ends = λ is. refl }, λ reply. answered_leaves reply)

  module _ (p : Point) (asks : asks_login gate.options ≡ true) (login : p.login ≡ false) (on : p.over ≡ false) (name : List ℕ) (said : name_of p.heard ≡ Some name) (shut : is_some p.opened ≡ false) where
    abbrev opening : Reply → Point
    opening reply = next gate p (Ask (requests.Open false)) (Ok reply)

    shut_leaves : (reply : Reply) → (opening reply).due ≡ None → (opening reply).awaits ≡ false → is_some (opening reply).opened ≡ false → Leaves watch (failed_row gate name (reason_of reply) false) (opening reply)
    shut_leaves reply none awaits still = failed_leaves (opening reply) name (reason_of reply) false (none, on, (asks, none_given p asks login on (requests.Open false) reply refl, awaits, still))

    opened_leaves : (reply : Reply) → Leaves watch (opened_row gate name reply) (opening reply)
    opened_leaves (replies.Opened sid) =
        authenticate_leaves (opening (replies.Opened sid)) asks (none_given p asks login on (requests.Open false) (replies.Opened sid) refl) on name (ap (λ (n : Option (List ℕ)). option_map requests.Authenticate n) said) refl
    opened_leaves (replies.Denied denial) = shut_leaves (replies.Denied denial) refl refl shut
    opened_leaves replies.Password = shut_leaves replies.Password refl refl shut
    opened_leaves (replies.Challenge number word_seed) = shut_leaves (replies.Challenge number word_seed) refl refl shut
    opened_leaves replies.Ok = shut_leaves replies.Ok refl refl shut
    opened_leaves (replies.Shown summary) = shut_leaves (replies.Shown summary) refl refl shut

  name_leaves : (p : Point) (is_open : Bool) (name : List ℕ) → p.due ≡ Some (about_name is_open name) → name_of p.heard ≡ Some name → asks_login gate.options ≡ true → p.login ≡ false → p.over ≡ false → is_some p.opened ≡ is_open
      → Leaves watch (name_row gate is_open (Some name)) p
  name_leaves p true name due said asks login on opened = authenticate_leaves p asks login on name due opened
  name_leaves p false name due said asks login on opened = (record { asks = due; ends = λ is. refl }, λ reply. opened_leaves p asks login on name said opened reply)

  -- behind a line where no command is taken
  module _ (p : Point) (heard : Heard) where
    abbrev now : Point
    now = next gate p (Hear heard_form) (Ok heard)

    goes_on_still : commands_at gate p ≡ false → p.over ≡ false → is_last_heard false heard ≡ false → now.over ≡ false
    goes_on_still commands on more =
        ap (λ (b : Bool). is_last_heard b heard || p.over) commands ∙ ap (λ (b : Bool). b || p.over) more ∙ on

  naming_leaves : (p : Point) (is_open : Bool) (heard : Heard) → WaitsAt gate (Naming is_open) p → Leaves watch (naming_row gate is_open heard) (next gate p (Hear heard_form) (Ok heard))
  naming_leaves p is_open (Line line) waits = choose (name_of line.items) refl
    where
      none : commands_at gate p ≡ false
      none = no_commands gate p waits.2.0 waits.2.1

      due : (now p (Line line)).due ≡ option_map (about_name is_open) (name_of line.items)
      due = heard_due gate p (Line line) false false is_open none waits.2.2 waits.2.3

      choose : (name : Option (List ℕ)) → name_of line.items ≡ name → Leaves watch (name_row gate is_open name) (now p (Line line))
      choose None is = ask_name_leaves (now p (Line line)) login_denied is_open (due ∙ ap (λ (n : Option (List ℕ)). option_map (about_name is_open) n) is, goes_on_still p (Line line) none waits.1 refl, waits.2)
      choose (Some name) is =
          name_leaves (now p (Line line)) is_open name (due ∙ ap (λ (n : Option (List ℕ)). option_map (about_name is_open) n) is) is waits.2.0 waits.2.1 (goes_on_still p (Line line) none waits.1 refl) waits.2.3
  naming_leaves p is_open TooLong waits =
      ask_name_leaves (now p TooLong) login_denied is_open (heard_due gate p TooLong false false is_open (no_commands gate p waits.2.0 waits.2.1) waits.2.2 waits.2.3, waits.1, waits.2)
  naming_leaves p is_open (Stopped stop) waits = (heard_due gate p (Stopped stop) false false is_open (no_commands gate p waits.2.0 waits.2.1) waits.2.2 waits.2.3, refl)

  -- ---- the response

  response_leaves : (p : Point) (name : List ℕ) (hidden : Bool) (text : List ℕ) → p.due ≡ Some (requests.Response (md5 text) (read_of text)) → asks_login gate.options ≡ true → p.login ≡ false → p.over ≡ false → is_some p.opened ≡ true
      → Leaves watch (response_row gate name hidden text) p
  response_leaves p name true text due asks login on opened =
      (record { asks = tt; ends = λ is. refl }, λ done. respond_leaves (next gate p (Say password_ended) (Ok done)) asks login on name text opened due)
  response_leaves p name false text due asks login on opened = respond_leaves p asks login on name text opened due

  answering_leaves : (p : Point) (name : List ℕ) (hidden : Bool) (heard : Heard) → WaitsAt gate (Answering name hidden) p → Leaves watch (answering_row gate name hidden heard) (next gate p (Hear heard_form) (Ok heard))
  answering_leaves p name hidden (Line line) waits =
      let none = no_commands gate p waits.2.0 waits.2.1 in
      response_leaves (now p (Line line)) name hidden line.items (heard_due gate p (Line line) false true true none waits.2.2 waits.2.3) waits.2.0 waits.2.1 (goes_on_still p (Line line) none waits.1 refl) waits.2.3
  answering_leaves p name hidden TooLong waits =
      response_leaves (now p TooLong) name hidden [] (heard_due gate p TooLong false true true (no_commands gate p waits.2.0 waits.2.1) waits.2.2 waits.2.3) waits.2.0 waits.2.1 waits.1 waits.2.3
  answering_leaves p name hidden (Stopped stop) waits = (heard_due gate p (Stopped stop) false true true (no_commands gate p waits.2.0 waits.2.1) waits.2.2 waits.2.3, refl)

  -- ---- destinations

  refuse_leaves : (p : Point) (dest : Dest) (number : ℕ) → WaitsAt gate Commanding p → Leaves watch (refuse_row gate dest number) p
  refuse_leaves p dest number waits =
      (record { asks = waits.0; ends = λ is. refl }, λ logged. ask_command_leaves (next gate p (Log (refuse_line gate dest number)) (Ok logged)) (refusal number) waits)

  dialed_leaves : (p : Point) (dest : Dest) (up : Bool) → WaitsAt gate Commanding p → Leaves watch (dialed_row up) (next gate p (Dial dest) (Ok up))
  dialed_leaves p dest true waits = (record { asks = tt; ends = λ is. refl }, λ done. (waits.0, refl))
  dialed_leaves p dest false waits = ask_command_leaves (next gate p (Dial dest) (Ok false)) no_route waits

  connect_leaves : (p : Point) (dest : Dest) → WaitsAt gate Commanding p → Leaves watch (connect_row gate dest) p
  connect_leaves p dest waits = (
    record { asks = waits.0; ends = λ is. refl },
    λ logged. (
      record { asks = waits.0; ends = λ is. clash (sym waits.1 ∙ is) },
      λ up. dialed_leaves (next gate p (Log (connect_line gate dest)) (Ok logged)) dest up waits,
    ),
  )

  module _ (p : Point) (dest : Dest) (on : p.over ≡ false) (stands : commands_at gate p ≡ true) where
    abbrev operation : Request
    operation = requests.Operation services.Telnet dest.host

    abbrev permission : Reply → Point
    permission reply = next gate p (Ask operation) (Ok reply)

    unpermitted_leaves : (reply : Reply) → (permission reply).due ≡ None → Leaves watch (refuse_row gate dest (refusing_line gate.line reply)) (permission reply)
    unpermitted_leaves reply none = refuse_leaves (permission reply) dest (refusing_line gate.line reply) (none, on, still_so (not (asks_login gate.options)) p.login stands)

    operated_leaves : (reply : Reply) → Leaves watch (operated_row gate dest reply) (permission reply)
    operated_leaves replies.Ok = connect_leaves (permission replies.Ok) dest (refl, on, still_so (not (asks_login gate.options)) p.login stands)
    operated_leaves (replies.Denied denial) = unpermitted_leaves (replies.Denied denial) refl
    operated_leaves (replies.Opened sid) = unpermitted_leaves (replies.Opened sid) refl
    operated_leaves replies.Password = unpermitted_leaves replies.Password refl
    operated_leaves (replies.Challenge number word_seed) = unpermitted_leaves (replies.Challenge number word_seed) refl
    operated_leaves (replies.Shown summary) = unpermitted_leaves (replies.Shown summary) refl

    abbrev asked_if : Bool → Option Request
    asked_if b = if b then Some operation else None

    permitted_leaves : (extnd : Bool) → p.due ≡ asked_if extnd → Leaves watch (permitted_row extnd gate dest) p
    permitted_leaves true due = (record { asks = due; ends = λ is. refl }, λ reply. operated_leaves reply)
    permitted_leaves false due = connect_leaves p dest (due, on, stands)

    dest_leaves : (allowed : Bool) → p.due ≡ asked_if (allowed && gate.options.extnd) → Leaves watch (dest_row allowed gate dest) p
    dest_leaves true due = permitted_leaves gate.options.extnd due
    dest_leaves false due = refuse_leaves p dest gate.line (due, on, stands)

  -- ---- commands

  command_leaves : (p : Point) (command : Command) → p.due ≡ about_dests gate (dest_of command) → p.over ≡ is_quit_command command → commands_at gate p ≡ true → Leaves watch (command_row gate command) p
  command_leaves p Nothing due over stands = ask_command_leaves p [] (due, over, stands)
  command_leaves p (Connect dest) due over stands = dest_leaves p dest over stands (allows gate.options dest) due
  command_leaves p Quit due over stands = (record { asks = tt; ends = λ is. refl }, λ done. (due, over))
  command_leaves p Help due over stands = ask_command_leaves p help (due, over, stands)
  command_leaves p Unknown due over stands = ask_command_leaves p unknown_command (due, over, stands)

  commanding_leaves : (p : Point) (heard : Heard) → WaitsAt gate Commanding p → Leaves watch (commanding_row gate heard) (next gate p (Hear heard_form) (Ok heard))
  commanding_leaves p (Line line) waits =
      command_leaves (now p (Line line)) (command_of line.items) (ap (λ (b : Bool). calls_for gate b p.awaits (is_some p.opened) (Line line)) waits.2)
      (ap (λ (b : Bool). is_last_heard b (Line line) || p.over) waits.2 ∙ ap (λ (b : Bool). is_quit_command (command_of line.items) || b) waits.1 ∙ or_false (is_quit_command (command_of line.items))) waits.2
  commanding_leaves p TooLong waits = command_leaves (now p TooLong) Unknown (ap (λ (b : Bool). calls_for gate b p.awaits (is_some p.opened) TooLong) waits.2) waits.1 waits.2
  commanding_leaves p (Stopped stop) waits = (ap (λ (b : Bool). calls_for gate b p.awaits (is_some p.opened) (Stopped stop)) waits.2, refl)

  -- ---- the table

  abbrev own : PlaceTable (acts Origin) Place
  own = tn_rows gate

  place_leaves : (place : Place) (p : Point) (heard : Heard) → WaitsAt gate place p → Leaves watch (own.go place heard) (next gate p (Hear heard_form) (Ok heard))
  place_leaves (Naming is_open) p heard waits = naming_leaves p is_open heard waits
  place_leaves (Answering name hidden) p heard waits = answering_leaves p name hidden heard waits
  place_leaves Commanding p heard waits = commanding_leaves p heard waits

  pub rows_ask : Keeps own watch
  rows_ask place p waits = (record { asks = waits.0; ends = λ is. clash (sym waits.1 ∙ is) }, λ heard. place_leaves place p heard waits)

  first_leaves : (asks : Bool) → asks_login gate.options ≡ asks → Leaves watch (first_by asks) at_start
  first_leaves true asks = ask_name_leaves at_start [] false (refl, refl, (asks, refl, refl, refl))
  first_leaves false asks = ask_command_leaves at_start [] (refl, refl, ap (λ (b : Bool). not b || false) asks)

  pub first_asks : Leaves watch (tn_row gate) at_start
  first_asks = first_leaves (asks_login gate.options) refl
