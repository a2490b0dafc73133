-- The dialogue of `tn-gw`, row by row, before its relay.
use Rattle.std.specs.Prelude.{ℕ, Bool, true, false, List, [], ◌∷◌, ◌++◌, Option, Some, None, if◌then◌else◌}
use Rattle.auth_events.specs.declared.denial.Denial.{Denial}
use Rattle.auth_events.specs.declared.denial.Denial.TheVariants.{NoRule, NotIn}
use Rattle.auth_events.specs.declared.reply.Reply.{Reply}
use Rattle.auth_events.specs.declared.reply.Reply.TheVariants as replies
use Rattle.auth_events.specs.declared.request.OpService.TheVariants as services
use Rattle.auth_events.specs.declared.request.Request.TheVariants as requests
use Rattle.fw_acts.specs.Acts.{Row, PlaceTable}
use Rattle.fw_acts.specs.Acts.Row.{Do, At, Over}
use Rattle.fw_outside.specs.declared.heard.Heard.{Heard}
use Rattle.fw_outside.specs.declared.heard.Heard.TheVariants.{Line, TooLong, Stopped}
use Rattle.fw_types.specs.Name.{name_of}
use Rattle.fw_types.specs.declared.dest.Dest.{Dest}
use Rattle.gate_rules.specs.Verdict.{allows}
use Rattle.md5.specs.Md5.{md5}
use Rattle.otp_md5.specs.Hexadecimal.{read_of}
use Rattle.session_acts.specs.Acts.{Act, Answer}
use Rattle.session_acts.specs.Acts.Act.{Ask, Dial, Hear, Log, Say}
use Rattle.session_acts.specs.Met.{acts}
use Rattle.session_acts.specs.declared.form.Form.{Form}
use Rattle.session_acts.specs.declared.form.Form.TheVariants as forms
use Rattle.tn_gate.specs.Command.{command_of}
use Rattle.tn_gate.specs.Gate.{Gate, asks_login}
use Rattle.tn_gate.specs.LogLines.{connect_line, fail_line, login_line, refuse_line}
use Rattle.tn_gate.specs.Texts.{challenge_asked, command_prompt, connected, goodbye, help, login_denied, name_prompt, no_route, password_asked, password_ended, refusal, unknown_command}
use Rattle.tn_gate.specs.declared.command.Command.{Command}
use Rattle.tn_gate.specs.declared.command.Command.TheVariants.{Nothing, Connect, Quit, Help, Unknown}
use Rattle.tn_gate.specs.declared.place.Place.{Place}
use Rattle.tn_gate.specs.declared.place.Place.TheVariants.{Naming, Answering, Commanding}

-- the form in which the client is heard
abbrev pub heard_form : Form
heard_form = forms.Telnet

-- at each place a line of the client is waited for: a name, the response of a user, or a command
abbrev pub act_at : Place → Act
act_at place = Hear heard_form

-- Why a login is denied. A reply that is neither a denial nor fits its request doesn't come (`Fits` of `auth_events`);
-- nobody would be logged in by it.
abbrev pub reason_of : Reply → Denial
reason_of (replies.Denied denial) = denial
reason_of _ = NotIn

-- the number of the line that denies an operation, where a line does, else that of the permission line
abbrev pub line_of_denial : ℕ → Denial → ℕ
line_of_denial line (NoRule number) = number
line_of_denial line _ = line

abbrev pub refusing_line : ℕ → Reply → ℕ
refusing_line line (replies.Denied denial) = line_of_denial line denial
refusing_line line _ = line

module _ {Origin : Type 0} where
  -- words for the client, and the prompt for a name; whether a session is open at the port
  abbrev pub ask_name : List ℕ → Bool → Row (acts Origin) Place
  ask_name words open_ = Do (Say (words ++ name_prompt)) (λ done. At (Naming open_))

  -- words for the client, and the prompt for a command
  abbrev pub ask_command : List ℕ → Row (acts Origin) Place
  ask_command words = Do (Say (words ++ command_prompt)) (λ done. At Commanding)

  -- ---- the login

  -- a failure is logged, and then told
  abbrev pub failed_row : Gate → List ℕ → Denial → Bool → Row (acts Origin) Place
  failed_row gate name denial open_ = Do (Log (fail_line gate name denial)) (λ logged. ask_name login_denied open_)

  -- a password is to be typed unseen, a one-time password may be seen
  abbrev pub named_row : Gate → List ℕ → Reply → Row (acts Origin) Place
  named_row gate name replies.Password = Do (Say password_asked) (λ done. At (Answering name true))
  named_row gate name (replies.Challenge number word_seed) = Do (Say (challenge_asked number word_seed)) (λ done. At (Answering name false))
  named_row gate name reply = failed_row gate name (reason_of reply) true

  abbrev pub authenticate_row : Gate → List ℕ → Row (acts Origin) Place
  authenticate_row gate name = Do (Ask (requests.Authenticate name)) (named_row gate name)

  -- where no session was opened, that counts as the answer to the name, and the next name opens one
  abbrev pub opened_row : Gate → List ℕ → Reply → Row (acts Origin) Place
  opened_row gate name (replies.Opened sid) = authenticate_row gate name
  opened_row gate name reply = failed_row gate name (reason_of reply) false

  -- a text that is no name is asked nothing about
  abbrev pub name_row : Gate → Bool → Option (List ℕ) → Row (acts Origin) Place
  name_row gate open_ None = ask_name login_denied open_
  name_row gate true (Some name) = authenticate_row gate name
  name_row gate false (Some name) = Do (Ask (requests.Open false)) (opened_row gate name)

  abbrev pub naming_row : Gate → Bool → Heard → Row (acts Origin) Place
  naming_row gate open_ (Line line) = name_row gate open_ (name_of line.items)
  naming_row gate open_ TooLong = name_row gate open_ None
  naming_row gate open_ (Stopped stop) = Over

  -- a login is logged
  abbrev pub answered_row : Gate → List ℕ → Reply → Row (acts Origin) Place
  answered_row gate name replies.Ok = Do (Log (login_line gate name)) (λ logged. ask_command [])
  answered_row gate name reply = failed_row gate name (reason_of reply) true

  abbrev pub respond_row : Gate → List ℕ → List ℕ → Row (acts Origin) Place
  respond_row gate name text = Do (Ask (requests.Response (md5 text) (read_of text))) (answered_row gate name)

  -- the line of a response that was hidden is ended first
  abbrev pub response_row : Gate → List ℕ → Bool → List ℕ → Row (acts Origin) Place
  response_row gate name true text = Do (Say password_ended) (λ done. respond_row gate name text)
  response_row gate name false text = respond_row gate name text

  -- one that is too long counts as empty
  abbrev pub answering_row : Gate → List ℕ → Bool → Heard → Row (acts Origin) Place
  answering_row gate name hidden (Line line) = response_row gate name hidden line.items
  answering_row gate name hidden TooLong = response_row gate name hidden []
  answering_row gate name hidden (Stopped stop) = Over

  -- ---- destinations

  -- a refusal is logged, and then told
  abbrev pub refuse_row : Gate → Dest → ℕ → Row (acts Origin) Place
  refuse_row gate dest line = Do (Log (refuse_line gate dest line)) (λ logged. ask_command (refusal line))

  -- where a link came up the dialogue is over, and a relay follows
  abbrev pub dialed_row : Bool → Row (acts Origin) Place
  dialed_row true = Do (Say connected) (λ done. Over)
  dialed_row false = ask_command no_route

  abbrev pub connect_row : Gate → Dest → Row (acts Origin) Place
  connect_row gate dest = Do (Log (connect_line gate dest)) (λ logged. Do (Dial dest) dialed_row)

  abbrev pub operated_row : Gate → Dest → Reply → Row (acts Origin) Place
  operated_row gate dest replies.Ok = connect_row gate dest
  operated_row gate dest reply = refuse_row gate dest (refusing_line gate.line reply)

  abbrev pub operation_row : Gate → Dest → Row (acts Origin) Place
  operation_row gate dest = Do (Ask (requests.Operation services.Telnet dest.host)) (operated_row gate dest)

  -- with `-extnd` the rules on operations decide a destination, too
  abbrev pub permitted_row : Bool → Gate → Dest → Row (acts Origin) Place
  permitted_row true gate dest = operation_row gate dest
  permitted_row false gate dest = connect_row gate dest

  abbrev pub dest_row : Bool → Gate → Dest → Row (acts Origin) Place
  dest_row true gate dest = permitted_row gate.options.extnd gate dest
  dest_row false gate dest = refuse_row gate dest gate.line

  -- ---- commands

  abbrev pub command_row : Gate → Command → Row (acts Origin) Place
  command_row gate Nothing = ask_command []
  command_row gate (Connect dest) = dest_row (allows gate.options dest) gate dest
  command_row gate Quit = Do (Say goodbye) (λ done. Over)
  command_row gate Help = ask_command help
  command_row gate Unknown = ask_command unknown_command

  abbrev pub commanding_row : Gate → Heard → Row (acts Origin) Place
  commanding_row gate (Line line) = command_row gate (command_of line.items)
  commanding_row gate TooLong = command_row gate Unknown
  commanding_row gate (Stopped stop) = Over

  -- ---- the table

  abbrev pub row_at : Gate → (place : Place) → Heard → Row (acts Origin) Place
  row_at gate (Naming open_) heard = naming_row gate open_ heard
  row_at gate (Answering name hidden) heard = answering_row gate name hidden heard
  row_at gate Commanding heard = commanding_row gate heard

  abbrev pub tn_rows : Gate → PlaceTable (acts Origin) Place
  tn_rows gate = record { act = act_at; go = row_at gate }

  -- a login is asked for before any command, where the line asks for one
  abbrev pub first_by : Bool → Row (acts Origin) Place
  first_by true = ask_name [] false
  first_by false = ask_command []

  abbrev pub tn_row : Gate → Row (acts Origin) Place
  tn_row gate = first_by (asks_login gate.options)
