-- The dialogue of `ftp-gw`, row by row: what is done for a line of the client, and with the server's replies.
use Rattle.std.specs.Prelude.{ℕ, Bool, true, false, ◌&&◌, ◌==◌, ◌/◌, not, nat_le, List, [], ◌++◌, codes, Option, Some, None, if◌then◌else◌}
use Rattle.std.specs.Option.{option_map}
use Rattle.std.specs.Str.{bytes_eq}
use Rattle.auth_events.specs.Login.{is_full}
use Rattle.auth_events.specs.declared.denial.Denial.{Denial}
use Rattle.auth_events.specs.declared.denial.Denial.TheVariants.{NoRule, NotIn}
use Rattle.auth_events.specs.declared.reply.Reply.{Reply}
use Rattle.auth_events.specs.declared.reply.Reply.TheVariants as replies
use Rattle.auth_events.specs.declared.request.OpService.TheVariants as services
use Rattle.auth_events.specs.declared.request.Request.TheVariants as requests
use Rattle.ftp_lines.specs.Six.{six_of}
use Rattle.fw_acts.specs.Acts.{Row, PlaceTable}
use Rattle.fw_acts.specs.Acts.Row.{Do, At, Over}
use Rattle.fw_outside.specs.declared.heard.Heard.{Heard}
use Rattle.fw_outside.specs.declared.heard.Heard.TheVariants.{Line, TooLong, Stopped}
use Rattle.fw_types.specs.Name.{name_of}
use Rattle.fw_types.specs.declared.dest.Dest.{Dest}
use Rattle.gate_rules.specs.Verdict.{allows}
use Rattle.md5.specs.Md5.{md5}
use Rattle.otp_md5.specs.Hexadecimal.{read_of}
use Rattle.relay_ways.specs.declared.way_end.WayEnd.{WayEnd}
use Rattle.relay_ways.specs.declared.way_end.WayEnd.TheVariants as ways
use Rattle.session_acts.specs.Acts.{Act, Answer}
use Rattle.session_acts.specs.Acts.Act.{Ask, Copy, Dial, HangUp, Hear, Join, Log, OpenDoor, Part, Pass, Say, TakeReply}
use Rattle.session_acts.specs.Met.{acts}
use Rattle.session_acts.specs.declared.form.Form.{Form}
use Rattle.session_acts.specs.declared.form.Form.TheVariants as forms
use Rattle.session_acts.specs.declared.joined.Joined.{Joined}
use Rattle.session_acts.specs.declared.joined.Joined.TheVariants as joins
use Rattle.session_acts.specs.declared.reply_use.ReplyUse.TheVariants.{Passed, Dropped, Greeting}
use Rattle.session_acts.specs.declared.replied.Replied.{Replied}
use Rattle.session_acts.specs.declared.replied.Replied.TheVariants as replied
use Rattle.session_acts.specs.declared.target.Target.{Target}
use Rattle.session_acts.specs.declared.target.Target.TheVariants.{Addr, AtDoor}
use Rattle.session_acts.specs.declared.toward.Toward.{Toward}
use Rattle.ftp_gate.specs.Gate.{Gate, asks_login, has_verb}
use Rattle.ftp_gate.specs.Kind.{is_quit, kind_of}
use Rattle.ftp_gate.specs.LogLines.{blocked_line, command_line, connect_line, fail_line, login_line, refuse_line}
use Rattle.ftp_gate.specs.Order.{Order, order_of}
use Rattle.ftp_gate.specs.Texts as texts
use Rattle.ftp_gate.specs.User.{name_there, user_of}
use Rattle.ftp_gate.specs.declared.place.Account.{Account}
use Rattle.ftp_gate.specs.declared.place.Account.TheVariants.{Unopened, Opened}
use Rattle.ftp_gate.specs.declared.kind.Kind.{Kind}
use Rattle.ftp_gate.specs.declared.kind.Kind.TheVariants as kinds
use Rattle.ftp_gate.specs.declared.kind.Outward.{Outward}
use Rattle.ftp_gate.specs.declared.kind.Outward.TheVariants.{User, Served}
use Rattle.ftp_gate.specs.declared.kind.Served as served
use Rattle.ftp_gate.specs.declared.kind.Served.TheVariants.{Port, Pasv, Extended, Transfer, Quit, Other}
use Rattle.ftp_gate.specs.declared.place.Place.{Place}
use Rattle.ftp_gate.specs.declared.place.Place.TheVariants.{Listening, Answering, Dropping}
use Rattle.ftp_gate.specs.declared.place.State.{State}

-- the form in which the client is heard
abbrev pub heard_form : Form
heard_form = forms.Lines

-- A line of the client is waited for, or a reply of the server, which is passed, or read and not passed.
abbrev pub act_at : Place → Act
act_at (Listening state) = Hear heard_form
act_at (Answering state quits) = TakeReply Passed
act_at (Dropping state) = TakeReply Dropped

-- ---- what a session knows

abbrev pub with_account : Account → State → State
with_account account state = record state { account = account }

abbrev pub with_setting : Option Target → State → State
with_setting setting state = record state { setting = setting }

abbrev pub with_dest : Dest → State → State
with_dest dest state = record state { dest = Some dest }

-- whether a login stands
abbrev pub is_in : Account → Bool
is_in Unopened = false
is_in (Opened name logged_in) = logged_in

-- ---- replies and denials

-- Why a login is denied. A reply that is neither a denial nor fits its request doesn't come (`Fits` of `auth_events`);
-- nobody would be logged in by it.
abbrev pub reason_of : Reply → Denial
reason_of (replies.Denied denial) = denial
reason_of _ = NotIn

-- the number of the line that denies an operation, where a line does, else that of the permission line
abbrev pub line_of_denial : ℕ → Denial → ℕ
line_of_denial line (NoRule number) = number
line_of_denial line _ = line

abbrev pub refusing_line : ℕ → Reply → ℕ
refusing_line line (replies.Denied denial) = line_of_denial line denial
refusing_line line _ = line

-- a reply of the server with this code goes on, or says that it is well
abbrev pub goes_on : ℕ → Bool
goes_on code = code / 100 == 1

abbrev pub is_well : ℕ → Bool
is_well code = code / 100 == 2

-- the port that a reply to `PASV` names, if it does
abbrev pub port_in : Option (List ℕ × ℕ) → Option ℕ
port_in None = None
port_in (Some six) = Some six.1

abbrev pub data_port : ℕ → Option (List ℕ × ℕ) → Option ℕ
data_port code six = if code == 227 then port_in six else None

-- the transfer was done to its end
abbrev pub is_done : Option WayEnd → Bool
is_done (Some ways.Done) = true
is_done end = false

-- both data links are up
abbrev pub is_up : Joined → Bool
is_up joins.Up = true
is_up joined = false

-- ---- the client's own address, at a port that isn't reserved

abbrev pub is_peers : Option (List ℕ) → List ℕ → Bool
is_peers None addr = false
is_peers (Some own) addr = bytes_eq own addr

abbrev pub own_target : Option (List ℕ) → Option (List ℕ × ℕ) → Option Target
own_target own None = None
own_target own (Some six) = if is_peers own six.0 && nat_le 1024 six.1 then Some (Addr six.0 six.1) else None

module _ {Origin : Type 0} where
  -- words for the client, who is heard again
  abbrev pub tell_row : List ℕ → State → Row (acts Origin) Place
  tell_row words state = Do (Say words) (λ done. At (Listening state))

  -- the server ended
  abbrev pub closed_row : Row (acts Origin) Place
  closed_row = Do (Say texts.server_closed) (λ done. Over)

  -- ---- the login

  -- a failure is logged, and then told
  abbrev pub failed_row : Gate → List ℕ → Denial → State → Row (acts Origin) Place
  failed_row gate name denial state = Do (Log (fail_line gate name denial)) (λ logged. tell_row texts.login_denied state)

  -- The name is the last one that was asked about, whatever it is answered. That ends a login that stood, unless no more
  -- entries fit.
  abbrev pub named_row : Gate → State → List ℕ → Bool → Reply → Row (acts Origin) Place
  named_row gate state name stands replies.Password = tell_row texts.password_asked (with_account (Opened name stands) state)
  named_row gate state name stands (replies.Challenge number word_seed) = tell_row (texts.challenge_asked number word_seed) (with_account (Opened name stands) state)
  named_row gate state name stands reply = failed_row gate name (reason_of reply) (with_account (Opened name stands) state)

  abbrev pub authenticate_row : Gate → State → List ℕ → Bool → Row (acts Origin) Place
  authenticate_row gate state name stood =
      Do (Ask (requests.Authenticate name)) (λ reply. named_row gate state name (stood && is_full reply) reply)

  -- where no session was opened, that counts as the answer to the name, and the next name opens one
  abbrev pub opened_row : Gate → State → List ℕ → Reply → Row (acts Origin) Place
  opened_row gate state name (replies.Opened sid) = authenticate_row gate state name false
  opened_row gate state name reply = failed_row gate name (reason_of reply) state

  abbrev pub name_row : Gate → State → Account → List ℕ → Row (acts Origin) Place
  name_row gate state Unopened name = Do (Ask (requests.Open false)) (opened_row gate state name)
  name_row gate state (Opened other stood) name = authenticate_row gate state name stood

  -- a text that is no name is asked nothing about
  abbrev pub authorize_row : Gate → State → Option (List ℕ) → Row (acts Origin) Place
  authorize_row gate state None = tell_row texts.login_denied state
  authorize_row gate state (Some name) = name_row gate state state.account name

  -- a login is logged
  abbrev pub answered_row : Gate → State → List ℕ → Reply → Row (acts Origin) Place
  answered_row gate state name replies.Ok =
      Do (Log (login_line gate name)) (λ logged. tell_row texts.login_ok (with_account (Opened name true) state))
  answered_row gate state name reply = failed_row gate name (reason_of reply) state

  abbrev pub response_row : Gate → State → Account → List ℕ → Row (acts Origin) Place
  response_row gate state Unopened text = tell_row texts.authorize_first state
  response_row gate state (Opened name stood) text = Do (Ask (requests.Response (md5 text) (read_of text))) (answered_row gate state name)

  -- ---- what is passed

  -- a command is logged where `-log` has its verb, and then passed
  abbrev pub logged_row : Gate → List ℕ → Bool → Row (acts Origin) Place → Row (acts Origin) Place
  logged_row gate verb true next = Do (Log (command_line gate verb)) (λ logged. next)
  logged_row gate verb false next = next

  abbrev pub pass_row : Gate → State → List ℕ → List ℕ → Bool → Row (acts Origin) Place
  pass_row gate state verb text quits =
      logged_row gate verb (has_verb gate.options.log verb) (Do (Pass text) (λ done. At (Answering state quits)))

  abbrev pub pass_user_row : Gate → State → List ℕ → Row (acts Origin) Place
  pass_user_row gate state name = pass_row gate state (codes "USER") (texts.user_text name) false

  -- ---- destinations

  -- a refusal is logged, and then told
  abbrev pub refuse_row : Gate → State → Dest → ℕ → Row (acts Origin) Place
  refuse_row gate state dest line = Do (Log (refuse_line gate dest line)) (λ logged. tell_row (texts.dest_denied line) state)

  -- a greeting that isn't well was passed, and the link is hung up
  abbrev pub welcomed_row : Gate → State → List ℕ → Dest → Bool → Row (acts Origin) Place
  welcomed_row gate state name dest true = pass_user_row gate (with_dest dest state) name
  welcomed_row gate state name dest false = Do HangUp (λ done. At (Listening state))

  abbrev pub greeted_row : Gate → State → List ℕ → Dest → Replied → Row (acts Origin) Place
  greeted_row gate state name dest (replied.Whole code six) = welcomed_row gate state name dest (is_well code)
  greeted_row gate state name dest replied.Ended = closed_row

  abbrev pub dialed_row : Gate → State → List ℕ → Dest → Bool → Row (acts Origin) Place
  dialed_row gate state name dest true = Do (TakeReply Greeting) (λ heard. greeted_row gate state name dest heard.0)
  dialed_row gate state name dest false = tell_row texts.no_route state

  abbrev pub connect_row : Gate → State → List ℕ → Dest → Row (acts Origin) Place
  connect_row gate state name dest = Do (Log (connect_line gate dest)) (λ logged. Do (Dial dest) (dialed_row gate state name dest))

  abbrev pub operated_row : Gate → State → List ℕ → Dest → Reply → Row (acts Origin) Place
  operated_row gate state name dest replies.Ok = connect_row gate state name dest
  operated_row gate state name dest reply = refuse_row gate state dest (refusing_line gate.line reply)

  -- with `-extnd` the rules on operations decide a destination, too
  abbrev pub permitted_row : Bool → Gate → State → List ℕ → Dest → Row (acts Origin) Place
  permitted_row true gate state name dest = Do (Ask (requests.Operation services.Ftp dest.host)) (operated_row gate state name dest)
  permitted_row false gate state name dest = connect_row gate state name dest

  abbrev pub dest_row : Bool → Gate → State → List ℕ → Dest → Row (acts Origin) Place
  dest_row true gate state name dest = permitted_row gate.options.extnd gate state name dest
  dest_row false gate state name dest = refuse_row gate state dest gate.line

  abbrev pub wanted_row : Gate → State → Option (List ℕ × Dest) → Row (acts Origin) Place
  wanted_row gate state None = tell_row texts.no_destination state
  wanted_row gate state (Some user) = dest_row (allows gate.options user.1) gate state user.0 user.1

  abbrev pub again_row : Gate → State → Option (List ℕ) → Row (acts Origin) Place
  again_row gate state None = tell_row texts.already_connected state
  again_row gate state (Some name) = pass_user_row gate state name

  abbrev pub user_row : Gate → State → Option Dest → List ℕ → Row (acts Origin) Place
  user_row gate state None arg = wanted_row gate state (user_of arg)
  user_row gate state (Some dest) arg = again_row gate state (name_there dest arg)

  -- ---- data links

  abbrev pub port_row : State → Option Target → Row (acts Origin) Place
  port_row state None = tell_row texts.foreign_address state
  port_row state (Some target) = tell_row texts.port_ok (with_setting (Some target) state)

  -- a door that can't be had leaves what was set before
  abbrev pub door_row : State → Option (List ℕ × ℕ) → Row (acts Origin) Place
  door_row state None = tell_row texts.no_door state
  door_row state (Some place) = tell_row (texts.passive_mode place.0 place.1) (with_setting (Some AtDoor) state)

  -- a transfer that ended early is told so behind the server's last reply, which isn't passed
  abbrev pub copied_row : State → Bool → Row (acts Origin) Place
  copied_row state true = At (Answering state false)
  copied_row state false = At (Dropping state)

  abbrev pub started_row : State → Toward → Bool → Row (acts Origin) Place
  started_row state toward true = Do (Copy toward) (λ carried. copied_row state (is_done (option_map (λ way. way.end) carried)))
  started_row state toward false = Do Part (λ done. At (Listening state))

  abbrev pub commanded_row : State → Toward → Replied → Row (acts Origin) Place
  commanded_row state toward (replied.Whole code six) = started_row state toward (goes_on code)
  commanded_row state toward replied.Ended = closed_row

  abbrev pub joined_row : Gate → State → Toward → Order → Bool → Row (acts Origin) Place
  joined_row gate state toward order true =
      logged_row gate order.verb (has_verb gate.options.log order.verb)
      (Do (Pass (texts.passed_line order.line)) (λ done. Do (TakeReply Passed) (λ heard. commanded_row state toward heard.0)))
  joined_row gate state toward order false = tell_row texts.no_data_link state

  -- the server's data port is at its host
  abbrev pub ported_row : Gate → State → Dest → Target → Toward → Order → Option ℕ → Row (acts Origin) Place
  ported_row gate state dest target toward order None = tell_row texts.no_data_port state
  ported_row gate state dest target toward order (Some port) =
      Do (Join (record { host = dest.host; port = port }) target) (λ joined. joined_row gate state toward order (is_up joined))

  abbrev pub passive_row : Gate → State → Dest → Target → Toward → Order → Replied → Row (acts Origin) Place
  passive_row gate state dest target toward order (replied.Whole code six) = ported_row gate state dest target toward order (data_port code six)
  passive_row gate state dest target toward order replied.Ended = closed_row

  -- what was set is used up, whatever comes of it
  abbrev pub transfer_row : Gate → State → Dest → Toward → Order → Option Target → Row (acts Origin) Place
  transfer_row gate state dest toward order None = tell_row texts.port_first state
  transfer_row gate state dest toward order (Some target) =
      Do (Pass texts.pasv_text) (λ done. Do (TakeReply Dropped) (λ heard. passive_row gate (with_setting None state) dest target toward order heard.0))

  -- ---- commands

  -- with a link to this destination
  abbrev pub linked_row : Gate → State → Dest → Order → served.Served → Row (acts Origin) Place
  linked_row gate state dest order Port = port_row state (own_target gate.peer.addr (six_of order.arg))
  linked_row gate state dest order Pasv = Do OpenDoor (door_row state)
  linked_row gate state dest order Extended = tell_row texts.not_implemented state
  linked_row gate state dest order (Transfer toward) = transfer_row gate state dest toward order state.setting
  linked_row gate state dest order Quit = pass_row gate state order.verb (texts.passed_line order.line) true
  linked_row gate state dest order Other = pass_row gate state order.verb (texts.passed_line order.line) false

  -- without one
  abbrev pub unlinked_row : State → Bool → Row (acts Origin) Place
  unlinked_row state true = Do (Say texts.goodbye) (λ done. Over)
  unlinked_row state false = tell_row texts.user_first state

  abbrev pub served_row : Gate → State → Option Dest → Order → served.Served → Row (acts Origin) Place
  served_row gate state None order asked = unlinked_row state (is_quit order.verb)
  served_row gate state (Some dest) order asked = linked_row gate state dest order asked

  abbrev pub allowed_row : Gate → State → Order → Outward → Row (acts Origin) Place
  allowed_row gate state order User = user_row gate state state.dest order.arg
  allowed_row gate state order (Served asked) = served_row gate state state.dest order asked

  -- a verb that is blocked is logged, and then told
  abbrev pub blocked_row : Gate → State → List ℕ → List ℕ → Row (acts Origin) Place
  blocked_row gate state verb words = Do (Log (blocked_line gate verb)) (λ logged. tell_row words state)

  -- a login is asked for, or not
  abbrev pub login_row : Gate → State → Order → Outward → Bool → Row (acts Origin) Place
  login_row gate state order asked true = blocked_row gate state order.verb (texts.log_in_first gate.line)
  login_row gate state order asked false = allowed_row gate state order asked

  -- a verb is denied, or not
  abbrev pub outward_row : Gate → State → Order → Outward → Bool → Row (acts Origin) Place
  outward_row gate state order asked true = blocked_row gate state order.verb (texts.verb_denied gate.line)
  outward_row gate state order asked false =
      login_row gate state order asked (asks_login gate.options order.verb && not (is_in state.account))

  abbrev pub kind_row : Gate → State → Order → Kind → Row (acts Origin) Place
  kind_row gate state order kinds.Authorize = authorize_row gate state (name_of order.arg)
  kind_row gate state order kinds.Response = response_row gate state state.account order.arg
  kind_row gate state order (kinds.Outward asked) = outward_row gate state order asked (has_verb gate.options.deny order.verb)

  abbrev pub command_row : Gate → State → Option Order → Row (acts Origin) Place
  command_row gate state None = tell_row texts.syntax_error state
  command_row gate state (Some order) = kind_row gate state order (kind_of order.verb)

  abbrev pub heard_row : Gate → State → Heard → Row (acts Origin) Place
  heard_row gate state (Line line) = command_row gate state (order_of line.items)
  heard_row gate state TooLong = command_row gate state None
  heard_row gate state (Stopped stop) = Over

  -- ---- the server's replies, up to one that is the last

  abbrev pub after_row : State → Bool → Row (acts Origin) Place
  after_row state true = Over
  after_row state false = At (Listening state)

  abbrev pub passed_row : State → Bool → Bool → Row (acts Origin) Place
  passed_row state quits true = At (Answering state quits)
  passed_row state quits false = after_row state quits

  abbrev pub answering_row : State → Bool → Replied → Row (acts Origin) Place
  answering_row state quits (replied.Whole code six) = passed_row state quits (goes_on code)
  answering_row state quits replied.Ended = closed_row

  abbrev pub dropped_row : State → Bool → Row (acts Origin) Place
  dropped_row state true = At (Dropping state)
  dropped_row state false = tell_row texts.ended_early state

  abbrev pub dropping_row : State → Replied → Row (acts Origin) Place
  dropping_row state (replied.Whole code six) = dropped_row state (goes_on code)
  dropping_row state replied.Ended = closed_row

  -- ---- the table

  abbrev pub row_at : Gate → (place : Place) → Answer (act_at place) → Row (acts Origin) Place
  row_at gate (Listening state) heard = heard_row gate state heard
  row_at gate (Answering state quits) heard = answering_row state quits heard.0
  row_at gate (Dropping state) heard = dropping_row state heard.0

  abbrev pub ftp_rows : Gate → PlaceTable (acts Origin) Place
  ftp_rows gate = record { act = act_at; go = row_at gate }

  -- the first row: a client who is told that it is heard
  abbrev pub ftp_row : Row (acts Origin) Place
  ftp_row = tell_row texts.ready (record { account = Unopened; dest = None; setting = None })
