-- What is due next: a line of the log, a request or a destination, a reply of the server, a copy. No place and no row is named here.
use Rattle.std.specs.Prelude.{◌≡◌, ℕ, Bool, true, false, ◌&&◌, not, List, [], ◌∷◌, ◌++◌, Option, Some, None, Result, Ok, Err, codes}
use Rattle.std.specs.Option.{option_map}
use Rattle.auth_events.specs.declared.reply.Reply.{Reply}
use Rattle.auth_events.specs.declared.reply.Reply.TheVariants as replies
use Rattle.auth_events.specs.declared.request.OpService.TheVariants as services
use Rattle.auth_events.specs.declared.request.Request.{Request}
use Rattle.auth_events.specs.declared.request.Request.TheVariants as requests
use Rattle.fw_types.specs.Name.{name_of}
use Rattle.fw_types.specs.declared.dest.Dest.{Dest}
use Rattle.gate_rules.specs.Verdict.{allows}
use Rattle.md5.specs.Md5.{md5}
use Rattle.otp_md5.specs.Hexadecimal.{read_of}
use Rattle.relay_ways.specs.Carried.{Way}
use Rattle.session_acts.specs.Acts.{Act, Outcome}
use Rattle.session_acts.specs.Acts.Act.{Ask, Copy, Dial, Hear, Join, Log, Note, Part, Pass, Reach, Renew, Take, TakeReply}
use Rattle.session_acts.specs.Deeds.{Deed}
use Rattle.session_acts.specs.Hearing.{heard_by}
use Rattle.session_acts.specs.Met.{reply_of}
use Rattle.session_acts.specs.declared.joined.Joined.{Joined}
use Rattle.session_acts.specs.declared.joined.Joined.TheVariants.{Up}
use Rattle.session_acts.specs.declared.replied.Replied.{Replied}
use Rattle.session_acts.specs.declared.replied.Replied.TheVariants.{Whole}
use Rattle.session_acts.specs.declared.reply_use.ReplyUse.{ReplyUse}
use Rattle.session_acts.specs.declared.reply_use.ReplyUse.TheVariants.{Passed, Dropped, Greeting}
use Rattle.session_acts.specs.declared.toward.Toward.{Toward}
use Rattle.ftp_gate.specs.Dialogue.{goes_on, is_done, is_well, reason_of, refusing_line}
use Rattle.ftp_gate.specs.Gate.{Gate, asks_login, has_verb}
use Rattle.ftp_gate.specs.Kind.{kind_of}
use Rattle.ftp_gate.specs.Known.{Known, begins, known, order_in}
use Rattle.ftp_gate.specs.LogLines.{blocked_line, command_line, connect_line, fail_line, login_line, refuse_line}
use Rattle.ftp_gate.specs.Order.{Order}
use Rattle.ftp_gate.specs.User.{name_there, user_of}
use Rattle.ftp_gate.specs.declared.kind.Kind.{Kind}
use Rattle.ftp_gate.specs.declared.kind.Kind.TheVariants as kinds
use Rattle.ftp_gate.specs.declared.kind.Outward.{Outward}
use Rattle.ftp_gate.specs.declared.kind.Outward.TheVariants.{User, Served}
use Rattle.ftp_gate.specs.declared.kind.Served as served
use Rattle.ftp_gate.specs.declared.kind.Served.TheVariants.{Port, Pasv, Extended, Transfer, Quit, Other}

-- ---- behind a command

-- its verb is in `-log`, or isn't
abbrev pub command_if : Bool → Gate → List ℕ → Option Act
command_if true gate verb = Some (Log (command_line gate verb))
command_if false gate verb = None

abbrev pub command_due : Gate → List ℕ → Option Act
command_due gate verb = command_if (has_verb gate.options.log verb) gate verb

-- with `-extnd` permission is asked first, else the connect line is due
abbrev pub connect_due : Bool → Gate → Dest → Option Act
connect_due true gate dest = Some (Ask (requests.Operation services.Ftp dest.host))
connect_due false gate dest = Some (Log (connect_line gate dest))

-- a destination that the permission line lets pass, or doesn't
abbrev pub dest_due : Bool → Gate → Dest → Option Act
dest_due true gate dest = connect_due gate.options.extnd gate dest
dest_due false gate dest = Some (Log (refuse_line gate dest gate.line))

abbrev pub wanted_due : Gate → Option (List ℕ × Dest) → Option Act
wanted_due gate None = None
wanted_due gate (Some user) = dest_due (allows gate.options user.1) gate user.1

-- a user is named to the server to which a link is up, and which greeted well
abbrev pub named_due : Gate → Option (List ℕ) → Option Act
named_due gate None = None
named_due gate (Some name) = command_due gate (codes "USER")

abbrev pub user_due : Gate → Option Dest → List ℕ → Option Act
user_due gate None arg = wanted_due gate (user_of arg)
user_due gate (Some dest) arg = named_due gate (name_there dest arg)

-- a transfer is logged once its data links are up
abbrev pub served_due : Gate → Order → served.Served → Option Act
served_due gate order Port = None
served_due gate order Pasv = None
served_due gate order Extended = None
served_due gate order (Transfer toward) = None
served_due gate order Quit = command_due gate order.verb
served_due gate order Other = command_due gate order.verb

abbrev pub linked_due : Gate → Option Dest → Order → served.Served → Option Act
linked_due gate None order asked = None
linked_due gate (Some dest) order asked = served_due gate order asked

abbrev pub allowed_due : Gate → Option Dest → Order → Outward → Option Act
allowed_due gate link order User = user_due gate link order.arg
allowed_due gate link order (Served asked) = linked_due gate link order asked

-- where a login is asked for that doesn't stand, or isn't
abbrev pub unless_due : Bool → Gate → Option Dest → Order → Outward → Option Act
unless_due true gate link order asked = Some (Log (blocked_line gate order.verb))
unless_due false gate link order asked = allowed_due gate link order asked

-- where the verb is denied, or isn't
abbrev pub outward_due : Bool → Gate → Bool → Option Dest → Order → Outward → Option Act
outward_due true gate login link order asked = Some (Log (blocked_line gate order.verb))
outward_due false gate login link order asked = unless_due (asks_login gate.options order.verb && not login) gate link order asked

-- a user is named: where none was named before, a session is opened first
abbrev pub first_due : Option (List ℕ) → List ℕ → Option Act
first_due None name = Some (Ask (requests.Open false))
first_due (Some other) name = Some (Ask (requests.Authenticate name))

abbrev pub authorize_due : Option (List ℕ) → Option (List ℕ) → Option Act
authorize_due None user = None
authorize_due (Some name) user = first_due user name

-- a response is given, where a user was named before
abbrev pub response_due : Option (List ℕ) → List ℕ → Option Act
response_due None text = None
response_due (Some name) text = Some (Ask (requests.Response (md5 text) (read_of text)))

-- whether a login stands, the user who was asked about last, and the destination to which a link is up whose server greeted well
abbrev pub kind_due : Gate → Bool → Option (List ℕ) → Option Dest → Order → Kind → Option Act
kind_due gate login user link order kinds.Authorize = authorize_due (name_of order.arg) user
kind_due gate login user link order kinds.Response = response_due user order.arg
kind_due gate login user link order (kinds.Outward asked) = outward_due (has_verb gate.options.deny order.verb) gate login link order asked

abbrev pub heard_due : Gate → Bool → Option (List ℕ) → Option Dest → Option Order → Option Act
heard_due gate login user link None = None
heard_due gate login user link (Some order) = kind_due gate login user link order (kind_of order.verb)

-- ---- behind an answer of the port

abbrev pub name_by : Option Order → Option (List ℕ)
name_by None = None
name_by (Some order) = name_of order.arg

abbrev pub dest_by : Option Order → Option Dest
dest_by None = None
dest_by (Some order) = option_map (λ user. user.1) (user_of order.arg)

-- a login failed, of this user
abbrev pub failure_due : Gate → Option (List ℕ) → Reply → Option Act
failure_due gate user reply = option_map (λ name. Log (fail_line gate name (reason_of reply))) user

abbrev pub opened_due : Gate → Option (List ℕ) → Reply → Option Act
opened_due gate name (replies.Opened sid) = option_map (λ one. Ask (requests.Authenticate one)) name
opened_due gate name reply = failure_due gate name reply

abbrev pub authenticated_due : Gate → List ℕ → Reply → Option Act
authenticated_due gate name replies.Password = None
authenticated_due gate name (replies.Challenge number word_seed) = None
authenticated_due gate name reply = failure_due gate (Some name) reply

abbrev pub responded_due : Gate → Option (List ℕ) → Reply → Option Act
responded_due gate user replies.Ok = option_map (λ name. Log (login_line gate name)) user
responded_due gate user reply = failure_due gate user reply

abbrev pub operated_due : Gate → Option Dest → Reply → Option Act
operated_due gate dest replies.Ok = option_map (λ one. Log (connect_line gate one)) dest
operated_due gate dest reply = option_map (λ one. Log (refuse_line gate one (refusing_line gate.line reply))) dest

abbrev pub replied_due : Gate → Known → Request → Reply → Option Act
replied_due gate k (requests.Open console) reply = opened_due gate (name_by k.order) reply
replied_due gate k (requests.Authenticate name) reply = authenticated_due gate name reply
replied_due gate k (requests.Response hash word) reply = responded_due gate k.user reply
replied_due gate k (requests.Operation service host) reply = operated_due gate (dest_by k.order) reply
replied_due gate k request reply = None

abbrev pub asked_due : Gate → Known → Request → Option Reply → Option Act
asked_due gate k request None = None
asked_due gate k request (Some reply) = replied_due gate k request reply

-- ---- behind the server's greeting, and behind data links

abbrev pub welcomed_due : Bool → Gate → Option Act
welcomed_due true gate = command_due gate (codes "USER")
welcomed_due false gate = None

abbrev pub greeted_due : {Halted : Type 0} → Gate → Result (Replied × List ℕ) Halted → Option Act
greeted_due gate (Ok (Whole code six, text)) = welcomed_due (is_well code) gate
greeted_due gate outcome = None

abbrev pub verb_due : Gate → Option Order → Option Act
verb_due gate None = None
verb_due gate (Some order) = command_due gate order.verb

abbrev pub joined_due : {Never : Type 0} → Gate → Option Order → Result Joined Never → Option Act
joined_due gate order (Ok Up) = verb_due gate order
joined_due gate order outcome = None

-- ---- behind a line of the log

-- that is a connect line, or isn't
abbrev pub dial_due : Bool → Option Order → Option Act
dial_due true order = option_map (λ dest. Dial dest) (dest_by order)
dial_due false order = None

abbrev pub logged_due : {Halted : Type 0} → List ℕ → Option Order → Result (Unit {0}) Halted → Option Act
logged_due text order (Ok done) = dial_due (begins text (codes "connect")) order
logged_due text order (Err halt) = None

-- ---- the server's replies, and data

-- which way a command transfers data, if it does
abbrev pub way_of : Kind → Option Toward
way_of (kinds.Outward (Served (Transfer toward))) = Some toward
way_of kind = None

abbrev pub transfer_by : Option Order → Option Toward
transfer_by None = None
transfer_by (Some order) = way_of (kind_of order.verb)

-- where that is so, and data were or weren't copied
abbrev pub pending : Option Toward → Bool → Option Toward
pending None copied = None
pending (Some toward) true = None
pending (Some toward) false = Some toward

abbrev pub pending_in : Known → Option Toward
pending_in k = pending (transfer_by k.order) k.copied

-- the server is greeted by where a link came up
abbrev pub dialed_due : {Never : Type 0} → Result Bool Never → Option Act
dialed_due (Ok true) = Some (TakeReply Greeting)
dialed_due outcome = None

-- The reply to what the server was given is passed, but that to the PASV before a transfer, which comes before its data links.
abbrev pub use_of : Option Toward → Bool → ReplyUse
use_of None joined = Passed
use_of (Some toward) true = Passed
use_of (Some toward) false = Dropped

abbrev pub given_due : {Halted : Type 0} → Known → Result (Unit {0}) Halted → Option Act
given_due k (Ok done) = Some (TakeReply (use_of (transfer_by k.order) k.standing.joined))
given_due k (Err halt) = None

-- A reply that was passed goes on, or is the last. The one to a transfer starts the copy, or lets the data links go.
abbrev pub passed_due : Option Toward → Bool → Option Act
passed_due None true = Some (TakeReply Passed)
passed_due None false = None
passed_due (Some toward) true = Some (Copy toward)
passed_due (Some toward) false = Some Part

abbrev pub passed_reply_due : {Halted : Type 0} → Option Toward → Result (Replied × List ℕ) Halted → Option Act
passed_reply_due pend (Ok (Whole code six, text)) = passed_due pend (goes_on code)
passed_reply_due pend outcome = None

-- one that wasn't passed, behind a copy
abbrev pub dropped_due : Option Toward → Bool → Option Act
dropped_due None true = Some (TakeReply Dropped)
dropped_due None false = None
dropped_due (Some toward) on = None

abbrev pub dropped_reply_due : {Halted : Type 0} → Option Toward → Result (Replied × List ℕ) Halted → Option Act
dropped_reply_due pend (Ok (Whole code six, text)) = dropped_due pend (goes_on code)
dropped_reply_due pend outcome = None

-- behind a copy that was done to its end the server's replies are passed, behind another not
abbrev pub use_by : Bool → ReplyUse
use_by true = Passed
use_by false = Dropped

abbrev pub copied_due : {Never : Type 0} → Result (Option Way) Never → Option Act
copied_due (Ok carried) = Some (TakeReply (use_by (is_done (option_map (λ way. way.end) carried))))
copied_due (Err never) = None

-- ---- behind a deed, before which this is known

abbrev pub due_after : Gate → Known → (act : Act) → Outcome act → Option Act
due_after gate k (Hear form) outcome = heard_due gate k.login k.user k.link (order_in (heard_by outcome))
due_after gate k (Ask request) outcome = asked_due gate k request (reply_of outcome)
due_after gate k (Log text) outcome = logged_due text k.order outcome
due_after gate k (TakeReply Greeting) outcome = greeted_due gate outcome
due_after gate k (TakeReply Passed) outcome = passed_reply_due (pending_in k) outcome
due_after gate k (TakeReply Dropped) outcome = dropped_reply_due (pending_in k) outcome
due_after gate k (Dial dest) outcome = dialed_due outcome
due_after gate k (Pass text) outcome = given_due k outcome
due_after gate k (Copy toward) outcome = copied_due outcome
due_after gate k (Join dest target) outcome = joined_due gate k.order outcome
due_after gate k act outcome = None

-- This comes next; or, where nothing is due, no line is logged, no destination and no request asked for but the close, no reply
-- heard and nothing copied.
abbrev pub FitsDue : Option Act → Act → Type 0
FitsDue None (Log text) = ⊥
FitsDue None (Note text) = ⊥
FitsDue None (Ask request) = request ≡ requests.Close
FitsDue None (Renew name hash) = ⊥
FitsDue None (Dial dest) = ⊥
FitsDue None (Reach dest) = ⊥
FitsDue None Take = ⊥
FitsDue None (TakeReply how) = ⊥
FitsDue None (Copy toward) = ⊥
FitsDue None Part = ⊥
FitsDue None act = Unit {0}
FitsDue (Some due) act = act ≡ due

abbrev pub ComesNext : Option Act → List Deed → Type 0
ComesNext None [] = Unit {0}
ComesNext (Some due) [] = ⊥
ComesNext due (next ∷ after) = FitsDue due next.act

-- so it is behind each deed, and at first nothing is due
pub record DoesWhatIsDue (gate : Gate) (deeds : List Deed) : Type 0 where
  pub first : ComesNext None deeds
  pub each : (before after : List Deed) (deed : Deed) → deeds ≡ before ++ deed ∷ after → ComesNext (due_after gate (known gate before) deed.act deed.outcome) after
