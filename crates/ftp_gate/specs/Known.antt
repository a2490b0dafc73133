-- What is known of a session by what it did so far. No place and no row is named here.
use Rattle.std.specs.Prelude.{ℕ, nat_eq, Bool, ◌||◌, true, false, List, [], ◌∷◌, ◌++◌, Option, Some, None, Result, Ok, Err}
use Rattle.std.specs.List.{starts_with}
use Rattle.auth_events.specs.Login.{is_ok, login_then}
use Rattle.auth_events.specs.declared.reply.Reply.{Reply}
use Rattle.auth_events.specs.declared.request.Request.{Request}
use Rattle.auth_events.specs.declared.request.Request.TheVariants as requests
use Rattle.fw_outside.specs.declared.heard.Heard.{Heard}
use Rattle.fw_outside.specs.declared.heard.Heard.TheVariants.{Line, TooLong, Stopped}
use Rattle.fw_types.specs.declared.dest.Dest.{Dest}
use Rattle.ftp_lines.specs.Six.{six_of}
use Rattle.session_acts.specs.Acts.{Act, Outcome}
use Rattle.session_acts.specs.Acts.Act.{Ask, Copy, Dial, HangUp, Hear, Join, OpenDoor, Pass, Say, TakeReply}
use Rattle.session_acts.specs.Deeds.{Deed}
use Rattle.session_acts.specs.Hearing.{heard_by}
use Rattle.session_acts.specs.Met.{reply_of}
use Rattle.session_acts.specs.declared.joined.Joined.{Joined}
use Rattle.session_acts.specs.declared.joined.Joined.TheVariants.{Up}
use Rattle.session_acts.specs.declared.replied.Replied.{Replied}
use Rattle.session_acts.specs.declared.replied.Replied.TheVariants.{Whole}
use Rattle.session_acts.specs.declared.reply_use.ReplyUse.TheVariants.{Passed, Dropped, Greeting}
use Rattle.session_acts.specs.declared.target.Target.{Target}
use Rattle.session_acts.specs.declared.target.Target.TheVariants.{AtDoor}
use Rattle.ftp_gate.specs.Dialogue.{is_well, own_target}
use Rattle.ftp_gate.specs.Gate.{Gate}
use Rattle.ftp_gate.specs.Kind.{kind_of}
use Rattle.ftp_gate.specs.Order.{Order, order_of}
use Rattle.ftp_gate.specs.Passage.{Standing, asked_by, passed_as}
use Rattle.ftp_gate.specs.Texts.{port_ok}
use Rattle.ftp_gate.specs.declared.kind.Kind.{Kind}
use Rattle.ftp_gate.specs.declared.kind.Kind.TheVariants as kinds
use Rattle.ftp_gate.specs.declared.kind.Outward.TheVariants.{Served}
use Rattle.ftp_gate.specs.declared.kind.Served.TheVariants.{Port, Transfer}

-- The command that was heard last, if that was one; what was done since; whether a login stands; the user who was asked about
-- last, if one was; of the links that came up by these deeds, to which destination one is up, and to which one is up whose server
-- greeted well; what is set for a transfer; how it stood with the last command when it was heard, and what came of it; whether data
-- were copied since; and what was to be passed of all commands before it, and which destinations they asked for.
pub record Known : Type 0 where
  pub order : Option Order
  pub since : List Deed
  pub login : Bool
  pub user : Option (List ℕ)
  pub dialed : Option Dest
  pub link : Option Dest
  pub setting : Option Target
  pub standing : Standing
  pub copied : Bool
  pub earlier : List ℕ
  pub before : List Dest

-- what was to be passed, up to now
abbrev pub passage_in : Gate → Known → List ℕ
passage_in gate k = k.earlier ++ passed_as gate k.standing k.order

-- and which destinations were asked for
abbrev pub dests_in : Gate → Known → List Dest
dests_in gate k = k.before ++ asked_by gate k.standing k.order

-- nothing was done
abbrev pub at_start : Known
at_start = record {
  order = None;
  since = [];
  login = false;
  user = None;
  dialed = None;
  link = None;
  setting = None;
  standing = record { login = false; link = None; setting = None; permitted = false; greeted = false; joined = false };
  copied = false;
  earlier = [];
  before = [];
}

-- ---- what a deed adds

abbrev pub order_in : Heard → Option Order
order_in (Line line) = order_of line.items
order_in TooLong = None
order_in (Stopped stop) = None

abbrev pub hearing : Gate → Heard → Known → Known
hearing gate heard k = record k {
  order = order_in heard;
  since = [];
  standing = record { login = k.login; link = k.link; setting = k.setting; permitted = false; greeted = false; joined = false };
  copied = false;
  earlier = passage_in gate k;
  before = dests_in gate k;
}

abbrev pub named_in : Option (List ℕ) → Request → Option (List ℕ)
named_in user (requests.Authenticate name) = Some name
named_in user request = user

-- permission to reach a destination was asked, and given
abbrev pub is_granted : Request → Reply → Bool
is_granted (requests.Operation service host) reply = is_ok reply
is_granted request reply = false

abbrev pub permitted_by : Bool → Standing → Standing
permitted_by granted standing = record standing { permitted = granted || standing.permitted }

abbrev pub asking : Request → Option Reply → Known → Known
asking request None k = record k { user = named_in k.user request }
asking request (Some reply) k = record k {
  login = login_then k.login (request, reply);
  user = named_in k.user request;
  standing = permitted_by (is_granted request reply) k.standing;
}

-- no link is up
abbrev pub unlinked : Known → Known
unlinked k = record k { dialed = None; link = None }

abbrev pub dialing : {Never : Type 0} → Dest → Result Bool Never → Known → Known
dialing dest (Ok true) k = record k { dialed = Some dest; link = None }
dialing dest (Ok false) k = unlinked k
dialing dest (Err never) k = k

abbrev pub greeted_with : Standing → Standing
greeted_with standing = record standing { greeted = true }

-- the server of the link that came up greeted well
abbrev pub greeting_by : Bool → Known → Known
greeting_by true k = record k { link = k.dialed; standing = greeted_with k.standing }
greeting_by false k = k

abbrev pub greeting : {Halted : Type 0} → Result (Replied × List ℕ) Halted → Known → Known
greeting (Ok (Whole code six, text)) k = greeting_by (is_well code) k
greeting outcome k = k

abbrev pub joined_with : Standing → Standing
joined_with standing = record standing { joined = true }

abbrev pub joining : {Never : Type 0} → Result Joined Never → Known → Known
joining (Ok Up) k = record k { standing = joined_with k.standing }
joining outcome k = k

abbrev pub opening : {Never : Type 0} → Result (Option (List ℕ × ℕ)) Never → Known → Known
opening (Ok (Some door)) k = record k { setting = Some AtDoor }
opening outcome k = k

-- ---- what is set

-- what a command sets by the answer 200, if it is a PORT
abbrev pub port_set : Gate → Order → Kind → Option Target → Option Target
port_set gate order (kinds.Outward (Served Port)) setting = own_target gate.peer.addr (six_of order.arg)
port_set gate order kind setting = setting

-- a transfer uses up what is set, once the server is asked for its data port
abbrev pub used_up : Kind → Option Target → Option Target
used_up (kinds.Outward (Served (Transfer toward))) setting = None
used_up kind setting = setting

abbrev pub set_by : (Order → Kind → Option Target → Option Target) → Option Order → Option Target → Option Target
set_by sets None setting = setting
set_by sets (Some order) setting = sets order (kind_of order.verb) setting

-- a text begins with a word
abbrev pub begins : List ℕ → List ℕ → Bool
begins text word = starts_with nat_eq text word

abbrev pub saying : Gate → Bool → Known → Known
saying gate true k = record k { setting = set_by (port_set gate) k.order k.setting }
saying gate false k = k

abbrev pub using : Known → Known
using k = record k { setting = set_by (λ order kind setting. used_up kind setting) k.order k.setting }

-- ---- after a deed, and after some

abbrev pub with_deed : Deed → List Deed → Known → Known
with_deed deed since k = record k { since = since ++ deed ∷ [] }

abbrev pub noting : Gate → Known → (act : Act) → Outcome act → Known
noting gate k (Say text) outcome = saying gate (begins text port_ok) k
noting gate k (Ask request) outcome = asking request (reply_of outcome) k
noting gate k (Dial dest) outcome = dialing dest outcome k
noting gate k (TakeReply Greeting) outcome = greeting outcome k
noting gate k (TakeReply Passed) outcome = k
noting gate k (TakeReply Dropped) outcome = k
noting gate k (Pass text) outcome = using k
noting gate k OpenDoor outcome = opening outcome k
noting gate k (Join dest target) outcome = joining outcome k
noting gate k (Copy toward) outcome = record k { copied = true }
noting gate k HangUp outcome = unlinked k
noting gate k act outcome = k

abbrev pub known_after : Gate → Known → (act : Act) → Outcome act → Known
known_after gate k (Hear form) outcome = hearing gate (heard_by outcome) k
known_after gate k act outcome = with_deed (record { act = act; outcome = outcome }) k.since (noting gate k act outcome)

abbrev pub known_from : Gate → Known → List Deed → Known
known_from gate k [] = k
known_from gate k (deed ∷ deeds) = known_from gate (known_after gate k deed.act deed.outcome) deeds

-- what is known after these deeds, with which the session began
abbrev pub known : Gate → List Deed → Known
known gate deeds = known_from gate at_start deeds

-- what was to be passed, and which destinations were asked for, by what the client said and what came of it
abbrev pub passage : Gate → List Deed → List ℕ
passage gate deeds = passage_in gate (known gate deeds)

abbrev pub asked_for : Gate → List Deed → List Dest
asked_for gate deeds = dests_in gate (known gate deeds)
