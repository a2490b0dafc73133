-- What a session does, how that comes out, and for which cause it stops at an act.
use Rattle.std.specs.Prelude.{◌≡◌, ◌≢◌, ℕ, Bool, List, [], ◌++◌, Option, Result}
use Rattle.auth_events.specs.declared.port.PortFault.{PortFault}
use Rattle.auth_events.specs.declared.port.PortFault.TheVariants as faults
use Rattle.auth_events.specs.declared.reply.Reply.{Reply}
use Rattle.auth_events.specs.declared.request.Request.{Request}
use Rattle.fw_outside.specs.declared.heard.Heard.{Heard}
use Rattle.fw_types.specs.declared.dest.Dest.{Dest}
use Rattle.relay_ways.specs.Carried.{Way}
use Rattle.session_acts.specs.Relaying.{Stuck, Through}
use Rattle.session_acts.specs.declared.cause.Cause.{Cause}
use Rattle.session_acts.specs.declared.deposited.Deposited.{Deposited}
use Rattle.session_acts.specs.Replying.{said_of}
use Rattle.session_acts.specs.declared.form.Form.{Form}
use Rattle.session_acts.specs.declared.joined.Joined.{Joined}
use Rattle.session_acts.specs.declared.replied.Replied.{Replied}
use Rattle.session_acts.specs.declared.reply_use.ReplyUse.{ReplyUse}
use Rattle.session_acts.specs.declared.silence.Silence.{Silence}
use Rattle.session_acts.specs.declared.silence.Silence.TheVariants.{Quiet, Broken, Limit}
use Rattle.session_acts.specs.declared.target.Target.{Target}
use Rattle.session_acts.specs.declared.toward.Toward.{Toward}
use Rattle.session_acts.specs.declared.cause.Cause.TheVariants.{ClientFault, ServerFault, LogFault, AuthFault, Idle, NoRoute, Spent, NoMemory}

-- To the client: hear a line of it, in one of the forms; say a text; try to say one. To the log: log a text, and note one.
-- At the port: ask, at a moment of the clock; and renew a password, which is salted by the dice. To the server: dial a
-- destination; reach one; take a line of the server; pass a text to it; hang up. Between both: relay, both ways at once, to
-- the ends of both. With the client and the mail store: deposit a message, for which a slot is taken, these words are said and
-- the client's data heard. And for itself: allot memory. With the server and the client: take a reply of the server, which may
-- be passed to the client; and beside the main link open a door, join two data links, copy from one of them to the other,
-- and part them. What is tried or noted never stops the session. Dialing is answered by whether the link came up, and
-- reaching stops where it doesn't; both first hang up a link that is up, and what stands beside it.
pub data Act : Type 0 where
  Hear : (form : Form) → Act
  Say : (text : List ℕ) → Act
  Try : (text : List ℕ) → Act
  Log : (text : List ℕ) → Act
  Note : (text : List ℕ) → Act
  Ask : (request : Request) → Act
  Renew : (name hash : List ℕ) → Act
  Dial : (dest : Dest) → Act
  Reach : (dest : Dest) → Act
  Take : Act
  Pass : (text : List ℕ) → Act
  HangUp : Act
  Relay : Act
  Deposit : (sender : List ℕ) (rcpts : List (List ℕ)) (words : List ℕ) (most : ℕ) → Act
  Allot : Act
  TakeReply : (how : ReplyUse) → Act
  OpenDoor : Act
  Join : (dest : Dest) (target : Target) → Act
  Copy : (toward : Toward) → Act
  Part : Act

-- a front of a text, which isn't all of it, unless there is nothing in it
pub record Front (text : List ℕ) : Type 0 where
  pub part : List ℕ
  pub rest : List ℕ
  pub cut : text ≡ part ++ rest
  pub short : text ≢ [] → rest ≢ []

-- Why it isn't known what became of a message: there was no memory to begin it; the words weren't given; or the source
-- stopped within the data, of which these were heard.
pub data Undeposited (words : List ℕ) : Type 0 where
  Lacks : Undeposited words
  Unsaid : (front : Front words) → Undeposited words
  Unheard : (silence : Silence) (data_heard : List ℕ) → Undeposited words

-- the beginning of a text, or all of it
pub record Begun (text : List ℕ) : Type 0 where
  pub part : List ℕ
  pub rest : List ℕ
  pub cut : text ≡ part ++ rest

-- Why a reply isn't whole, of which this text came: the server stopped within it, when the client had been given what was to
-- be said, but for the end of it at most; or the client's sink failed within that.
pub data Unreplied (how : ReplyUse) : Type 0 where
  NotHeard : (silence : Silence) (text : List ℕ) (begun : Begun (said_of how text)) → Unreplied how
  NotSaid : (text : List ℕ) (front : Front (said_of how text)) → Unreplied how

-- A reply's answer comes with its text, and a copy's with what it carried, if data links were up. A message's answer comes with the data that were heard, as they came.
abbrev pub Answer : Act → Type 0
Answer (Hear form) = Heard
Answer (Say text) = Unit {0}
Answer (Try text) = Result (Unit {0}) (Front text)
Answer (Log text) = Unit {0}
Answer (Note text) = Result (Unit {0}) (Front text)
Answer (Ask request) = Reply
Answer (Renew name hash) = List ℕ × Reply
Answer (Dial dest) = Bool
Answer (Reach dest) = Unit {0}
Answer Take = Heard
Answer (Pass text) = Unit {0}
Answer HangUp = Unit {0}
Answer Relay = Option Through
Answer (Deposit sender rcpts words most) = Deposited × List ℕ
Answer Allot = Unit {0}
Answer (TakeReply how) = Replied × List ℕ
Answer OpenDoor = Option (List ℕ × ℕ)
Answer (Join dest target) = Joined
Answer (Copy toward) = Option Way
Answer Part = Unit {0}

-- in which ways an act stops
abbrev pub Halt : Act → Type 0
Halt (Hear form) = Silence
Halt (Say text) = Front text
Halt (Try text) = ⊥
Halt (Log text) = Front text
Halt (Note text) = ⊥
Halt (Ask request) = PortFault
Halt (Renew name hash) = List ℕ × PortFault
Halt (Dial dest) = ⊥
Halt (Reach dest) = Unit {0}
Halt Take = Silence
Halt (Pass text) = Front text
Halt HangUp = ⊥
Halt Relay = Stuck
Halt (Deposit sender rcpts words most) = Undeposited words
Halt Allot = Unit {0}
Halt (TakeReply how) = Unreplied how
Halt OpenDoor = ⊥
Halt (Join dest target) = ⊥
Halt (Copy toward) = ⊥
Halt Part = ⊥

-- an act is done, with an answer, or stops
abbrev pub Outcome : Act → Type 0
Outcome act = Result (Answer act) (Halt act)

-- ---- causes

abbrev pub fault_cause : PortFault → Cause
fault_cause faults.NoMemory = NoMemory
fault_cause faults.Link = AuthFault
fault_cause faults.Strange = AuthFault

-- for what a session stops that hears nothing, where a fault is this one
abbrev pub silence_cause : Cause → Silence → Cause
silence_cause fault Quiet = Idle
silence_cause fault Broken = fault
silence_cause fault Limit = Spent

abbrev pub deposit_cause : {words : List ℕ} → Undeposited words → Cause
deposit_cause Lacks = NoMemory
deposit_cause (Unsaid front) = ClientFault
deposit_cause (Unheard silence data_heard) = silence_cause ClientFault silence

abbrev pub reply_cause : {how : ReplyUse} → Unreplied how → Cause
reply_cause (NotHeard silence text begun) = silence_cause ServerFault silence
reply_cause (NotSaid text front) = ClientFault

abbrev pub cause_by : (act : Act) → Halt act → Cause
cause_by (Hear form) halt = silence_cause ClientFault halt
cause_by (Say text) halt = ClientFault
cause_by (Try text) halt = absurd halt
cause_by (Log text) halt = LogFault
cause_by (Note text) halt = absurd halt
cause_by (Ask request) halt = fault_cause halt
cause_by (Renew name hash) halt = fault_cause halt.1
cause_by (Dial dest) halt = absurd halt
cause_by (Reach dest) halt = NoRoute
cause_by Take halt = silence_cause ServerFault halt
cause_by (Pass text) halt = ServerFault
cause_by HangUp halt = absurd halt
cause_by Relay halt = halt.cause
cause_by (Deposit sender rcpts words most) halt = deposit_cause halt
cause_by Allot halt = NoMemory
cause_by (TakeReply how) halt = reply_cause halt
cause_by OpenDoor halt = absurd halt
cause_by (Join dest target) halt = absurd halt
cause_by (Copy toward) halt = absurd halt
cause_by Part halt = absurd halt
