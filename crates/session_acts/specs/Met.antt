-- What an act, with its outcome, does to each part of what the session meets.
use Rattle.std.specs.Prelude.{◌≡◌, ℕ, ◌-◌, ◌^◌, ◌≤◌, Bool, true, false, List, [], length, Option, Some, None, Result, Ok, Err, unwrap_or}
use Rattle.std.specs.Option.{option_map}
use Rattle.auth_events.specs.Port.{Asks, Port}
use Rattle.auth_events.specs.declared.port.PortFault.{PortFault}
use Rattle.auth_events.specs.declared.reply.Reply.{Reply}
use Rattle.auth_events.specs.declared.reply.Reply.TheVariants as replies
use Rattle.auth_events.specs.declared.request.Request.{Request}
use Rattle.auth_events.specs.declared.request.Request.TheVariants as requests
use Rattle.fw_acts.specs.Acts.{Sig}
use Rattle.fw_outside.specs.ClockView.{ClockView, GaveTime}
use Rattle.fw_outside.specs.Counts.{Rose}
use Rattle.fw_outside.specs.DialerView.{ComesUp, DialerView, HangsUp, Refuses}
use Rattle.fw_outside.specs.DiceView.{DiceView, GaveSalt}
use Rattle.fw_outside.specs.LineReaderView.{LineReaderView}
use Rattle.fw_outside.specs.SinkView.{SinkView}
use Rattle.fw_outside.specs.SourceView.{SourceView}
use Rattle.fw_outside.specs.ToldList.{grown}
use Rattle.fw_outside.specs.declared.ask.Ask.TheVariants as asks
use Rattle.fw_outside.specs.declared.heard.Heard.{Heard}
use Rattle.fw_outside.specs.declared.heard.Heard.TheVariants.{Line, TooLong, Stopped}
use Rattle.fw_outside.specs.declared.heard.Stop.{Stop}
use Rattle.fw_outside.specs.declared.heard.Stop.TheVariants as stops
use Rattle.fw_types.specs.declared.dest.Dest.{Dest}
use Rattle.relay_ways.specs.Carried.{Drains, Supplies, Way}
use Rattle.relay_ways.specs.declared.way_end.WayEnd.{WayEnd}
use Rattle.spool_rack.specs.Store.{StoreView}
use Rattle.session_acts.specs.Acts.{Act, Answer, Front, Halt, Outcome, Undeposited, Unreplied, cause_by}
use Rattle.session_acts.specs.Acts.Act.{Hear, Say, Try, Log, Note, Ask, Renew, Dial, Reach, Take, Pass, HangUp, Relay, Deposit, Allot, TakeReply, OpenDoor, Join, Copy, Part}
use Rattle.session_acts.specs.Acts.Undeposited.{Lacks, Unsaid, Unheard}
use Rattle.session_acts.specs.Acts.Unreplied.{NotHeard, NotSaid}
use Rattle.session_acts.specs.Depositing.{AtStoreDeposit, Draws}
use Rattle.session_acts.specs.Forms.{ListensIn}
use Rattle.session_acts.specs.Joining.{Copies, Joins, LetsPairGo, OpensAt, Parts}
use Rattle.session_acts.specs.Relaying.{Flow, Through, flow_of}
use Rattle.session_acts.specs.Replying.{IsAtMostOne, IsReplied, said_of}
use Rattle.session_acts.specs.World.{Names, Office, Server, Speaker, World, unheard}
use Rattle.session_acts.specs.declared.cause.Cause.{Cause}
use Rattle.session_acts.specs.declared.deposited.Deposited.{Deposited}
use Rattle.session_acts.specs.declared.deposited.Deposited.TheVariants.{NoSlot, NotBegun, Kept, TooLarge, Faulted, Ended}
use Rattle.session_acts.specs.declared.form.Form.{Form}
use Rattle.session_acts.specs.declared.form.Form.TheVariants.{Lines}
use Rattle.session_acts.specs.declared.replied.Replied.{Replied}
use Rattle.session_acts.specs.declared.replied.Replied.TheVariants as replied
use Rattle.session_acts.specs.declared.reply_use.ReplyUse.{ReplyUse}
use Rattle.session_acts.specs.declared.silence.Silence.{Silence}
use Rattle.session_acts.specs.declared.silence.Silence.TheVariants.{Quiet, Broken, Limit}
use Rattle.session_acts.specs.declared.toward.Toward.{Toward}

-- ---- what is heard and said

-- this was heard in a form, and at most 4,096 bytes were taken beyond it
pub record Heeds (form : Form) (heard : Heard) (old new : Speaker) : Type 0 where
  pub inlet : SourceView
  pub reader : LineReaderView
  pub listens : ListensIn form heard old.reader reader old.inlet inlet
  pub near : length reader.pending ≤ 4096
  pub is : new ≡ record old { inlet = inlet; reader = reader }

-- a line, or the end
abbrev pub HeedsLine : Form → Heard → Speaker → Speaker → Type 0
HeedsLine form (Line line) old new = Heeds form (Line line) old new
HeedsLine form TooLong old new = Heeds form TooLong old new
HeedsLine form (Stopped stops.End) old new = Heeds form (Stopped stops.End) old new
HeedsLine form (Stopped stops.Idle) old new = ⊥
HeedsLine form (Stopped stops.Failed) old new = ⊥
HeedsLine form (Stopped stops.Spent) old new = ⊥

abbrev pub stop_of : Silence → Stop
stop_of Quiet = stops.Idle
stop_of Broken = stops.Failed
stop_of Limit = stops.Spent

abbrev pub Hears : Form → Result Heard Silence → Speaker → Speaker → Type 0
Hears form (Ok heard) old new = HeedsLine form heard old new
Hears form (Err silence) old new = Heeds form (Stopped (stop_of silence)) old new

-- the sink failed behind this front of a text, which it was given
pub record CutAt {text : List ℕ} (front : Front text) (old new : SinkView) : Type 0 where
  pub count : ℕ
  pub rose : Rose old.faults count
  pub is : new ≡ record old { given = grown old.given front.part; faults = count }

-- the sink was given the text, or a front of it
abbrev pub Gets : (text : List ℕ) → Result (Unit {0}) (Front text) → SinkView → SinkView → Type 0
Gets text (Ok done) old new = new ≡ record old { given = grown old.given text }
Gets text (Err front) old new = CutAt front old new

-- so it was, and that stops nothing
abbrev pub GetsTry : (text : List ℕ) → Result (Result (Unit {0}) (Front text)) ⊥ → SinkView → SinkView → Type 0
GetsTry text (Ok tried) old new = Gets text tried old new
GetsTry text (Err never) old new = ⊥

-- it was told the text
pub record IsTold (text : List ℕ) (outcome : Result (Unit {0}) (Front text)) (old new : Speaker) : Type 0 where
  pub outlet : SinkView
  pub gets : Gets text outcome old.outlet outlet
  pub is : new ≡ record old { outlet = outlet }

abbrev pub IsTriedTold : (text : List ℕ) → Result (Result (Unit {0}) (Front text)) ⊥ → Speaker → Speaker → Type 0
IsTriedTold text (Ok tried) old new = IsTold text tried old new
IsTriedTold text (Err never) old new = ⊥

-- What was taken of a speaker went one way, and what went the other way was given to it. The first begins with what was
-- taken ahead and not heard, of which nothing is pending then.
pub record Carrying (off on : Way) (old new : Speaker) : Type 0 where
  pub inlet : SourceView
  pub outlet : SinkView
  pub room : ℕ
  pub drains : Drains off old.reader.pending old.reader.room room old.inlet inlet
  pub supplies : Supplies on old.outlet outlet
  pub is : new ≡ record { inlet = inlet; reader = record { pending = []; room = room }; outlet = outlet }

-- the words were said, and then data heard, to their end or to where the source stopped
pub record DrawsAfter (words : List ℕ) (stop : Option Stop) (data_heard : List ℕ) (old new : Speaker) : Type 0 where
  pub middle : Speaker
  pub told : IsTold words (Ok tt) old middle
  pub draws : Draws stop data_heard middle new

abbrev pub ClientDeposits : List ℕ → Deposited → List ℕ → Speaker → Speaker → Type 0
ClientDeposits words NoSlot data_heard old new = new ≡ old
ClientDeposits words NotBegun data_heard old new = new ≡ old
ClientDeposits words (Kept number bytes) data_heard old new = DrawsAfter words None data_heard old new
ClientDeposits words TooLarge data_heard old new = DrawsAfter words None data_heard old new
ClientDeposits words Faulted data_heard old new = DrawsAfter words None data_heard old new
ClientDeposits words Ended data_heard old new = DrawsAfter words (Some stops.End) data_heard old new

abbrev pub AtClientDeposit : (words : List ℕ) → Result (Deposited × List ℕ) (Undeposited words) → Speaker → Speaker → Type 0
AtClientDeposit words (Ok answer) old new = ClientDeposits words answer.0 answer.1 old new
AtClientDeposit words (Err Lacks) old new = new ≡ old
AtClientDeposit words (Err (Unsaid front)) old new = IsTold words (Err front) old new
AtClientDeposit words (Err (Unheard silence data_heard)) old new = DrawsAfter words (Some (stop_of silence)) data_heard old new

-- ---- replies of a server

-- the text of a reply, or what came of it, was heard of the server
abbrev pub DrawsAnswer : Replied → List ℕ → Speaker → Speaker → Type 0
DrawsAnswer (replied.Whole code six) text old new = Draws None text old new
DrawsAnswer replied.Ended text old new = Draws (Some stops.End) text old new

abbrev pub DrawsReply : {how : ReplyUse} → Result (Replied × List ℕ) (Unreplied how) → Speaker → Speaker → Type 0
DrawsReply (Ok answer) old new = DrawsAnswer answer.0 answer.1 old new
DrawsReply (Err (NotHeard silence text begun)) old new = Draws (Some (stop_of silence)) text old new
DrawsReply (Err (NotSaid text front)) old new = Draws None text old new

-- what an outcome says of the text
abbrev pub IsOfText : {how : ReplyUse} → Result (Replied × List ℕ) (Unreplied how) → Type 0
IsOfText (Ok answer) = IsReplied answer.0 answer.1
IsOfText (Err (NotHeard silence text begun)) = IsReplied replied.Ended text
IsOfText (Err (NotSaid text front)) = IsAtMostOne text

-- and the client was told what is to be said of it
abbrev pub ClientReplies : {how : ReplyUse} → Result (Replied × List ℕ) (Unreplied how) → Speaker → Speaker → Type 0
ClientReplies {how} (Ok answer) old new = IsTold (said_of how answer.1) (Ok tt) old new
ClientReplies {how} (Err (NotHeard silence text begun)) old new = IsTold begun.part (Ok tt) old new
ClientReplies {how} (Err (NotSaid text front)) old new = IsTold (said_of how text) (Err front) old new

-- ---- the client and the log

abbrev pub ClientRelays : Option Flow → Speaker → Speaker → Type 0
ClientRelays None old new = new ≡ old
ClientRelays (Some flow) old new = Carrying flow.up flow.down old new

abbrev pub AtClient : (act : Act) → Outcome act → Speaker → Speaker → Type 0
AtClient (Hear form) outcome old new = Hears form outcome old new
AtClient (Say text) outcome old new = IsTold text outcome old new
AtClient (Try text) outcome old new = IsTriedTold text outcome old new
AtClient Relay outcome old new = ClientRelays (flow_of outcome) old new
AtClient (Deposit sender rcpts words most) outcome old new = AtClientDeposit words outcome old new
AtClient (TakeReply how) outcome old new = ClientReplies outcome old new
AtClient act outcome old new = new ≡ old

abbrev pub AtLogs : (act : Act) → Outcome act → SinkView → SinkView → Type 0
AtLogs (Log text) outcome old new = Gets text outcome old new
AtLogs (Note text) outcome old new = GetsTry text outcome old new
AtLogs act outcome old new = new ≡ old

-- ---- the office

-- the reply, where there was one
abbrev pub reply_of : Result Reply PortFault → Option Reply
reply_of (Ok reply) = Some reply
reply_of (Err fault) = None

-- the session that is open after a request was asked: the one that was opened last, if it wasn't asked to close
abbrev pub opened_then : Request → Option Reply → Option ℕ → Option ℕ
opened_then (requests.Open console) (Some (replies.Opened sid)) opened = Some sid
opened_then requests.Close reply opened = None
opened_then request reply opened = opened

-- the number that is told with a request: where no session is open the last that there is, which no session of a history
-- of fewer than 2 ^ 64 entries has
abbrev pub number_told : Option ℕ → ℕ
number_told opened = unwrap_or opened (2 ^ 64 - 1)

-- the port was asked, at a moment of the clock, for the session that is open
pub record Asking {Origin : Type 0} (request : Request) (reply : Result Reply PortFault) (old new : Office Origin) : Type 0 where
  pub moment : ℕ
  pub clock : ClockView
  pub port : Port Origin
  pub gave_time : GaveTime moment old.clock clock
  pub asks : Asks reply (number_told old.opened) moment request old.port port
  pub is : new ≡ record old { clock = clock; port = port; opened = opened_then request (reply_of reply) old.opened }

-- whether a new password is asked for
abbrev pub is_password : Request → Bool
is_password (requests.Password name salt hash) = true
is_password _ = false

-- a request, which isn't for a new password, was asked: a new password is asked for by `Renew` alone
pub record AskingOther {Origin : Type 0} (request : Request) (reply : Result Reply PortFault) (old new : Office Origin) : Type 0 where
  pub other : is_password request ≡ false
  pub asking : Asking request reply old new

-- the dice gave this salt, with which a new password was asked for
pub record Renewing {Origin : Type 0} (name hash salt : List ℕ) (reply : Result Reply PortFault) (old new : Office Origin) : Type 0 where
  pub dice : DiceView
  pub gave_salt : GaveSalt salt old.dice dice
  pub asking : Asking (requests.Password name salt hash) reply (record old { dice = dice }) new

abbrev pub Renews : {Origin : Type 0} → List ℕ → List ℕ → Result (List ℕ × Reply) (List ℕ × PortFault) → Office Origin → Office Origin → Type 0
Renews name hash (Ok salted) old new = Renewing name hash salted.0 (Ok salted.1) old new
Renews name hash (Err salted) old new = Renewing name hash salted.0 (Err salted.1) old new

abbrev pub AtOffice : {Origin : Type 0} (act : Act) → Outcome act → Office Origin → Office Origin → Type 0
AtOffice (Ask request) outcome old new = AskingOther request outcome old new
AtOffice (Renew name hash) outcome old new = Renews name hash outcome old new
AtOffice act outcome old new = new ≡ old

-- ---- the server

-- a link that is up is hung up
abbrev pub Clears : Option Speaker → DialerView → DialerView → Type 0
Clears None old new = new ≡ old
Clears (Some link) old new = HangsUp link.inlet link.outlet old new

-- A pair of data links that is up is let go and the door closed, and then a main link that is up is hung up.
pub record Hanging (old new : Server) : Type 0 where
  pub apart : DialerView
  pub lets : LetsPairGo old.pair old.dialer apart
  pub dialer : DialerView
  pub clears : Clears old.link apart dialer
  pub is : new ≡ record { dialer = dialer; link = None; door = false; pair = None }

-- a link came up, of which nothing was heard yet
pub record Connects (dest : Dest) (cleared : DialerView) (new : Server) : Type 0 where
  pub inlet : SourceView
  pub outlet : SinkView
  pub dialer : DialerView
  pub up : ComesUp (asks.Main dest) inlet outlet cleared dialer
  pub is : new ≡ record { dialer = dialer; link = Some (record { inlet = inlet; reader = unheard; outlet = outlet }); door = false; pair = None }

-- none came up
pub record Misses (dest : Dest) (cleared : DialerView) (new : Server) : Type 0 where
  pub dialer : DialerView
  pub refused : Refuses (asks.Main dest) cleared dialer
  pub is : new ≡ record { dialer = dialer; link = None; door = false; pair = None }

abbrev pub ConnectsIf : Bool → Dest → DialerView → Server → Type 0
ConnectsIf true dest cleared new = Connects dest cleared new
ConnectsIf false dest cleared new = Misses dest cleared new

-- the same is done to what is up, and then the destination is dialed
pub record Dialing (dest : Dest) (up : Bool) (old new : Server) : Type 0 where
  pub apart : DialerView
  pub lets : LetsPairGo old.pair old.dialer apart
  pub cleared : DialerView
  pub clears : Clears old.link apart cleared
  pub connects : ConnectsIf up dest cleared new

abbrev pub Dials : Dest → Result Bool ⊥ → Server → Server → Type 0
Dials dest (Ok up) old new = Dialing dest up old new
Dials dest (Err never) old new = ⊥

abbrev pub Reaches : Dest → Result (Unit {0}) (Unit {0}) → Server → Server → Type 0
Reaches dest (Ok up) old new = Dialing dest true old new
Reaches dest (Err halt) old new = Dialing dest false old new

-- the server was heard, in lines
pub record HearsServer (outcome : Result Heard Silence) (link : Speaker) (old new : Server) : Type 0 where
  pub speaker : Speaker
  pub hears : Hears Lines outcome link speaker
  pub is : new ≡ record old { link = Some speaker }

-- where no link is up, that is the end
abbrev pub Takes : Result Heard Silence → Option Speaker → Server → Server → Type 0
Takes outcome None old new = (outcome ≡ Ok (Stopped stops.End)) × (new ≡ old)
Takes outcome (Some link) old new = HearsServer outcome link old new

-- the server was told the text
pub record TellsServer (text : List ℕ) (outcome : Result (Unit {0}) (Front text)) (link : Speaker) (old new : Server) : Type 0 where
  pub speaker : Speaker
  pub told : IsTold text outcome link speaker
  pub is : new ≡ record old { link = Some speaker }

-- where no link is up, nothing is told
abbrev pub Passes : (text : List ℕ) → Result (Unit {0}) (Front text) → Option Speaker → Server → Server → Type 0
Passes text outcome None old new = (outcome ≡ Ok tt) × (new ≡ old)
Passes text outcome (Some link) old new = TellsServer text outcome link old new

abbrev pub HangsUpServer : Result (Unit {0}) ⊥ → Server → Server → Type 0
HangsUpServer (Ok done) old new = Hanging old new
HangsUpServer (Err never) old new = ⊥

-- a reply was taken of the server
pub record RepliesOver {how : ReplyUse} (outcome : Result (Replied × List ℕ) (Unreplied how)) (link : Speaker) (old new : Server) : Type 0 where
  pub speaker : Speaker
  pub of_text : IsOfText outcome
  pub draws : DrawsReply outcome link speaker
  pub is : new ≡ record old { link = Some speaker }

-- where no link is up, that is the end, of which nothing came
abbrev pub ServerReplies : {how : ReplyUse} → Result (Replied × List ℕ) (Unreplied how) → Option Speaker → Server → Server → Type 0
ServerReplies outcome None old new = (outcome ≡ Ok (replied.Ended, [])) × (new ≡ old)
ServerReplies outcome (Some link) old new = RepliesOver outcome link old new

-- the other end of the link
pub record ServerCarries (flow : Flow) (link : Speaker) (old new : Server) : Type 0 where
  pub speaker : Speaker
  pub carries : Carrying flow.down flow.up link speaker
  pub is : new ≡ record old { link = Some speaker }

-- there is a flow exactly where a link is up
abbrev pub ServerRelays : Option Flow → Option Speaker → Server → Server → Type 0
ServerRelays None None old new = new ≡ old
ServerRelays (Some flow) (Some link) old new = ServerCarries flow link old new
ServerRelays _ _ old new = ⊥

abbrev pub AtServer : (act : Act) → Outcome act → Server → Server → Type 0
AtServer (Dial dest) outcome old new = Dials dest outcome old new
AtServer (Reach dest) outcome old new = Reaches dest outcome old new
AtServer Take outcome old new = Takes outcome old.link old new
AtServer (Pass text) outcome old new = Passes text outcome old.link old new
AtServer HangUp outcome old new = HangsUpServer outcome old new
AtServer Relay outcome old new = ServerRelays (flow_of outcome) old.link old new
AtServer (TakeReply how) outcome old new = ServerReplies outcome old.link old new
AtServer OpenDoor outcome old new = OpensAt outcome old new
AtServer (Join dest target) outcome old new = Joins dest target outcome old new
AtServer (Copy toward) outcome old new = Copies toward outcome old.pair old new
AtServer Part outcome old new = Parts outcome old new
AtServer act outcome old new = new ≡ old

-- ---- the mail store

abbrev pub AtStore : (act : Act) → Outcome act → StoreView → StoreView → Type 0
AtStore (Deposit sender rcpts words most) outcome old new = AtStoreDeposit sender rcpts words most outcome old new
AtStore act outcome old new = new ≡ old

-- ---- all parts

-- only a session that is lent threads relays
abbrev pub May : Act → Names → Type 0
May Relay names = names.relays ≡ true
May act names = Unit {0}

-- the act came out so
pub record Met {Origin : Type 0} (act : Act) (outcome : Outcome act) (old new : World Origin) : Type 0 where
  pub client : AtClient act outcome old.client new.client
  pub logs : AtLogs act outcome old.logs new.logs
  pub office : AtOffice act outcome old.office new.office
  pub server : AtServer act outcome old.server new.server
  pub store : AtStore act outcome old.store new.store
  pub names : new.names ≡ old.names
  pub may : May act old.names

-- the session stopped at the act, for this cause
pub record Stops {Origin : Type 0} (act : Act) (cause : Cause) (old new : World Origin) : Type 0 where
  pub halt : Halt act
  pub is_cause : cause ≡ cause_by act halt
  pub met : Met act (Err halt) old new

abbrev pub Does : {Origin : Type 0} (act : Act) → Answer act → World Origin → World Origin → Type 0
Does act answer old new = Met act (Ok answer) old new

-- the acts of a session
abbrev pub acts : Type 0 → Sig
acts Origin = record { Act = Act; Answer = Answer; World = World Origin; Stop = Cause; does = Does; stops = Stops }

-- what a method of the stage says of its act
abbrev pub Acted : {Origin : Type 0} (act : Act) → Result (Answer act) Cause → World Origin → World Origin → Type 0
Acted act (Ok answer) old new = Met act (Ok answer) old new
Acted act (Err cause) old new = Stops act cause old new

-- an act that never stops was done, however that came out
pub record Tried {Origin : Type 0} (text : List ℕ) (old new : World Origin) : Type 0 where
  pub tried : Result (Unit {0}) (Front text)
  pub met : Met (Try text) (Ok tried) old new

pub record Jotted {Origin : Type 0} (text : List ℕ) (old new : World Origin) : Type 0 where
  pub tried : Result (Unit {0}) (Front text)
  pub met : Met (Note text) (Ok tried) old new

-- a relay was done, whatever it carried, or the session stopped at it
pub record RelayDone {Origin : Type 0} (old new : World Origin) : Type 0 where
  pub through : Option Through
  pub met : Met Relay (Ok through) old new

abbrev pub Relays : {Origin : Type 0} → Result (Unit {0}) Cause → World Origin → World Origin → Type 0
Relays (Ok done) old new = RelayDone old new
Relays (Err cause) old new = Stops Relay cause old new

-- a message was deposited, of which these data were heard, or the session stopped at it
pub record DepositDone {Origin : Type 0} (sender : List ℕ) (rcpts : List (List ℕ)) (words : List ℕ) (most : ℕ) (deposited : Deposited) (old new : World Origin) : Type 0 where
  pub data_heard : List ℕ
  pub met : Met (Deposit sender rcpts words most) (Ok (deposited, data_heard)) old new

abbrev pub Deposits : {Origin : Type 0} → List ℕ → List (List ℕ) → List ℕ → ℕ → Result Deposited Cause → World Origin → World Origin → Type 0
Deposits sender rcpts words most (Ok deposited) old new = DepositDone sender rcpts words most deposited old new
Deposits sender rcpts words most (Err cause) old new = Stops (Deposit sender rcpts words most) cause old new

-- a reply was taken, of which this text came, or the session stopped at it
pub record ReplyDone {Origin : Type 0} (how : ReplyUse) (is_replied : Replied) (old new : World Origin) : Type 0 where
  pub text : List ℕ
  pub met : Met (TakeReply how) (Ok (is_replied, text)) old new

abbrev pub Replies : {Origin : Type 0} → ReplyUse → Result Replied Cause → World Origin → World Origin → Type 0
Replies how (Ok is_replied) old new = ReplyDone how is_replied old new
Replies how (Err cause) old new = Stops (TakeReply how) cause old new

-- a copy was made, whatever it carried, whose way ended so; or no data links were up
pub record CopyDone {Origin : Type 0} (toward : Toward) (ended : Option WayEnd) (old new : World Origin) : Type 0 where
  pub carried : Option Way
  pub is : ended ≡ option_map (λ way. way.end) carried
  pub met : Met (Copy toward) (Ok carried) old new
