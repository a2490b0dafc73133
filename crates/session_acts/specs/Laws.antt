-- What a list of deeds comes to at each device.
use Rattle.std.specs.Prelude.{◌≡◌, ℕ, ◌+◌, ◌-◌, ◌^◌, ◌<◌, ◌≤◌, min, Bool, true, false, List, [], ◌∷◌, length, Option, Some, None, Result, Ok, Err}
use Rattle.fw_outside.specs.Counts.{Grew}
use Rattle.fw_outside.specs.DialerView.{LinkView}
use Rattle.fw_outside.specs.ToldList.{grown}
use Rattle.fw_outside.specs.declared.ask.Ask.TheVariants.{Back, Door, Main, Side}
use Rattle.fw_outside.specs.declared.ask.Ask as asks
use Rattle.fw_types.specs.declared.dest.Dest.{Dest}
use Rattle.relay_ways.specs.Carried.{Way}
use Rattle.relay_ways.specs.declared.way_end.WayEnd.{WayEnd}
use Rattle.relay_ways.specs.declared.way_end.WayEnd.TheVariants as ways
use Rattle.session_acts.specs.Acts.{Act, Front, Outcome, Undeposited, Unreplied}
use Rattle.session_acts.specs.Acts.Act.{Say, Try, Log, Note, Dial, Reach, Relay, Deposit, TakeReply, OpenDoor, Join, Copy}
use Rattle.session_acts.specs.Acts.Undeposited.{Lacks, Unsaid, Unheard}
use Rattle.session_acts.specs.Acts.Unreplied.{NotHeard, NotSaid}
use Rattle.session_acts.specs.Relaying.{flow_of, given_down}
use Rattle.session_acts.specs.Replying.{said_of}
use Rattle.session_acts.specs.World.{Pair, Server, Speaker, World}
use Rattle.session_acts.specs.declared.deposited.Deposited.{Deposited}
use Rattle.session_acts.specs.declared.deposited.Deposited.TheVariants.{NoSlot, NotBegun}
use Rattle.session_acts.specs.declared.joined.Joined.{Joined}
use Rattle.session_acts.specs.declared.joined.Joined.TheVariants.{Up, NoSide, NoNear, Unready}
use Rattle.session_acts.specs.declared.replied.Replied.{Replied}
use Rattle.session_acts.specs.declared.reply_use.ReplyUse.{ReplyUse}
use Rattle.session_acts.specs.declared.target.Target.{Target}
use Rattle.session_acts.specs.declared.target.Target.TheVariants.{Addr, AtDoor}

-- ---- what the client and the log are given

-- of a text that was given, all of it or a front
abbrev pub got : {text : List ℕ} → Result (Unit {0}) (Front text) → List ℕ
got {text} (Ok done) = text
got (Err front) = front.part

abbrev pub got_trying : {text : List ℕ} {Never : Type 0} → Result (Result (Unit {0}) (Front text)) Never → List ℕ
got_trying (Ok tried) = got tried
got_trying (Err never) = []

-- the words that a message's data follow are said once a slot is taken and the message begun
abbrev pub words_if : Deposited → List ℕ → List ℕ
words_if NoSlot words = []
words_if NotBegun words = []
words_if deposited words = words

abbrev pub words_told : {words : List ℕ} → Result (Deposited × List ℕ) (Undeposited words) → List ℕ
words_told {words} (Ok answer) = words_if answer.0 words
words_told (Err Lacks) = []
words_told (Err (Unsaid front)) = front.part
words_told {words} (Err (Unheard silence data_heard)) = words

-- what is passed of a reply
abbrev pub reply_told : {how : ReplyUse} → Result (Replied × List ℕ) (Unreplied how) → List ℕ
reply_told {how} (Ok answer) = said_of how answer.1
reply_told (Err (NotHeard silence text begun)) = begun.part
reply_told (Err (NotSaid text front)) = front.part

-- what the client is told: what is said, what is tried, what a relay carries to it, what is said before a message's data, and
-- what is passed of a server's replies
abbrev pub told : (act : Act) → Outcome act → List ℕ
told (Say text) outcome = got outcome
told (Try text) outcome = got_trying outcome
told Relay outcome = given_down (flow_of outcome)
told (Deposit sender rcpts words most) outcome = words_told outcome
told (TakeReply how) outcome = reply_told outcome
told act outcome = []

-- what the log is given: what is logged and what is noted
abbrev pub logged : (act : Act) → Outcome act → List ℕ
logged (Log text) outcome = got outcome
logged (Note text) outcome = got_trying outcome
logged act outcome = []

abbrev pub TellsClient : {Origin : Type 0} → List ℕ → World Origin → World Origin → Type 0
TellsClient bytes old new = new.client.outlet.given ≡ grown old.client.outlet.given bytes

abbrev pub TellsLog : {Origin : Type 0} → List ℕ → World Origin → World Origin → Type 0
TellsLog bytes old new = new.logs.given ≡ grown old.logs.given bytes

-- ---- what the dialer is asked, and which links it gets back

-- all these were told; what stopped telling, or never did, says nothing of them
abbrev pub Adds : {A : Type 0} → List A → Option (List A) → Option (List A) → Type 0
Adds more old None = Unit {0}
Adds more old (Some all) = grown old more ≡ Some all

-- a door, at the place where it opened, if it did
abbrev pub door_asked : {Never : Type 0} → Result (Option (List ℕ × ℕ)) Never → List asks.Ask
door_asked (Ok at) = Door at ∷ []
door_asked (Err never) = []

-- the client's data link, unless it is accepted at a door
abbrev pub near_asked : Target → List asks.Ask
near_asked (Addr addr port) = Back addr port ∷ []
near_asked AtDoor = []

-- data links, the client's only where the one to the server came up
abbrev pub pair_asked : Dest → Target → Joined → List asks.Ask
pair_asked dest target Up = Side dest ∷ near_asked target
pair_asked dest target NoSide = Side dest ∷ []
pair_asked dest target NoNear = Side dest ∷ near_asked target
pair_asked dest target Unready = []

abbrev pub join_asked : {Never : Type 0} → Dest → Target → Result Joined Never → List asks.Ask
join_asked dest target (Ok joined) = pair_asked dest target joined
join_asked dest target (Err never) = []

-- each destination that is dialed or reached is asked for, and so are doors and data links
abbrev pub called : (act : Act) → Outcome act → List asks.Ask
called (Dial dest) outcome = Main dest ∷ []
called (Reach dest) outcome = Main dest ∷ []
called OpenDoor outcome = door_asked outcome
called (Join dest target) outcome = join_asked dest target outcome
called act outcome = []

abbrev pub CallsDialer : {Origin : Type 0} → List asks.Ask → World Origin → World Origin → Type 0
CallsDialer calls old new = Adds calls old.server.dialer.asked new.server.dialer.asked

-- what a dialer was wanted for: a main link, a door, a data link to a server, or one to a client
pub data Wanted : Type 0 where
  ForMain : (dest : Dest) → Wanted
  ForDoor : Wanted
  ForSide : (dest : Dest) → Wanted
  ForNear : (target : Target) → Wanted

-- the links that came up
abbrev pub up_if : Dest → Bool → List Wanted
up_if dest true = ForMain dest ∷ []
up_if dest false = []

abbrev pub dialed : {Never : Type 0} → Dest → Result Bool Never → List Wanted
dialed dest (Ok up) = up_if dest up
dialed dest (Err never) = []

abbrev pub reached : {Done Halted : Type 0} → Dest → Result Done Halted → List Wanted
reached dest (Ok up) = ForMain dest ∷ []
reached dest (Err halt) = []

abbrev pub pair_came : Dest → Target → Joined → List Wanted
pair_came dest target Up = ForSide dest ∷ ForNear target ∷ []
pair_came dest target NoSide = []
pair_came dest target NoNear = ForSide dest ∷ []
pair_came dest target Unready = []

abbrev pub joined_up : {Never : Type 0} → Dest → Target → Result Joined Never → List Wanted
joined_up dest target (Ok joined) = pair_came dest target joined
joined_up dest target (Err never) = []

abbrev pub linked : (act : Act) → Outcome act → List Wanted
linked (Dial dest) outcome = dialed dest outcome
linked (Reach dest) outcome = reached dest outcome
linked (Join dest target) outcome = joined_up dest target outcome
linked act outcome = []

-- how many links are up
abbrev pub up_now : Option Speaker → ℕ
up_now None = 0
up_now (Some link) = 1

abbrev pub pair_now : Option Pair → ℕ
pair_now None = 0
pair_now (Some pair) = 2

abbrev pub ups_now : Server → ℕ
ups_now server = up_now server.link + pair_now server.pair

-- As many links came up as were hung up or are up, but for those that were up before; and the dialer counted these, and no other.
pub record LinksDialer {Origin : Type 0} (ups : List Wanted) (old new : World Origin) : Type 0 where
  pub links : List LinkView
  pub ended : Adds links old.server.dialer.ended new.server.dialer.ended
  pub each : length links + ups_now new.server ≡ ups_now old.server + length ups
  pub came : Grew (length ups) old.server.dialer.came new.server.dialer.came

-- ---- what was refused

abbrev pub missed : {Never : Type 0} → Dest → Result Bool Never → List Wanted
missed dest (Ok true) = []
missed dest (Ok false) = ForMain dest ∷ []
missed dest (Err never) = []

abbrev pub unreached : {Done Halted : Type 0} → Dest → Result Done Halted → List Wanted
unreached dest (Ok up) = []
unreached dest (Err halt) = ForMain dest ∷ []

abbrev pub unopened : {Never : Type 0} → Result (Option (List ℕ × ℕ)) Never → List Wanted
unopened (Ok (Some at)) = []
unopened (Ok None) = ForDoor ∷ []
unopened (Err never) = []

abbrev pub pair_missed : Dest → Target → Joined → List Wanted
pair_missed dest target Up = []
pair_missed dest target NoSide = ForSide dest ∷ []
pair_missed dest target NoNear = ForNear target ∷ []
pair_missed dest target Unready = []

abbrev pub unjoined : {Never : Type 0} → Dest → Target → Result Joined Never → List Wanted
unjoined dest target (Ok joined) = pair_missed dest target joined
unjoined dest target (Err never) = []

-- the destinations that were dialed or reached in vain, and the doors and data links that were refused
abbrev pub refused : (act : Act) → Outcome act → List Wanted
refused (Dial dest) outcome = missed dest outcome
refused (Reach dest) outcome = unreached dest outcome
refused OpenDoor outcome = unopened outcome
refused (Join dest target) outcome = unjoined dest target outcome
refused act outcome = []

-- each of these was counted, as far as the count goes
abbrev pub CountsRefusals : {Origin : Type 0} → List Wanted → World Origin → World Origin → Type 0
CountsRefusals wanted old new = min (old.server.dialer.refusals + length wanted) (2 ^ 64 - 1) ≤ new.server.dialer.refusals

-- ---- which copies were broken off

-- a way that failed or was idle, and so didn't come to the source's end or to the limit
abbrev pub is_broken_off : WayEnd → Bool
is_broken_off ways.Done = false
is_broken_off ways.ReadFault = true
is_broken_off ways.WriteFault = true
is_broken_off ways.Idle = true
is_broken_off ways.Spent = false

abbrev pub if_broken : Bool → Way → List Way
if_broken true way = way ∷ []
if_broken false way = []

abbrev pub broken_in : {Never : Type 0} → Result (Option Way) Never → List Way
broken_in (Ok None) = []
broken_in (Ok (Some way)) = if_broken (is_broken_off way.end) way
broken_in (Err never) = []

abbrev pub broken_off : (act : Act) → Outcome act → List Way
broken_off (Copy toward) outcome = broken_in outcome
broken_off act outcome = []

-- Each of these was counted, as a fault or as idleness of a data link, unless one of these counts stands at its last value.
pub record CountsBroken {Origin : Type 0} (ways_broken : List Way) (old new : World Origin) : Type 0 where
  pub faults : old.server.dialer.data_faults ≤ new.server.dialer.data_faults
  pub idles : old.server.dialer.data_idles ≤ new.server.dialer.data_idles
  pub each : (new.server.dialer.data_faults < 2 ^ 64 - 1) → (new.server.dialer.data_idles < 2 ^ 64 - 1)
      → old.server.dialer.data_faults + old.server.dialer.data_idles + length ways_broken ≤ new.server.dialer.data_faults + new.server.dialer.data_idles
