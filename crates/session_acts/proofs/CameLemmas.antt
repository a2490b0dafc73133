-- How many links a dialer counted as come up.
use Rattle.std.proofs.Common.{arith, ◌≡◌, refl, sym, subst, ℕ, ◌+◌, Bool, true, false, List, length, Option, Some, None, Result, Ok, Err}
use Rattle.fw_outside.proofs.CountLemmas.{grew_by, grew_none}
use Rattle.fw_outside.specs.Counts.{Grew}
use Rattle.fw_outside.specs.DialerView.{ComesUp, DialerView, LetsGo, Refuses}
use Rattle.fw_outside.specs.SinkView.{SinkView}
use Rattle.fw_outside.specs.SourceView.{SourceView}
use Rattle.fw_outside.specs.declared.ask.Ask as asks
use Rattle.fw_outside.specs.declared.heard.Heard.{Heard}
use Rattle.fw_types.specs.declared.dest.Dest.{Dest}
use Rattle.relay_ways.specs.Carried.{Way}
use Rattle.session_acts.specs.Acts.{Act, Front, Outcome, Unreplied}
use Rattle.session_acts.specs.Acts.Act.{Hear, Say, Try, Log, Note, Ask, Renew, Dial, Reach, Take, Pass, HangUp, Relay, Deposit, Allot, TakeReply, OpenDoor, Join, Copy, Part}
use Rattle.session_acts.specs.Joining.{CopiesBy, Joining, JoinsNoNear, JoinsNoSide, JoinsSo, JoinsUp, LetsBothGo, LetsPairGo, NearRefused, NearUp, OpensDoor, OpensNone, Parting}
use Rattle.session_acts.specs.Laws.{linked, pair_came, up_if}
use Rattle.session_acts.specs.Met.{Clears, ConnectsIf, Dialing, Hanging, Met, Passes, ServerRelays, ServerReplies, Takes}
use Rattle.session_acts.specs.Relaying.{Flow, flow_of}
use Rattle.session_acts.specs.World.{Pair, Server, Speaker, World}
use Rattle.session_acts.specs.declared.joined.Joined.{Joined}
use Rattle.session_acts.specs.declared.joined.Joined.TheVariants.{Up, NoSide, NoNear, Unready}
use Rattle.session_acts.specs.declared.replied.Replied.{Replied}
use Rattle.session_acts.specs.declared.silence.Silence.{Silence}
use Rattle.session_acts.specs.declared.reply_use.ReplyUse.{ReplyUse}
use Rattle.session_acts.specs.declared.target.Target.{Target}
use Rattle.session_acts.specs.declared.target.Target.TheVariants.{Addr, AtDoor}
use Rattle.session_acts.specs.declared.toward.Toward.{Toward}

-- ---- the calls of a dialer

-- so many links came up
abbrev Came : ℕ → DialerView → DialerView → Type 0
Came n old new = Grew n old.came new.came

came_same : (old new : DialerView) → new ≡ old → Came 0 old new
came_same old new is = subst (λ (d : DialerView). Came 0 old d) (sym is) (grew_none old.came)

came_both : (n m : ℕ) (old mid new : DialerView) → Came n old mid → Came m mid new → Came (n + m) old new
came_both n m old mid new a b = grew_by n m (n + m) old.came mid.came new.came refl a b

-- nothing came up before
came_then : (n : ℕ) (old mid new : DialerView) → Came 0 old mid → Came n mid new → Came n old new
came_then n old mid new a b = grew_by 0 n n old.came mid.came new.came (omega (arith)) a b

came_up : (ask : asks.Ask) (from : SourceView) (to : SinkView) (old new : DialerView) → ComesUp ask from to old new → Came 1 old new
came_up ask from to old new h = subst (λ (d : DialerView). Came 1 old d) (sym h.is) h.grew

came_refused : (ask : asks.Ask) (old new : DialerView) → Refuses ask old new → Came 0 old new
came_refused ask old new h = subst (λ (d : DialerView). Came 0 old d) (sym h.is) (grew_none old.came)

came_let_go : (from : SourceView) (to : SinkView) (old new : DialerView) → LetsGo from to old new → Came 0 old new
came_let_go from to old new h = subst (λ (d : DialerView). Came 0 old d) (sym h.is) (grew_none old.came)

came_near : (target : Target) (from : SourceView) (to : SinkView) (old new : DialerView) → NearUp target from to old new → Came 1 old new
came_near (Addr addr port) from to old new h = came_up _ from to old new h
came_near AtDoor from to old new h = subst (λ (d : DialerView). Came 1 old d) (sym h.is) h.grew

came_away : (target : Target) (old new : DialerView) → NearRefused target old new → Came 0 old new
came_away (Addr addr port) old new h = came_refused _ old new h
came_away AtDoor old new h = subst (λ (d : DialerView). Came 0 old d) (sym h.is) (grew_none old.came)

-- ---- hanging up and dialing

came_both_gone : (pair : Pair) (old new : DialerView) → LetsBothGo pair old new → Came 0 old new
came_both_gone pair old new h =
    came_both 0 0 old h.middle new (came_let_go pair.far.from pair.far.to old h.middle h.far) (came_let_go pair.near.from pair.near.to h.middle new h.near)

came_apart : (pair : Option Pair) (old new : DialerView) → LetsPairGo pair old new → Came 0 old new
came_apart None old new h = came_same old new h
came_apart (Some pair) old new h = came_both_gone pair old new h

came_clears : (link : Option Speaker) (old new : DialerView) → Clears link old new → Came 0 old new
came_clears None old new h = came_same old new h
came_clears (Some link) old new h = subst (λ (d : DialerView). Came 0 old d) (sym h.is) (grew_none old.came)

came_cleared : (pair : Option Pair) (link : Option Speaker) (old apart new : DialerView) → LetsPairGo pair old apart → Clears link apart new → Came 0 old new
came_cleared pair link old apart new lets clears = came_both 0 0 old apart new (came_apart pair old apart lets) (came_clears link apart new clears)

came_connects : (dest : Dest) (up : Bool) (old : DialerView) (new : Server) → ConnectsIf up dest old new → Came (length (up_if dest up)) old new.dialer
came_connects dest true old new h = subst (λ (s : Server). Came 1 old s.dialer) (sym h.is) (came_up _ h.inlet h.outlet old h.dialer h.up)
came_connects dest false old new h = subst (λ (s : Server). Came 0 old s.dialer) (sym h.is) (came_refused _ old h.dialer h.refused)

-- ---- a server, act by act

-- so many links came up at its dialer
abbrev AtDialer : ℕ → Server → Server → Type 0
AtDialer n old new = Came n old.dialer new.dialer

stays : (old new : Server) → new ≡ old → AtDialer 0 old new
stays old new is = subst (λ (s : Server). AtDialer 0 old s) (sym is) (grew_none old.dialer.came)

-- the link that is up stays so
stays_up : (old new : Server) (speaker : Speaker) → new ≡ record old { link = Some speaker } → AtDialer 0 old new
stays_up old new speaker is = subst (λ (s : Server). AtDialer 0 old s) (sym is) (grew_none old.dialer.came)

dials : (dest : Dest) (up : Bool) (old new : Server) → Dialing dest up old new → AtDialer (length (up_if dest up)) old new
dials dest up old new h =
    came_then (length (up_if dest up)) old.dialer h.cleared new.dialer (came_cleared old.pair old.link old.dialer h.apart h.cleared h.lets h.clears) (came_connects dest up h.cleared new h.connects)

hangs_up : (old new : Server) → Hanging old new → AtDialer 0 old new
hangs_up old new h =
    subst (λ (s : Server). AtDialer 0 old s) (sym h.is) (came_cleared old.pair old.link old.dialer h.apart h.dialer h.lets h.clears)

takes : (outcome : Result Heard Silence) (link : Option Speaker) (old new : Server) → Takes outcome link old new → AtDialer 0 old new
takes outcome None old new h = stays old new h.1
takes outcome (Some link) old new h = stays_up old new h.speaker h.is

passes : (text : List ℕ) (outcome : Result (Unit {0}) (Front text)) (link : Option Speaker) (old new : Server) → Passes text outcome link old new → AtDialer 0 old new
passes text outcome None old new h = stays old new h.1
passes text outcome (Some link) old new h = stays_up old new h.speaker h.is

relays : (flow : Option Flow) (link : Option Speaker) (old new : Server) → ServerRelays flow link old new → AtDialer 0 old new
relays None None old new h = stays old new h
relays None (Some link) old new h = absurd h
relays (Some flow) None old new h = absurd h
relays (Some flow) (Some link) old new h = stays_up old new h.speaker h.is

replies : {how : ReplyUse} (outcome : Result (Replied × List ℕ) (Unreplied how)) (link : Option Speaker) (old new : Server) → ServerReplies outcome link old new → AtDialer 0 old new
replies outcome None old new h = stays old new h.1
replies outcome (Some link) old new h = stays_up old new h.speaker h.is

parts : (old new : Server) → Parting old new → AtDialer 0 old new
parts old new h = subst (λ (s : Server). AtDialer 0 old s) (sym h.is) (came_apart old.pair old.dialer h.dialer h.lets)

opens : (addr : List ℕ) (port : ℕ) (old new : Server) → OpensDoor addr port old new → AtDialer 0 old new
opens addr port old new h =
    subst (λ (s : Server). AtDialer 0 old s) (sym h.is) (subst (λ (d : DialerView). Came 0 old.dialer d) (sym h.opens.is) (grew_none old.dialer.came))

opens_none : (old new : Server) → OpensNone old new → AtDialer 0 old new
opens_none old new h = subst (λ (s : Server). AtDialer 0 old s) (sym h.is) (came_refused _ old.dialer h.dialer h.refused)

joins_so : (dest : Dest) (target : Target) (joined : Joined) (old new : Server) → JoinsSo dest target joined old new → AtDialer (length (pair_came dest target joined)) old new
joins_so dest target Up old new h =
    let j : JoinsUp dest target old new = h.joins in
    subst (λ (s : Server). AtDialer 2 old s) (sym j.is) (came_both 1 1 old.dialer j.middle j.dialer (came_up _ j.pair.far.from j.pair.far.to old.dialer j.middle j.far) (came_near target j.pair.near.from j.pair.near.to j.middle j.dialer j.near))
joins_so dest target NoSide old new h =
    let j : JoinsNoSide dest target old new = h.joins in
    subst (λ (s : Server). AtDialer 0 old s) (sym j.is) (came_refused _ old.dialer j.dialer j.refused)
joins_so dest target NoNear old new h =
    let j : JoinsNoNear dest target old new = h.joins in
    let first = came_both 1 0 old.dialer j.middle j.later (came_up _ j.link.from j.link.to old.dialer j.middle j.far) (came_away target j.middle j.later j.refused) in
    subst (λ (s : Server). AtDialer 1 old s) (sym j.is) (came_both 1 0 old.dialer j.later j.dialer first (came_let_go j.link.from j.link.to j.later j.dialer j.lets))
joins_so dest target Unready old new h = stays old new h.is

joins : (dest : Dest) (target : Target) (joined : Joined) (old new : Server) → Joining dest target joined old new → AtDialer (length (pair_came dest target joined)) old new
joins dest target joined old new h =
    came_then (length (pair_came dest target joined)) old.dialer h.apart.dialer new.dialer (parts old h.apart h.parts) (joins_so dest target joined h.apart new h.joins)

copies : (toward : Toward) (carried : Option Way) (pair : Option Pair) (old new : Server) → CopiesBy toward carried pair old new → AtDialer 0 old new
copies toward None None old new h = stays old new h
copies toward None (Some pair) old new h = absurd h
copies toward (Some way) None old new h = absurd h
copies toward (Some way) (Some pair) old new h = subst (λ (s : Server). AtDialer 0 old s) (sym h.is) (came_both_gone _ old.dialer h.dialer h.lets)

module _ {Origin : Type 0} where
  -- as many links came up as the deed names
  pub came_one : (a : Act) (outcome : Outcome a) (old new : World Origin) → Met a outcome old new → Grew (length (linked a outcome)) old.server.dialer.came new.server.dialer.came
  came_one (Dial dest) (Ok up) old new met = dials dest up old.server new.server met.server
  came_one (Dial dest) (Err never) old new met = absurd never
  came_one (Reach dest) (Ok up) old new met = dials dest true old.server new.server met.server
  came_one (Reach dest) (Err halt) old new met = dials dest false old.server new.server met.server
  came_one Take outcome old new met = takes outcome old.server.link old.server new.server met.server
  came_one (Pass text) outcome old new met = passes text outcome old.server.link old.server new.server met.server
  came_one HangUp (Ok done) old new met = hangs_up old.server new.server met.server
  came_one HangUp (Err never) old new met = absurd never
  came_one Relay outcome old new met = relays (flow_of outcome) old.server.link old.server new.server met.server
  came_one (Hear form) outcome old new met = stays old.server new.server met.server
  came_one (Say text) outcome old new met = stays old.server new.server met.server
  came_one (Try text) outcome old new met = stays old.server new.server met.server
  came_one (Log text) outcome old new met = stays old.server new.server met.server
  came_one (Deposit sender rcpts words most) outcome old new met = stays old.server new.server met.server
  came_one Allot outcome old new met = stays old.server new.server met.server
  came_one (TakeReply how) outcome old new met = replies outcome old.server.link old.server new.server met.server
  came_one OpenDoor (Ok (Some at)) old new met = opens at.0 at.1 old.server new.server met.server
  came_one OpenDoor (Ok None) old new met = opens_none old.server new.server met.server
  came_one OpenDoor (Err never) old new met = absurd never
  came_one (Join dest target) (Ok joined) old new met = joins dest target joined old.server new.server met.server
  came_one (Join dest target) (Err never) old new met = absurd never
  came_one (Copy toward) (Ok carried) old new met = copies toward carried old.server.pair old.server new.server met.server
  came_one (Copy toward) (Err never) old new met = absurd never
  came_one Part (Ok done) old new met = parts old.server new.server met.server
  came_one Part (Err never) old new met = absurd never
  came_one (Note text) outcome old new met = stays old.server new.server met.server
  came_one (Ask request) outcome old new met = stays old.server new.server met.server
  came_one (Renew name hash) outcome old new met = stays old.server new.server met.server
