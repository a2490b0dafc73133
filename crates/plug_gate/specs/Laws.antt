-- What a session of the plug comes to.
use Rattle.std.specs.Prelude.{◌≡◌, ℕ, List, [], ◌∷◌, ◌⊎◌, length, Result, Ok, Err}
use Rattle.fw_outside.specs.Counts.{Grew}
use Rattle.fw_outside.specs.DialerView.{ComesUp, DialerView, HangsUp, LinkView, Refuses}
use Rattle.fw_outside.specs.ToldList.{grown}
use Rattle.fw_outside.specs.declared.ask.Ask.TheVariants.{Main}
use Rattle.fw_types.specs.declared.dest.Dest.{Dest}
use Rattle.fw_types.specs.declared.ending.Ending.{Ending}
use Rattle.fw_types.specs.declared.ending.Ending.TheVariants as endings
use Rattle.relay_ways.specs.Carried.{Carries}
use Rattle.relay_ways.specs.Ending as ways
use Rattle.relay_ways.specs.declared.way_end.WayEnd.{WayEnd}
use Rattle.session_acts.specs.Acts.{Front, Outcome}
use Rattle.session_acts.specs.Acts.Act.{Log, Reach, Relay}
use Rattle.session_acts.specs.Client.{LogFails, line_logged, with_line}
use Rattle.session_acts.specs.Deeds.{Deed}
use Rattle.session_acts.specs.Laws.{Adds, CallsDialer, TellsClient, TellsLog}
use Rattle.session_acts.specs.RelayFronts.{AllIsSaid, IsFront, OverLink, may_lose_down, may_lose_up}
use Rattle.session_acts.specs.Relaying.{flow_of, given_down}
use Rattle.session_acts.specs.World.{Devices, World, most_taken}
use Rattle.session_acts.specs.declared.cause.Cause.{Cause}
use Rattle.session_acts.specs.declared.cause.Cause.TheVariants.{LogFault, NoRoute}

-- ---- the deeds of its dialogue

-- a destination was refused, or reached
abbrev pub refused_at : Dest → Deed
refused_at dest = record { act = Reach dest; outcome = Err tt }

abbrev pub reached_at : Dest → Deed
reached_at dest = record { act = Reach dest; outcome = Ok tt }

-- bytes were relayed, to this outcome
abbrev pub relayed_to : Outcome Relay → Deed
relayed_to outcome = record { act = Relay; outcome = outcome }

-- the log failed within the connect line
pub record FailsAtLine (line : List ℕ) (dialogue : Result (Unit {0}) Cause) (deeds : List Deed) : Type 0 where
  pub front : Front line
  pub stops : dialogue ≡ Err LogFault
  pub are : deeds ≡ record { act = Log line; outcome = Err front } ∷ []

-- the line was logged, and the destination refused
pub record IsRefused (line : List ℕ) (dest : Dest) (dialogue : Result (Unit {0}) Cause) (deeds : List Deed) : Type 0 where
  pub stops : dialogue ≡ Err NoRoute
  pub are : deeds ≡ line_logged line ∷ refused_at dest ∷ []

-- the line was logged, the destination reached, and then bytes were relayed
pub record Relays (line : List ℕ) (dest : Dest) (deeds : List Deed) : Type 0 where
  pub outcome : Outcome Relay
  pub are : deeds ≡ line_logged line ∷ reached_at dest ∷ relayed_to outcome ∷ []

abbrev pub Plugs : List ℕ → Dest → Result (Unit {0}) Cause → List Deed → Type 0
Plugs line dest dialogue deeds = FailsAtLine line dialogue deeds ⊎ (IsRefused line dest dialogue deeds ⊎ Relays line dest deeds)

-- ---- what that comes to

-- The log was given no more than a front of the line, and so the ending is. No destination was asked for, and the client was
-- told nothing.
pub record StaysUnlinked {Origin : Type 0} (line : List ℕ) (old new : World Origin) (ending : Ending) : Type 0 where
  pub ends : ending ≡ endings.LogFault
  pub front : Front line
  pub logs : TellsLog front.part old new
  pub asked : CallsDialer [] old new
  pub told : TellsClient [] old new

-- The log was given the whole line. The destination was asked for, once, and no other; it was refused, and the client told
-- nothing.
pub record StaysRefused {Origin : Type 0} (line : List ℕ) (dest : Dest) (old new : World Origin) (ending : Ending) : Type 0 where
  pub ends : ending ≡ endings.NoRoute
  pub logs : TellsLog line old new
  pub asked : CallsDialer (Main dest ∷ []) old new
  pub told : TellsClient [] old new

-- The log was given the whole line. The destination was asked for, once, and no other; it was reached, and the client was
-- given what the relay carried to it.
pub record IsLinked {Origin : Type 0} (line : List ℕ) (dest : Dest) (outcome : Outcome Relay) (old new : World Origin) : Type 0 where
  pub logs : TellsLog line old new
  pub asked : CallsDialer (Main dest ∷ []) old new
  pub told : TellsClient (given_down (flow_of outcome)) old new

-- A destination is asked for exactly if the log has the whole connect line, and it is the one that the line names.
abbrev pub Links : {Origin : Type 0} → List ℕ → Dest → World Origin → World Origin → Ending → Type 0
Links line dest old new ending = StaysUnlinked line old new ending ⊎ (StaysRefused line dest old new ending ⊎ ((outcome : Outcome Relay) × IsLinked line dest outcome old new))

-- ---- what each ending tells, over the devices that the session was lent

-- The dialer was asked for the destination and refused it, which it counted. Nothing else was done at any device.
pub record IsTurnedDown {Origin : Type 0} (dest : Dest) (old new : Devices Origin) (ending : Ending) : Type 0 where
  pub refused : Refuses (Main dest) old.dialer new.dialer
  pub same : new ≡ record old { dialer = new.dialer }
  pub ends : ending ≡ endings.NoRoute

-- The dialer was asked for the destination, and a link came up. Both ways ran over it, the way of the client and the way of
-- the server, each from the first byte, and then it was hung up. The ending is that of the ways. Nothing else was done at
-- any device.
pub record IsPlugged {Origin : Type 0} (dest : Dest) (old new : Devices Origin) (ending : Ending) : Type 0 where
  pub came : LinkView
  pub went : LinkView
  pub asked : DialerView
  pub comes : ComesUp (Main dest) came.from came.to old.dialer asked
  pub up : WayEnd
  pub down : WayEnd
  pub up_left : ℕ
  pub down_left : ℕ
  pub of_client : Carries [] most_taken up_left up old.inlet new.inlet came.to went.to
  pub of_server : Carries [] most_taken down_left down came.from went.from old.outlet new.outlet
  pub hangs : HangsUp went.from went.to asked new.dialer
  pub same : new ≡ record old { inlet = new.inlet; outlet = new.outlet; dialer = new.dialer }
  pub ends : ending ≡ ways.ending_of up down

-- The log failed within the connect line, and nothing else was done at any device; or the log was given the line, and the
-- destination refused; or the log was given the line, and both sides were linked.
abbrev pub Ends : {Origin : Type 0} → List ℕ → Dest → Devices Origin → Devices Origin → Ending → Type 0
Ends line dest old new ending = LogFails line old new ending ⊎ (IsTurnedDown dest (with_line line old) new ending ⊎ IsPlugged dest (with_line line old) new ending)

-- ---- what reached each side

-- over the link that was hung up, if one was, the server was given these bytes, and these were taken of it
abbrev pub OverOne : (given taken : List ℕ) → List LinkView → Type 0
OverOne given taken [] = (given ≡ []) × (taken ≡ [])
OverOne given taken (link ∷ []) = OverLink given taken link
OverOne given taken (link ∷ other ∷ links) = ⊥

-- over it all was said
abbrev pub IsWhole : {Origin : Type 0} → Devices Origin → Devices Origin → List LinkView → Type 0
IsWhole old new [] = ⊥
IsWhole old new (link ∷ []) = AllIsSaid old new link
IsWhole old new (link ∷ other ∷ links) = ⊥

-- What the server was given is a front of what was taken of the client, and what the client was given is a front of what was
-- taken of the server, whatever the ending. At most one link was hung up, where the dialer tells; if there was none, nothing
-- was taken or given. A session that is done is one over a link, of which all was said.
pub record GivesFronts {Origin : Type 0} (old new : Devices Origin) (ending : Ending) : Type 0 where
  pub of_client : List ℕ
  pub to_server : List ℕ
  pub of_server : List ℕ
  pub to_client : List ℕ
  pub took : new.inlet.taken ≡ grown old.inlet.taken of_client
  pub grew : Grew (length of_client) old.inlet.amount new.inlet.amount
  pub told : new.outlet.given ≡ grown old.outlet.given to_client
  pub links : List LinkView
  pub ended : Adds links old.dialer.ended new.dialer.ended
  pub over : OverOne to_server of_server links
  pub up : IsFront (may_lose_up ending) to_server of_client
  pub down : IsFront (may_lose_down ending) to_client of_server
  pub done : ending ≡ endings.Done → IsWhole old new links
