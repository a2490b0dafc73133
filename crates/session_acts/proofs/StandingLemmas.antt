-- What stands behind each deed, so that data links can be asked for.
use Rattle.std.proofs.Common.{◌≡◌, refl, sym, ap, subst, ◌∙◌, ℕ, Bool, true, false, List, [], ◌∷◌, Option, Some, None, Result, Ok, Err}
use Rattle.std.specs.Prelude.{is_some}
use Rattle.fw_outside.specs.declared.heard.Heard.{Heard}
use Rattle.fw_types.specs.declared.dest.Dest.{Dest}
use Rattle.relay_ways.specs.Carried.{Way}
use Rattle.session_acts.specs.Acts.{Act, Front, Outcome, Unreplied}
use Rattle.session_acts.specs.Acts.Act.{Hear, Say, Try, Log, Note, Ask, Renew, Dial, Reach, Take, Pass, HangUp, Relay, Deposit, Allot, TakeReply, OpenDoor, Join, Copy, Part}
use Rattle.session_acts.specs.Deeds.{Deed, DeedsAll}
use Rattle.session_acts.specs.Joining.{CopiesBy, Joining, JoinsNoNear, JoinsNoSide, JoinsSo, JoinsUp, OpensDoor, OpensNone, Parting, is_unready}
use Rattle.session_acts.specs.Met.{Dialing, Hanging, Met, Passes, ServerRelays, ServerReplies, Takes}
use Rattle.session_acts.specs.Relaying.{Flow, flow_of}
use Rattle.session_acts.specs.Standing.{AreReady, IsReadyAt, Standing, door_used, is_lacking, is_unasked, standing_of, standing_then}
use Rattle.session_acts.specs.World.{Pair, Server, Speaker, World}
use Rattle.session_acts.specs.declared.joined.Joined.{Joined}
use Rattle.session_acts.specs.declared.joined.Joined.TheVariants.{Up, NoSide, NoNear, Unready}
use Rattle.session_acts.specs.declared.replied.Replied.{Replied}
use Rattle.session_acts.specs.declared.reply_use.ReplyUse.{ReplyUse}
use Rattle.session_acts.specs.declared.silence.Silence.{Silence}
use Rattle.session_acts.specs.declared.target.Target.{Target}
use Rattle.session_acts.specs.declared.toward.Toward.{Toward}

-- ---- what stands

abbrev standing_with : Bool → Option Speaker → Standing
standing_with door link = record { linked = is_some link; door = door }

stood : (old new : Server) → new ≡ old → standing_of new ≡ standing_of old
stood old new is = ap standing_of is

-- the link that is up stays so
stood_up : (old new : Server) (link speaker : Speaker) → old.link ≡ Some link → new ≡ record old { link = Some speaker } → standing_of new ≡ standing_of old
stood_up old new link speaker up is = ap standing_of is ∙ sym (ap (standing_with old.door) up)

stood_dial : (dest : Dest) (up : Bool) (old new : Server) → Dialing dest up old new → standing_of new ≡ record { linked = up; door = false }
stood_dial dest true old new h = ap standing_of h.connects.is
stood_dial dest false old new h = ap standing_of h.connects.is

stood_takes : (outcome : Result Heard Silence) (link : Option Speaker) (old new : Server) → old.link ≡ link → Takes outcome link old new → standing_of new ≡ standing_of old
stood_takes outcome None old new is h = stood old new h.1
stood_takes outcome (Some link) old new is h = stood_up old new link h.speaker is h.is

stood_passes : (text : List ℕ) (outcome : Result (Unit {0}) (Front text)) (link : Option Speaker) (old new : Server) → old.link ≡ link → Passes text outcome link old new → standing_of new ≡ standing_of old
stood_passes text outcome None old new is h = stood old new h.1
stood_passes text outcome (Some link) old new is h = stood_up old new link h.speaker is h.is

stood_relays : (flow : Option Flow) (link : Option Speaker) (old new : Server) → old.link ≡ link → ServerRelays flow link old new → standing_of new ≡ standing_of old
stood_relays None None old new is h = stood old new h
stood_relays None (Some link) old new is h = absurd h
stood_relays (Some flow) None old new is h = absurd h
stood_relays (Some flow) (Some link) old new is h = stood_up old new link h.speaker is h.is

stood_replies : {how : ReplyUse} (outcome : Result (Replied × List ℕ) (Unreplied how)) (link : Option Speaker) (old new : Server) → old.link ≡ link → ServerReplies outcome link old new → standing_of new ≡ standing_of old
stood_replies outcome None old new is h = stood old new h.1
stood_replies outcome (Some link) old new is h = stood_up old new link h.speaker is h.is

stood_copies : (toward : Toward) (carried : Option Way) (pair : Option Pair) (old new : Server) → CopiesBy toward carried pair old new → standing_of new ≡ standing_of old
stood_copies toward None None old new h = stood old new h
stood_copies toward None (Some pair) old new h = absurd h
stood_copies toward (Some way) None old new h = absurd h
stood_copies toward (Some way) (Some pair) old new h = ap standing_of h.is

-- ---- joining

joined_so : (dest : Dest) (target : Target) (joined : Joined) (old new : Server) → JoinsSo dest target joined old new → standing_of new ≡ record (standing_of old) { door = door_used target joined old.door }
joined_so dest target Up old new h = let j : JoinsUp dest target old new = h.joins in ap standing_of j.is
joined_so dest target NoSide old new h = let j : JoinsNoSide dest target old new = h.joins in ap standing_of j.is
joined_so dest target NoNear old new h = let j : JoinsNoNear dest target old new = h.joins in ap standing_of j.is
joined_so dest target Unready old new h = stood old new h.is

lacking : (target : Target) (door : Bool) (link : Option Speaker) → is_unready target door link ≡ is_lacking target (standing_with door link)
lacking target door None = refl
lacking target door (Some link) = refl

asked_so : (dest : Dest) (target : Target) (joined : Joined) (old new : Server) → JoinsSo dest target joined old new → is_unasked joined ≡ is_lacking target (standing_of old)
asked_so dest target Up old new h = sym h.ready ∙ lacking target old.door old.link
asked_so dest target NoSide old new h = sym h.ready ∙ lacking target old.door old.link
asked_so dest target NoNear old new h = sym h.ready ∙ lacking target old.door old.link
asked_so dest target Unready old new h = sym h.unready ∙ lacking target old.door old.link

apart : (dest : Dest) (target : Target) (joined : Joined) (old new : Server) (h : Joining dest target joined old new) → standing_of h.apart ≡ standing_of old
apart dest target joined old new h = ap standing_of h.parts.is

joining_stood : (dest : Dest) (target : Target) (joined : Joined) (old new : Server) → Joining dest target joined old new → standing_of new ≡ record (standing_of old) { door = door_used target joined old.door }
joining_stood dest target joined old new h =
    joined_so dest target joined h.apart new h.joins ∙ ap (λ (s : Standing). record s { door = door_used target joined s.door }) (apart dest target joined old new h)

joining_asked : (dest : Dest) (target : Target) (joined : Joined) (old new : Server) → Joining dest target joined old new → is_unasked joined ≡ is_lacking target (standing_of old)
joining_asked dest target joined old new h = asked_so dest target joined h.apart new h.joins ∙ ap (is_lacking target) (apart dest target joined old new h)

module _ {Origin : Type 0} where
  stood_one : (a : Act) (outcome : Outcome a) (old new : World Origin) → Met a outcome old new → standing_of new.server ≡ standing_then a outcome (standing_of old.server)
  stood_one (Dial dest) (Ok up) old new met = stood_dial dest up old.server new.server met.server
  stood_one (Dial dest) (Err never) old new met = absurd never
  stood_one (Reach dest) (Ok up) old new met = stood_dial dest true old.server new.server met.server
  stood_one (Reach dest) (Err halt) old new met = stood_dial dest false old.server new.server met.server
  stood_one Take outcome old new met = stood_takes outcome old.server.link old.server new.server refl met.server
  stood_one (Pass text) outcome old new met = stood_passes text outcome old.server.link old.server new.server refl met.server
  stood_one HangUp (Ok done) old new met = let h : Hanging old.server new.server = met.server in ap standing_of h.is
  stood_one HangUp (Err never) old new met = absurd never
  stood_one Relay outcome old new met = stood_relays (flow_of outcome) old.server.link old.server new.server refl met.server
  stood_one (Hear form) outcome old new met = stood old.server new.server met.server
  stood_one (Say text) outcome old new met = stood old.server new.server met.server
  stood_one (Try text) outcome old new met = stood old.server new.server met.server
  stood_one (Log text) outcome old new met = stood old.server new.server met.server
  stood_one (Deposit sender rcpts words most) outcome old new met = stood old.server new.server met.server
  stood_one Allot outcome old new met = stood old.server new.server met.server
  stood_one (TakeReply how) outcome old new met = stood_replies outcome old.server.link old.server new.server refl met.server
  stood_one OpenDoor (Ok (Some at)) old new met = let h : OpensDoor at.0 at.1 old.server new.server = met.server in ap standing_of h.is
  stood_one OpenDoor (Ok None) old new met = let h : OpensNone old.server new.server = met.server in ap standing_of h.is
  stood_one OpenDoor (Err never) old new met = absurd never
  stood_one (Join dest target) (Ok joined) old new met = joining_stood dest target joined old.server new.server met.server
  stood_one (Join dest target) (Err never) old new met = absurd never
  stood_one (Copy toward) (Ok carried) old new met = stood_copies toward carried old.server.pair old.server new.server met.server
  stood_one (Copy toward) (Err never) old new met = absurd never
  stood_one Part (Ok done) old new met = let h : Parting old.server new.server = met.server in ap standing_of h.is
  stood_one Part (Err never) old new met = absurd never
  stood_one (Note text) outcome old new met = stood old.server new.server met.server
  stood_one (Ask request) outcome old new met = stood old.server new.server met.server
  stood_one (Renew name hash) outcome old new met = stood old.server new.server met.server

  ready_one : (a : Act) (outcome : Outcome a) (old new : World Origin) → Met a outcome old new → IsReadyAt a outcome (standing_of old.server)
  ready_one (Join dest target) (Ok joined) old new met = joining_asked dest target joined old.server new.server met.server
  ready_one (Join dest target) (Err never) old new met = absurd never
  ready_one (Dial dest) outcome old new met = tt
  ready_one (Reach dest) outcome old new met = tt
  ready_one Take outcome old new met = tt
  ready_one (Pass text) outcome old new met = tt
  ready_one HangUp outcome old new met = tt
  ready_one Relay outcome old new met = tt
  ready_one (Hear form) outcome old new met = tt
  ready_one (Say text) outcome old new met = tt
  ready_one (Try text) outcome old new met = tt
  ready_one (Log text) outcome old new met = tt
  ready_one (Deposit sender rcpts words most) outcome old new met = tt
  ready_one Allot outcome old new met = tt
  ready_one (TakeReply how) outcome old new met = tt
  ready_one OpenDoor outcome old new met = tt
  ready_one (Copy toward) outcome old new met = tt
  ready_one Part outcome old new met = tt
  ready_one (Note text) outcome old new met = tt
  ready_one (Ask request) outcome old new met = tt
  ready_one (Renew name hash) outcome old new met = tt

  pub all_ready : (deeds : List Deed) (old new : World Origin) → DeedsAll deeds old new → AreReady (standing_of old.server) deeds
  all_ready [] old new all = tt
  all_ready (deed ∷ deeds) old new all =
      (ready_one deed.act deed.outcome old all.0 all.1, subst (λ (s : Standing). AreReady s deeds) (stood_one deed.act deed.outcome old all.0 all.1) (all_ready deeds all.0 new all.2))
