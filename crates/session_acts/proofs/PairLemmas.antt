-- Data links are up only beside a main link.
use Rattle.std.proofs.Common.{◌≡◌, refl, sym, ap, subst, ◌∙◌, ℕ, Bool, true, false, List, [], Option, Some, None, Result, Ok, Err}
use Rattle.fw_acts.specs.Acts.{Row, PlaceTable}
use Rattle.fw_outside.specs.declared.heard.Heard.{Heard}
use Rattle.fw_types.specs.declared.dest.Dest.{Dest}
use Rattle.fw_types.specs.declared.ending.Ending.{Ending}
use Rattle.relay_ways.specs.Carried.{Way}
use Rattle.session_acts.specs.Acts.{Act, Front, Outcome, Unreplied}
use Rattle.session_acts.specs.Acts.Act.{Hear, Say, Try, Log, Note, Ask, Renew, Dial, Reach, Take, Pass, HangUp, Relay, Deposit, Allot, TakeReply, OpenDoor, Join, Copy, Part}
use Rattle.session_acts.specs.Deeds.{Lasts}
use Rattle.session_acts.specs.Joining.{CopiesBy, Joining, JoinsNoNear, JoinsNoSide, JoinsSo, JoinsUp, is_unready}
use Rattle.session_acts.specs.Met.{Dialing, Met, Passes, ServerRelays, ServerReplies, Takes, acts}
use Rattle.session_acts.specs.Relaying.{Flow, flow_of}
use Rattle.session_acts.specs.Session.{Held, deeds_of}
use Rattle.session_acts.specs.World.{IsUnlinked, Pair, Server, Speaker, World}
use Rattle.session_acts.specs.declared.joined.Joined.{Joined}
use Rattle.session_acts.specs.declared.joined.Joined.TheVariants.{Up, NoSide, NoNear, Unready}
use Rattle.session_acts.specs.declared.replied.Replied.{Replied}
use Rattle.session_acts.specs.declared.reply_use.ReplyUse.{ReplyUse}
use Rattle.session_acts.specs.declared.silence.Silence.{Silence}
use Rattle.session_acts.specs.declared.target.Target.{Target}
use Rattle.session_acts.specs.declared.toward.Toward.{Toward}
use Rattle.session_acts.proofs.DeedLemmas.{all_last, held_deeds}
use Rattle.session_acts.proofs.OwedLemmas.{held_unlinked}

-- no data links are up unless a main link is
pub record Beside (server : Server) : Type 0 where
  pub none : server.link ≡ None → server.pair ≡ None

none_beside : (server : Server) → server.pair ≡ None → Beside server
none_beside server none = record { none = λ unlinked. none }

same_beside : (old new : Server) → new ≡ old → Beside old → Beside new
same_beside old new is beside = subst Beside (sym is) beside

-- a link that stays up
link_beside : (old new : Server) (speaker : Speaker) → new ≡ record old { link = Some speaker } → Beside new
link_beside old new speaker is = subst Beside (sym is) (record { none = λ clash. absurd (cc) })

dial_beside : (dest : Dest) (up : Bool) (old new : Server) → Dialing dest up old new → Beside new
dial_beside dest true old new h = none_beside new (ap (λ (s : Server). s.pair) h.connects.is)
dial_beside dest false old new h = none_beside new (ap (λ (s : Server). s.pair) h.connects.is)

take_beside : (outcome : Result Heard Silence) (link : Option Speaker) (old new : Server) → Takes outcome link old new → Beside old → Beside new
take_beside outcome None old new h beside = same_beside old new h.1 beside
take_beside outcome (Some link) old new h beside = link_beside old new h.speaker h.is

pass_beside : (text : List ℕ) (outcome : Result (Unit {0}) (Front text)) (link : Option Speaker) (old new : Server) → Passes text outcome link old new → Beside old → Beside new
pass_beside text outcome None old new h beside = same_beside old new h.1 beside
pass_beside text outcome (Some link) old new h beside = link_beside old new h.speaker h.is

relay_beside : (flow : Option Flow) (link : Option Speaker) (old new : Server) → ServerRelays flow link old new → Beside old → Beside new
relay_beside None None old new h beside = same_beside old new h beside
relay_beside None (Some link) old new h beside = absurd h
relay_beside (Some flow) None old new h beside = absurd h
relay_beside (Some flow) (Some link) old new h beside = link_beside old new h.speaker h.is

reply_beside : {how : ReplyUse} (outcome : Result (Replied × List ℕ) (Unreplied how)) (link : Option Speaker) (old new : Server) → ServerReplies outcome link old new → Beside old → Beside new
reply_beside outcome None old new h beside = same_beside old new h.1 beside
reply_beside outcome (Some link) old new h beside = link_beside old new h.speaker h.is

-- links were asked for only where a main link is up
is_linked : {A : Type 0} (target : Target) (door : Bool) (link : Option A) → is_unready target door link ≡ false → link ≡ None → ⊥
is_linked {A} target door link ready none = let clash : is_unready {A = A} target door None ≡ false = subst (λ (l : Option A). is_unready target door l ≡ false) none ready in absurd (cc)

joins_beside : (dest : Dest) (target : Target) (joined : Joined) (old new : Server) → JoinsSo dest target joined old new → Beside old → Beside new
joins_beside dest target Up old new h beside =
    let j : JoinsUp dest target old new = h.joins in
    let same : new.link ≡ old.link = ap (λ (s : Server). s.link) j.is in
    record { none = λ unlinked. absurd (is_linked target old.door old.link h.ready (sym same ∙ unlinked)) }
joins_beside dest target NoSide old new h beside =
    let j : JoinsNoSide dest target old new = h.joins in
    subst Beside (sym j.is) (record { none = λ unlinked. beside.none unlinked })
joins_beside dest target NoNear old new h beside =
    let j : JoinsNoNear dest target old new = h.joins in
    subst Beside (sym j.is) (record { none = λ unlinked. beside.none unlinked })
joins_beside dest target Unready old new h beside = same_beside old new h.is beside

joining_beside : (dest : Dest) (target : Target) (joined : Joined) (old new : Server) → Joining dest target joined old new → Beside new
joining_beside dest target joined old new h = joins_beside dest target joined h.apart new h.joins (none_beside h.apart (ap (λ (s : Server). s.pair) h.parts.is))

copy_beside : (toward : Toward) (carried : Option Way) (pair : Option Pair) (old new : Server) → CopiesBy toward carried pair old new → Beside old → Beside new
copy_beside toward None None old new h beside = same_beside old new h beside
copy_beside toward None (Some pair) old new h beside = absurd h
copy_beside toward (Some way) None old new h beside = absurd h
copy_beside toward (Some way) (Some pair) old new h beside = none_beside new (ap (λ (s : Server). s.pair) h.is)

module _ {Origin : Type 0} where
  act_beside : (act : Act) (outcome : Outcome act) (old new : World Origin) → Met act outcome old new → Beside old.server → Beside new.server
  act_beside (Dial dest) (Ok up) old new met beside = dial_beside dest up old.server new.server met.server
  act_beside (Dial dest) (Err never) old new met beside = absurd never
  act_beside (Reach dest) (Ok up) old new met beside = dial_beside dest true old.server new.server met.server
  act_beside (Reach dest) (Err halt) old new met beside = dial_beside dest false old.server new.server met.server
  act_beside Take outcome old new met beside = take_beside outcome old.server.link old.server new.server met.server beside
  act_beside (Pass text) outcome old new met beside = pass_beside text outcome old.server.link old.server new.server met.server beside
  act_beside HangUp (Ok done) old new met beside = none_beside new.server (ap (λ (s : Server). s.pair) met.server.is)
  act_beside HangUp (Err never) old new met beside = absurd never
  act_beside Relay outcome old new met beside = relay_beside (flow_of outcome) old.server.link old.server new.server met.server beside
  act_beside (TakeReply how) outcome old new met beside = reply_beside outcome old.server.link old.server new.server met.server beside
  act_beside OpenDoor (Ok (Some at)) old new met beside = subst Beside (sym met.server.is) (record { none = λ unlinked. beside.none unlinked })
  act_beside OpenDoor (Ok None) old new met beside = subst Beside (sym met.server.is) (record { none = λ unlinked. beside.none unlinked })
  act_beside OpenDoor (Err never) old new met beside = absurd never
  act_beside (Join dest target) (Ok joined) old new met beside = joining_beside dest target joined old.server new.server met.server
  act_beside (Join dest target) (Err never) old new met beside = absurd never
  act_beside (Copy toward) (Ok carried) old new met beside = copy_beside toward carried old.server.pair old.server new.server met.server beside
  act_beside (Copy toward) (Err never) old new met beside = absurd never
  act_beside Part (Ok done) old new met beside = none_beside new.server (ap (λ (s : Server). s.pair) met.server.is)
  act_beside Part (Err never) old new met beside = absurd never
  act_beside (Hear form) outcome old new met beside = same_beside old.server new.server met.server beside
  act_beside (Say text) outcome old new met beside = same_beside old.server new.server met.server beside
  act_beside (Try text) outcome old new met beside = same_beside old.server new.server met.server beside
  act_beside (Log text) outcome old new met beside = same_beside old.server new.server met.server beside
  act_beside (Note text) outcome old new met beside = same_beside old.server new.server met.server beside
  act_beside (Ask request) outcome old new met beside = same_beside old.server new.server met.server beside
  act_beside (Renew name hash) outcome old new met beside = same_beside old.server new.server met.server beside
  act_beside (Deposit sender rcpts words most) outcome old new met beside = same_beside old.server new.server met.server beside
  act_beside Allot outcome old new met beside = same_beside old.server new.server met.server beside

  beside_last : Lasts Origin (λ old new. Beside old.server → Beside new.server)
  beside_last = record { none = λ world beside. beside; both = λ old mid new a b beside. b (a beside); one = λ act outcome old new met beside. act_beside act outcome old new met beside }

  -- after a session none are
  pub held_unpaired : {P : Type 0} (rows : PlaceTable (acts Origin) P) (first : Row (acts Origin) P) (old new : World Origin) (ending : Ending) → Held rows first old new ending → IsUnlinked old.server → new.server.pair ≡ None
  held_unpaired rows first old new ending held unlinked =
      let beside : Beside new.server = all_last beside_last (deeds_of held) old new (held_deeds held) (none_beside old.server unlinked.side) in
      beside.none (held_unlinked rows first old new ending held)
