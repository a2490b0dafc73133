-- Whether a pair of data links is up, behind each deed, and what a copy carries then.
use Rattle.std.proofs.Common.{arith, ◌≡◌, refl, sym, ap, subst, ◌∙◌, ℕ, ◌+◌, Bool, true, false, nat_lt, List, [], length, Option, Some, None, Result, Ok, Err}
use Rattle.std.proofs.lemmas.Bool.{le-ltb}
use Rattle.std.specs.Prelude.{is_some}
use mathlib.Core.Bool.{true≢false}
use Rattle.fw_outside.specs.SourceView.{SourceView}
use Rattle.fw_outside.specs.declared.heard.Heard.{Heard}
use Rattle.fw_types.specs.declared.dest.Dest.{Dest}
use Rattle.relay_ways.specs.Carried.{Drains, LeavesSource, Way}
use Rattle.relay_ways.specs.declared.way_end.WayEnd.{WayEnd}
use Rattle.relay_ways.specs.declared.way_end.WayEnd.TheVariants as ways
use Rattle.session_acts.specs.Acts.{Act, Front, Outcome, Unreplied}
use Rattle.session_acts.specs.Acts.Act.{Hear, Say, Try, Log, Note, Ask, Renew, Dial, Reach, Take, Pass, HangUp, Relay, Deposit, Allot, TakeReply, OpenDoor, Join, Copy, Part}
use Rattle.session_acts.specs.Joining.{CopiesBy, Copying, Joining, JoinsNoNear, JoinsNoSide, JoinsSo, JoinsUp, OpensDoor, OpensNone, Parting, copied_from}
use Rattle.session_acts.specs.Met.{Dialing, Hanging, Met, Passes, ServerRelays, ServerReplies, Takes}
use Rattle.session_acts.specs.Relaying.{Flow, flow_of}
use Rattle.session_acts.specs.World.{Pair, Server, Speaker, World, most_taken}
use Rattle.session_acts.specs.declared.joined.Joined.{Joined}
use Rattle.session_acts.specs.declared.joined.Joined.TheVariants.{Up, NoSide, NoNear, Unready}
use Rattle.session_acts.specs.declared.replied.Replied.{Replied}
use Rattle.session_acts.specs.declared.reply_use.ReplyUse.{ReplyUse}
use Rattle.session_acts.specs.declared.silence.Silence.{Silence}
use Rattle.session_acts.specs.declared.target.Target.{Target}
use Rattle.session_acts.specs.declared.toward.Toward.{Toward}
use Rattle.ftp_gate.specs.Dialogue.{is_up}

-- ---- whether a pair is up

abbrev pub pair_up : Server → Bool
pair_up server = is_some server.pair

abbrev pair_joined : {Never : Type 0} → Result Joined Never → Bool
pair_joined (Ok joined) = is_up joined
pair_joined (Err never) = false

-- behind a deed
abbrev pub paired_then : (act : Act) → Outcome act → Bool → Bool
paired_then (Dial dest) outcome paired = false
paired_then (Reach dest) outcome paired = false
paired_then HangUp outcome paired = false
paired_then (Join dest target) outcome paired = pair_joined outcome
paired_then (Copy toward) outcome paired = false
paired_then Part outcome paired = false
paired_then act outcome paired = paired

paired_dial : (dest : Dest) (up : Bool) (old new : Server) → Dialing dest up old new → pair_up new ≡ false
paired_dial dest true old new h = ap pair_up h.connects.is
paired_dial dest false old new h = ap pair_up h.connects.is

paired_takes : (outcome : Result Heard Silence) (link : Option Speaker) (old new : Server) → Takes outcome link old new → pair_up new ≡ pair_up old
paired_takes outcome None old new h = ap pair_up h.1
paired_takes outcome (Some link) old new h = ap pair_up h.is

paired_passes : (text : List ℕ) (outcome : Result (Unit {0}) (Front text)) (link : Option Speaker) (old new : Server) → Passes text outcome link old new → pair_up new ≡ pair_up old
paired_passes text outcome None old new h = ap pair_up h.1
paired_passes text outcome (Some link) old new h = ap pair_up h.is

paired_relays : (flow : Option Flow) (link : Option Speaker) (old new : Server) → ServerRelays flow link old new → pair_up new ≡ pair_up old
paired_relays None None old new h = ap pair_up h
paired_relays None (Some link) old new h = absurd h
paired_relays (Some flow) None old new h = absurd h
paired_relays (Some flow) (Some link) old new h = ap pair_up h.is

paired_replies : {how : ReplyUse} (outcome : Result (Replied × List ℕ) (Unreplied how)) (link : Option Speaker) (old new : Server) → ServerReplies outcome link old new → pair_up new ≡ pair_up old
paired_replies outcome None old new h = ap pair_up h.1
paired_replies outcome (Some link) old new h = ap pair_up h.is

paired_copies : (toward : Toward) (carried : Option Way) (pair : Option Pair) (old new : Server) → old.pair ≡ pair → CopiesBy toward carried pair old new → pair_up new ≡ false
paired_copies toward None None old new is h = ap pair_up h ∙ ap (λ (p : Option Pair). is_some p) is
paired_copies toward None (Some pair) old new is h = absurd h
paired_copies toward (Some way) None old new is h = absurd h
paired_copies toward (Some way) (Some pair) old new is h = ap pair_up h.is

-- a pair that was up was let go before
paired_joins : (dest : Dest) (target : Target) (joined : Joined) (old new : Server) → old.pair ≡ None → JoinsSo dest target joined old new → pair_up new ≡ is_up joined
paired_joins dest target Up old new none h = let j : JoinsUp dest target old new = h.joins in ap pair_up j.is
paired_joins dest target NoSide old new none h = let j : JoinsNoSide dest target old new = h.joins in ap pair_up j.is ∙ ap (λ (p : Option Pair). is_some p) none
paired_joins dest target NoNear old new none h = let j : JoinsNoNear dest target old new = h.joins in ap pair_up j.is ∙ ap (λ (p : Option Pair). is_some p) none
paired_joins dest target Unready old new none h = ap pair_up h.is ∙ ap (λ (p : Option Pair). is_some p) none

paired_joining : (dest : Dest) (target : Target) (joined : Joined) (old new : Server) → Joining dest target joined old new → pair_up new ≡ is_up joined
paired_joining dest target joined old new h = paired_joins dest target joined h.apart new (ap (λ (s : Server). s.pair) h.parts.is) h.joins

module _ {Origin : Type 0} where
  pub paired_one : (act : Act) (outcome : Outcome act) (old new : World Origin) → Met act outcome old new → pair_up new.server ≡ paired_then act outcome (pair_up old.server)
  paired_one (Dial dest) (Ok up) old new met = paired_dial dest up old.server new.server met.server
  paired_one (Dial dest) (Err never) old new met = absurd never
  paired_one (Reach dest) (Ok up) old new met = paired_dial dest true old.server new.server met.server
  paired_one (Reach dest) (Err halt) old new met = paired_dial dest false old.server new.server met.server
  paired_one Take outcome old new met = paired_takes outcome old.server.link old.server new.server met.server
  paired_one (Pass text) outcome old new met = paired_passes text outcome old.server.link old.server new.server met.server
  paired_one HangUp (Ok done) old new met = let h : Hanging old.server new.server = met.server in ap pair_up h.is
  paired_one HangUp (Err never) old new met = absurd never
  paired_one Relay outcome old new met = paired_relays (flow_of outcome) old.server.link old.server new.server met.server
  paired_one (TakeReply how) outcome old new met = paired_replies outcome old.server.link old.server new.server met.server
  paired_one OpenDoor (Ok (Some at)) old new met = let h : OpensDoor at.0 at.1 old.server new.server = met.server in ap pair_up h.is
  paired_one OpenDoor (Ok None) old new met = let h : OpensNone old.server new.server = met.server in ap pair_up h.is
  paired_one OpenDoor (Err never) old new met = absurd never
  paired_one (Join dest target) (Ok joined) old new met = paired_joining dest target joined old.server new.server met.server
  paired_one (Join dest target) (Err never) old new met = absurd never
  paired_one (Copy toward) (Ok carried) old new met = paired_copies toward carried old.server.pair old.server new.server refl met.server
  paired_one (Copy toward) (Err never) old new met = absurd never
  paired_one Part (Ok done) old new met = let h : Parting old.server new.server = met.server in ap pair_up h.is
  paired_one Part (Err never) old new met = absurd never
  paired_one (Hear form) outcome old new met = ap pair_up met.server
  paired_one (Say text) outcome old new met = ap pair_up met.server
  paired_one (Try text) outcome old new met = ap pair_up met.server
  paired_one (Log text) outcome old new met = ap pair_up met.server
  paired_one (Note text) outcome old new met = ap pair_up met.server
  paired_one (Ask request) outcome old new met = ap pair_up met.server
  paired_one (Renew name hash) outcome old new met = ap pair_up met.server
  paired_one (Deposit sender rcpts words most) outcome old new met = ap pair_up met.server
  paired_one Allot outcome old new met = ap pair_up met.server

-- ---- what a copy carries over a pair

-- something, and all that may be taken, if it ended at that
abbrev pub CarriesSo : {Never : Type 0} → Result (Option Way) Never → Type 0
CarriesSo (Ok (Some way)) = way.end ≡ ways.Spent → nat_lt (length way.taken) most_taken ≡ false
CarriesSo (Ok None) = ⊥
CarriesSo (Err never) = ⊥

-- what was taken for a way whose limit was reached
all_taken : (way : Way) (limit left : ℕ) (before after : SourceView) → way.end ≡ ways.Spent → Drains way [] limit left before after → nat_lt (length way.taken) limit ≡ false
all_taken way limit left before after is h =
    let leaves : LeavesSource ways.Spent way.lost left h.middle after = subst (λ (e : WayEnd). LeavesSource e way.lost left h.middle after) is h.leaves in
    let none : left ≡ 0 = leaves.0 in
    let room : limit ≡ length h.bytes + left = h.room in
    let all : length way.taken ≡ length h.bytes = ap (λ (bytes : List ℕ). length bytes) h.all in
    le-ltb (length way.taken) limit (omega (arith, none, room, all))

carries_by : (toward : Toward) (carried : Option Way) (pair : Option Pair) (old new : Server) → is_some pair ≡ true → CopiesBy toward carried pair old new → CarriesSo {Never = ⊥} (Ok carried)
carries_by toward None None old new up h = absurd (true≢false (sym up))
carries_by toward None (Some pair) old new up h = absurd h
carries_by toward (Some way) None old new up h = absurd h
carries_by toward (Some way) (Some pair) old new up h =
    let c : Copying toward way pair old new = h in
    λ is. all_taken way most_taken c.room (copied_from toward pair) c.from is c.drains

pub copy_carries : {Origin : Type 0} (toward : Toward) (outcome : Outcome (Copy toward)) (old new : World Origin) → Met (Copy toward) outcome old new → pair_up old.server ≡ true → CarriesSo outcome
copy_carries toward (Ok carried) old new met up = carries_by toward carried old.server.pair old.server new.server up met.server
copy_carries toward (Err never) old new met up = absurd never
