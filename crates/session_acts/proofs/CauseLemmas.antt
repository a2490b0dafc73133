-- Each ending has its cause.
use Rattle.std.proofs.Common.{arith, ◌≡◌, refl, sym, ap, subst, ◌∙◌, ℕ, ◌⊎◌, inl, inr, Bool, true, false, ◌||◌, nat_lt, List, [], ◌∷◌, ◌++◌, map, Option, Some, None, Result, Ok, Err}
use Rattle.std.proofs.lemmas.Bool.{eqb-true, lt-ltb}
use Rattle.auth_events.specs.Port.{Port}
use Rattle.auth_events.specs.declared.port.PortFault.{PortFault}
use Rattle.auth_events.specs.declared.port.PortFault.TheVariants as faults
use Rattle.auth_events.specs.declared.reply.Reply.{Reply}
use Rattle.auth_events.specs.declared.request.Request.{Request}
use Rattle.auth_events.specs.declared.request.Request.TheVariants as requests
use Rattle.fw_acts.specs.Acts.{Row, PlaceTable}
use Rattle.fw_acts.specs.Acts.Row.{Over}
use Rattle.fw_acts.specs.Ran.{Comes}
use Rattle.fw_acts.proofs.RanLemmas.{stopped}
use Rattle.fw_outside.specs.Counts.{Rose}
use Rattle.fw_outside.specs.DialerView.{DialerView, RoseIf, has_broken}
use Rattle.fw_outside.specs.SinkView.{SinkView}
use Rattle.fw_outside.specs.SourceView.{SourceView}
use Rattle.fw_outside.specs.ToldList.{AddsOne}
use Rattle.fw_outside.specs.declared.heard.Heard.TheVariants.{Stopped}
use Rattle.fw_outside.specs.declared.heard.Stop.TheVariants as stops
use Rattle.fw_types.specs.declared.dest.Dest.{Dest}
use Rattle.fw_types.specs.declared.ending.Ending.{Ending}
use Rattle.relay_ways.specs.Carried.{LeavesSink, LeavesSource, Way}
use Rattle.relay_ways.specs.Ending as two_ways
use Rattle.relay_ways.specs.Way.{holding}
use Rattle.relay_ways.specs.declared.way_end.WayEnd.{WayEnd}
use Rattle.relay_ways.specs.declared.way_end.WayEnd.TheVariants as ways
use Rattle.session_acts.specs.Relaying.{Flow, Stuck, stops_by}
use Rattle.session_acts.specs.Acts.{Act, Front, Halt, cause_by, fault_cause, silence_cause}
use Rattle.session_acts.specs.Acts.Act.{Hear, Say, Try, Log, Note, Ask, Renew, Dial, Reach, Take, Pass, HangUp, Relay, Deposit, Allot, TakeReply, OpenDoor, Join, Copy, Part}
use Rattle.session_acts.specs.Causes.{Caused, IsLast, KeepsAs, LinkTookMost, RelayKeeps, SessionKeeps, StaysShut, TookMost}
use Rattle.session_acts.specs.Deeds.{DeedsAll, deeds_ran, done}
use Rattle.session_acts.specs.Met.{Asking, Carrying, Clears, Hanging, Hears, Heeds, IsTold, Met, Passes, ServerRelays, Takes, acts}
use Rattle.session_acts.specs.Session.{RelaySession, Session, SessionAs, closing, deeds_of, ending_by, ending_closed, ending_of, freeing, owed}
use Rattle.session_acts.specs.World.{Devices, Names, Office, Server, Speaker, World, at_first, devices_of, most_taken}
use Rattle.session_acts.specs.declared.cause.Cause.{Cause}
use Rattle.session_acts.specs.declared.cause.Cause.TheVariants.{ClientFault, ServerFault, LogFault, AuthFault, Idle, NoRoute, Spent, NoMemory}
use Rattle.session_acts.specs.declared.form.Form.{Form}
use Rattle.session_acts.specs.declared.form.Form.TheVariants.{Lines}
use Rattle.session_acts.specs.declared.silence.Silence.{Silence}
use Rattle.session_acts.specs.declared.silence.Silence.TheVariants.{Quiet, Broken, Limit}
use Rattle.session_acts.proofs.DeedLemmas.{all_last, deeds_done, deeds_parted, held_deeds, ran_deeds}
use Rattle.session_acts.proofs.DeviceLemmas.{halted_faults, halted_idles, halted_waited, rose_within}
use Rattle.session_acts.proofs.OwedLemmas.{closing_server}
use Rattle.session_acts.proofs.ShutLemmas.{unshut_last}
use Rattle.session_acts.proofs.StaysLemmas.{IsSound, LinkSound, Stays, both_clear, stays_both, stays_last, stays_same}
use Rattle.session_acts.specs.Acts.{Undeposited}
use Rattle.session_acts.specs.Acts.Undeposited.{Lacks, Unsaid, Unheard}
use Rattle.session_acts.specs.Acts.{deposit_cause}
use Rattle.session_acts.specs.Depositing.{Draws}
use Rattle.session_acts.specs.Met.{AtClientDeposit, DrawsAfter, stop_of}
use Rattle.session_acts.specs.Acts.{Unreplied, reply_cause}
use Rattle.session_acts.specs.Acts.Unreplied.{NotHeard, NotSaid}
use Rattle.session_acts.specs.Met.{ClientReplies, ServerReplies}
use Rattle.session_acts.specs.Replying.{said_of}
use Rattle.session_acts.specs.declared.reply_use.ReplyUse.{ReplyUse}
use Rattle.session_acts.proofs.DeviceLemmas.{DialerKeeps, same_dialer}
use Rattle.session_acts.proofs.SideLemmas.{pair_keeps}

-- ---- what a stop counts, as the session stands then

-- the link that is up has failed, or was idle, or all that may be was taken of it
abbrev pub HasBroken : Option Speaker → Type 0
HasBroken None = ⊥
HasBroken (Some link) = has_broken link.inlet link.outlet ≡ true

abbrev pub HasIdled : Option Speaker → Type 0
HasIdled None = ⊥
HasIdled (Some link) = (nat_lt 0 link.inlet.idles ≡ true) × (link.inlet.waited ≡ link.inlet.waits)

abbrev pub IsUsedUp : Option Speaker → Type 0
IsUsedUp None = ⊥
IsUsedUp (Some link) = link.reader.room ≡ 0

-- the client was idle since, and waited then as long as it does
pub record WasIdle (old new : SourceView) : Type 0 where
  pub rose : Rose old.idles new.idles
  pub waited : new.waited ≡ new.waits

abbrev pub Counted : {Origin : Type 0} → Cause → World Origin → World Origin → Type 0
Counted ClientFault old new = Rose old.client.inlet.faults new.client.inlet.faults ⊎ Rose old.client.outlet.faults new.client.outlet.faults
Counted ServerFault old new = HasBroken new.server.link
Counted LogFault old new = Rose old.logs.faults new.logs.faults
Counted AuthFault old new = Rose old.office.port.faults new.office.port.faults ⊎ Rose old.office.port.odd new.office.port.odd
Counted Idle old new = WasIdle old.client.inlet new.client.inlet ⊎ HasIdled new.server.link
Counted NoRoute old new = Rose old.server.dialer.refusals new.server.dialer.refusals
Counted Spent old new = (new.client.reader.room ≡ 0) ⊎ IsUsedUp new.server.link
Counted NoMemory old new = Unit {0}

positive : (before now : ℕ) → Rose before now → nat_lt 0 now ≡ true
positive before now rose = let more = rose.1 in lt-ltb 0 now (omega (arith, more))

rose_true : (b : Bool) (before now : ℕ) → b ≡ true → RoseIf b before now → Rose before now
rose_true b before now is rose = subst (λ (z : Bool). RoseIf z before now) is rose

or_right : (a b : Bool) → b ≡ true → (a || b) ≡ true
or_right true b is = refl
or_right false b is = is

or_left : (a b : Bool) → a ≡ true → (a || b) ≡ true
or_left a b is = ap (λ (z : Bool). z || b) is

-- a speaker whose source failed
faulted : (form : Form) (old new : Speaker) → Heeds form (Stopped stops.Failed) old new → Rose old.inlet.faults new.inlet.faults
faulted form old new h =
    subst (λ (s : Speaker). Rose old.inlet.faults s.inlet.faults) (sym h.is) (halted_faults h.listens.reads.taken_now old.inlet h.listens.middle h.inlet h.listens.reads.takes h.listens.closes.1)

pub idled : (form : Form) (old new : Speaker) → Heeds form (Stopped stops.Idle) old new → Rose old.inlet.idles new.inlet.idles
idled form old new h =
    subst (λ (s : Speaker). Rose old.inlet.idles s.inlet.idles) (sym h.is) (halted_idles h.listens.reads.taken_now old.inlet h.listens.middle h.inlet h.listens.reads.takes h.listens.closes.1)

waited_so : (form : Form) (old new : Speaker) → Heeds form (Stopped stops.Idle) old new → new.inlet.waited ≡ new.inlet.waits
waited_so form old new h =
    subst (λ (s : Speaker). s.inlet.waited ≡ s.inlet.waits) (sym h.is) (halted_waited h.listens.middle h.inlet h.listens.closes.1)

pub used_up : (form : Form) (old new : Speaker) → Heeds form (Stopped stops.Spent) old new → new.reader.room ≡ 0
used_up form old new h = ap (λ (s : Speaker). s.reader.room) h.is ∙ eqb-true h.reader.room 0 (sym h.listens.spent)

dropped : (text : List ℕ) (front : Front text) (old new : Speaker) → IsTold text (Err front) old new → Rose old.outlet.faults new.outlet.faults
dropped text front old new h =
    subst (λ (s : Speaker). Rose old.outlet.faults s.outlet.faults) (sym h.is) (subst (λ (s : SinkView). Rose old.outlet.faults s.faults) (sym h.gets.is) h.gets.rose)

-- ---- data that were heard behind words

drawn_faulted : (data_heard : List ℕ) (old new : Speaker) → Draws (Some stops.Failed) data_heard old new → Rose old.inlet.faults new.inlet.faults
drawn_faulted data_heard old new h =
    subst (λ (s : Speaker). Rose old.inlet.faults s.inlet.faults) (sym h.is) (halted_faults h.reads.taken_now old.inlet h.middle h.inlet h.reads.takes h.closes.1)

drawn_idled : (data_heard : List ℕ) (old new : Speaker) → Draws (Some stops.Idle) data_heard old new → Rose old.inlet.idles new.inlet.idles
drawn_idled data_heard old new h =
    subst (λ (s : Speaker). Rose old.inlet.idles s.inlet.idles) (sym h.is) (halted_idles h.reads.taken_now old.inlet h.middle h.inlet h.reads.takes h.closes.1)

pub drawn_waited : (data_heard : List ℕ) (old new : Speaker) → Draws (Some stops.Idle) data_heard old new → new.inlet.waited ≡ new.inlet.waits
drawn_waited data_heard old new h =
    subst (λ (s : Speaker). s.inlet.waited ≡ s.inlet.waits) (sym h.is) (halted_waited h.middle h.inlet h.closes.1)

pub drawn_up : (data_heard : List ℕ) (old new : Speaker) → Draws (Some stops.Spent) data_heard old new → new.reader.room ≡ 0
drawn_up data_heard old new h = ap (λ (s : Speaker). s.reader.room) h.is ∙ eqb-true h.reader.room 0 (sym h.spent)

-- words leave the source
words_inlet : (words : List ℕ) (outcome : Result (Unit {0}) (Front words)) (old new : Speaker) → IsTold words outcome old new → new.inlet ≡ old.inlet
words_inlet words outcome old new h = ap (λ (s : Speaker). s.inlet) h.is

pub draws_faulted : (words data_heard : List ℕ) (old new : Speaker) → DrawsAfter words (Some stops.Failed) data_heard old new → Rose old.inlet.faults new.inlet.faults
draws_faulted words data_heard old new h =
    subst (λ (s : SourceView). Rose s.faults new.inlet.faults) (words_inlet words (Ok tt) old h.middle h.told) (drawn_faulted data_heard h.middle new h.draws)

pub draws_rose : (words data_heard : List ℕ) (old new : Speaker) → DrawsAfter words (Some stops.Idle) data_heard old new → Rose old.inlet.idles new.inlet.idles
draws_rose words data_heard old new h =
    subst (λ (s : SourceView). Rose s.idles new.inlet.idles) (words_inlet words (Ok tt) old h.middle h.told) (drawn_idled data_heard h.middle new h.draws)

abbrev failed : Cause → Result (Unit {0}) Cause
failed cause = Err cause

same_cause : (one cause : Cause) → failed one ≡ failed cause → one ≡ cause
same_cause one cause is = cc

-- a speaker one of whose ways ended so
faulted_by : (off on : Way) (old new : Speaker) → off.end ≡ ways.ReadFault → Carrying off on old new → Rose old.inlet.faults new.inlet.faults
faulted_by off on old new is c =
    let leaves : LeavesSource ways.ReadFault off.lost c.room c.drains.middle c.inlet = subst (λ (e : WayEnd). LeavesSource e off.lost c.room c.drains.middle c.inlet) is c.drains.leaves in
    subst (λ (s : Speaker). Rose old.inlet.faults s.inlet.faults) (sym c.is) (halted_faults c.drains.bytes old.inlet c.drains.middle c.inlet c.drains.takes leaves.1)

idled_by : (off on : Way) (old new : Speaker) → off.end ≡ ways.Idle → Carrying off on old new → WasIdle old.inlet new.inlet
idled_by off on old new is c =
    let leaves : LeavesSource ways.Idle off.lost c.room c.drains.middle c.inlet = subst (λ (e : WayEnd). LeavesSource e off.lost c.room c.drains.middle c.inlet) is c.drains.leaves in
    subst (λ (s : Speaker). WasIdle old.inlet s.inlet) (sym c.is) (record { rose = halted_idles c.drains.bytes old.inlet c.drains.middle c.inlet c.drains.takes leaves.1; waited = halted_waited c.drains.middle c.inlet leaves.1 })

spent_by : (off on : Way) (old new : Speaker) → off.end ≡ ways.Spent → Carrying off on old new → new.reader.room ≡ 0
spent_by off on old new is c =
    let leaves : LeavesSource ways.Spent off.lost c.room c.drains.middle c.inlet = subst (λ (e : WayEnd). LeavesSource e off.lost c.room c.drains.middle c.inlet) is c.drains.leaves in
    ap (λ (s : Speaker). s.reader.room) c.is ∙ leaves.0

dropped_by : (off on : Way) (old new : Speaker) → on.end ≡ ways.WriteFault → Carrying off on old new → Rose old.outlet.faults new.outlet.faults
dropped_by off on old new is c =
    let leaves : LeavesSink ways.WriteFault (holding on.given old.outlet) c.outlet = subst (λ (e : WayEnd). LeavesSink e (holding on.given old.outlet) c.outlet) is c.supplies in
    subst (λ (s : Speaker). Rose old.outlet.faults s.outlet.faults) (sym c.is) (subst (λ (s : SinkView). Rose old.outlet.faults s.faults) (sym leaves.is) leaves.rose)

module _ {Origin : Type 0} where
  hear_counted : (form : Form) (silence : Silence) (old new : World Origin) → Hears form (Err silence) old.client new.client → Counted (silence_cause ClientFault silence) old new
  hear_counted form Quiet old new h = inl (record { rose = idled form old.client new.client h; waited = waited_so form old.client new.client h })
  hear_counted form Broken old new h = inl (faulted form old.client new.client h)
  hear_counted form Limit old new h = inl (used_up form old.client new.client h)

  data_counted : (silence : Silence) (words data_heard : List ℕ) (old new : World Origin) → DrawsAfter words (Some (stop_of silence)) data_heard old.client new.client → Counted (silence_cause ClientFault silence) old new
  data_counted Quiet words data_heard old new h = inl (record { rose = draws_rose words data_heard old.client new.client h; waited = drawn_waited data_heard h.middle new.client h.draws })
  data_counted Broken words data_heard old new h = inl (draws_faulted words data_heard old.client new.client h)
  data_counted Limit words data_heard old new h = inl (drawn_up data_heard h.middle new.client h.draws)

  deposit_counted : (words : List ℕ) (halt : Undeposited words) (old new : World Origin) → AtClientDeposit words (Err halt) old.client new.client → Counted (deposit_cause halt) old new
  deposit_counted words Lacks old new h = tt
  deposit_counted words (Unsaid front) old new h = inr (dropped words front old.client new.client h)
  deposit_counted words (Unheard silence data_heard) old new h = data_counted silence words data_heard old new h

  fault_counted : (request : Request) (fault : PortFault) (before : Office Origin) (old new : World Origin) → before.port ≡ old.office.port → Asking request (Err fault) before new.office → Counted (fault_cause fault) old new
  fault_counted request faults.NoMemory before old new same h = tt
  fault_counted request faults.Link before old new same h =
      let rose : Rose before.port.faults new.office.port.faults = subst (λ (o : Office Origin). Rose before.port.faults o.port.faults) (sym h.is) (subst (λ (p : Port Origin). Rose before.port.faults p.faults) (sym h.asks.is) h.asks.rose) in
      inl (subst (λ (p : Port Origin). Rose p.faults new.office.port.faults) same rose)
  fault_counted request faults.Strange before old new same h =
      let rose : Rose before.port.odd new.office.port.odd = subst (λ (o : Office Origin). Rose before.port.odd o.port.odd) (sym h.is) (subst (λ (p : Port Origin). Rose before.port.odd p.odd) (sym h.asks.is) h.asks.rose) in
      inr (subst (λ (p : Port Origin). Rose p.odd new.office.port.odd) same rose)

  -- the server that was taken of or passed to
  take_counted : (silence : Silence) (link : Option Speaker) (old new : World Origin) → Takes (Err silence) link old.server new.server → Counted (silence_cause ServerFault silence) old new
  take_counted silence None old new h = let clash = h.0 in absurd (cc)
  take_counted Quiet (Some link) old new h =
      inr (subst (λ (s : Server). HasIdled s.link) (sym h.is) (positive link.inlet.idles h.speaker.inlet.idles (idled Lines link h.speaker h.hears), waited_so Lines link h.speaker h.hears))
  take_counted Broken (Some link) old new h =
      subst (λ (s : Server). HasBroken s.link) (sym h.is) (or_left (nat_lt 0 h.speaker.inlet.faults) (nat_lt 0 h.speaker.outlet.faults) (positive link.inlet.faults h.speaker.inlet.faults (faulted Lines link h.speaker h.hears)))
  take_counted Limit (Some link) old new h = inr (subst (λ (s : Server). IsUsedUp s.link) (sym h.is) (used_up Lines link h.speaker h.hears))

  pass_counted : (text : List ℕ) (front : Front text) (link : Option Speaker) (old new : World Origin) → Passes text (Err front) link old.server new.server → Counted ServerFault old new
  pass_counted text front None old new h = let clash = h.0 in absurd (cc)
  pass_counted text front (Some link) old new h =
      subst (λ (s : Server). HasBroken s.link) (sym h.is) (or_right (nat_lt 0 h.speaker.inlet.faults) (nat_lt 0 h.speaker.outlet.faults) (positive link.outlet.faults h.speaker.outlet.faults (dropped text front link h.speaker h.told)))

  -- a server that stopped within a reply, or a client that wasn't given it
  drawn_counted : (silence : Silence) (text : List ℕ) (link : Speaker) (speaker : Speaker) (old new : World Origin) → Draws (Some (stop_of silence)) text link speaker → new.server ≡ record (old.server) { link = Some speaker } → Counted (silence_cause ServerFault silence) old new
  drawn_counted Quiet text link speaker old new h is =
      inr (subst (λ (s : Server). HasIdled s.link) (sym is) (positive link.inlet.idles speaker.inlet.idles (drawn_idled text link speaker h), drawn_waited text link speaker h))
  drawn_counted Broken text link speaker old new h is =
      subst (λ (s : Server). HasBroken s.link) (sym is) (or_left (nat_lt 0 speaker.inlet.faults) (nat_lt 0 speaker.outlet.faults) (positive link.inlet.faults speaker.inlet.faults (drawn_faulted text link speaker h)))
  drawn_counted Limit text link speaker old new h is = inr (subst (λ (s : Server). IsUsedUp s.link) (sym is) (drawn_up text link speaker h))

  reply_counted : {how : ReplyUse} (halt : Unreplied how) (link : Option Speaker) (old new : World Origin) → ClientReplies (Err halt) old.client new.client → ServerReplies (Err halt) link old.server new.server → Counted (reply_cause halt) old new
  reply_counted (NotHeard silence text begun) None old new c s = let clash = s.0 in absurd (cc)
  reply_counted (NotHeard silence text begun) (Some link) old new c s = drawn_counted silence text link s.speaker old new s.draws s.is
  reply_counted {how} (NotSaid text front) link old new c s = inr (dropped (said_of how text) front old.client new.client c)

  reach_counted : (dest : Dest) (halt : Unit {0}) (old new : World Origin) → Met (Reach dest) (Err halt) old new → Counted NoRoute old new
  reach_counted dest halt old new met =
      let dialing = met.server in
      let since : Rose dialing.cleared.refusals new.server.dialer.refusals = subst (λ (s : Server). Rose dialing.cleared.refusals s.dialer.refusals) (sym dialing.connects.is) (subst (λ (d : DialerView). Rose dialing.cleared.refusals d.refusals) (sym dialing.connects.refused.is) dialing.connects.refused.rose) in
      let before = both_clear old.server.pair old.server.link old.server.dialer dialing.apart dialing.cleared dialing.lets dialing.clears in
      rose_within old.server.dialer.refusals dialing.cleared.refusals new.server.dialer.refusals new.server.dialer.refusals before.refusals since (omega (arith))

  -- a relay that stopped

  -- what is counted where the ways of a relay ended so
  record Ways (up down : WayEnd) (old new : World Origin) : Type 0 where
    read_up : up ≡ ways.ReadFault → Rose old.client.inlet.faults new.client.inlet.faults
    write_down : down ≡ ways.WriteFault → Rose old.client.outlet.faults new.client.outlet.faults
    write_up : up ≡ ways.WriteFault → HasBroken new.server.link
    read_down : down ≡ ways.ReadFault → HasBroken new.server.link
    idle_up : up ≡ ways.Idle → WasIdle old.client.inlet new.client.inlet
    idle_down : down ≡ ways.Idle → HasIdled new.server.link
    spent_up : up ≡ ways.Spent → new.client.reader.room ≡ 0
    spent_down : down ≡ ways.Spent → IsUsedUp new.server.link

  for_cause : (one cause : Cause) (old new : World Origin) → failed one ≡ failed cause → Counted one old new → Counted cause old new
  for_cause one cause old new is counted = subst (λ (c : Cause). Counted c old new) (same_cause one cause is) counted

  ways_counted : (up down : WayEnd) (cause : Cause) (old new : World Origin) → stops_by (two_ways.ending_of up down) ≡ Err cause → Ways up down old new → Counted cause old new
  ways_counted ways.ReadFault down cause old new is w = for_cause ClientFault cause old new is (inl (w.read_up refl))
  ways_counted ways.Done ways.Done cause old new is w = absurd (cc)
  ways_counted ways.Done ways.ReadFault cause old new is w = for_cause ServerFault cause old new is (w.read_down refl)
  ways_counted ways.Done ways.WriteFault cause old new is w = for_cause ClientFault cause old new is (inr (w.write_down refl))
  ways_counted ways.Done ways.Idle cause old new is w = for_cause Idle cause old new is (inr (w.idle_down refl))
  ways_counted ways.Done ways.Spent cause old new is w = for_cause Spent cause old new is (inr (w.spent_down refl))
  ways_counted ways.WriteFault ways.Done cause old new is w = for_cause ServerFault cause old new is (w.write_up refl)
  ways_counted ways.WriteFault ways.ReadFault cause old new is w = for_cause ServerFault cause old new is (w.write_up refl)
  ways_counted ways.WriteFault ways.WriteFault cause old new is w = for_cause ClientFault cause old new is (inr (w.write_down refl))
  ways_counted ways.WriteFault ways.Idle cause old new is w = for_cause ServerFault cause old new is (w.write_up refl)
  ways_counted ways.WriteFault ways.Spent cause old new is w = for_cause ServerFault cause old new is (w.write_up refl)
  ways_counted ways.Idle ways.Done cause old new is w = for_cause Idle cause old new is (inl (w.idle_up refl))
  ways_counted ways.Idle ways.ReadFault cause old new is w = for_cause ServerFault cause old new is (w.read_down refl)
  ways_counted ways.Idle ways.WriteFault cause old new is w = for_cause ClientFault cause old new is (inr (w.write_down refl))
  ways_counted ways.Idle ways.Idle cause old new is w = for_cause Idle cause old new is (inl (w.idle_up refl))
  ways_counted ways.Idle ways.Spent cause old new is w = for_cause Idle cause old new is (inl (w.idle_up refl))
  ways_counted ways.Spent ways.Done cause old new is w = for_cause Spent cause old new is (inl (w.spent_up refl))
  ways_counted ways.Spent ways.ReadFault cause old new is w = for_cause ServerFault cause old new is (w.read_down refl)
  ways_counted ways.Spent ways.WriteFault cause old new is w = for_cause ClientFault cause old new is (inr (w.write_down refl))
  ways_counted ways.Spent ways.Idle cause old new is w = for_cause Idle cause old new is (inr (w.idle_down refl))
  ways_counted ways.Spent ways.Spent cause old new is w = for_cause Spent cause old new is (inl (w.spent_up refl))

  flow_counts : (flow : Flow) (link : Option Speaker) (old new : World Origin) → Carrying flow.up flow.down old.client new.client → ServerRelays (Some flow) link old.server new.server → Ways flow.up.end flow.down.end old new
  flow_counts flow None old new c s = absurd s
  flow_counts flow (Some link) old new c s = record {
    read_up = λ is. faulted_by flow.up flow.down old.client new.client is c;
    write_down = λ is. dropped_by flow.up flow.down old.client new.client is c;
    write_up = λ is. subst (λ (z : Server). HasBroken z.link) (sym s.is) (or_right (nat_lt 0 s.speaker.inlet.faults) (nat_lt 0 s.speaker.outlet.faults) (positive link.outlet.faults s.speaker.outlet.faults (dropped_by flow.down flow.up link s.speaker is s.carries)));
    read_down = λ is. subst (λ (z : Server). HasBroken z.link) (sym s.is) (or_left (nat_lt 0 s.speaker.inlet.faults) (nat_lt 0 s.speaker.outlet.faults) (positive link.inlet.faults s.speaker.inlet.faults (faulted_by flow.down flow.up link s.speaker is s.carries)));
    idle_up = λ is. idled_by flow.up flow.down old.client new.client is c;
    idle_down = λ is. let was = idled_by flow.down flow.up link s.speaker is s.carries in subst (λ (z : Server). HasIdled z.link) (sym s.is) (positive link.inlet.idles s.speaker.inlet.idles was.rose, was.waited);
    spent_up = λ is. spent_by flow.up flow.down old.client new.client is c;
    spent_down = λ is. subst (λ (z : Server). IsUsedUp z.link) (sym s.is) (spent_by flow.down flow.up link s.speaker is s.carries);
  }

  relay_counted : (halt : Stuck) (old new : World Origin) → Met Relay (Err halt) old new → Counted halt.cause old new
  relay_counted halt old new met = ways_counted halt.flow.up.end halt.flow.down.end halt.cause old new halt.is (flow_counts halt.flow old.server.link old new met.client met.server)

  pub stop_counted : (act : Act) (halt : Halt act) (old new : World Origin) → Met act (Err halt) old new → Counted (cause_by act halt) old new
  stop_counted (Hear form) halt old new met = hear_counted form halt old new met.client
  stop_counted (Say text) halt old new met = inr (dropped text halt old.client new.client met.client)
  stop_counted (Try text) halt old new met = absurd halt
  stop_counted (Log text) halt old new met = subst (λ (s : SinkView). Rose old.logs.faults s.faults) (sym met.logs.is) met.logs.rose
  stop_counted (Note text) halt old new met = absurd halt
  stop_counted (Ask request) halt old new met = fault_counted request halt old.office old new refl met.office.asking
  stop_counted (Renew name hash) halt old new met =
      fault_counted (requests.Password name halt.0 hash) halt.1 (record (old.office) { dice = met.office.dice }) old new refl met.office.asking
  stop_counted (Dial dest) halt old new met = absurd halt
  stop_counted (Reach dest) halt old new met = reach_counted dest halt old new met
  stop_counted Take halt old new met = take_counted halt old.server.link old new met.server
  stop_counted (Pass text) halt old new met = pass_counted text halt old.server.link old new met.server
  stop_counted HangUp halt old new met = absurd halt
  stop_counted Relay halt old new met = relay_counted halt old new met
  stop_counted (Deposit sender rcpts words most) halt old new met = deposit_counted words halt old new met.client
  stop_counted Allot halt old new met = tt
  stop_counted (TakeReply how) halt old new met = reply_counted halt old.server.link old new met.client met.server
  stop_counted OpenDoor halt old new met = absurd halt
  stop_counted (Join dest target) halt old new met = absurd halt
  stop_counted (Copy toward) halt old new met = absurd halt
  stop_counted Part halt old new met = absurd halt

  -- what was counted before is counted over a longer time
  pub counted_since : (cause : Cause) (old mid new : World Origin) → Stays old mid → Counted cause mid new → Counted cause old new
  counted_since ClientFault old mid new a (inl rose) = inl (rose_within old.client.inlet.faults mid.client.inlet.faults new.client.inlet.faults new.client.inlet.faults a.client.source.faults rose (omega (arith)))
  counted_since ClientFault old mid new a (inr rose) = inr (rose_within old.client.outlet.faults mid.client.outlet.faults new.client.outlet.faults new.client.outlet.faults a.client.sink.drops rose (omega (arith)))
  counted_since ServerFault old mid new a broken = broken
  counted_since LogFault old mid new a rose = rose_within old.logs.faults mid.logs.faults new.logs.faults new.logs.faults a.logs.drops rose (omega (arith))
  counted_since AuthFault old mid new a (inl rose) = inl (rose_within old.office.port.faults mid.office.port.faults new.office.port.faults new.office.port.faults a.port.breaks rose (omega (arith)))
  counted_since AuthFault old mid new a (inr rose) = inr (rose_within old.office.port.odd mid.office.port.odd new.office.port.odd new.office.port.odd a.port.strays rose (omega (arith)))
  counted_since Idle old mid new a (inl was) = inl (record { rose = rose_within old.client.inlet.idles mid.client.inlet.idles new.client.inlet.idles new.client.inlet.idles a.client.source.idles was.rose (omega (arith)); waited = was.waited })
  counted_since Idle old mid new a (inr idle) = inr idle
  counted_since NoRoute old mid new a rose = rose_within old.server.dialer.refusals mid.server.dialer.refusals new.server.dialer.refusals new.server.dialer.refusals a.server.dialer.refusals rose (omega (arith))
  counted_since Spent old mid new a (inl none) = inl none
  counted_since Spent old mid new a (inr none) = inr none
  counted_since NoMemory old mid new a counted = tt

  -- ---- a link that had failed, been idle or been used up is counted when it is hung up

  -- what hanging the link up left
  pub record Freed (link : Option Speaker) (old new : World Origin) : Type 0 where
    pub apart : DialerView
    pub lets : DialerKeeps old.server.dialer apart
    pub hanging : Clears link apart new.server.dialer
    pub others : Stays old new

  freed : (link : Option Speaker) (old new : World Origin) → old.server.link ≡ link → DeedsAll (freeing link) old new → Freed link old new
  freed None old new is all = subst (λ (w : World Origin). Freed None old w) all (record { apart = old.server.dialer; lets = same_dialer old.server.dialer; hanging = refl; others = stays_same old })
  freed (Some link) old new is all =
      let hanging : Hanging old.server all.0.server = all.1.server in
      let clears : Clears (Some link) hanging.apart all.0.server.dialer = subst (λ (l : Option Speaker). Clears l hanging.apart all.0.server.dialer) is (subst (λ (s : Server). Clears old.server.link hanging.apart s.dialer) (sym hanging.is) hanging.clears) in
      subst (λ (w : World Origin). Freed (Some link) old w) all.2 (record { apart = hanging.apart; lets = pair_keeps old.server.pair old.server.dialer hanging.apart hanging.lets; hanging = clears; others = stays_last.one HangUp (Ok tt) old all.0 all.1 })

  broken_freed : (link : Option Speaker) (old new : World Origin) → HasBroken link → Freed link old new → Rose old.server.dialer.link_faults new.server.dialer.link_faults
  broken_freed None old new broken free = absurd broken
  broken_freed (Some link) old new broken free =
      let before = free.lets.link_faults in
      let rose : Rose free.apart.link_faults new.server.dialer.link_faults = subst (λ (d : DialerView). Rose free.apart.link_faults d.link_faults) (sym free.hanging.is) (rose_true (has_broken link.inlet link.outlet) free.apart.link_faults free.hanging.faults broken free.hanging.faults_rose) in
      rose_within old.server.dialer.link_faults free.apart.link_faults new.server.dialer.link_faults new.server.dialer.link_faults before rose (omega (arith))

  pub idle_freed : (link : Option Speaker) (old new : World Origin) → HasIdled link → Freed link old new → Rose old.server.dialer.link_idles new.server.dialer.link_idles
  idle_freed None old new idle free = absurd idle
  idle_freed (Some link) old new idle free =
      let before = free.lets.link_idles in
      let rose : Rose free.apart.link_idles new.server.dialer.link_idles = subst (λ (d : DialerView). Rose free.apart.link_idles d.link_idles) (sym free.hanging.is) (rose_true (nat_lt 0 link.inlet.idles) free.apart.link_idles free.hanging.idles idle.0 free.hanging.idles_rose) in
      rose_within old.server.dialer.link_idles free.apart.link_idles new.server.dialer.link_idles new.server.dialer.link_idles before rose (omega (arith))

pub last_of : {A : Type 0} (one : A) (old new : Option (List A)) → AddsOne one old new → IsLast one new
last_of one old None adds = tt
last_of one None (Some all) adds = absurd (cc)
last_of {A} one (Some before) (Some all) adds = (before, sym (some_same before all adds))
  where
    some_same : (before all : List A) → Some (before ++ one ∷ []) ≡ Some all → before ++ one ∷ [] ≡ all
    some_same before all same = cc

-- what was used of a link of which nothing is left
whole_link : (link : Speaker) → LinkSound link → link.reader.room ≡ 0 → link.inlet.amount ≡ most_taken
whole_link link sound none =
    let all = sound.all in
    let least = sound.amount.least in
    let most = sound.amount.most in
    omega (arith, none, all, least, most)

module _ {Origin : Type 0} where
  -- ---- a session, up to what was owed, while that was done, and after it

  -- what was owed, done
  pub record Owed (old mid new : World Origin) : Type 0 where
    pub before : Stays old mid
    pub between : World Origin
    pub freed : Freed mid.server.link mid between
    pub after : Stays between new
    pub server : new.server ≡ between.server

  pub owed_done : (old mid new : World Origin) (answer : Result Reply PortFault) → Stays old mid → DeedsAll (owed mid answer) mid new → Owed old mid new
  owed_done old mid new answer before all =
      let parted = deeds_parted (freeing mid.server.link) (closing mid.office.opened answer) mid new all in
      record {
        before = before;
        between = parted.mid;
        freed = freed mid.server.link mid parted.mid refl parted.before;
        after = all_last stays_last (closing mid.office.opened answer) parted.mid new parted.after;
        server = closing_server mid.office.opened answer parted.mid new parted.after;
      }

  all_taken : (devices : Devices Origin) (names : Names) (last : World Origin) → Stays (at_first devices names) last → last.client.reader.room ≡ 0 → TookMost devices.inlet last.client.inlet
  all_taken devices names last stays none =
      let source = stays.client.source in
      let room = source.room in
      record { took = record { bytes = source.bytes; most = omega (arith, room); grew = source.grew; is = source.took }; all = omega (arith, none, room) }

  -- the link of which all was taken is the last that was hung up
  link_last : (link : Option Speaker) (mid between : World Origin) (new : World Origin) → IsSound link → IsUsedUp link → Freed link mid between → new.server ≡ between.server → LinkTookMost (devices_of new)
  link_last None mid between new sound none free same = absurd none
  link_last (Some link) mid between new sound none free same = record {
    link = record { from = link.inlet; to = link.outlet };
    last =
        subst (λ (s : Server). IsLast (record { from = link.inlet; to = link.outlet }) s.dialer.ended) (sym same) (subst (λ (d : DialerView). IsLast (record { from = link.inlet; to = link.outlet }) d.ended) (sym free.hanging.is) (last_of (record { from = link.inlet; to = link.outlet }) free.apart.ended free.hanging.ended free.hanging.adds));
    all = whole_link link sound none;
  }

  caused_by : (cause : Cause) (devices : Devices Origin) (names : Names) (mid new : World Origin) → Owed (at_first devices names) mid new → Counted cause (at_first devices names) mid → Caused (ending_by cause) devices (devices_of new)
  caused_by ClientFault devices names mid new owes (inl rose) =
      let later = stays_both mid owes.between new owes.freed.others owes.after in
      inl (rose_within devices.inlet.faults devices.inlet.faults mid.client.inlet.faults new.client.inlet.faults (omega (arith)) rose later.client.source.faults)
  caused_by ClientFault devices names mid new owes (inr rose) =
      let later = stays_both mid owes.between new owes.freed.others owes.after in
      inr (rose_within devices.outlet.faults devices.outlet.faults mid.client.outlet.faults new.client.outlet.faults (omega (arith)) rose later.client.sink.drops)
  caused_by ServerFault devices names mid new owes broken =
      rose_within devices.dialer.link_faults mid.server.dialer.link_faults owes.between.server.dialer.link_faults new.server.dialer.link_faults owes.before.server.dialer.link_faults (broken_freed mid.server.link mid owes.between broken owes.freed) owes.after.server.dialer.link_faults
  caused_by LogFault devices names mid new owes rose =
      let later = stays_both mid owes.between new owes.freed.others owes.after in
      rose_within devices.logs.faults devices.logs.faults mid.logs.faults new.logs.faults (omega (arith)) rose later.logs.drops
  caused_by AuthFault devices names mid new owes (inl rose) =
      let later = stays_both mid owes.between new owes.freed.others owes.after in
      inl (rose_within devices.port.faults devices.port.faults mid.office.port.faults new.office.port.faults (omega (arith)) rose later.port.breaks)
  caused_by AuthFault devices names mid new owes (inr rose) =
      let later = stays_both mid owes.between new owes.freed.others owes.after in
      inr (rose_within devices.port.odd devices.port.odd mid.office.port.odd new.office.port.odd (omega (arith)) rose later.port.strays)
  caused_by Idle devices names mid new owes (inl was) =
      let later = stays_both mid owes.between new owes.freed.others owes.after in
      inl (rose_within devices.inlet.idles devices.inlet.idles mid.client.inlet.idles new.client.inlet.idles (omega (arith)) was.rose later.client.source.idles)
  caused_by Idle devices names mid new owes (inr idle) =
      inr (rose_within devices.dialer.link_idles mid.server.dialer.link_idles owes.between.server.dialer.link_idles new.server.dialer.link_idles owes.before.server.dialer.link_idles (idle_freed mid.server.link mid owes.between idle owes.freed) owes.after.server.dialer.link_idles)
  caused_by NoRoute devices names mid new owes rose =
      let later = stays_both mid owes.between new owes.freed.others owes.after in
      rose_within devices.dialer.refusals devices.dialer.refusals mid.server.dialer.refusals new.server.dialer.refusals (omega (arith)) rose later.server.dialer.refusals
  caused_by Spent devices names mid new owes (inl none) =
      let later = stays_both mid owes.between new owes.freed.others owes.after in
      let room = later.client.source.room in
      inl (all_taken devices names new (stays_both (at_first devices names) mid new owes.before later) (omega (arith, none, room)))
  caused_by Spent devices names mid new owes (inr none) =
      inr (link_last mid.server.link mid owes.between new (owes.before.server.sound tt) none owes.freed owes.server)
  caused_by NoMemory devices names mid new owes counted = tt

  -- a fault of the close that was owed
  caused_closing : (fault : PortFault) (devices : Devices Origin) (names : Names) (new : World Origin) → Counted (fault_cause fault) (at_first devices names) new → Caused (ending_by (fault_cause fault)) devices (devices_of new)
  caused_closing faults.NoMemory devices names new counted = tt
  caused_closing faults.Link devices names new counted = counted
  caused_closing faults.Strange devices names new counted = counted

  caused_done : (opened : Option ℕ) (answer : Result Reply PortFault) (devices : Devices Origin) (names : Names) (between new : World Origin) → Stays (at_first devices names) between → DeedsAll (closing opened answer) between new → Caused (ending_closed opened answer) devices (devices_of new)
  caused_done None answer devices names between new before all = tt
  caused_done (Some sid) (Ok reply) devices names between new before all = tt
  caused_done (Some sid) (Err fault) devices names between new before all =
      let counted : Counted (fault_cause fault) between all.0 = fault_counted requests.Close fault between.office between all.0 refl all.1.office.asking in
      let since : Counted (fault_cause fault) (at_first devices names) all.0 = counted_since (fault_cause fault) (at_first devices names) between all.0 before counted in
      caused_closing fault devices names new (subst (λ (w : World Origin). Counted (fault_cause fault) (at_first devices names) w) all.2 since)

  caused_dialogue : {P : Type 0} (rows : PlaceTable (acts Origin) P) (dialogue : Result (Unit {0}) Cause) (left : Row (acts Origin) P) (devices : Devices Origin) (names : Names) (before mid new : World Origin) (answer : Result Reply PortFault)
      → Stays (at_first devices names) before → Comes rows (λ (done : Unit {0}). Over) dialogue mid left before → Stays (at_first devices names) mid → DeedsAll (owed mid answer) mid new → Caused (ending_of dialogue mid.office.opened answer) devices (devices_of new)
  caused_dialogue rows (Ok over) left devices names before mid new answer first comes stays after =
      let parted = deeds_parted (freeing mid.server.link) (closing mid.office.opened answer) mid new after in
      let free = freed mid.server.link mid parted.mid refl parted.before in
      caused_done mid.office.opened answer devices names parted.mid new (stays_both (at_first devices names) mid parted.mid stays free.others) parted.after
  caused_dialogue rows (Err cause) left devices names before mid new answer first comes stays after =
      let here = stopped rows left cause before mid comes in
      let counted : Counted (cause_by here.act here.why.halt) before mid = stop_counted here.act here.why.halt before mid here.why.met in
      let since : Counted cause (at_first devices names) mid = counted_since cause (at_first devices names) before mid first (subst (λ (c : Cause). Counted c before mid) (sym here.why.is_cause) counted) in
      caused_by cause devices names mid new (owed_done (at_first devices names) mid new answer stays after) since

  pub session_stays : {relays : Bool} {P : Type 0} {rows : PlaceTable (acts Origin) P} {first : Row (acts Origin) P} {old new : Devices Origin} {ending : Ending} (session : SessionAs relays rows first old new ending) → Stays (at_first old session.names) session.last
  session_stays {old = old} session = all_last stays_last (deeds_of session.held) (at_first old session.names) session.last (held_deeds session.held)

  keeps_so : (relays : Bool) (old : Devices Origin) (names : Names) (last : World Origin) → Stays (at_first old names) last → StaysShut relays old.outlet.shut last.client.outlet.shut → KeepsAs relays old (devices_of last)
  keeps_so relays old names last stays shut = record {
    faults = stays.client.source.faults;
    idles = stays.client.source.idles;
    amount = stays.client.source.grew.later;
    drops = stays.client.sink.drops;
    log_drops = stays.logs.drops;
    breaks = stays.port.breaks;
    strays = stays.port.strays;
    asks = stays.port.asks;
    came = stays.server.dialer.came;
    refusals = stays.server.dialer.refusals;
    link_faults = stays.server.dialer.link_faults;
    link_idles = stays.server.dialer.link_idles;
    data_faults = stays.server.dialer.data_faults;
    data_idles = stays.server.dialer.data_idles;
    waits = stays.client.source.waits;
    link_waits = stays.server.dialer.waits;
    shut = shut;
    log_shut = stays.logs.shut;
    origin = stays.port.origin;
    home = stays.port.home;
  }

  -- a session keeps its devices
  pub session_keeps : {P : Type 0} {rows : PlaceTable (acts Origin) P} {first : Row (acts Origin) P} {old new : Devices Origin} {ending : Ending} → Session rows first old new ending → SessionKeeps old new
  session_keeps {old = old} session =
      let unshut = all_last unshut_last (deeds_of session.held) (at_first old session.names) session.last (held_deeds session.held) in
      subst (λ (d : Devices Origin). SessionKeeps old d) session.leaves (keeps_so false old session.names session.last (session_stays session) (unshut.shut session.lent))

  pub relay_keeps : {P : Type 0} {rows : PlaceTable (acts Origin) P} {first : Row (acts Origin) P} {old new : Devices Origin} {ending : Ending} → RelaySession rows first old new ending → RelayKeeps old new
  relay_keeps {old = old} session =
      let stays = session_stays session in
      subst (λ (d : Devices Origin). RelayKeeps old d) session.leaves (keeps_so true old session.names session.last stays stays.client.sink.shut)

  -- and its ending has its cause
  pub session_caused : {relays : Bool} {P : Type 0} {rows : PlaceTable (acts Origin) P} {first : Row (acts Origin) P} {old new : Devices Origin} {ending : Ending} → SessionAs relays rows first old new ending → Caused ending old new
  session_caused {rows = rows} {old = old} {ending = ending} session =
      let held = session.held in
      let start = at_first old session.names in
      let before = all_last stays_last (map done held.ran.steps) start held.ran.mid (deeds_done held.ran.steps start held.ran.mid held.ran.does) in
      let stays = all_last stays_last (deeds_ran held.ran) start held.mid (ran_deeds held.ran) in
      let caused = caused_dialogue rows held.dialogue held.ran.left old session.names held.ran.mid held.mid session.last held.answer before held.ran.comes stays held.after in
      subst (λ (d : Devices Origin). Caused ending old d) session.leaves (subst (λ (e : Ending). Caused e old (devices_of session.last)) (sym held.ends) caused)
