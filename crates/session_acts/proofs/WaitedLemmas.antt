-- Where a session ends as idle, somebody was waited for as long as was set.
use Rattle.std.proofs.Common.{◌≡◌, sym, ap, subst, ◌∙◌, ℕ, Bool, inl, inr, map, Option, Some, None, Result, Ok, Err}
use Rattle.auth_events.specs.declared.port.PortFault.{PortFault}
use Rattle.auth_events.specs.declared.port.PortFault.TheVariants as faults
use Rattle.auth_events.specs.declared.reply.Reply.{Reply}
use Rattle.fw_acts.specs.Acts.{Row, PlaceTable}
use Rattle.fw_acts.specs.Acts.Row.{Over}
use Rattle.fw_acts.specs.Ran.{Comes}
use Rattle.fw_acts.proofs.RanLemmas.{stopped}
use Rattle.fw_outside.specs.Counts.{Rose}
use Rattle.fw_outside.specs.DialerView.{DialerView}
use Rattle.fw_types.specs.declared.ending.Ending.{Ending}
use Rattle.session_acts.specs.Acts.{cause_by, fault_cause}
use Rattle.session_acts.specs.Causes.{IsLast, LinkWaitedInVain, WaitsFor}
use Rattle.session_acts.specs.Deeds.{DeedsAll, deeds_ran, done}
use Rattle.session_acts.specs.Met.{acts}
use Rattle.session_acts.specs.Session.{SessionAs, ending_by, ending_closed, ending_of, owed}
use Rattle.session_acts.specs.World.{Devices, Names, Server, Speaker, World, at_first, devices_of}
use Rattle.session_acts.specs.declared.cause.Cause.{Cause}
use Rattle.session_acts.specs.declared.cause.Cause.TheVariants.{ClientFault, ServerFault, LogFault, AuthFault, Idle, NoRoute, Spent, NoMemory}
use Rattle.session_acts.proofs.CauseLemmas.{Counted, Freed, HasIdled, Owed, counted_since, idle_freed, last_of, owed_done, stop_counted}
use Rattle.session_acts.proofs.DeedLemmas.{all_last, deeds_done, ran_deeds}
use Rattle.session_acts.proofs.DeviceLemmas.{rose_within}
use Rattle.session_acts.proofs.SpentLemmas.{owed_client}
use Rattle.session_acts.proofs.StaysLemmas.{IsPatient, Stays, stays_last}

module _ {Origin : Type 0} where
  -- the link that was idle is the last that was hung up
  link_waited : (link : Option Speaker) (devices : Devices Origin) (mid between new : World Origin) → IsPatient mid.server.dialer.waits link → mid.server.dialer.waits ≡ devices.dialer.waits → HasIdled link
      → Freed link mid between → new.server ≡ between.server → Rose devices.dialer.link_idles new.server.dialer.link_idles → LinkWaitedInVain devices (devices_of new)
  link_waited None devices mid between new patient waits idle free same rose = absurd idle
  link_waited (Some link) devices mid between new patient waits idle free same rose = record {
    rose = rose;
    link = record { from = link.inlet; to = link.outlet };
    last =
        subst (λ (s : Server). IsLast (record { from = link.inlet; to = link.outlet }) s.dialer.ended) (sym same) (subst (λ (d : DialerView). IsLast (record { from = link.inlet; to = link.outlet }) d.ended) (sym free.hanging.is) (last_of (record { from = link.inlet; to = link.outlet }) free.apart.ended free.hanging.ended free.hanging.adds));
    waited = idle.1 ∙ patient ∙ waits;
  }

  waited_by : (cause : Cause) (devices : Devices Origin) (names : Names) (mid new : World Origin) → Owed (at_first devices names) mid new → new.client ≡ mid.client → Counted cause (at_first devices names) mid → WaitsFor (ending_by cause) devices (devices_of new)
  waited_by ClientFault devices names mid new owes same counted = tt
  waited_by ServerFault devices names mid new owes same counted = tt
  waited_by LogFault devices names mid new owes same counted = tt
  waited_by AuthFault devices names mid new owes same counted = tt
  waited_by NoRoute devices names mid new owes same counted = tt
  waited_by Spent devices names mid new owes same counted = tt
  waited_by NoMemory devices names mid new owes same counted = tt
  waited_by Idle devices names mid new owes same (inl was) =
      inl (record {
        rose = subst (λ (s : Speaker). Rose devices.inlet.idles s.inlet.idles) (sym same) was.rose;
        waited = ap (λ (s : Speaker). s.inlet.waited) same ∙ was.waited ∙ owes.before.client.source.waits;
      })
  waited_by Idle devices names mid new owes same (inr idle) =
      inr (link_waited mid.server.link devices mid owes.between new (owes.before.server.patient tt) owes.before.server.dialer.waits idle owes.freed owes.server (rose_within devices.dialer.link_idles mid.server.dialer.link_idles owes.between.server.dialer.link_idles new.server.dialer.link_idles owes.before.server.dialer.link_idles (idle_freed mid.server.link mid owes.between idle owes.freed) owes.after.server.dialer.link_idles))

  waited_closing : (fault : PortFault) (old new : Devices Origin) → WaitsFor (ending_by (fault_cause fault)) old new
  waited_closing faults.NoMemory old new = tt
  waited_closing faults.Link old new = tt
  waited_closing faults.Strange old new = tt

  waited_done : (opened : Option ℕ) (answer : Result Reply PortFault) (old new : Devices Origin) → WaitsFor (ending_closed opened answer) old new
  waited_done None answer old new = tt
  waited_done (Some sid) (Ok reply) old new = tt
  waited_done (Some sid) (Err fault) old new = waited_closing fault old new

  waited_dialogue : {P : Type 0} (rows : PlaceTable (acts Origin) P) (dialogue : Result (Unit {0}) Cause) (left : Row (acts Origin) P) (devices : Devices Origin) (names : Names) (before mid new : World Origin) (answer : Result Reply PortFault)
      → Stays (at_first devices names) before → Comes rows (λ (done : Unit {0}). Over) dialogue mid left before → Stays (at_first devices names) mid → DeedsAll (owed mid answer) mid new → WaitsFor (ending_of dialogue mid.office.opened answer) devices (devices_of new)
  waited_dialogue rows (Ok over) left devices names before mid new answer first comes stays after = waited_done mid.office.opened answer devices (devices_of new)
  waited_dialogue rows (Err cause) left devices names before mid new answer first comes stays after =
      let here = stopped rows left cause before mid comes in
      let counted : Counted (cause_by here.act here.why.halt) before mid = stop_counted here.act here.why.halt before mid here.why.met in
      let since : Counted cause (at_first devices names) mid = counted_since cause (at_first devices names) before mid first (subst (λ (c : Cause). Counted c before mid) (sym here.why.is_cause) counted) in
      waited_by cause devices names mid new (owed_done (at_first devices names) mid new answer stays after) (owed_client mid new answer after) since

  pub session_waited : {relays : Bool} {P : Type 0} {rows : PlaceTable (acts Origin) P} {first : Row (acts Origin) P} {old new : Devices Origin} {ending : Ending} → SessionAs relays rows first old new ending → WaitsFor ending old new
  session_waited {rows = rows} {old = old} {ending = ending} session =
      let held = session.held in
      let start = at_first old session.names in
      let before = all_last stays_last (map done held.ran.steps) start held.ran.mid (deeds_done held.ran.steps start held.ran.mid held.ran.does) in
      let stays = all_last stays_last (deeds_ran held.ran) start held.mid (ran_deeds held.ran) in
      let waited = waited_dialogue rows held.dialogue held.ran.left old session.names held.ran.mid held.mid session.last held.answer before held.ran.comes stays held.after in
      subst (λ (d : Devices Origin). WaitsFor ending old d) session.leaves (subst (λ (e : Ending). WaitsFor e old (devices_of session.last)) (sym held.ends) waited)
