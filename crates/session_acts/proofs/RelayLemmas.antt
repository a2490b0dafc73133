-- A relay behind a dialogue.
use Rattle.std.proofs.Common.{◌≡◌, refl, sym, ap, subst, ◌∙◌, ℕ, Bool, true, List, [], ◌∷◌, Option, Some, None, Result, Ok, Err}
use Rattle.fw_acts.specs.Acts.{Row, Step, PlaceTable}
use Rattle.fw_acts.specs.Acts.Row.{Do, At, Over}
use Rattle.fw_acts.specs.Histories.{Keeps, Leaves, Watch}
use Rattle.fw_acts.specs.Ran.{Ran, StopsAt}
use Rattle.fw_acts.specs.Runs.{Run}
use Rattle.fw_acts.proofs.RanLemmas.{ran_then}
use Rattle.fw_outside.specs.LineReaderView.{LineReaderView}
use Rattle.fw_types.specs.declared.ending.Ending.{Ending}
use Rattle.relay_ways.specs.Carried.{Carries}
use Rattle.relay_ways.specs.Ending as two_ways
use Rattle.relay_ways.specs.declared.way_end.WayEnd.{WayEnd}
use Rattle.relay_ways.specs.declared.way_end.WayEnd.TheVariants.{Done, ReadFault, WriteFault, Idle, Spent}
use Rattle.session_acts.specs.Acts.Act.{Relay}
use Rattle.session_acts.specs.Course.{CourseState, KeepsCourse, course_watch}
use Rattle.session_acts.specs.Course.CourseState.{Unasked}
use Rattle.session_acts.specs.Finishing.{Finishing, RelaysAfter, RelaysLink, RelaysSo, RunsWays}
use Rattle.session_acts.specs.Met.{Relays, ServerRelays, acts}
use Rattle.session_acts.specs.Relayed.{relayed, then_relay}
use Rattle.session_acts.specs.Relaying.{stops_by}
use Rattle.session_acts.specs.Session.{Held}
use Rattle.session_acts.specs.World.{Names, Speaker, World}
use Rattle.session_acts.specs.declared.cause.Cause.{Cause}
use Rattle.session_acts.proofs.Acting.{did, halted}
use Rattle.session_acts.proofs.OwedLemmas.{held_by}

-- ---- the ways

-- a way that ran is one way of the client and one of the server
pub ran_ways : (up down : WayEnd) (client link new_client new_link : Speaker) (up_left down_left : ℕ)
    → Carries client.reader.pending client.reader.room up_left up client.inlet new_client.inlet link.outlet new_link.outlet
    → Carries link.reader.pending link.reader.room down_left down link.inlet new_link.inlet client.outlet new_client.outlet
    → new_client.reader ≡ record { pending = []; room = up_left } → new_link.reader ≡ record { pending = []; room = down_left } → RunsWays up down client link new_client new_link
ran_ways up down client link new_client new_link up_left down_left there back one other = record {
  flow = record { up = there.way; down = back.way };
  is_up = there.is;
  is_down = back.is;
  for_client = record { inlet = new_client.inlet; outlet = new_client.outlet; room = up_left; drains = there.drains; supplies = back.supplies; is = ap (λ (r : LineReaderView). record new_client { reader = r }) one };
  for_server = record { inlet = new_link.inlet; outlet = new_link.outlet; room = down_left; drains = back.drains; supplies = there.supplies; is = ap (λ (r : LineReaderView). record new_link { reader = r }) other };
}

pub relays_link : (up down : WayEnd) (result : Result (Unit {0}) Cause) (ending : Ending) (client link new_client new_link : Speaker) (new : Option Speaker) → RunsWays up down client link new_client new_link → ending ≡ two_ways.ending_of up down → result ≡ stops_by ending → new ≡ Some new_link
    → RelaysLink result client link new_client new
relays_link up down result ending client link new_client new_link new runs is stops linked = record {
  flow = runs.flow;
  speaker = new_link;
  is = stops ∙ ap stops_by is ∙ ap (λ (e : WayEnd). stops_by (two_ways.ending_of e down)) (sym runs.is_up) ∙ ap (λ (e : WayEnd). stops_by (two_ways.ending_of runs.flow.up.end e)) (sym runs.is_down);
  for_client = runs.for_client;
  for_server = runs.for_server;
  linked = linked;
}

-- ---- the act

-- only where both ways are done, the session goes on
pub record BothDone (up down : WayEnd) : Type 0 where
  pub first : up ≡ Done
  pub second : down ≡ Done

pub both_done : (up down : WayEnd) → stops_by (two_ways.ending_of up down) ≡ Ok tt → BothDone up down
both_done ReadFault down is = absurd (cc)
both_done Done Done is = record { first = refl; second = refl }
both_done Done ReadFault is = absurd (cc)
both_done Done WriteFault is = absurd (cc)
both_done Done Idle is = absurd (cc)
both_done Done Spent is = absurd (cc)
both_done WriteFault Done is = absurd (cc)
both_done WriteFault ReadFault is = absurd (cc)
both_done WriteFault WriteFault is = absurd (cc)
both_done WriteFault Idle is = absurd (cc)
both_done WriteFault Spent is = absurd (cc)
both_done Idle Done is = absurd (cc)
both_done Idle ReadFault is = absurd (cc)
both_done Idle WriteFault is = absurd (cc)
both_done Idle Idle is = absurd (cc)
both_done Idle Spent is = absurd (cc)
both_done Spent Done is = absurd (cc)
both_done Spent ReadFault is = absurd (cc)
both_done Spent WriteFault is = absurd (cc)
both_done Spent Idle is = absurd (cc)
both_done Spent Spent is = absurd (cc)

module _ {Origin : Type 0} where
  -- the world after a relay
  abbrev pub after_relay : World Origin → Speaker → Option Speaker → World Origin
  after_relay world client link = record world { client = client; server = record (world.server) { link = link } }

  relay_went : (result : Result (Unit {0}) Cause) (old : World Origin) (link : Speaker) (client : Speaker) (new : Option Speaker) → old.names.relays ≡ true → old.server.link ≡ Some link → RelaysLink result old.client link client new
      → Relays result old (after_relay old client new)
  relay_went (Ok done) old link client new lent up h =
      let ends = both_done h.flow.up.end h.flow.down.end (sym h.is) in
      record {
        through = Some (record { flow = h.flow; up = ends.first; down = ends.second });
        met = record {
          client = h.for_client;
          logs = refl;
          office = refl;
          server = subst (λ (l : Option Speaker). ServerRelays (Some h.flow) l old.server (record (old.server) { link = new })) (sym up) (record { speaker = h.speaker; carries = h.for_server; is = ap (λ (l : Option Speaker). record (old.server) { link = l }) h.linked });
          store = refl;
          names = refl;
          may = lent;
        };
      }
  relay_went (Err cause) old link client new lent up h = record {
    halt = record { flow = h.flow; cause = cause; is = sym h.is };
    is_cause = refl;
    met = record {
      client = h.for_client;
      logs = refl;
      office = refl;
      server = subst (λ (l : Option Speaker). ServerRelays (Some h.flow) l old.server (record (old.server) { link = new })) (sym up) (record { speaker = h.speaker; carries = h.for_server; is = ap (λ (l : Option Speaker). record (old.server) { link = l }) h.linked });
      store = refl;
      names = refl;
      may = lent;
    };
  }

  relay_idle : (result : Result (Unit {0}) Cause) (old : World Origin) (client : Speaker) (new : Option Speaker) → old.names.relays ≡ true → old.server.link ≡ None → RelaysSo result old.client None client new
      → Relays result old (after_relay old client new)
  relay_idle (Ok done) old client new lent none h = record {
    through = None;
    met = record {
      client = h.1;
      logs = refl;
      office = refl;
      server = subst (λ (l : Option Speaker). ServerRelays None l old.server (record (old.server) { link = new })) (sym none) (ap (λ (l : Option Speaker). record (old.server) { link = l }) (h.2 ∙ sym none));
      store = refl;
      names = refl;
      may = lent;
    };
  }
  relay_idle (Err cause) old client new lent none h = let clash = h.0 in absurd (cc)

  relay_done : (result : Result (Unit {0}) Cause) (link : Option Speaker) (old : World Origin) (client : Speaker) (new : Option Speaker) → old.names.relays ≡ true → old.server.link ≡ link → RelaysSo result old.client link client new
      → Relays result old (after_relay old client new)
  relay_done result None old client new lent up h = relay_idle result old client new lent up h
  relay_done result (Some link) old client new lent up h = relay_went result old link client new lent up h

-- ---- the rows

module _ {Origin P : Type 0} (rows : PlaceTable (acts Origin) P) where
  run_relayed : (r left : Row (acts Origin) P) (steps : List (Step (acts Origin))) → Run rows r steps left → Run (relayed rows) (then_relay r) steps (then_relay left)
  run_relayed r left [] run = ap (λ (row : Row (acts Origin) P). then_relay row) run
  run_relayed (Do act go) left (step ∷ steps) run = (run.0, run.1, run_relayed (go run.0) left steps run.2)
  run_relayed (At place) left (step ∷ steps) run = (run.0, run.1, run_relayed (rows.go place run.0) left steps run.2)
  run_relayed Over left (step ∷ steps) run = absurd run

  stops_relayed : (left : Row (acts Origin) P) (cause : Cause) (old new : World Origin) → StopsAt rows left cause old new → StopsAt (relayed rows) (then_relay left) cause old new
  stops_relayed (Do act go) cause old new stops = stops
  stops_relayed (At place) cause old new stops = stops
  stops_relayed Over cause old new stops = absurd stops

  relay_row : (result : Result (Unit {0}) Cause) (old new : World Origin) → Relays result old new → Ran (relayed rows) (Do Relay (λ flow. Over)) (λ (done : Unit {0}). Over) old new result
  relay_row (Ok done) old new h = did h.met (record { steps = []; left = Over; mid = new; run = refl; does = refl; comes = (refl, refl) })
  relay_row (Err cause) old new h = halted h refl

  -- the dialogue, and then the relay
  ran_relayed : (first : Row (acts Origin) P) (talked result : Result (Unit {0}) Cause) (old mid : World Origin) (client : Speaker) (link : Option Speaker) → mid.names.relays ≡ true → Ran rows first (λ (done : Unit {0}). Over) old mid talked
      → RelaysAfter talked result mid.client mid.server.link client link → Ran (relayed rows) (then_relay first) (λ (done : Unit {0}). Over) old (after_relay mid client link) result
  ran_relayed first (Ok done) result old mid client link lent ran h =
      let row : Row (acts Origin) P = Do Relay (λ flow. Over) in
      let before : Ran (relayed rows) (then_relay first) (λ (done : Unit {0}). row) old mid (Ok (tt {0})) = record {
        steps = ran.steps;
        left = then_relay ran.left;
        mid = ran.mid;
        run = run_relayed first ran.left ran.steps ran.run;
        does = ran.does;
        comes = (ap (λ (row : Row (acts Origin) P). then_relay row) ran.comes.0, ran.comes.1);
      } in
      ran_then before (relay_row result mid (after_relay mid client link) (relay_done result mid.server.link mid client link lent refl h))
  ran_relayed first (Err cause) result old mid client link lent ran h =
      let same : mid ≡ after_relay mid client link = ap (λ (c : Speaker). after_relay mid c mid.server.link) (sym h.1) ∙ ap (λ (l : Option Speaker). after_relay mid client l) (sym h.2) in
      let stopped : Ran (relayed rows) (then_relay first) (λ (done : Unit {0}). Over) old mid (Err cause) = record {
        steps = ran.steps;
        left = then_relay ran.left;
        mid = ran.mid;
        run = run_relayed first ran.left ran.steps ran.run;
        does = ran.does;
        comes = stops_relayed ran.left cause ran.mid mid ran.comes;
      } in
      subst (λ (w : World Origin). Ran (relayed rows) (then_relay first) (λ (done : Unit {0}). Over) old w result) same (subst (λ (r : Result (Unit {0}) Cause). Ran (relayed rows) (then_relay first) (λ (done : Unit {0}). Over) old mid r) (sym h.0) stopped)

  pub held_relayed : (first : Row (acts Origin) P) (talked result : Result (Unit {0}) Cause) (old mid : World Origin) (client : Speaker) (link : Option Speaker) (new : World Origin) (ending : Ending) → old.names.relays ≡ true → mid.names ≡ old.names → Ran rows first (λ (done : Unit {0}). Over) old mid talked
      → RelaysAfter talked result mid.client mid.server.link client link → Finishing result (after_relay mid client link) new ending → Held (relayed rows) (then_relay first) old new ending
  held_relayed first talked result old mid client link new ending lent names ran h finishing =
      held_by (ran_relayed first talked result old mid client link (ap (λ (n : Names). n.relays) names ∙ lent) ran h) finishing

  -- ---- the course

  pub leaves_relayed : (watch : Watch (acts Origin) P) → ((noted : watch.Noted) → watch.over noted → Leaves watch (Do Relay (λ flow. Over)) noted) → (r : Row (acts Origin) P) (noted : watch.Noted) → Leaves watch r noted → Leaves watch (then_relay r) noted
  leaves_relayed watch ends (Do act go) noted leaves = (leaves.0, λ answer. leaves_relayed watch ends (go answer) (watch.note noted act answer) (leaves.1 answer))
  leaves_relayed watch ends (At place) noted leaves = leaves
  leaves_relayed watch ends Over noted leaves = ends noted leaves

  pub keeps_relayed : (watch : Watch (acts Origin) P) → ((noted : watch.Noted) → watch.over noted → Leaves watch (Do Relay (λ flow. Over)) noted) → Keeps rows watch → Keeps (relayed rows) watch
  keeps_relayed watch ends keeps = λ place noted holds.
      let here = keeps place noted holds in
      (here.0, λ answer. leaves_relayed watch ends (rows.go place answer) (watch.note noted (rows.act place) answer) (here.1 answer))

  pub relayed_course : (console : Bool) (may_be : P → CourseState → Bool) (first : Row (acts Origin) P) → KeepsCourse console may_be rows first → KeepsCourse console may_be (relayed rows) (then_relay first)
  relayed_course console may_be first keeps = record {
    begins = leaves_relayed (course_watch Origin console may_be) (λ state over. (tt, λ flow. tt)) first Unasked keeps.begins;
    goes_on = keeps_relayed (course_watch Origin console may_be) (λ state over. (tt, λ flow. tt)) keeps.goes_on;
  }
