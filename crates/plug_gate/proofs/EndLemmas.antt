-- What each ending of a session tells, and what reached each side.
use Rattle.std.proofs.Common.{arith, ◌≡◌, refl, sym, ap, subst, ◌∙◌, ℕ, Bool, true, false, List, [], ◌∷◌, ◌++◌, ◌⊎◌, inl, inr, Option, Some, None, Result, Ok, Err, append-nil}
use Rattle.std.specs.Option.{option_map}
use Rattle.std.specs.Prelude.{IfSome, length}
use Rattle.auth_events.specs.declared.port.PortFault.{PortFault}
use Rattle.auth_events.specs.declared.reply.Reply.{Reply}
use Rattle.fw_acts.specs.Acts.{Row, PlaceTable}
use Rattle.fw_acts.specs.Acts.Row.{Do, Over}
use Rattle.fw_acts.specs.Ran.{Ran}
use Rattle.fw_outside.proofs.CountLemmas.{grew_none}
use Rattle.fw_outside.specs.Counts.{Grew}
use Rattle.fw_outside.specs.DialerView.{ComesUp, DialerView, HangsUp, LinkView, Refuses}
use Rattle.fw_outside.specs.SinkView.{SinkView}
use Rattle.fw_outside.specs.SourceView.{SourceView}
use Rattle.fw_outside.specs.ToldList.{IsOver, grown}
use Rattle.fw_outside.specs.declared.ask.Ask.TheVariants.{Main}
use Rattle.fw_types.specs.declared.dest.Dest.{Dest}
use Rattle.fw_types.specs.declared.ending.Ending.{Ending}
use Rattle.fw_types.specs.declared.ending.Ending.TheVariants as endings
use Rattle.plug_gate.specs.Dialogue.{plug_row}
use Rattle.plug_gate.specs.Laws.{Ends, GivesFronts, IsPlugged, IsTurnedDown, IsWhole}
use Rattle.relay_ways.specs.Carried.{Carries, LeavesSink, LeavesSource, Way, is_write_fault}
use Rattle.relay_ways.specs.Way.{holding}
use Rattle.relay_ways.specs.declared.way_end.WayEnd.{WayEnd}
use Rattle.relay_ways.specs.declared.way_end.WayEnd.TheVariants as ways
use Rattle.session_acts.specs.Acts.{Act, Outcome}
use Rattle.session_acts.specs.Acts.Act.{HangUp, Log, Reach, Relay}
use Rattle.session_acts.specs.Client.{GoesOn, LogFails, LogsFirst, with_line}
use Rattle.session_acts.specs.Deeds.{Deed, DeedsAll, deeds_ran}
use Rattle.session_acts.specs.Denying.{no_rows}
use Rattle.session_acts.specs.Laws.{Adds}
use Rattle.session_acts.specs.Joining.{LetsPairGo}
use Rattle.session_acts.specs.Met.{Carrying, Clears, ClientRelays, Met, ServerCarries, ServerRelays, acts}
use Rattle.session_acts.specs.RelayFronts.{AllIsSaid, IsFront, may_lose_down, may_lose_up}
use Rattle.session_acts.specs.RelayLast.{told_by}
use Rattle.session_acts.specs.Relayed.{relayed}
use Rattle.session_acts.specs.Relaying.{Flow, flow_of, stops_by}
use Rattle.session_acts.specs.Session.{Held, RelaySession, closing, ending_by, ending_of, freeing, owed}
use Rattle.session_acts.specs.World.{Devices, Names, Office, Server, Speaker, World, at_first, devices_of, most_taken, unheard}
use Rattle.session_acts.specs.declared.cause.Cause.{Cause}
use Rattle.session_acts.specs.declared.denying.NoPlace.{NoPlace}
use Rattle.session_acts.proofs.ClientLemmas.{HaltsHere, PassesOn, logs_first, nothing_owed, over_ran, ran_first, world_by}
use Rattle.session_acts.proofs.DeviceLemmas.{by_nothing, drains_grew, drains_took, supplies_given}
use Rattle.session_acts.proofs.LinkedLemmas.{adds_none, adds_one}
use Rattle.session_acts.proofs.RelayEndLemmas.{down_lost, front_by, is_shut, relay_ends, up_lost}
use Rattle.session_acts.proofs.RelayLemmas.{both_done}
use Rattle.session_acts.proofs.ServersHeardLemmas.{all_taken, none_taken}

-- ---- a relay over a link

record Linked (outcome : Outcome Relay) (link : Speaker) (client after : Speaker) (old new : Server) : Type 0 where
  flow : Flow
  is : flow_of outcome ≡ Some flow
  here : Carrying flow.up flow.down client after
  carries : ServerCarries flow link old new

linked : (outcome : Outcome Relay) (flow : Option Flow) (link client after : Speaker) (old new : Server) → flow_of outcome ≡ flow → ClientRelays flow client after → ServerRelays flow (Some link) old new → Linked outcome link client after old new
linked outcome None link client after old new is here there = absurd there
linked outcome (Some flow) link client after old new is here there = record { flow = flow; is = is; here = here; carries = there }

module _ {Origin : Type 0} where
  abbrev table : PlaceTable (acts Origin) NoPlace
  table = relayed no_rows

  abbrev relay_row : Row (acts Origin) NoPlace
  relay_row = Do Relay (λ flow. Over)

  abbrev reach_row : Dest → Row (acts Origin) NoPlace
  reach_row dest = Do (Reach dest) (λ up. relay_row)

  -- what is owed where a link is up and no session is open
  hangs_up : (mid new : World Origin) (link : Speaker) (answer : Result Reply PortFault) → mid.server.link ≡ Some link → mid.office.opened ≡ None → DeedsAll (owed mid answer) mid new → Met HangUp (Ok tt) mid new
  hangs_up mid new link answer up closed all =
      let so = subst (λ (o : Option ℕ). DeedsAll (freeing (Some link) ++ closing o answer) mid new) closed (subst (λ (l : Option Speaker). DeedsAll (freeing l ++ closing mid.office.opened answer) mid new) up all) in
      subst (λ (w : World Origin). Met HangUp (Ok tt) mid w) so.2 so.1

  -- ---- the destination is refused

  turned_down : (dest : Dest) (old new : Devices Origin) (ending : Ending) (session : RelaySession table (reach_row dest) old new ending)
      → HaltsHere (Reach dest) (at_first old session.names) session.held.mid session.held.dialogue → IsTurnedDown dest old new ending
  turned_down dest old new ending session h =
      let held = session.held in
      let met = h.stops.met in
      let start = at_first old session.names in
      let misses = met.server.connects in
      let is = world_by held.mid start.client start.logs start.office (record { dialer = misses.dialer; link = None; door = false; pair = None }) start.store start.names met.client met.logs met.office misses.is met.store met.names in
      let last = nothing_owed held.mid session.last held.answer (ap (λ (w : World Origin). w.server.link) is) (ap (λ (w : World Origin). w.office.opened) is) held.after in
      let leaves : new ≡ record old { dialer = misses.dialer } = sym session.leaves ∙ ap devices_of (sym last ∙ is) in
      let refused : Refuses (Main dest) old.dialer misses.dialer = subst (λ (d : DialerView). Refuses (Main dest) d misses.dialer) (met.server.clears ∙ met.server.lets) misses.refused in
      subst (λ (d : Devices Origin). IsTurnedDown dest old d ending) (sym leaves) (record {
        refused = refused;
        same = refl;
        ends = held.ends ∙ ap (λ (d : Result (Unit {0}) Cause). ending_of d held.mid.office.opened held.answer) h.is ∙ ap ending_by h.stops.is_cause;
      })

  -- ---- or a link comes up

  -- the relay, from a world
  record Relayed (dialogue : Result (Unit {0}) Cause) (old mid : World Origin) : Type 0 where
    outcome : Outcome Relay
    met : Met Relay outcome old mid
    is : dialogue ≡ told_by outcome

  relayed_so : (old mid : World Origin) (dialogue : Result (Unit {0}) Cause) (deeds : List Deed) → HaltsHere Relay old mid dialogue ⊎ PassesOn table Relay (λ flow. Over) old mid dialogue deeds → Relayed dialogue old mid
  relayed_so old mid dialogue deeds (inl h) = record { outcome = Err h.stops.halt; met = h.stops.met; is = h.is ∙ ap (λ (c : Cause). Err c) h.stops.is_cause }
  relayed_so old mid dialogue deeds (inr p) =
      let over = over_ran table p.next mid dialogue p.rest in
      record { outcome = Ok p.answer; met = subst (λ (w : World Origin). Met Relay (Ok p.answer) old w) over.same p.met; is = over.is }

  relayed_from : (old mid : World Origin) (dialogue : Result (Unit {0}) Cause) → Ran table relay_row (λ (done : Unit {0}). Over) old mid dialogue → Relayed dialogue old mid
  relayed_from old mid dialogue ran = relayed_so old mid dialogue (deeds_ran ran) (ran_first table Relay (λ flow. Over) old mid dialogue ran)

  plugged : (dest : Dest) (old new : Devices Origin) (ending : Ending) (session : RelaySession table (reach_row dest) old new ending)
      → PassesOn table (Reach dest) (λ up. relay_row) (at_first old session.names) session.held.mid session.held.dialogue (deeds_ran session.held.ran) → IsPlugged dest old new ending
  plugged dest old new ending session p =
      let held = session.held in
      let mid = held.mid in
      let start = at_first old session.names in
      let connects = p.met.server.connects in
      let link : Speaker = record { inlet = connects.inlet; reader = unheard; outlet = connects.outlet } in
      let linked_up : World Origin = record { client = start.client; logs = start.logs; office = start.office; server = record { dialer = connects.dialer; link = Some link; door = false; pair = None }; store = start.store; names = start.names } in
      let is : p.next ≡ linked_up = world_by p.next start.client start.logs start.office (record { dialer = connects.dialer; link = Some link; door = false; pair = None }) start.store start.names p.met.client p.met.logs p.met.office connects.is p.met.store p.met.names in
      let relay : Relayed held.dialogue linked_up mid = subst (λ (w : World Origin). Relayed held.dialogue w mid) is (relayed_from p.next mid held.dialogue p.rest) in
      let over : Linked relay.outcome link start.client mid.client linked_up.server mid.server = linked relay.outcome (flow_of relay.outcome) link start.client mid.client linked_up.server mid.server refl relay.met.client relay.met.server in
      let here = over.here in
      let there = over.carries.carries in
      let after : Speaker = record { inlet = there.inlet; reader = record { pending = []; room = there.room }; outlet = there.outlet } in
      let up : mid.server ≡ record { dialer = connects.dialer; link = Some after; door = false; pair = None } = over.carries.is ∙ ap (λ (s : Speaker). record { dialer = connects.dialer; link = Some s; door = false; pair = None }) there.is in
      let closed : mid.office.opened ≡ None = ap (λ (o : Office Origin). o.opened) relay.met.office in
      let hung = hangs_up mid session.last after held.answer (ap (λ (s : Server). s.link) up) closed held.after in
      let dialer = hung.server.dialer in
      let apart : hung.server.apart ≡ connects.dialer = subst (λ (s : Server). LetsPairGo s.pair s.dialer hung.server.apart) up hung.server.lets in
      let clears : HangsUp there.inlet there.outlet connects.dialer dialer = subst (λ (d : DialerView). Clears (Some after) d dialer) apart (subst (λ (s : Server). Clears s.link hung.server.apart dialer) up hung.server.clears) in
      let client : Speaker = record { inlet = here.inlet; reader = record { pending = []; room = here.room }; outlet = here.outlet } in
      let last = world_by session.last client start.logs start.office (record { dialer = dialer; link = None; door = false; pair = None }) start.store start.names (hung.client ∙ here.is) (hung.logs ∙ relay.met.logs) (hung.office ∙ relay.met.office) hung.server.is (hung.store ∙ relay.met.store) (hung.names ∙ relay.met.names) in
      let leaves : new ≡ record old { inlet = here.inlet; outlet = here.outlet; dialer = dialer } = sym session.leaves ∙ ap devices_of last in
      subst (λ (d : Devices Origin). IsPlugged dest old d ending) (sym leaves) (record {
        came = record { from = connects.inlet; to = connects.outlet };
        went = record { from = there.inlet; to = there.outlet };
        asked = connects.dialer;
        comes = subst (λ (d : DialerView). ComesUp (Main dest) connects.inlet connects.outlet d connects.dialer) (p.met.server.clears ∙ p.met.server.lets) connects.up;
        up = over.flow.up.end;
        down = over.flow.down.end;
        up_left = here.room;
        down_left = there.room;
        of_client = record { way = over.flow.up; is = refl; drains = here.drains; supplies = there.supplies };
        of_server = record { way = over.flow.down; is = refl; drains = there.drains; supplies = here.supplies };
        hangs = clears;
        same = refl;
        ends = held.ends ∙ ap (λ (d : Result (Unit {0}) Cause). ending_of d mid.office.opened held.answer) relay.is ∙ ap (λ (o : Option ℕ). ending_of (told_by relay.outcome) o held.answer) closed ∙ relay_ends relay.outcome over.flow held.answer over.is;
      })

  reaches : (dest : Dest) (old new : Devices Origin) (ending : Ending) (session : RelaySession table (reach_row dest) old new ending)
      → HaltsHere (Reach dest) (at_first old session.names) session.held.mid session.held.dialogue ⊎ PassesOn table (Reach dest) (λ up. relay_row) (at_first old session.names) session.held.mid session.held.dialogue (deeds_ran session.held.ran)
      → IsTurnedDown dest old new ending ⊎ IsPlugged dest old new ending
  reaches dest old new ending session (inl h) = inl (turned_down dest old new ending session h)
  reaches dest old new ending session (inr p) = inr (plugged dest old new ending session p)

  ends_by : (line : List ℕ) (dest : Dest) (old new : Devices Origin) (ending : Ending) (session : RelaySession table (plug_row line dest) old new ending) → LogsFirst line table (reach_row dest) old new ending session → Ends line dest old new ending
  ends_by line dest old new ending session (inl fails) = inl fails
  ends_by line dest old new ending session (inr on) =
      let rest = on.rest in
      inr (reaches dest (with_line line old) new ending rest (ran_first table (Reach dest) (λ up. relay_row) (at_first (with_line line old) rest.names) rest.held.mid rest.held.dialogue rest.held.ran))

  pub plug_ends : (line : List ℕ) (dest : Dest) (old new : Devices Origin) (ending : Ending) → RelaySession table (plug_row line dest) old new ending → Ends line dest old new ending
  plug_ends line dest old new ending session = ends_by line dest old new ending session (logs_first line table (reach_row dest) old new ending session)

  -- a text that is the line
  pub plug_ends_as : (text line : List ℕ) → text ≡ line → (dest : Dest) (old new : Devices Origin) (ending : Ending) → RelaySession table (plug_row text dest) old new ending → Ends line dest old new ending
  plug_ends_as text line is dest old new ending session = subst (λ (t : List ℕ). Ends t dest old new ending) is (plug_ends text dest old new ending session)

-- ---- fronts

no_front : (may_lose : Bool) → IsFront may_lose [] []
no_front may_lose = record { lost = []; cut = refl; short = omega (arith); whole = λ none. refl }

-- a way that is done leaves nothing, and tells its sink the end
done_source : (way : Way) (left : ℕ) (middle after : SourceView) → way.end ≡ ways.Done → LeavesSource way.end way.lost left middle after → IsOver after.left
done_source way left middle after is leaves =
    let so : LeavesSource ways.Done way.lost left middle after = subst (λ (e : WayEnd). LeavesSource e way.lost left middle after) is leaves in
    subst (λ (s : SourceView). IsOver s.left) (sym so.1.is) so.1.over

done_sink : (way : Way) (before after : SinkView) → way.end ≡ ways.Done → LeavesSink way.end (holding way.given before) after → after.shut ≡ option_map (λ (shut : Bool). true) before.shut
done_sink way before after is leaves =
    let so : LeavesSink ways.Done (holding way.given before) after = subst (λ (e : WayEnd). LeavesSink e (holding way.given before) after) is leaves in
    ap (λ (s : SinkView). s.shut) so

module _ {Origin : Type 0} where
  -- where no link came up, nothing was taken or given
  none_linked : (old new : Devices Origin) (ending : Ending) → new.inlet ≡ old.inlet → new.outlet ≡ old.outlet → new.dialer.ended ≡ old.dialer.ended → (ending ≡ endings.Done → ⊥) → GivesFronts old new ending
  none_linked old new ending inlet outlet ended undone = record {
    of_client = [];
    to_server = [];
    of_server = [];
    to_client = [];
    took = ap (λ (s : SourceView). s.taken) inlet ∙ by_nothing old.inlet.taken;
    grew = subst (λ (s : SourceView). Grew 0 old.inlet.amount s.amount) (sym inlet) (grew_none old.inlet.amount);
    told = ap (λ (s : SinkView). s.given) outlet ∙ by_nothing old.outlet.given;
    links = [];
    ended = subst (λ (e : Option (List LinkView)). Adds [] old.dialer.ended e) (sym ended) (adds_none old.dialer.ended);
    over = (refl, refl);
    up = no_front (may_lose_up ending);
    down = no_front (may_lose_down ending);
    done = λ is. absurd (undone is);
  }

  all_said : (dest : Dest) (old new : Devices Origin) (ending : Ending) (h : IsPlugged dest old new ending) → ending ≡ endings.Done → AllIsSaid old new h.went
  all_said dest old new ending h is =
      let both = both_done h.up h.down (ap stops_by (sym h.ends ∙ is)) in
      let a = h.of_client in
      let b = h.of_server in
      record {
        client = done_source a.way h.up_left a.drains.middle new.inlet (a.is ∙ both.first) a.drains.leaves;
        server = done_source b.way h.down_left b.drains.middle h.went.from (b.is ∙ both.second) b.drains.leaves;
        client_told = done_sink b.way old.outlet new.outlet (b.is ∙ both.second) b.supplies;
        server_told = subst (λ (s : Option Bool). IfSome s (λ (shut : Bool). shut ≡ true)) (sym (done_sink a.way h.came.to h.went.to (a.is ∙ both.first) a.supplies)) (is_shut h.came.to.shut);
      }

  plugged_fronts : (dest : Dest) (old new : Devices Origin) (ending : Ending) (h : IsPlugged dest old new ending) → GivesFronts old new ending
  plugged_fronts dest old new ending h =
      let a = h.of_client in
      let b = h.of_server in
      let ended : Adds (h.went ∷ []) h.asked.ended new.dialer.ended = subst (λ (d : DialerView). Adds (h.went ∷ []) h.asked.ended d.ended) (sym h.hangs.is) (adds_one h.went h.asked.ended h.hangs.ended h.hangs.adds) in
      let new_taken : IsOver h.came.from.taken = subst (λ (s : SourceView). IsOver s.taken) (sym h.comes.new_source) (none_taken h.comes.left) in
      let took : h.went.from.taken ≡ grown h.came.from.taken b.way.taken = drains_took b.way [] most_taken h.down_left h.came.from h.went.from b.drains ∙ ap (λ (z : List ℕ). grown h.came.from.taken z) (sym b.drains.all) in
      record {
        of_client = a.way.taken;
        to_server = a.way.given;
        of_server = b.way.taken;
        to_client = b.way.given;
        took = drains_took a.way [] most_taken h.up_left old.inlet new.inlet a.drains ∙ ap (λ (z : List ℕ). grown old.inlet.taken z) (sym a.drains.all);
        grew = subst (λ (z : List ℕ). Grew (length z) old.inlet.amount new.inlet.amount) (sym a.drains.all) (drains_grew a.way [] most_taken h.up_left old.inlet new.inlet a.drains);
        told = supplies_given b.way old.outlet new.outlet b.supplies;
        links = h.went ∷ [];
        ended = subst (λ (e : Option (List LinkView)). Adds (h.went ∷ []) e new.dialer.ended) (ap (λ (d : DialerView). d.ended) h.comes.is) ended;
        over = (all_taken h.came.to.given h.went.to.given a.way.given h.comes.new_sink.given (supplies_given a.way h.came.to h.went.to a.supplies), all_taken h.came.from.taken h.went.from.taken b.way.taken new_taken took);
        up = front_by (may_lose_up ending) a.way (λ none. ap is_write_fault a.is ∙ up_lost h.up h.down (ap may_lose_up (sym h.ends) ∙ none));
        down = front_by (may_lose_down ending) b.way (λ none. ap is_write_fault b.is ∙ down_lost h.up h.down (ap may_lose_down (sym h.ends) ∙ none));
        done = λ is. all_said dest old new ending h is;
      }

  -- what the log was given changes nothing of that
  whole_over : (line : List ℕ) (old new : Devices Origin) (links : List LinkView) → IsWhole (with_line line old) new links → IsWhole old new links
  whole_over line old new [] whole = absurd whole
  whole_over line old new (link ∷ []) whole = record { client = whole.client; server = whole.server; client_told = whole.client_told; server_told = whole.server_told }
  whole_over line old new (link ∷ other ∷ links) whole = absurd whole

  fronts_over : (line : List ℕ) (old new : Devices Origin) (ending : Ending) → GivesFronts (with_line line old) new ending → GivesFronts old new ending
  fronts_over line old new ending g = record {
    of_client = g.of_client;
    to_server = g.to_server;
    of_server = g.of_server;
    to_client = g.to_client;
    took = g.took;
    grew = g.grew;
    told = g.told;
    links = g.links;
    ended = g.ended;
    over = g.over;
    up = g.up;
    down = g.down;
    done = λ is. whole_over line old new g.links (g.done is);
  }

  fronts_by : (line : List ℕ) (dest : Dest) (old new : Devices Origin) (ending : Ending) → Ends line dest old new ending → GivesFronts old new ending
  fronts_by line dest old new ending (inl fails) =
      none_linked old new ending (ap (λ (d : Devices Origin). d.inlet) fails.same) (ap (λ (d : Devices Origin). d.outlet) fails.same) (ap (λ (d : Devices Origin). d.dialer.ended) fails.same) (λ is. let clash : endings.Done ≡ endings.LogFault = sym is ∙ fails.ends in absurd (cc))
  fronts_by line dest old new ending (inr (inl down)) =
      none_linked old new ending (ap (λ (d : Devices Origin). d.inlet) down.same) (ap (λ (d : Devices Origin). d.outlet) down.same) (ap (λ (d : DialerView). d.ended) down.refused.is) (λ is. let clash : endings.Done ≡ endings.NoRoute = sym is ∙ down.ends in absurd (cc))
  fronts_by line dest old new ending (inr (inr on)) = fronts_over line old new ending (plugged_fronts dest (with_line line old) new ending on)

  pub plug_fronts : (line : List ℕ) (dest : Dest) (old new : Devices Origin) (ending : Ending) → RelaySession table (plug_row line dest) old new ending → GivesFronts old new ending
  plug_fronts line dest old new ending session = fronts_by line dest old new ending (plug_ends line dest old new ending session)
