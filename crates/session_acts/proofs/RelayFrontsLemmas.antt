-- What reached each side of a session with a relay whose rows keep quiet.
use Rattle.std.proofs.Common.{◌≡◌, refl, sym, ap, subst, ◌∙◌, ℕ, Bool, true, false, List, [], ◌∷◌, ◌++◌, length, ◌⊎◌, inl, inr, Option, Some, None, Result, Ok, Err, append_assoc, append-nil}
use Rattle.std.proofs.lemmas.List.{length-append}
use Rattle.std.specs.List.{concat}
use Rattle.std.specs.Option.{option_map}
use Rattle.std.specs.Prelude.{IfSome, is_none}
use Rattle.auth_events.specs.declared.port.PortFault.{PortFault}
use Rattle.auth_events.specs.declared.reply.Reply.{Reply}
use Rattle.fw_acts.specs.Acts.{Row, PlaceTable}
use Rattle.fw_outside.proofs.CountLemmas.{grew_by}
use Rattle.fw_outside.specs.Counts.{Grew}
use Rattle.fw_outside.specs.DialerView.{DialerView, HangsUp, LinkView}
use Rattle.fw_outside.specs.SinkView.{SinkView}
use Rattle.fw_outside.specs.ToldList.{grown}
use Rattle.fw_types.specs.declared.ending.Ending.{Ending}
use Rattle.fw_types.specs.declared.ending.Ending.TheVariants as endings
use Rattle.relay_ways.specs.Carried.{Way}
use Rattle.session_acts.specs.Acts.{Outcome}
use Rattle.session_acts.specs.Acts.Act.{Relay}
use Rattle.session_acts.specs.Causes.{StaysShut}
use Rattle.session_acts.specs.Deeds.{Deed, DeedsAll, deeds_ran, gives}
use Rattle.session_acts.specs.Hearing.{Fate, heard_in}
use Rattle.session_acts.specs.Laws.{Adds, TellsClient, told}
use Rattle.session_acts.specs.Met.{Clears, acts}
use Rattle.session_acts.specs.Passing.{IsGiven, over_last}
use Rattle.session_acts.specs.RelayFronts.{AllIsSaid, FrontsOf, KeepsQuiet, PutsThrough, RelaysFronts, StaysApart, TakesThen, before_relay, flow_in}
use Rattle.session_acts.specs.RelayLast.{Conveys, RelaysLast, StopsBefore}
use Rattle.session_acts.specs.Relayed.{relayed, then_relay}
use Rattle.session_acts.specs.Relaying.{Flow, flow_of}
use Rattle.session_acts.specs.Session.{Held, RelaySession, closing, deeds_of, ending_of, freeing, owed}
use Rattle.session_acts.specs.World.{Devices, IsUnlinked, Pair, Server, Speaker, World, at_first, devices_of}
use Rattle.session_acts.specs.declared.cause.Cause.{Cause}
use Rattle.session_acts.proofs.DeedLemmas.{all_gain, all_last, deeds_parted, held_deeds, ran_deeds}
use Rattle.session_acts.proofs.DeviceLemmas.{shut_twice}
use Rattle.session_acts.proofs.HearingLemmas.{HearsOn, heard_gains, held_heard}
use Rattle.session_acts.proofs.LinkedLemmas.{adds_both, adds_one}
use Rattle.session_acts.proofs.OverLinksLemmas.{Holds, PairHolds}
use Rattle.session_acts.proofs.OwedLemmas.{closing_server}
use Rattle.session_acts.proofs.QuietLemmas.{AllIdle, AllQuiet, IsUnused, all_unused, flow_behind, flow_none, idle_both, idle_steps, idle_unpaired, unpaired, quiet_both, quiet_idle, quiet_owed, ran_quiet, still_unused, talk_before, unused, up_then}
use Rattle.session_acts.proofs.RelayEndLemmas.{EndsSo, done_ways, front_down, front_up, is_shut, relay_ends_so}
use Rattle.session_acts.proofs.RelayGivesLemmas.{RelayOver, conveys_by, met_over}
use Rattle.session_acts.proofs.RelayLastLemmas.{done_through, held_relays}
use Rattle.session_acts.proofs.ServersHeardLemmas.{all_taken}
use Rattle.session_acts.proofs.StaysLemmas.{stays_last}
use Rattle.session_acts.proofs.ToldLemmas.{by_both, told_gains}
use Rattle.session_acts.specs.Joining.{LetsPairGo}

-- ---- what was taken of the client

-- what was heard, and then what was taken for a way
takes_then : (heards : List Fate) (way : Way) (old mid new link after : Speaker) → old.reader.pending ≡ [] → HearsOn heards old mid → Conveys way mid link new after → TakesThen heards way.taken old.inlet new.inlet
takes_then heards way old mid new link after none a b =
    let all : a.bytes ++ b.bytes ≡ concat a.pieces ++ way.taken =
    ap (λ (z : List ℕ). z ++ b.bytes) (ap (λ (z : List ℕ). z ++ a.bytes) (sym none) ∙ a.all) ∙ append_assoc (concat a.pieces) mid.reader.pending b.bytes ∙ ap (λ (z : List ℕ). concat a.pieces ++ z) (sym b.all) in
    let grew : Grew (length (a.bytes ++ b.bytes)) old.inlet.amount new.inlet.amount =
    grew_by (length a.bytes) (length b.bytes) (length (a.bytes ++ b.bytes)) old.inlet.amount mid.inlet.amount new.inlet.amount (length-append a.bytes b.bytes) a.grew b.grew in
    record {
      pieces = a.pieces;
      are_heard = a.are_heard;
      took = b.took ∙ ap (λ (t : Option (List ℕ)). grown t b.bytes) a.took ∙ by_both old.inlet.taken a.bytes b.bytes ∙ ap (λ (z : List ℕ). grown old.inlet.taken z) all;
      grew = subst (λ (z : List ℕ). Grew (length z) old.inlet.amount new.inlet.amount) all grew;
    }

-- a sink that was told the end behind what may have told it before
shut_then : (old mid new : Option Bool) → StaysShut true old mid → new ≡ option_map (λ (shut : Bool). true) mid → new ≡ option_map (λ (shut : Bool). true) old
shut_then old mid new (inl same) is = is ∙ ap (λ (s : Option Bool). option_map (λ (shut : Bool). true) s) same
shut_then old mid new (inr told) is = is ∙ ap (λ (s : Option Bool). option_map (λ (shut : Bool). true) s) told ∙ shut_twice old

abbrev view : Speaker → LinkView
view link = record { from = link.inlet; to = link.outlet }

module _ {Origin : Type 0} where
  -- ---- what is owed

  freeing_client : (link : Option Speaker) (old new : World Origin) → DeedsAll (freeing link) old new → new.client ≡ old.client
  freeing_client None old new all = ap (λ (w : World Origin). w.client) (sym all)
  freeing_client (Some link) old new all = ap (λ (w : World Origin). w.client) (sym all.2) ∙ all.1.client

  closing_client : (opened : Option ℕ) (answer : Result Reply PortFault) (old new : World Origin) → DeedsAll (closing opened answer) old new → new.client ≡ old.client
  closing_client None answer old new all = ap (λ (w : World Origin). w.client) (sym all)
  closing_client (Some sid) answer old new all = ap (λ (w : World Origin). w.client) (sym all.2) ∙ all.1.client

  -- a link that is up is hung up
  hung_up : (up : Option Speaker) (link : Speaker) (old new : World Origin) → old.server.pair ≡ None → old.server.link ≡ up → up ≡ Some link → DeedsAll (freeing up) old new → Adds (view link ∷ []) old.server.dialer.ended new.server.dialer.ended
  hung_up None link old new none was is all = absurd (cc)
  hung_up (Some other) link old new none was is all =
      let h = all.1.server in
      let apart : h.apart ≡ old.server.dialer = subst (λ (p : Option Pair). LetsPairGo p old.server.dialer h.apart) none h.lets in
      let hangs : HangsUp link.inlet link.outlet old.server.dialer h.dialer = subst (λ (l : Option Speaker). Clears l old.server.dialer h.dialer) (was ∙ is) (subst (λ (d : DialerView). Clears old.server.link d h.dialer) apart h.clears) in
      let ended : Adds (view link ∷ []) old.server.dialer.ended h.dialer.ended = subst (λ (d : DialerView). Adds (view link ∷ []) old.server.dialer.ended d.ended) (sym hangs.is) (adds_one (view link) old.server.dialer.ended hangs.ended hangs.adds) in
      subst (λ (w : World Origin). Adds (view link ∷ []) old.server.dialer.ended w.server.dialer.ended) all.2 (subst (λ (s : Server). Adds (view link ∷ []) old.server.dialer.ended s.dialer.ended) (sym h.is) ended)

  -- what is owed where a link is up
  record Frees (link : Speaker) (old new : World Origin) : Type 0 where
    client : new.client ≡ old.client
    ended : Adds (view link ∷ []) old.server.dialer.ended new.server.dialer.ended

  frees : (link : Speaker) (old new : World Origin) (answer : Result Reply PortFault) → old.server.pair ≡ None → old.server.link ≡ Some link → DeedsAll (owed old answer) old new → Frees link old new
  frees link old new answer none up all =
      let parted = deeds_parted (freeing old.server.link) (closing old.office.opened answer) old new all in
      record {
        client = closing_client old.office.opened answer parted.mid new parted.after ∙ freeing_client old.server.link old parted.mid parted.before;
        ended = subst (λ (s : Server). Adds (view link ∷ []) old.server.dialer.ended s.dialer.ended) (sym (closing_server old.office.opened answer parted.mid new parted.after)) (hung_up old.server.link link old parted.mid none refl up parted.before);
      }

  no_link : (world : World Origin) → IsUnlinked world.server → Holds unused None world.server.link
  no_link world none = subst (λ (l : Option Speaker). Holds unused None l) (sym none.main) tt

  no_pair : (world : World Origin) → IsUnlinked world.server → PairHolds false world.server.pair
  no_pair world none = subst (λ (p : Option Pair). PairHolds false p) (sym none.side) tt

  -- ---- no relay over a link

  apart : {P : Type 0} (rows : PlaceTable (acts Origin) P) (first : Row (acts Origin) P) (old new : World Origin) (ending : Ending) (held : Held rows first old new ending) → AllIdle (deeds_of held) → IsUnlinked old.server → old.client.reader.pending ≡ []
      → StaysApart (deeds_of held) (devices_of old) (devices_of new)
  apart rows first old new ending held idle unlinked none =
      let deeds = deeds_of held in
      let heard = held_heard rows first old new ending held none in
      let steps = idle_steps deeds None false old new idle (held_deeds held) (no_link old unlinked) (no_pair old unlinked) in
      record {
        behind = new.client.reader.pending;
        of_client = record {
          pieces = heard.pieces;
          are_heard = heard.are_heard;
          took = heard.took ∙ ap (λ (z : List ℕ). grown old.client.inlet.taken z) heard.all;
          grew = subst (λ (z : List ℕ). Grew (length z) old.client.inlet.amount new.client.inlet.amount) heard.all heard.grew;
        };
        near = heard.near;
        to_client = all_gain told_gains deeds old new (held_deeds held);
        links = steps.links;
        ended = steps.ended;
        unused = all_unused _ steps.links steps.each;
      }

-- ---- a relay over a link

module _ {Origin P : Type 0} (rows : PlaceTable (acts Origin) P) (first : Row (acts Origin) P) (old new : World Origin) (ending : Ending) (held : Held (relayed rows) (then_relay first) old new ending) where
  -- its ending is that of the ways, unless they are done
  last_ends : (last : RelaysLast rows first held) (flow : Flow) → flow_of last.outcome ≡ Some flow → EndsSo flow ending
  last_ends last flow is =
      relay_ends_so last.outcome flow held.mid.office.opened held.answer ending is (held.ends ∙ ap (λ (d : Result (Unit {0}) Cause). ending_of d held.mid.office.opened held.answer) last.is)

  -- where both ways are done all is said
  all_said : (last : RelaysLast rows first held) (flow : Flow) → EndsSo flow ending → new.client ≡ held.mid.client → (over : RelayOver flow last.before.client held.mid.client last.before.server held.mid.server)
      → ending ≡ endings.Done → AllIsSaid (devices_of old) (devices_of new) (record { from = over.after.inlet; to = over.after.outlet })
  all_said last flow ends same over is =
      let done = done_ways flow ending ends is in
      let here = done_through flow.up flow.down last.before.client held.mid.client done.up done.down over.here in
      let there = done_through flow.down flow.up over.link over.after done.down done.up over.there in
      let talked = all_last stays_last (deeds_ran last.talk) old last.before (ran_deeds last.talk) in
      let told_end = shut_then old.client.outlet.shut last.before.client.outlet.shut held.mid.client.outlet.shut talked.client.sink.shut here.shut in
      subst (λ (c : Speaker). AllIsSaid (devices_of old) (devices_of (record new { client = c })) (record { from = over.after.inlet; to = over.after.outlet })) (sym same) (record {
        client = here.over;
        server = there.over;
        client_told = told_end;
        server_told = subst (λ (s : Option Bool). IfSome s (λ (shut : Bool). shut ≡ true)) (sym there.shut) (is_shut over.link.outlet.shut);
      })

  puts_through : KeepsQuiet rows first → IsUnlinked old.server → old.client.reader.pending ≡ [] → (last : RelaysLast rows first held) (flow : Flow) → flow_of last.outcome ≡ Some flow
      → PutsThrough (deeds_ran last.talk) flow (devices_of old) (devices_of new) ending
  puts_through keeps unlinked none last flow is =
      let mid = held.mid in
      let before = last.before in
      let talk = deeds_ran last.talk in
      let talked = ran_deeds last.talk in
      let over = met_over last.outcome flow before mid last.met is in
      let up = conveys_by flow.up flow.down before.client over.link mid.client over.after over.here over.there in
      let down = conveys_by flow.down flow.up over.link before.client over.after mid.client over.there over.here in
      let idle = quiet_idle talk (ran_quiet rows first old before (Ok (tt {0})) keeps last.talk) in
      let heard : HearsOn (gives heard_in talk) old.client before.client = all_gain heard_gains talk old before talked in
      let said : TellsClient (gives told talk) old before = all_gain told_gains talk old before talked in
      let steps = idle_steps talk None false old before idle talked (no_link old unlinked) (no_pair old unlinked) in
      let none_paired : before.server.pair ≡ None = unpaired before.server.pair (subst (λ (b : Bool). PairHolds b before.server.pair) (idle_unpaired talk idle) steps.pairs) in
      let freed = frees over.after mid new held.answer (over.pair ∙ none_paired) over.is held.after in
      let new_link : IsUnused over.link = still_unused (over_last up_then None talk) over.link (subst (λ (l : Option Speaker). Holds unused (over_last up_then None talk) l) over.was steps.holds) in
      let of_server : flow.down.taken ≡ down.bytes = down.all ∙ ap (λ (z : List ℕ). z ++ down.bytes) new_link.pending in
      let ends = last_ends last flow is in
      record {
        of_client = subst (λ (c : Speaker). TakesThen (gives heard_in talk) flow.up.taken old.client.inlet c.inlet) (sym freed.client) (takes_then (gives heard_in talk) flow.up old.client before.client mid.client over.link over.after none heard up);
        to_client = ap (λ (c : Speaker). c.outlet.given) freed.client ∙ down.gave ∙ ap (λ (g : Option (List ℕ)). grown g flow.down.given) said ∙ by_both old.client.outlet.given (gives told talk) flow.down.given;
        earlier = steps.links;
        link = record { from = over.after.inlet; to = over.after.outlet };
        ended =
            adds_both steps.links (record { from = over.after.inlet; to = over.after.outlet } ∷ []) old.server.dialer.ended mid.server.dialer.ended new.server.dialer.ended (subst (λ (d : DialerView). Adds steps.links old.server.dialer.ended d.ended) (sym over.dialer) steps.ended) freed.ended;
        unused = all_unused _ steps.links steps.each;
        over = (all_taken over.link.outlet.given over.after.outlet.given flow.up.given new_link.given up.gave, subst (λ (z : List ℕ). IsGiven z over.after.inlet.taken) (sym of_server) (all_taken over.link.inlet.taken over.after.inlet.taken down.bytes new_link.taken down.took));
        up = front_up flow ending ends;
        down = front_down flow ending ends;
        done = all_said last flow ends freed.client over;
      }

  -- ---- all sessions

  stopped_fronts : KeepsQuiet rows first → IsUnlinked old.server → old.client.reader.pending ≡ [] → StopsBefore rows first held → RelaysFronts (deeds_of held) (devices_of old) (devices_of new) ending
  stopped_fronts keeps unlinked none s =
      let all = quiet_both (deeds_ran s.talk) (owed held.mid held.answer) (ran_quiet rows first old held.mid (Err s.cause) keeps s.talk) (quiet_owed held.mid held.answer) in
      let quiet : AllQuiet (deeds_of held) = subst (λ (d : List Deed). AllQuiet d) (sym s.deeds) all in
      subst (λ (f : Option Flow). FrontsOf f (deeds_of held) (devices_of old) (devices_of new) ending) (sym (flow_none (deeds_of held) quiet)) (apart (relayed rows) (then_relay first) old new ending held (quiet_idle (deeds_of held) quiet) unlinked none)

  last_fronts : KeepsQuiet rows first → IsUnlinked old.server → old.client.reader.pending ≡ [] → (last : RelaysLast rows first held) (flow : Option Flow) → flow_of last.outcome ≡ flow → RelaysFronts (deeds_of held) (devices_of old) (devices_of new) ending
  last_fronts keeps unlinked none last None is =
      let relay : Deed = record { act = Relay; outcome = last.outcome } in
      let talk = deeds_ran last.talk in
      let quiet = ran_quiet rows first old last.before (Ok (tt {0})) keeps last.talk in
      let rest : AllIdle (relay ∷ owed held.mid held.answer) = (ap (λ (f : Option Flow). is_none f) is, quiet_idle (owed held.mid held.answer) (quiet_owed held.mid held.answer)) in
      let idle : AllIdle (deeds_of held) = subst (λ (d : List Deed). AllIdle d) (sym last.deeds) (idle_both talk (relay ∷ owed held.mid held.answer) (quiet_idle talk quiet) rest) in
      let flow : flow_in (deeds_of held) ≡ None = ap flow_in last.deeds ∙ flow_behind talk (relay ∷ owed held.mid held.answer) quiet ∙ is in
      subst (λ (f : Option Flow). FrontsOf f (deeds_of held) (devices_of old) (devices_of new) ending) (sym flow) (apart (relayed rows) (then_relay first) old new ending held idle unlinked none)
  last_fronts keeps unlinked none last (Some flow) is =
      let relay : Deed = record { act = Relay; outcome = last.outcome } in
      let talk = deeds_ran last.talk in
      let quiet = ran_quiet rows first old last.before (Ok (tt {0})) keeps last.talk in
      let carried : flow_in (deeds_of held) ≡ Some flow = ap flow_in last.deeds ∙ flow_behind talk (relay ∷ owed held.mid held.answer) quiet ∙ is in
      let front : before_relay (deeds_of held) ≡ talk = ap before_relay last.deeds ∙ talk_before talk last.outcome (owed held.mid held.answer) quiet in
      subst (λ (f : Option Flow). FrontsOf f (deeds_of held) (devices_of old) (devices_of new) ending) (sym carried) (subst (λ (d : List Deed). PutsThrough d flow (devices_of old) (devices_of new) ending) (sym front) (puts_through keeps unlinked none last flow is))

  fronts_by : KeepsQuiet rows first → IsUnlinked old.server → old.client.reader.pending ≡ [] → StopsBefore rows first held ⊎ RelaysLast rows first held → RelaysFronts (deeds_of held) (devices_of old) (devices_of new) ending
  fronts_by keeps unlinked none (inl stops) = stopped_fronts keeps unlinked none stops
  fronts_by keeps unlinked none (inr last) = last_fronts keeps unlinked none last (flow_of last.outcome) refl

  pub held_fronts : KeepsQuiet rows first → IsUnlinked old.server → old.client.reader.pending ≡ [] → RelaysFronts (deeds_of held) (devices_of old) (devices_of new) ending
  held_fronts keeps unlinked none = fronts_by keeps unlinked none (held_relays rows first old new ending held)

-- and so it is of a session over its devices
pub session_fronts : {Origin P : Type 0} (rows : PlaceTable (acts Origin) P) (first : Row (acts Origin) P) (old new : Devices Origin) (ending : Ending) (session : RelaySession (relayed rows) (then_relay first) old new ending)
    → KeepsQuiet rows first → RelaysFronts (deeds_of session.held) old new ending
session_fronts {Origin} rows first old new ending session keeps =
    subst (λ (d : Devices Origin). RelaysFronts (deeds_of session.held) old d ending) session.leaves (held_fronts rows first (at_first old session.names) session.last ending session.held keeps (record { main = refl; side = refl }) refl)
