-- What a relay gave to each side.
use Rattle.std.proofs.Common.{◌≡◌, refl, sym, ap, subst, ◌∙◌, ℕ, List, [], ◌∷◌, ◌++◌, length, Bool, false, Option, Some, None, Result, Ok, Err, append_assoc, append-nil}
use Rattle.auth_events.specs.declared.port.PortFault.{PortFault}
use Rattle.auth_events.specs.declared.reply.Reply.{Reply}
use Rattle.fw_acts.specs.Acts.{Row, PlaceTable}
use Rattle.fw_outside.specs.Counts.{Grew}
use Rattle.fw_outside.specs.DialerView.{LinkView}
use Rattle.fw_outside.specs.SinkView.{SinkView}
use Rattle.fw_outside.specs.SourceView.{SourceView}
use Rattle.fw_outside.specs.ToldList.{grown}
use Rattle.fw_types.specs.declared.ending.Ending.{Ending}
use Rattle.relay_ways.specs.Carried.{Way}
use Rattle.session_acts.specs.Acts.{Outcome}
use Rattle.session_acts.specs.Acts.Act.{Relay}
use Rattle.session_acts.specs.Deeds.{Deed, DeedsAll, deeds_ran}
use Rattle.session_acts.specs.Laws.{Adds}
use Rattle.session_acts.specs.Met.{Carrying, ClientRelays, Met, ServerRelays, acts}
use Rattle.session_acts.specs.Passing.{AreOver, WasGiven, over_each, over_last, pair_gone, paired_last, passed_over, passing_known, up_after, up_with}
use Rattle.session_acts.specs.RelayLast.{CarriesAll, Conveys, ConveysBoth, GivesLast, RelaysLast}
use Rattle.session_acts.specs.Relayed.{relayed, then_relay}
use Rattle.session_acts.specs.Relaying.{Flow, Through, flow_of, given_up}
use Rattle.session_acts.specs.Session.{Held, closing, deeds_of, freeing, owed}
use Rattle.session_acts.specs.World.{IsUnlinked, Pair, Server, Speaker, World}
use Rattle.session_acts.proofs.DeedLemmas.{ran_deeds}
use Rattle.session_acts.proofs.DeviceLemmas.{drains_grew, drains_took, supplies_given}
use Rattle.session_acts.proofs.OverLinksLemmas.{Holds, PairHolds, Step, all_steps, each_both, last_over}
use Rattle.session_acts.proofs.PassingLemmas.{passing, passing_step, servers_given}
use Rattle.session_acts.proofs.RelayLastLemmas.{done_through}

-- ---- both ways

pub conveys_by : (up down : Way) (one other one_after other_after : Speaker) → Carrying up down one one_after → Carrying down up other other_after → Conveys up one other one_after other_after
conveys_by up down one other one_after other_after here there = record {
  bytes = here.drains.bytes;
  took = ap (λ (s : Speaker). s.inlet.taken) here.is ∙ drains_took up one.reader.pending one.reader.room here.room one.inlet here.inlet here.drains;
  grew = subst (λ (s : Speaker). Grew (length here.drains.bytes) one.inlet.amount s.inlet.amount) (sym here.is) (drains_grew up one.reader.pending one.reader.room here.room one.inlet here.inlet here.drains);
  all = here.drains.all;
  none = ap (λ (s : Speaker). s.reader.pending) here.is;
  gave = ap (λ (s : Speaker). s.outlet.given) there.is ∙ supplies_given up other.outlet there.outlet there.supplies;
}

-- a relay with a flow has a link
pub record RelayOver (flow : Flow) (client client_after : Speaker) (old new : Server) : Type 0 where
  pub link : Speaker
  pub after : Speaker
  pub was : old.link ≡ Some link
  pub is : new.link ≡ Some after
  pub here : Carrying flow.up flow.down client client_after
  pub there : Carrying flow.down flow.up link after
  pub dialer : new.dialer ≡ old.dialer
  pub pair : new.pair ≡ old.pair

over_link : (flow : Flow) (link : Option Speaker) (client client_after : Speaker) (old new : Server) → old.link ≡ link → ClientRelays (Some flow) client client_after → ServerRelays (Some flow) link old new → RelayOver flow client client_after old new
over_link flow None client client_after old new is here there = absurd there
over_link flow (Some link) client client_after old new is here there = record { link = link; after = there.speaker; was = is; is = ap (λ (s : Server). s.link) there.is; here = here; there = there.carries; dialer = ap (λ (s : Server). s.dialer) there.is; pair = ap (λ (s : Server). s.pair) there.is }

module _ {Origin : Type 0} where
  pub met_over : (outcome : Outcome Relay) (flow : Flow) (old new : World Origin) → Met Relay outcome old new → flow_of outcome ≡ Some flow → RelayOver flow old.client new.client old.server new.server
  met_over outcome flow old new met is =
      over_link flow old.server.link old.client new.client old.server new.server refl (subst (λ (f : Option Flow). ClientRelays f old.client new.client) is met.client) (subst (λ (f : Option Flow). ServerRelays f old.server.link old.server new.server) is met.server)

  abbrev both_by : (flow : Flow) (old new : World Origin) → RelayOver flow old.client new.client old.server new.server → ConveysBoth flow old new
  both_by flow old new over = record {
    link = over.link;
    link_after = over.after;
    was = over.was;
    is = over.is;
    up = conveys_by flow.up flow.down old.client over.link new.client over.after over.here over.there;
    down = conveys_by flow.down flow.up over.link old.client over.after new.client over.there over.here;
  }

  pub relay_conveys : (outcome : Outcome Relay) (flow : Flow) (old new : World Origin) → Met Relay outcome old new → flow_of outcome ≡ Some flow → ConveysBoth flow old new
  relay_conveys outcome flow old new met is = both_by flow old new (met_over outcome flow old new met is)

  pub relay_carries : (through : Through) (old new : World Origin) → Met Relay (Ok (Some through)) old new → CarriesAll through.flow old new
  relay_carries through old new met =
      let over = met_over (Ok (Some through)) through.flow old new met refl in
      record {
        both = both_by through.flow old new over;
        client = done_through through.flow.up through.flow.down old.client new.client through.up through.down over.here;
        server = done_through through.flow.down through.flow.up over.link over.after through.down through.up over.there;
      }

-- ---- what the server of a relay was given

some_held : (up : Option (List ℕ)) (link : Speaker) → Holds passing up (Some link) → (passed : List ℕ) × (up ≡ Some passed)
some_held None link holds = absurd holds
some_held (Some passed) link holds = (passed, refl)

-- behind a relay over a link what is owed hangs that up as the last, behind the data links that are up
owed_over : (passed : List ℕ) (paired : Bool) (link : Option Speaker) (after : Speaker) (opened : Option ℕ) (answer : Result Reply PortFault) (outcome : Outcome Relay) → link ≡ Some after
    → over_each passing_known (Some passed) paired (record { act = Relay; outcome = outcome } ∷ (freeing link ++ closing opened answer)) ≡ pair_gone paired ++ ((passed ++ given_up (flow_of outcome)) ∷ [])
owed_over passed paired None after opened answer outcome is = absurd (cc)
owed_over passed paired (Some link) after None answer outcome is = append-nil (pair_gone paired ++ ((passed ++ given_up (flow_of outcome)) ∷ []))
owed_over passed paired (Some link) after (Some sid) answer outcome is = append-nil (pair_gone paired ++ ((passed ++ given_up (flow_of outcome)) ∷ []))

module _ {Origin P : Type 0} (rows : PlaceTable (acts Origin) P) (first : Row (acts Origin) P) (old new : World Origin) (ending : Ending) where
  pub gives_last : (held : Held (relayed rows) (then_relay first) old new ending) (last : RelaysLast rows first held) (flow : Flow) → IsUnlinked old.server → flow_of last.outcome ≡ Some flow → GivesLast (deeds_ran last.talk) flow.up old new
  gives_last held last flow none is =
      let talk = deeds_ran last.talk in
      let over = met_over last.outcome flow last.before held.mid last.met is in
      let start : Holds passing None old.server.link = subst (λ (l : Option Speaker). Holds passing None l) (sym none.main) tt in
      let unpaired : PairHolds false old.server.pair = subst (λ (p : Option Pair). PairHolds false p) (sym none.side) tt in
      let talked = all_steps passing up_after passing_step talk None false old last.before (ran_deeds last.talk) start unpaired in
      let paired = paired_last false talk in
      let earlier : List (List ℕ) = passed_over None talk ++ pair_gone paired in
      let up = some_held (over_last up_after None talk) over.link (subst (λ (l : Option Speaker). Holds passing (over_last up_after None talk) l) over.was talked.holds) in
      let rest : List Deed = record { act = Relay; outcome = last.outcome } ∷ owed held.mid held.answer in
      let all = servers_given (relayed rows) (then_relay first) old new ending held none in
      let ends : over_each passing_known (over_last up_after None talk) paired rest ≡ pair_gone paired ++ ((up.0 ++ flow.up.given) ∷ []) =
      ap (λ (u : Option (List ℕ)). over_each passing_known u paired rest) up.1 ∙ owed_over up.0 paired held.mid.server.link over.after held.mid.office.opened held.answer last.outcome over.is ∙ ap (λ (f : Option Flow). pair_gone paired ++ ((up.0 ++ given_up f) ∷ [])) is in
      let lists : passed_over None (deeds_of held) ≡ earlier ++ ((up.0 ++ flow.up.given) ∷ []) =
      ap (λ (d : List Deed). passed_over None d) last.deeds ∙ each_both passing_known None false talk rest ∙ ap (λ (z : List (List ℕ)). passed_over None talk ++ z) ends ∙ sym (append_assoc (passed_over None talk) (pair_gone paired) ((up.0 ++ flow.up.given) ∷ [])) in
      let given : AreOver WasGiven (earlier ++ ((up.0 ++ flow.up.given) ∷ [])) all.links = subst (λ (z : List (List ℕ)). AreOver WasGiven z all.links) lists all.given in
      let end = last_over passing earlier (up.0 ++ flow.up.given) all.links given in
      record {
        passed = up.0;
        is_passed = up.1;
        earlier = end.earlier;
        link = end.link;
        ended = subst (λ (z : List LinkView). Adds z old.server.dialer.ended new.server.dialer.ended) end.is all.ended;
        given = end.was_up;
      }
