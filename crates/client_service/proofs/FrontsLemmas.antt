-- What a client of the plug that was linked was given, and its server, is a front of what was taken of the other.
use Rattle.std.proofs.Common.{arith, ◌≡◌, ◌∙◌, refl, sym, ap, subst, ℕ, Bool, List, [], ◌∷◌, inl, inr}
use Rattle.fw_acts.specs.Acts.Row.{Do}
use Rattle.fw_outside.proofs.CountLemmas.{grew_none}
use Rattle.fw_outside.specs.Counts.{Grew}
use Rattle.fw_outside.specs.DialerView.{LinkView}
use Rattle.fw_outside.specs.SinkView.{SinkView}
use Rattle.fw_types.specs.declared.dest.Dest.{Dest}
use Rattle.fw_types.specs.declared.ending.Ending.{Ending}
use Rattle.fw_types.specs.declared.ending.Ending.TheVariants.{Done, LogFault}
use Rattle.fw_types.specs.declared.peer.Peer.{Peer}
use Rattle.gate_rules.specs.Reading.{RuleBook}
use Rattle.gate_rules.specs.declared.service.Service.TheVariants.{PlugGw}
use Rattle.gate_rules.specs.declared.verdict.Verdict.TheVariants.{Permit}
use Rattle.plug_gate.specs.Dialogue.{connect_text, plug_row}
use Rattle.plug_gate.specs.Laws.{GivesFronts, IsWhole}
use Rattle.plug_gate.proofs.EndLemmas.{plug_fronts}
use Rattle.session_acts.specs.Acts.Act.{Log}
use Rattle.session_acts.specs.Client.{LogFails, LogsFirst, with_line}
use Rattle.session_acts.specs.Denying.{no_rows}
use Rattle.session_acts.specs.Laws.{Adds}
use Rattle.session_acts.specs.RelayFronts.{IsFront}
use Rattle.session_acts.specs.Relayed.{relayed}
use Rattle.session_acts.specs.Session.{RelaySession}
use Rattle.session_acts.specs.World.{Devices}
use Rattle.session_acts.proofs.ClientLemmas.{logs_first}
use Rattle.session_acts.proofs.DeviceLemmas.{by_nothing}
use Rattle.client_service.specs.Decision.{decision_text}
use Rattle.client_service.specs.Meeting.{patient, timeout_of}
use Rattle.client_service.specs.PlugService.{LinksTo, plug_devices}
use Rattle.client_service.proofs.PlugLemmas.{adds_none}

-- the same, over devices of which these are the ones that a client of the plug meets
whole_with : {Origin : Type 0} (line : List ℕ) (seconds : ℕ) (old new : Devices Origin) (links : List LinkView) → IsWhole (with_line line (patient seconds (plug_devices old))) (plug_devices new) links → IsWhole old new links
whole_with line seconds old new [] h = h
whole_with line seconds old new (link ∷ []) h = record { client = h.client; server = h.server; client_told = h.client_told; server_told = h.server_told }
whole_with line seconds old new (link ∷ other ∷ links) h = h

fronts_with : {Origin : Type 0} (line : List ℕ) (seconds : ℕ) (old new : Devices Origin) (ending : Ending) → GivesFronts (with_line line (patient seconds (plug_devices old))) (plug_devices new) ending → GivesFronts old new ending
fronts_with line seconds old new ending h = record {
  of_client = h.of_client;
  to_server = h.to_server;
  of_server = h.of_server;
  to_client = h.to_client;
  took = h.took;
  grew = h.grew;
  told = h.told;
  links = h.links;
  ended = h.ended;
  over = h.over;
  up = h.up;
  down = h.down;
  done = λ is. whole_with line seconds old new h.links (h.done is);
}

-- nothing was given or taken
none_front : (may_lose : Bool) → IsFront may_lose [] []
none_front may_lose = record { lost = []; cut = refl; short = omega (arith); whole = λ never. refl }

fronts_none : {Origin : Type 0} (line : List ℕ) (seconds : ℕ) (old new : Devices Origin) (ending : Ending) → LogFails line (patient seconds (plug_devices old)) (plug_devices new) ending → GivesFronts old new ending
fronts_none line seconds old new ending fails =
    let inlet : new.inlet.taken ≡ old.inlet.taken = ap (λ (d : Devices (Unit {0})). d.inlet.taken) fails.same in
    let amount : new.inlet.amount ≡ old.inlet.amount = ap (λ (d : Devices (Unit {0})). d.inlet.amount) fails.same in
    let outlet : new.outlet.given ≡ old.outlet.given = ap (λ (d : Devices (Unit {0})). d.outlet.given) fails.same in
    let ended : new.dialer.ended ≡ old.dialer.ended = ap (λ (d : Devices (Unit {0})). d.dialer.ended) fails.same in
    record {
      of_client = [];
      to_server = [];
      of_server = [];
      to_client = [];
      took = inlet ∙ by_nothing old.inlet.taken;
      grew = subst (λ (n : ℕ). Grew 0 old.inlet.amount n) (sym amount) (grew_none old.inlet.amount);
      told = outlet ∙ by_nothing old.outlet.given;
      links = [];
      ended = subst (λ links. Adds [] old.dialer.ended links) (sym ended) (adds_none old.dialer.ended);
      over = (refl, refl);
      up = none_front _;
      down = none_front _;
      done = λ is. let clash : LogFault ≡ Done = sym fails.ends ∙ is in absurd (cc);
    }

fronts_by : {Origin : Type 0} (first second : List ℕ) (dest : Dest) (seconds : ℕ) (old new : Devices Origin) (ending : Ending)
    (session : RelaySession (relayed no_rows) (Do (Log first) (λ done. plug_row second dest)) (patient seconds (plug_devices old)) (plug_devices new) ending)
    → LogsFirst first (relayed no_rows) (plug_row second dest) (patient seconds (plug_devices old)) (plug_devices new) ending session → GivesFronts old new ending
fronts_by first second dest seconds old new ending session (inl fails) = fronts_none first seconds old new ending fails
fronts_by first second dest seconds old new ending session (inr on) =
    fronts_with first seconds old new ending (plug_fronts second dest (with_line first (patient seconds (plug_devices old))) (plug_devices new) ending on.rest)

-- a client that is linked
pub plug_gives : {Origin : Type 0} (at line : ℕ) (rules : RuleBook) (peer : Peer) (ending : Ending) (old new : Devices Origin) → LinksTo at line rules peer ending old new → GivesFronts old new ending
plug_gives at line rules peer ending old new h =
    let first : List ℕ = decision_text (Permit line) (PlugGw at) peer in
    let second : List ℕ = connect_text at peer h.over.dest line in
    let session = h.over.session in
    fronts_by first second h.over.dest (timeout_of rules) old new ending session (logs_first first (relayed no_rows) (plug_row second h.over.dest) (patient (timeout_of rules) (plug_devices old)) (plug_devices new) ending session)

-- the log has no part in what was given
whole_later : {Origin : Type 0} (old new : Devices Origin) (logs : SinkView) (links : List LinkView) → IsWhole old (record new { logs = logs }) links → IsWhole old new links
whole_later old new logs [] h = h
whole_later old new logs (link ∷ []) h = record { client = h.client; server = h.server; client_told = h.client_told; server_told = h.server_told }
whole_later old new logs (link ∷ other ∷ links) h = h

pub fronts_later : {Origin : Type 0} (ending : Ending) (old new : Devices Origin) (logs : SinkView) → GivesFronts old (record new { logs = logs }) ending → GivesFronts old new ending
fronts_later ending old new logs h = record {
  of_client = h.of_client;
  to_server = h.to_server;
  of_server = h.of_server;
  to_client = h.to_client;
  took = h.took;
  grew = h.grew;
  told = h.told;
  links = h.links;
  ended = h.ended;
  over = h.over;
  up = h.up;
  down = h.down;
  done = λ is. whole_later old new logs h.links (h.done is);
}
