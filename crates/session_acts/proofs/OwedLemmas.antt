-- What is owed after a dialogue.
use Rattle.std.proofs.Common.{◌≡◌, Bool, true, false, is_some, refl, sym, ap, subst, ◌∙◌, ℕ, Option, Some, None, Result, Ok, Err}
use Rattle.auth_events.specs.declared.port.PortFault.{PortFault}
use Rattle.auth_events.specs.declared.port.PortFault.TheVariants as faults
use Rattle.auth_events.specs.declared.reply.Reply.{Reply}
use Rattle.auth_events.specs.declared.request.Request.TheVariants as requests
use Rattle.fw_acts.specs.Acts.{Row, PlaceTable}
use Rattle.fw_acts.specs.Acts.Row.{Over}
use Rattle.fw_acts.specs.Ran.{Ran}
use Rattle.fw_outside.specs.LineReaderView.{LineReaderView}
use Rattle.fw_types.specs.declared.ending.Ending.{Ending}
use Rattle.session_acts.specs.Acts.Act.{Ask, HangUp}
use Rattle.session_acts.specs.Closing.{Closing, ending_told}
use Rattle.session_acts.specs.Finishing.{Finishing}
use Rattle.session_acts.specs.Deeds.{DeedsAll}
use Rattle.session_acts.specs.Met.{Met, Stops, acts, opened_then, reply_of}
use Rattle.session_acts.specs.Session.{Held, SessionAs, closing, ending_by, ending_closed, ending_of, freeing}
use Rattle.session_acts.specs.World.{Office, Server, Speaker, World, at_first, devices_of, unheard}
use Rattle.session_acts.specs.declared.cause.Cause.{Cause}
use Rattle.session_acts.proofs.DeedLemmas.{deeds_both, deeds_parted}
use Rattle.fw_outside.specs.DialerView.{DialerView}

ends_told : (dialogue closed : Result (Unit {0}) Cause) (opened : Option ℕ) (answer : Result Reply PortFault) → ending_told (Ok tt) closed ≡ ending_closed opened answer → ending_told dialogue closed ≡ ending_of dialogue opened answer
ends_told (Ok done) (Ok closed) opened answer tells = tells
ends_told (Ok done) (Err cause) opened answer tells = tells
ends_told (Err cause) closed opened answer tells = refl

pub closed_then : (reply : Option Reply) (opened : Option ℕ) → opened_then requests.Close reply opened ≡ None
closed_then None opened = refl
closed_then (Some reply) opened = refl

-- no link is up, and no door stands
abbrev pub unlinked_server : DialerView → Server
unlinked_server dialer = record { dialer = dialer; link = None; door = false; pair = None }

module _ {Origin : Type 0} where
  -- a link was hung up
  pub freed : (link : Option Speaker) (old new : World Origin) → is_some link ≡ true → Met HangUp (Ok tt) old new → DeedsAll (freeing link) old new
  freed None old new up met = absurd (cc)
  freed (Some link) old new up met = (new, met, refl)

  -- hanging up leaves the session that is open
  free_opened : (link : Option Speaker) (old new : World Origin) → DeedsAll (freeing link) old new → new.office.opened ≡ old.office.opened
  free_opened None old new freed = ap (λ (w : World Origin). w.office.opened) (sym freed)
  free_opened (Some up) old new freed = ap (λ (w : World Origin). w.office.opened) (sym freed.2) ∙ ap (λ o. o.opened) freed.1.office

  -- no session is open
  pub closed_none : (opened : Option ℕ) (world : World Origin) → is_some opened ≡ false → Closing (Ok tt) opened world world
  closed_none None world none = record { answer = Err faults.NoMemory; after = refl; tells = refl }
  closed_none (Some sid) world none = absurd (cc)

  -- one is, which was closed, or wasn't for want of an answer
  pub closed_reply : (opened : Option ℕ) (reply : Reply) (old new : World Origin) → is_some opened ≡ true → Met (Ask requests.Close) (Ok reply) old new → Closing (Ok tt) opened old new
  closed_reply None reply old new some met = absurd (cc)
  closed_reply (Some sid) reply old new some met = record { answer = Ok reply; after = (new, met, refl); tells = refl }

  pub closed_fault : (opened : Option ℕ) (cause : Cause) (old new : World Origin) → is_some opened ≡ true → Stops (Ask requests.Close) cause old new → Closing (Err cause) opened old new
  closed_fault None cause old new some stops = absurd (cc)
  closed_fault (Some sid) cause old new some stops = record { answer = Err stops.halt; after = (new, stops.met, refl); tells = ap ending_by stops.is_cause }

  -- what was owed after a dialogue, done
  pub finishes : (dialogue closed : Result (Unit {0}) Cause) (mid between new : World Origin) (ending : Ending)
      → DeedsAll (freeing mid.server.link) mid between → Closing closed between.office.opened between new → ending ≡ ending_told dialogue closed → Finishing dialogue mid new ending
  finishes dialogue closed mid between new ending freed closes ends =
      let same : between.office.opened ≡ mid.office.opened = free_opened mid.server.link mid between freed in
      let after : DeedsAll (closing mid.office.opened closes.answer) between new = subst (λ (o : Option ℕ). DeedsAll (closing o closes.answer) between new) same closes.after in
      record {
        answer = closes.answer;
        after = deeds_both (freeing mid.server.link) (closing mid.office.opened closes.answer) mid between new freed after;
        ends = ends ∙ ends_told dialogue closed between.office.opened closes.answer closes.tells ∙ ap (λ (o : Option ℕ). ending_of dialogue o closes.answer) same;
      }

  -- a dialogue, and what was owed after it
  pub held_by : {P : Type 0} {rows : PlaceTable (acts Origin) P} {first : Row (acts Origin) P} {dialogue : Result (Unit {0}) Cause} {old mid new : World Origin} {ending : Ending}
      → Ran rows first (λ (done : Unit {0}). Over) old mid dialogue → Finishing dialogue mid new ending → Held rows first old new ending
  held_by {dialogue = dialogue} {mid = mid} ran finishing = record { dialogue = dialogue; mid = mid; ran = ran; answer = finishing.answer; after = finishing.after; ends = finishing.ends }

  -- a world in which nothing was heard, no session is open and no link is up
  at_start : (world : World Origin) → world.client.reader ≡ unheard → world.office.opened ≡ None → world.server ≡ unlinked_server world.server.dialer → world ≡ at_first (devices_of world) world.names
  at_start world reader opened server =
      ap (λ (r : LineReaderView). record world { client = record (world.client) { reader = r } }) reader
      ∙ ap (λ (o : Option ℕ). record world { client = record (world.client) { reader = unheard }; office = record (world.office) { opened = o } }) opened
      ∙ ap (λ (s : Server). record world { client = record (world.client) { reader = unheard }; office = record (world.office) { opened = None }; server = s }) server

  -- a session that was held from there on
  pub held_session : {P : Type 0} {rows : PlaceTable (acts Origin) P} {first : Row (acts Origin) P} {old last : World Origin} {ending : Ending} (relays : Bool) → Held rows first old last ending
      → old.client.reader ≡ unheard → old.office.opened ≡ None → old.server ≡ unlinked_server old.server.dialer → old.names.relays ≡ relays → SessionAs relays rows first (devices_of old) (devices_of last) ending
  held_session {P} {rows} {first} {old} {last} {ending} relays held reader opened server lent = record {
    names = old.names;
    lent = lent;
    last = last;
    held = subst (λ (w : World Origin). Held rows first w last ending) (at_start old reader opened server) held;
    leaves = refl;
  }

  -- closing leaves the server
  pub closing_server : (opened : Option ℕ) (answer : Result Reply PortFault) (old new : World Origin) → DeedsAll (closing opened answer) old new → new.server ≡ old.server
  closing_server None answer old new all = ap (λ (w : World Origin). w.server) (sym all)
  closing_server (Some sid) answer old new all = ap (λ (w : World Origin). w.server) (sym all.2) ∙ all.1.server

  freeing_link : (link : Option Speaker) (old new : World Origin) → old.server.link ≡ link → DeedsAll (freeing link) old new → new.server.link ≡ None
  freeing_link None old new is all = ap (λ (w : World Origin). w.server.link) (sym all) ∙ is
  freeing_link (Some link) old new is all = ap (λ (w : World Origin). w.server.link) (sym all.2) ∙ ap (λ (s : Server). s.link) all.1.server.is

  -- after a session no link is up
  pub held_unlinked : {P : Type 0} (rows : PlaceTable (acts Origin) P) (first : Row (acts Origin) P) (old new : World Origin) (ending : Ending) → Held rows first old new ending → new.server.link ≡ None
  held_unlinked rows first old new ending held =
      let parted = deeds_parted (freeing held.mid.server.link) (closing held.mid.office.opened held.answer) held.mid new held.after in
      ap (λ (s : Server). s.link) (closing_server held.mid.office.opened held.answer parted.mid new parted.after) ∙ freeing_link held.mid.server.link held.mid parted.mid refl parted.before

  closing_opened : (opened : Option ℕ) (answer : Result Reply PortFault) (old new : World Origin) → old.office.opened ≡ opened → DeedsAll (closing opened answer) old new → new.office.opened ≡ None
  closing_opened None answer old new is all = ap (λ (w : World Origin). w.office.opened) (sym all) ∙ is
  closing_opened (Some sid) answer old new is all =
      ap (λ (w : World Origin). w.office.opened) (sym all.2) ∙ ap (λ (o : Office Origin). o.opened) all.1.office.asking.is ∙ closed_then (reply_of answer) old.office.opened

  -- and no session is open
  pub held_closed : {P : Type 0} (rows : PlaceTable (acts Origin) P) (first : Row (acts Origin) P) (old new : World Origin) (ending : Ending) → Held rows first old new ending → new.office.opened ≡ None
  held_closed rows first old new ending held =
      let parted = deeds_parted (freeing held.mid.server.link) (closing held.mid.office.opened held.answer) held.mid new held.after in
      closing_opened held.mid.office.opened held.answer parted.mid new (free_opened held.mid.server.link held.mid parted.mid parted.before) parted.after
