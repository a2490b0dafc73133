-- The ending's line is given to the log alone: what holds of a client before it holds behind it.
use Rattle.std.proofs.Common.{arith, ◌≡◌, ◌≤◌, ◌∙◌, ap, ℕ, Bool, List, inl, inr}
use Rattle.std.specs.Prelude.{Option, Some, None}
use Rattle.fw_outside.specs.SinkView.{SinkView}
use Rattle.fw_types.specs.declared.ending.Ending.{Ending}
use Rattle.fw_types.specs.declared.ending.Ending.TheVariants.{Done, Denied, ClientFault, ServerFault, LogFault, AuthFault, Idle, NoRoute, Spent, NoMemory}
use Rattle.gate_rules.specs.Reading.{RuleBook}
use Rattle.gate_rules.specs.declared.verdict.Verdict.{Verdict}
use Rattle.gate_rules.specs.declared.verdict.Verdict.TheVariants.{Permit, Deny}
use Rattle.session_acts.specs.Causes.{KeepsAs, WaitsFor}
use Rattle.session_acts.specs.Serverless.{CausedAlone}
use Rattle.session_acts.specs.World.{Devices}
use Rattle.client_service.specs.Conn.{CausedBy, Causes, TakesBy, Unasked, WaitsAs}
use Rattle.client_service.specs.Endings.{NotedIf}
use Rattle.client_service.specs.Gateways.{CausedGated}
use Rattle.client_service.specs.Kind.{Kind}
use Rattle.client_service.specs.Kind.Kind.{Alone, Gated, Plugged, Replied}
use Rattle.client_service.specs.Meeting.{patient, timeout_of}
use Rattle.client_service.specs.PlugService.{CausedLinked}
use Rattle.client_service.proofs.SinkLemmas.{gives_most, gives_shut, rose_later, same_low}

pub noted_most : (line : Option (List ℕ)) (old new : SinkView) → NotedIf line old new → old.faults ≤ new.faults
noted_most None old new is = same_low old.faults new.faults (ap (λ (s : SinkView). s.faults) is)
noted_most (Some line) old new noted = gives_most noted.told line old new noted.gives

pub noted_shut : (line : Option (List ℕ)) (old new : SinkView) → NotedIf line old new → new.shut ≡ old.shut
noted_shut None old new is = ap (λ (s : SinkView). s.shut) is
noted_shut (Some line) old new noted = gives_shut noted.told line old new noted.gives

module _ {Origin : Type 0} where
  abbrev pub with_logs : Devices Origin → SinkView → Devices Origin
  with_logs devices logs = record devices { logs = logs }

  -- ---- causes

  pub caused_later : (ending : Ending) (old new : Devices Origin) (logs : SinkView) → logs.faults ≤ new.logs.faults → CausedAlone ending old (with_logs new logs) → CausedAlone ending old new
  caused_later Done old new logs later h = tt
  caused_later (Denied line) old new logs later h = h
  caused_later ClientFault old new logs later h = h
  caused_later ServerFault old new logs later h = h
  caused_later LogFault old new logs later h = rose_later old.logs.faults logs.faults new.logs.faults h later
  caused_later AuthFault old new logs later h = h
  caused_later Idle old new logs later h = h
  caused_later NoRoute old new logs later h = h
  caused_later Spent old new logs later h = h
  caused_later NoMemory old new logs later h = tt

  linked_later : (ending : Ending) (old new : Devices Origin) (logs : SinkView) → logs.faults ≤ new.logs.faults → CausedLinked ending old (with_logs new logs) → CausedLinked ending old new
  linked_later Done old new logs later h = tt
  linked_later (Denied line) old new logs later h = h
  linked_later ClientFault old new logs later h = h
  linked_later ServerFault old new logs later h = h
  linked_later LogFault old new logs later h = rose_later old.logs.faults logs.faults new.logs.faults h later
  linked_later AuthFault old new logs later h = h
  linked_later Idle old new logs later h = h
  linked_later NoRoute old new logs later h = h
  linked_later Spent old new logs later (inl h) = inl h
  linked_later Spent old new logs later (inr h) = inr (record { link = h.link; last = h.last; all = h.all })
  linked_later NoMemory old new logs later h = h

  gated_later : (ending : Ending) (old new : Devices Origin) (logs : SinkView) → logs.faults ≤ new.logs.faults → CausedGated ending old (with_logs new logs) → CausedGated ending old new
  gated_later Done old new logs later h = tt
  gated_later (Denied line) old new logs later h = h
  gated_later ClientFault old new logs later h = h
  gated_later ServerFault old new logs later h = h
  gated_later LogFault old new logs later h = rose_later old.logs.faults logs.faults new.logs.faults h later
  gated_later AuthFault old new logs later h = h
  gated_later Idle old new logs later h = h
  gated_later NoRoute old new logs later h = h
  gated_later Spent old new logs later (inl h) = inl h
  gated_later Spent old new logs later (inr h) = inr (record { link = h.link; last = h.last; all = h.all })
  gated_later NoMemory old new logs later h = tt

  caused_by_later : (kind : Kind) (ending : Ending) (old new : Devices Origin) (logs : SinkView) → logs.faults ≤ new.logs.faults → CausedBy kind ending old (with_logs new logs) → CausedBy kind ending old new
  caused_by_later Alone ending old new logs later h = caused_later ending old new logs later h
  caused_by_later Plugged ending old new logs later h = linked_later ending old new logs later h
  caused_by_later Gated ending old new logs later h = gated_later ending old new logs later h
  caused_by_later Replied ending old new logs later h = gated_later ending old new logs later h

  pub causes_later : (kind : Kind) (verdict : Verdict) (ending : Ending) (old new : Devices Origin) (logs : SinkView) → logs.faults ≤ new.logs.faults → Causes kind verdict ending old (with_logs new logs) → Causes kind verdict ending old new
  causes_later kind verdict (Denied line) old new logs later h = h
  causes_later kind verdict Done old new logs later h = caused_by_later kind Done old new logs later h
  causes_later kind verdict ClientFault old new logs later h = caused_by_later kind ClientFault old new logs later h
  causes_later kind verdict ServerFault old new logs later h = caused_by_later kind ServerFault old new logs later h
  causes_later kind verdict LogFault old new logs later h = caused_by_later kind LogFault old new logs later h
  causes_later kind verdict AuthFault old new logs later h = caused_by_later kind AuthFault old new logs later h
  causes_later kind verdict Idle old new logs later h = caused_by_later kind Idle old new logs later h
  causes_later kind verdict NoRoute old new logs later h = caused_by_later kind NoRoute old new logs later h
  causes_later kind verdict Spent old new logs later h = caused_by_later kind Spent old new logs later h
  causes_later kind verdict NoMemory old new logs later h = caused_by_later kind NoMemory old new logs later h

  -- ---- bytes

  pub takes_later : (kind : Kind) (ending : Ending) (old new : Devices Origin) (logs : SinkView) → TakesBy kind ending old (with_logs new logs) → TakesBy kind ending old new
  takes_later Alone ending old new logs h = record { took = h.took; all = h.all }
  takes_later Plugged ending old new logs h = record { took = h.took; all = h.all }
  takes_later Gated ending old new logs h = record { took = h.took; all = h.all }
  takes_later Replied ending old new logs h = record { took = h.took; all = h.all }

  -- ---- the wait

  waits_for_with : (ending : Ending) (old new : Devices Origin) (logs : SinkView) → WaitsFor ending old (with_logs new logs) → WaitsFor ending old new
  waits_for_with Idle old new logs (inl h) = inl h
  waits_for_with Idle old new logs (inr h) = inr (record { rose = h.rose; link = h.link; last = h.last; waited = h.waited })
  waits_for_with Done old new logs h = tt
  waits_for_with (Denied line) old new logs h = tt
  waits_for_with ClientFault old new logs h = tt
  waits_for_with ServerFault old new logs h = tt
  waits_for_with LogFault old new logs h = tt
  waits_for_with AuthFault old new logs h = tt
  waits_for_with NoRoute old new logs h = tt
  waits_for_with Spent old new logs h = tt
  waits_for_with NoMemory old new logs h = tt

  pub waits_with : (kind : Kind) (verdict : Verdict) (rules : RuleBook) (ending : Ending) (old new : Devices Origin) (logs : SinkView) → WaitsAs kind verdict rules ending old (with_logs new logs) → WaitsAs kind verdict rules ending old new
  waits_with kind (Deny line) rules ending old new logs h = tt
  waits_with Alone (Permit line) rules ending old new logs h = h
  waits_with Plugged (Permit line) rules ending old new logs h = waits_for_with ending (patient (timeout_of rules) old) new logs h
  waits_with Gated (Permit line) rules ending old new logs h = waits_for_with ending (patient (timeout_of rules) old) new logs h
  waits_with Replied (Permit line) rules ending old new logs h = waits_for_with ending (patient (timeout_of rules) old) new logs h

  -- ---- a line that asks for no login, or a client that names no user

  pub unasked_later : (kind : Kind) (verdict : Verdict) (rules : RuleBook) (ending : Ending) (old new : Devices Origin) (logs : SinkView) → Unasked kind verdict rules ending old (with_logs new logs) → Unasked kind verdict rules ending old new
  unasked_later Alone verdict rules ending old new logs h = tt
  unasked_later Plugged verdict rules ending old new logs h = tt
  unasked_later Replied (Deny line) rules ending old new logs h = tt
  unasked_later Replied (Permit line) rules ending old new logs h =
      record { lines = h.lines; takes = h.takes; unasked = λ none. record { port = (h.unasked none).port; clock = (h.unasked none).clock; unfailed = (h.unasked none).unfailed; ample = (h.unasked none).ample } }
  unasked_later Gated (Deny line) rules ending old new logs h = tt
  unasked_later Gated (Permit line) rules ending old new logs h = λ none. record { port = (h none).port; clock = (h none).clock; unfailed = (h none).unfailed; ample = (h none).ample }

  -- ---- no count falls

  pub keeps_later : (relays : Bool) (old new : Devices Origin) (logs : SinkView) → logs.faults ≤ new.logs.faults → new.logs.shut ≡ logs.shut → KeepsAs relays old (with_logs new logs) → KeepsAs relays old new
  keeps_later relays old new logs later shut h =
      let before : old.logs.faults ≤ logs.faults = h.log_drops in
      record {
        faults = h.faults;
        idles = h.idles;
        amount = h.amount;
        drops = h.drops;
        log_drops = omega (arith, before, later);
        breaks = h.breaks;
        strays = h.strays;
        asks = h.asks;
        came = h.came;
        refusals = h.refusals;
        link_faults = h.link_faults;
        link_idles = h.link_idles;
        data_faults = h.data_faults;
        data_idles = h.data_idles;
        waits = h.waits;
        link_waits = h.link_waits;
        shut = h.shut;
        log_shut = shut ∙ h.log_shut;
        origin = h.origin;
        home = h.home;
      }
