-- Turning a client away is the session of a denial: its log was given the line, and its sink the words.
use Rattle.std.proofs.Common.{◌≡◌, refl, sym, subst, ℕ, false, List, [], ◌∷◌, inl, inr}
use Rattle.std.specs.Prelude.{Option, Some, None, Ok, Err}
use Rattle.auth_events.specs.declared.port.PortFault.TheVariants as faults
use Rattle.fw_acts.specs.Acts.Row.{Over}
use Rattle.fw_outside.specs.SinkView.{Cut, SinkView}
use Rattle.fw_outside.specs.ToldList.{grown}
use Rattle.fw_types.specs.declared.ending.Ending.{Ending}
use Rattle.fw_types.specs.declared.ending.Ending.TheVariants as endings
use Rattle.fw_types.specs.declared.peer.Peer.{Peer}
use Rattle.gate_rules.specs.declared.service.Service.{Service}
use Rattle.gate_rules.specs.declared.verdict.Verdict.TheVariants.{Deny}
use Rattle.session_acts.specs.Acts.Act.{Log, Try}
use Rattle.session_acts.specs.Denying.{denying_row, no_rows}
use Rattle.session_acts.specs.Session.{Session}
use Rattle.session_acts.specs.World.{Devices, Names, World, at_first}
use Rattle.session_acts.specs.declared.cause.Cause.TheVariants as causes
use Rattle.session_acts.proofs.StageLemmas.{Gift, cut_at, front_of, gift}
use Rattle.client_service.specs.Conn.{TurnsAway}
use Rattle.client_service.specs.Decision.{decision_text}
use Rattle.client_service.specs.Endings.{denied_words}
use Rattle.client_service.specs.Meeting.{away_row, silent_row}
use Rattle.client_service.specs.TurningAway.{LogsAlone, TellsOff, TurnedAway, TurnedBy}

-- the client is lent no threads
abbrev nobody : Names
nobody = record { devices = []; relays = false }

module _ {Origin : Type 0} where
  -- the log failed within the line
  untold_session : (line words : List ℕ) (old : Devices Origin) (logs : SinkView) → Cut line old.logs logs → Session no_rows (denying_row line words) old (record old { logs = logs }) endings.LogFault
  untold_session line words old logs cut =
      let last : World Origin = record (at_first old nobody) { logs = logs } in
      record {
        names = nobody;
        lent = refl;
        last = last;
        held = record {
          dialogue = Err causes.LogFault;
          mid = last;
          ran = record {
            steps = [];
            left = denying_row line words;
            mid = at_first old nobody;
            run = refl;
            does = refl;
            comes = record {
              halt = front_of cut;
              is_cause = refl;
              met = record { client = refl; logs = cut_at cut; office = refl; server = refl; store = refl; names = refl; may = tt };
            };
          };
          answer = Err faults.Link;
          after = refl;
          ends = refl;
        };
        leaves = refl;
      }

  -- it has the line, and the client got the words, or a front of them
  told_session : (line words : List ℕ) (old : Devices Origin) (told logs : SinkView) → logs ≡ record (old.logs) { given = grown old.logs.given line } → Gift words old.outlet told
      → Session no_rows (denying_row line words) old (record old { outlet = told; logs = logs }) endings.Done
  told_session line words old told logs logged h =
      let start : World Origin = at_first old nobody in
      let noted : World Origin = record start { logs = logs } in
      let last : World Origin = record noted { client = record (start.client) { outlet = told } } in
      record {
        names = nobody;
        lent = refl;
        last = last;
        held = record {
          dialogue = Ok tt;
          mid = last;
          ran = record {
            steps = record { act = Log line; answer = tt } ∷ record { act = Try words; answer = h.tried } ∷ [];
            left = Over;
            mid = last;
            run = (tt, refl, (h.tried, refl, refl));
            does = (
              noted,
              record { client = refl; logs = logged; office = refl; server = refl; store = refl; names = refl; may = tt },
              (
                last,
                record { client = record { outlet = told; gets = h.gets; is = refl }; logs = refl; office = refl; server = refl; store = refl; names = refl; may = tt },
                refl,
              ),
            );
            comes = (refl, refl);
          };
          answer = Err faults.Link;
          after = refl;
          ends = refl;
        };
        leaves = refl;
      }

  away_session : (line words : List ℕ) (ending : Ending) (old : Devices Origin) (told logs : SinkView) → TurnedAway line words ending old.outlet told old.logs logs
      → Session no_rows (denying_row line words) old (record old { outlet = told; logs = logs }) ending
  away_session line words ending old told logs (inl h) =
      let Told : SinkView → Type 0 = λ s. Session no_rows (denying_row line words) old (record old { outlet = s; logs = logs }) endings.LogFault in
      let Ends : Ending → Type 0 = λ e. Session no_rows (denying_row line words) old (record old { outlet = told; logs = logs }) e in
      subst Ends (sym h.ends) (subst Told (sym h.same) (untold_session line words old logs h.cut))
  away_session line words ending old told logs (inr h) =
      let Ends : Ending → Type 0 = λ e. Session no_rows (denying_row line words) old (record old { outlet = told; logs = logs }) e in
      subst Ends (sym h.ends) (told_session line words old told logs h.logged (gift h.tried.told words old.outlet told h.tried.gives))

  -- ---- where nothing is told

  unlogged_session : (line : List ℕ) (old : Devices Origin) (logs : SinkView) → Cut line old.logs logs → Session no_rows (silent_row line) old (record old { logs = logs }) endings.LogFault
  unlogged_session line old logs cut =
      let last : World Origin = record (at_first old nobody) { logs = logs } in
      record {
        names = nobody;
        lent = refl;
        last = last;
        held = record {
          dialogue = Err causes.LogFault;
          mid = last;
          ran = record {
            steps = [];
            left = silent_row line;
            mid = at_first old nobody;
            run = refl;
            does = refl;
            comes = record {
              halt = front_of cut;
              is_cause = refl;
              met = record { client = refl; logs = cut_at cut; office = refl; server = refl; store = refl; names = refl; may = tt };
            };
          };
          answer = Err faults.Link;
          after = refl;
          ends = refl;
        };
        leaves = refl;
      }

  logged_session : (line : List ℕ) (old : Devices Origin) (logs : SinkView) → logs ≡ record (old.logs) { given = grown old.logs.given line } → Session no_rows (silent_row line) old (record old { logs = logs }) endings.Done
  logged_session line old logs logged =
      let start : World Origin = at_first old nobody in
      let last : World Origin = record start { logs = logs } in
      record {
        names = nobody;
        lent = refl;
        last = last;
        held = record {
          dialogue = Ok tt;
          mid = last;
          ran = record {
            steps = record { act = Log line; answer = tt } ∷ [];
            left = Over;
            mid = last;
            run = (tt, refl, refl);
            does = (last, record { client = refl; logs = logged; office = refl; server = refl; store = refl; names = refl; may = tt }, refl);
            comes = (refl, refl);
          };
          answer = Err faults.Link;
          after = refl;
          ends = refl;
        };
        leaves = refl;
      }

  silent_session : (line : List ℕ) (ending : Ending) (old : Devices Origin) (logs : SinkView) → LogsAlone line ending old.logs logs → Session no_rows (silent_row line) old (record old { logs = logs }) ending
  silent_session line ending old logs (inl h) = subst (λ (e : Ending). Session no_rows (silent_row line) old (record old { logs = logs }) e) (sym h.ends) (unlogged_session line old logs h.cut)
  silent_session line ending old logs (inr h) = subst (λ (e : Ending). Session no_rows (silent_row line) old (record old { logs = logs }) e) (sym h.ends) (logged_session line old logs h.logged)

  -- ---- with words, or without

  turned_session : (line : List ℕ) (words : Option (List ℕ)) (ending : Ending) (old : Devices Origin) (told logs : SinkView) → TurnedBy line words ending old.outlet told old.logs logs
      → Session no_rows (away_row line words) old (record old { outlet = told; logs = logs }) ending
  turned_session line None ending old told logs h =
      subst (λ (s : SinkView). Session no_rows (silent_row line) old (record old { outlet = s; logs = logs }) ending) (sym h.same) (silent_session line ending old logs h.so)
  turned_session line (Some words) ending old told logs h = away_session line words ending old told logs h

  pub denied_session : (service : Service) (line : ℕ) (peer : Peer) (ending : Ending) (old : Devices Origin) (told logs : SinkView) → TellsOff line service peer ending old.outlet told old.logs logs
      → TurnsAway line service peer ending old (record old { outlet = told; logs = logs })
  denied_session service line peer ending old told logs h =
      record { told = h.away; session = turned_session (decision_text (Deny line) service peer) (denied_words service line) h.away old told logs h.turns; ends = h.ends }
