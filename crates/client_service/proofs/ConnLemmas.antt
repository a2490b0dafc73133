-- What a client's ending says.
use Rattle.std.proofs.Common.{arith, ◌≡◌, ◌∙◌, refl, sym, subst, ap, ℕ, List, [], inl, inr, true, false}
use Rattle.std.specs.Prelude.{Option, Some, None}
use Rattle.auth_events.specs.Port.{Port}
use Rattle.authsrv_gate.specs.Dialogue.{rows, session_row}
use Rattle.authsrv_gate.proofs.ServerlessLemmas.{keeps_serverless}
use Rattle.fw_outside.proofs.CountLemmas.{grew_none}
use Rattle.fw_outside.specs.Counts.{Grew, Rose}
use Rattle.fw_outside.specs.SinkView.{SinkView}
use Rattle.fw_outside.specs.SourceView.{SourceView}
use Rattle.fw_types.specs.declared.ending.Ending.{Ending}
use Rattle.fw_types.specs.declared.ending.Ending.TheVariants.{Done, Denied, ClientFault, ServerFault, LogFault, AuthFault, Idle, NoRoute, Spent, NoMemory}
use Rattle.fw_types.specs.declared.peer.Peer.{Peer}
use Rattle.gate_rules.specs.Reading.{RuleBook}
use Rattle.gate_rules.specs.Verdict.{verdict_of}
use Rattle.gate_rules.specs.declared.service.Service.{Service}
use Rattle.gate_rules.specs.declared.service.Service.TheVariants.{Authsrv, FtpGw, Netacl, PlugGw, Smap, TnGw}
use Rattle.gate_rules.specs.declared.verdict.Verdict.{Verdict}
use Rattle.gate_rules.specs.declared.verdict.Verdict.TheVariants.{Permit, Deny}
use Rattle.session_acts.specs.Causes.{KeepsAs, RelayKeeps, RelayTakesFor, SessionKeeps, WaitsFor, is_spent_ending}
use Rattle.session_acts.specs.Client.{Denies, LogFails}
use Rattle.session_acts.specs.Denying.{no_rows}
use Rattle.session_acts.specs.Serverless.{CausedAlone, TakesExactly}
use Rattle.session_acts.specs.Session.{Session}
use Rattle.session_acts.specs.World.{Devices}
use Rattle.smap_gate.specs.Dialogue.{smap_row, smap_rows}
use Rattle.smap_gate.proofs.ServerlessLemmas as mail
use Rattle.tn_gate.specs.Gate.{gate_at}
use Rattle.ftp_gate.specs.Gate as ftp
use Rattle.session_acts.proofs.AloneLemmas.{session_alone, session_exact}
use Rattle.session_acts.proofs.CauseLemmas.{relay_keeps, session_keeps}
use Rattle.session_acts.proofs.ClientLemmas.{denies}
use Rattle.session_acts.proofs.DeviceLemmas.{by_nothing}
use Rattle.session_acts.proofs.ServerlessLemmas.{logged_serverless, session_serverless}
use Rattle.session_acts.proofs.SpentLemmas.{session_spent}
use Rattle.session_acts.proofs.WaitedLemmas.{session_waited}
use Rattle.client_service.specs.Conn.{AtConsole, CausedBy, Causes, Conn, Dials, FrontsBy, IsRefused, Permits, TakesBy, Treats, TurnsAway, Unasked, WaitsAs}
use Rattle.client_service.specs.Decision.{decision_text}
use Rattle.client_service.specs.Endings.{NotedIf, denied_words, ending_line}
use Rattle.client_service.specs.FtpService.{Serves}
use Rattle.client_service.specs.GateService.{LetsIn}
use Rattle.client_service.specs.Gateways.{gate_devices}
use Rattle.client_service.specs.Kind.{Kind, kind_of, may_relay}
use Rattle.client_service.specs.Kind.Kind.{Alone, Gated, Plugged, Replied}
use Rattle.client_service.specs.MailService.{MailsTo, mail_devices, mail_gate_of}
use Rattle.client_service.specs.Meeting.{away_row, denied_by, dialer_then, lent_by, logged_row, mailless, patient, timeout_of}
use Rattle.client_service.specs.PlugService.{LinksTo, plug_devices}
use Rattle.client_service.proofs.FrontsLemmas.{fronts_later, plug_gives}
use Rattle.client_service.proofs.FtpLemmas.{ftp_caused, ftp_keeps, ftp_takes, ftp_waits, serving_behind}
use Rattle.client_service.proofs.GateLemmas.{fronts_behind, gate_caused, gate_keeps, gate_takes, gate_unasked, gate_waits}
use Rattle.client_service.proofs.LaterLemmas.{caused_later, causes_later, keeps_later, noted_most, noted_shut, takes_later, unasked_later, waits_with, with_logs}
use Rattle.client_service.proofs.MailLemmas.{mail_caused, mail_keeps, mail_takes}
use Rattle.client_service.proofs.MaillessLemmas.{caused_mailless, caused_patient, mailless_keeps, takes_mailless, takes_patient}
use Rattle.client_service.proofs.NamesLemmas.{ftp_unasked}
use Rattle.client_service.proofs.PlugLemmas.{LogsOnly, plug_caused, plug_dials, silent_denial}
use Rattle.client_service.proofs.SinkLemmas.{same_low}
use Rattle.client_service.proofs.WaitLemmas.{session_waits}

-- a log that failed is told no ending
unended : (service : Service) (peer : Peer) (ending : Ending) → ending ≡ LogFault → ending_line service peer ending ≡ None
unended service peer ending is = ap (ending_line service peer) is

-- whom the rules deny reaches nobody
pub denied_alone : (service : Service) (line : ℕ) → kind_of service (Deny line) ≡ Alone
denied_alone (PlugGw at) line = refl
denied_alone TnGw line = refl
denied_alone Authsrv line = refl
denied_alone (Netacl label) line = refl
denied_alone FtpGw line = refl
denied_alone Smap line = refl

module _ {Origin : Type 0} where
  -- ---- causes

  none_denies : (kind : Kind) (line : ℕ) (verdict : Verdict) (old new : Devices Origin) → CausedBy kind (Denied line) old new → Causes kind verdict (Denied line) old new
  none_denies Alone line verdict old new h = absurd h
  none_denies Plugged line verdict old new h = absurd h
  none_denies Gated line verdict old new h = absurd h
  none_denies Replied line verdict old new h = absurd h

  causes_of : (kind : Kind) (verdict : Verdict) (ending : Ending) (old new : Devices Origin) → CausedBy kind ending old new → Causes kind verdict ending old new
  causes_of kind verdict Done old new h = h
  causes_of kind verdict (Denied line) old new h = none_denies kind line verdict old new h
  causes_of kind verdict ClientFault old new h = h
  causes_of kind verdict ServerFault old new h = h
  causes_of kind verdict LogFault old new h = h
  causes_of kind verdict AuthFault old new h = h
  causes_of kind verdict Idle old new h = h
  causes_of kind verdict NoRoute old new h = h
  causes_of kind verdict Spent old new h = h
  causes_of kind verdict NoMemory old new h = h

  -- ---- bytes

  -- who is turned away is asked for none
  takes_none : (ending : Ending) (old new : Devices Origin) → is_spent_ending ending ≡ false → new.inlet ≡ old.inlet → TakesExactly ending old new
  takes_none ending old new never is = record { took = record { bytes = []; most = omega (arith); grew = subst (λ (s : SourceView). Grew 0 old.inlet.amount s.amount) (sym is) (grew_none old.inlet.amount); is = ap (λ (s : SourceView). s.taken) is ∙ by_nothing old.inlet.taken }; all = never }

  relay_takes : (seconds : ℕ) (ending : Ending) (old new : Devices Origin) → RelayTakesFor ending (patient seconds (plug_devices old)) (plug_devices new) → RelayTakesFor ending old new
  relay_takes seconds ending old new h = record { took = record { bytes = h.took.bytes; most = h.took.most; grew = h.took.grew; is = h.took.is }; all = h.all }

  -- ---- the wait

  relay_waits : (seconds : ℕ) (ending : Ending) (old new : Devices Origin) → WaitsFor ending (patient seconds (plug_devices old)) (plug_devices new) → WaitsFor ending (patient seconds old) new
  relay_waits seconds Idle old new (inl h) = inl h
  relay_waits seconds Idle old new (inr h) = inr (record { rose = h.rose; link = h.link; last = h.last; waited = h.waited })
  relay_waits seconds Done old new h = tt
  relay_waits seconds (Denied line) old new h = tt
  relay_waits seconds ClientFault old new h = tt
  relay_waits seconds ServerFault old new h = tt
  relay_waits seconds LogFault old new h = tt
  relay_waits seconds AuthFault old new h = tt
  relay_waits seconds NoRoute old new h = tt
  relay_waits seconds Spent old new h = tt
  relay_waits seconds NoMemory old new h = tt

  -- ---- no count falls

  -- a session over the devices that a client of the plug meets keeps them, and the port stays
  relay_keeps_all : (seconds : ℕ) (old new : Devices Origin) → new.port ≡ old.port → RelayKeeps (patient seconds (plug_devices old)) (plug_devices new) → RelayKeeps (patient seconds old) new
  relay_keeps_all seconds old new port h = record {
    faults = h.faults;
    idles = h.idles;
    amount = h.amount;
    drops = h.drops;
    log_drops = h.log_drops;
    breaks = same_low old.port.faults new.port.faults (ap (λ (p : Port Origin). p.faults) port);
    strays = same_low old.port.odd new.port.odd (ap (λ (p : Port Origin). p.odd) port);
    asks = same_low old.port.asks new.port.asks (ap (λ (p : Port Origin). p.asks) port);
    came = h.came;
    refusals = h.refusals;
    link_faults = h.link_faults;
    link_idles = h.link_idles;
    data_faults = h.data_faults;
    data_idles = h.data_idles;
    waits = h.waits;
    link_waits = h.link_waits;
    shut = h.shut;
    log_shut = h.log_shut;
    origin = ap (λ (p : Port Origin). p.origin) port;
    home = ap (λ (p : Port Origin). p.home) port;
  }

  -- ---- all that is said of a client, by whom it may reach

  record Facts (kind : Kind) (verdict : Verdict) (rules : RuleBook) (ending : Ending) (old new : Devices Origin) : Type 0 where
    caused : Causes kind verdict ending old new
    spent : TakesBy kind ending old new
    waited : WaitsAs kind verdict rules ending old new
    refused : IsRefused verdict ending
    unasked : Unasked kind verdict rules ending old new
    keeps : KeepsAs (may_relay kind) (lent_by verdict rules old) new
    origin : new.port.origin ≡ old.port.origin
    home : new.port.home ≡ old.port.home

  -- whom the rules deny, where the log failed and where it has the line
  denied_fails : (line : ℕ) (text : List ℕ) (rules : RuleBook) (told ending : Ending) (old new : Devices Origin) → ending ≡ denied_by line told → SessionKeeps old new → LogFails text old new told → Facts Alone (Deny line) rules ending old new
  denied_fails line text rules told ending old new ends keeps fails =
      let is : ending ≡ LogFault = ends ∙ ap (denied_by line) fails.ends in
      record {
        caused = subst (λ (e : Ending). Causes Alone (Deny line) e old new) (sym is) (subst (λ (s : SinkView). Rose old.logs.faults s.faults) (sym fails.cut.is) fails.cut.rose);
        spent = takes_none ending old new (ap is_spent_ending is) (ap (λ (d : Devices Origin). d.inlet) fails.same);
        waited = tt;
        refused = inr is;
        unasked = tt;
        keeps = keeps;
        origin = keeps.origin;
        home = keeps.home;
      }

  denied_done : (line : ℕ) (rules : RuleBook) (told ending : Ending) (old new : Devices Origin) → ending ≡ denied_by line told → SessionKeeps old new → told ≡ Done → new.inlet ≡ old.inlet → Facts Alone (Deny line) rules ending old new
  denied_done line rules told ending old new ends keeps done inlet =
      let is : ending ≡ Denied line = ends ∙ ap (denied_by line) done in
      record {
        caused = subst (λ (e : Ending). Causes Alone (Deny line) e old new) (sym is) refl;
        spent = takes_none ending old new (ap is_spent_ending is) inlet;
        waited = tt;
        refused = inl is;
        unasked = tt;
        keeps = keeps;
        origin = keeps.origin;
        home = keeps.home;
      }

  words_by : (line : ℕ) (text words : List ℕ) (rules : RuleBook) (told ending : Ending) (old new : Devices Origin) → ending ≡ denied_by line told → SessionKeeps old new → Denies text words old new told → Facts Alone (Deny line) rules ending old new
  words_by line text words rules told ending old new ends keeps (inl fails) = denied_fails line text rules told ending old new ends keeps fails
  words_by line text words rules told ending old new ends keeps (inr away) = denied_done line rules told ending old new ends keeps away.ends (ap (λ (d : Devices Origin). d.inlet) away.same)

  silent_by : (line : ℕ) (text : List ℕ) (rules : RuleBook) (told ending : Ending) (old new : Devices Origin) → ending ≡ denied_by line told → SessionKeeps old new → LogsOnly text old new told → Facts Alone (Deny line) rules ending old new
  silent_by line text rules told ending old new ends keeps (inl fails) = denied_fails line text rules told ending old new ends keeps fails
  silent_by line text rules told ending old new ends keeps (inr alone) = denied_done line rules told ending old new ends keeps alone.ends (ap (λ (d : Devices Origin). d.inlet) alone.same)

  away_facts : (line : ℕ) (text : List ℕ) (words : Option (List ℕ)) (rules : RuleBook) (told ending : Ending) (old new : Devices Origin) → ending ≡ denied_by line told → Session no_rows (away_row text words) old new told
      → Facts Alone (Deny line) rules ending old new
  away_facts line text None rules told ending old new ends session = silent_by line text rules told ending old new ends (session_keeps session) (silent_denial text old new told session)
  away_facts line text (Some words) rules told ending old new ends session = words_by line text words rules told ending old new ends (session_keeps session) (denies text words old new told session)

  denied_facts : (line : ℕ) (service : Service) (rules : RuleBook) (peer : Peer) (ending : Ending) (old new : Devices Origin) → TurnsAway line service peer ending old new → Facts (kind_of service (Deny line)) (Deny line) rules ending old new
  denied_facts line service rules peer ending old new h =
      subst (λ (k : Kind). Facts k (Deny line) rules ending old new) (sym (denied_alone service line))
      (away_facts line (decision_text (Deny line) service peer) (denied_words service line) rules h.told ending old new h.ends h.session)

  -- a session of `authsrv`
  held_facts : (line : ℕ) (rules : RuleBook) (peer : Peer) (ending : Ending) (old new : Devices Origin) → Permits line rules peer ending old new → Facts Alone (Permit line) rules ending old new
  held_facts line rules peer ending old new h =
      let first = logged_row (decision_text (Permit line) Authsrv peer) (session_row false) in
      let seconds = timeout_of rules in
      let lent = patient seconds (mailless old) in
      let alone = logged_serverless (decision_text (Permit line) Authsrv peer) (keeps_serverless Origin false) in
      let keeps = mailless_keeps seconds old new (session_keeps h.session) in
      record {
        caused = causes_of Alone (Permit line) ending old new (caused_patient seconds ending old new (session_alone rows first lent (mailless new) ending h.session alone));
        spent = takes_patient seconds ending old new (session_exact rows first lent (mailless new) ending h.session alone);
        waited = session_waits rows first lent (mailless new) ending h.session alone;
        refused = tt;
        unasked = tt;
        keeps = keeps;
        origin = keeps.origin;
        home = keeps.home;
      }

  -- one of `smap`
  mailed_facts : (line : ℕ) (rules : RuleBook) (peer : Peer) (ending : Ending) (old new : Devices Origin) → MailsTo line rules peer ending old new → Facts Alone (Permit line) rules ending old new
  mailed_facts line rules peer ending old new h =
      let seconds = timeout_of rules in
      let gate = mail_gate_of rules peer in
      let first = logged_row (decision_text (Permit line) Smap peer) smap_row in
      let lent = mail_devices (patient seconds old) in
      let left = mail_devices new in
      let alone = logged_serverless (decision_text (Permit line) Smap peer) (mail.keeps_serverless (Unit {0}) gate) in
      let keeps = mail_keeps seconds old new h.port h.dialer (session_keeps h.over) in
      record {
        caused = causes_of Alone (Permit line) ending old new (mail_caused seconds ending old new (session_alone (smap_rows gate) first lent left ending h.over alone));
        spent = mail_takes seconds ending old new (session_exact (smap_rows gate) first lent left ending h.over alone);
        waited = session_waits (smap_rows gate) first lent left ending h.over alone;
        refused = tt;
        unasked = tt;
        keeps = keeps;
        origin = keeps.origin;
        home = keeps.home;
      }

  -- one of the plug
  linked_facts : (at line : ℕ) (rules : RuleBook) (peer : Peer) (ending : Ending) (old new : Devices Origin) → LinksTo at line rules peer ending old new → Facts Plugged (Permit line) rules ending old new
  linked_facts at line rules peer ending old new h =
      let seconds = timeout_of rules in
      record {
        caused = causes_of Plugged (Permit line) ending old new (plug_caused at line rules peer ending old new h);
        spent = relay_takes seconds ending old new (session_spent h.over.session);
        waited = relay_waits seconds ending old new (session_waited h.over.session);
        refused = tt;
        unasked = tt;
        keeps = relay_keeps_all seconds old new h.port (relay_keeps h.over.session);
        origin = ap (λ (p : Port Origin). p.origin) h.port;
        home = ap (λ (p : Port Origin). p.home) h.port;
      }

  -- one of `tn-gw`
  gated_facts : (line : ℕ) (rules : RuleBook) (peer : Peer) (ending : Ending) (old new : Devices Origin) → LetsIn line rules peer ending old new → Facts Gated (Permit line) rules ending old new
  gated_facts line rules peer ending old new h =
      let text = decision_text (Permit line) TnGw peer in
      let gate = gate_at rules line peer in
      let seconds = timeout_of rules in
      let keeps = gate_keeps text gate seconds ending old new h.held in
      record {
        caused = causes_of Gated (Permit line) ending old new (gate_caused text gate seconds ending old new h.held);
        spent = gate_takes text gate seconds ending old new h.held;
        waited = gate_waits text gate seconds ending old new h.held;
        refused = tt;
        unasked = λ none. gate_unasked text gate seconds ending old new h.held none;
        keeps = keeps;
        origin = keeps.origin;
        home = keeps.home;
      }

  -- one of `ftp-gw`
  served_facts : (line : ℕ) (rules : RuleBook) (peer : Peer) (ending : Ending) (old new : Devices Origin) → Serves line rules peer ending old new → Facts Replied (Permit line) rules ending old new
  served_facts line rules peer ending old new h =
      let text = decision_text (Permit line) FtpGw peer in
      let gate = ftp.gate_at rules line peer in
      let seconds = timeout_of rules in
      let keeps = ftp_keeps text gate seconds ending old new h.held in
      record {
        caused = causes_of Replied (Permit line) ending old new (ftp_caused text gate seconds ending old new h.held);
        spent = ftp_takes text gate seconds ending old new h.held;
        waited = ftp_waits text gate seconds ending old new h.held;
        refused = tt;
        unasked = ftp_unasked text gate seconds ending old new h.held;
        keeps = keeps;
        origin = keeps.origin;
        home = keeps.home;
      }

  treats_facts : (verdict : Verdict) (service : Service) (rules : RuleBook) (peer : Peer) (ending : Ending) (old new : Devices Origin) → Treats verdict service rules peer ending old new → Facts (kind_of service verdict) verdict rules ending old new
  treats_facts (Deny line) service rules peer ending old new h = denied_facts line service rules peer ending old new h
  treats_facts (Permit line) (PlugGw at) rules peer ending old new h = linked_facts at line rules peer ending old new h
  treats_facts (Permit line) TnGw rules peer ending old new h = gated_facts line rules peer ending old new h
  treats_facts (Permit line) Authsrv rules peer ending old new h = held_facts line rules peer ending old new h
  treats_facts (Permit line) (Netacl label) rules peer ending old new h = absurd h
  treats_facts (Permit line) FtpGw rules peer ending old new h = served_facts line rules peer ending old new h
  treats_facts (Permit line) Smap rules peer ending old new h = mailed_facts line rules peer ending old new h

  conn_facts : (service : Service) (rules : RuleBook) (peer : Peer) (old new : Devices Origin) (ending : Ending) → Conn service rules peer old new ending → Facts (kind_of service (verdict_of rules peer)) (verdict_of rules peer) rules ending old new
  conn_facts service rules peer old new ending conn =
      let verdict = verdict_of rules peer in
      let kind = kind_of service verdict in
      let most = noted_most (ending_line service peer ending) conn.logs new.logs conn.noted in
      let so = treats_facts verdict service rules peer ending old (with_logs new conn.logs) conn.treats in
      record {
        caused = causes_later kind verdict ending old new conn.logs most so.caused;
        spent = takes_later kind ending old new conn.logs so.spent;
        waited = waits_with kind verdict rules ending old new conn.logs so.waited;
        refused = so.refused;
        unasked = unasked_later kind verdict rules ending old new conn.logs so.unasked;
        keeps = keeps_later (may_relay kind) (lent_by verdict rules old) new conn.logs most (noted_shut (ending_line service peer ending) conn.logs new.logs conn.noted) so.keeps;
        origin = so.origin;
        home = so.home;
      }

  -- each ending has its cause
  pub conn_caused : (service : Service) (rules : RuleBook) (peer : Peer) (old new : Devices Origin) (ending : Ending) → Conn service rules peer old new ending → Causes (kind_of service (verdict_of rules peer)) (verdict_of rules peer) ending old new
  conn_caused service rules peer old new ending conn = (conn_facts service rules peer old new ending conn).caused

  pub conn_spent : (service : Service) (rules : RuleBook) (peer : Peer) (old new : Devices Origin) (ending : Ending) → Conn service rules peer old new ending → TakesBy (kind_of service (verdict_of rules peer)) ending old new
  conn_spent service rules peer old new ending conn = (conn_facts service rules peer old new ending conn).spent

  pub conn_waited : (service : Service) (rules : RuleBook) (peer : Peer) (old new : Devices Origin) (ending : Ending) → Conn service rules peer old new ending → WaitsAs (kind_of service (verdict_of rules peer)) (verdict_of rules peer) rules ending old new
  conn_waited service rules peer old new ending conn = (conn_facts service rules peer old new ending conn).waited

  pub conn_refused : (service : Service) (rules : RuleBook) (peer : Peer) (old new : Devices Origin) (ending : Ending) → Conn service rules peer old new ending → IsRefused (verdict_of rules peer) ending
  conn_refused service rules peer old new ending conn = (conn_facts service rules peer old new ending conn).refused

  pub conn_unasked : (service : Service) (rules : RuleBook) (peer : Peer) (old new : Devices Origin) (ending : Ending) → Conn service rules peer old new ending → Unasked (kind_of service (verdict_of rules peer)) (verdict_of rules peer) rules ending old new
  conn_unasked service rules peer old new ending conn = (conn_facts service rules peer old new ending conn).unasked

  pub conn_keeps : (service : Service) (rules : RuleBook) (peer : Peer) (old new : Devices Origin) (ending : Ending) → Conn service rules peer old new ending → KeepsAs (may_relay (kind_of service (verdict_of rules peer))) (lent_by (verdict_of rules peer) rules old) new
  conn_keeps service rules peer old new ending conn = (conn_facts service rules peer old new ending conn).keeps

  -- what the port's answers stand on stays
  pub conn_origin : (service : Service) (rules : RuleBook) (peer : Peer) (old new : Devices Origin) (ending : Ending) → Conn service rules peer old new ending → new.port.origin ≡ old.port.origin
  conn_origin service rules peer old new ending conn = (conn_facts service rules peer old new ending conn).origin

  pub conn_home : (service : Service) (rules : RuleBook) (peer : Peer) (old new : Devices Origin) (ending : Ending) → Conn service rules peer old new ending → new.port.home ≡ old.port.home
  conn_home service rules peer old new ending conn = (conn_facts service rules peer old new ending conn).home

  -- ---- what the dialer is asked

  words_undialed : (line words : List ℕ) (told : Ending) (old new : Devices Origin) → Denies line words old new told → new.dialer ≡ old.dialer
  words_undialed line words told old new (inl fails) = ap (λ (d : Devices Origin). d.dialer) fails.same
  words_undialed line words told old new (inr away) = ap (λ (d : Devices Origin). d.dialer) away.same

  logged_undialed : (line : List ℕ) (told : Ending) (old new : Devices Origin) → LogsOnly line old new told → new.dialer ≡ old.dialer
  logged_undialed line told old new (inl fails) = ap (λ (d : Devices Origin). d.dialer) fails.same
  logged_undialed line told old new (inr alone) = ap (λ (d : Devices Origin). d.dialer) alone.same

  away_undialed : (line : List ℕ) (words : Option (List ℕ)) (told : Ending) (old new : Devices Origin) → Session no_rows (away_row line words) old new told → new.dialer ≡ old.dialer
  away_undialed line None told old new session = logged_undialed line told old new (silent_denial line old new told session)
  away_undialed line (Some words) told old new session = words_undialed line words told old new (denies line words old new told session)

  denied_dials : (service : Service) (line : ℕ) (rules : RuleBook) (peer : Peer) (ending : Ending) (old new : Devices Origin) → new.dialer ≡ old.dialer → Dials service (Deny line) rules peer ending old new
  denied_dials (PlugGw at) line rules peer ending old new h = h
  denied_dials TnGw line rules peer ending old new h = h
  denied_dials Authsrv line rules peer ending old new h = h
  denied_dials (Netacl label) line rules peer ending old new h = h
  denied_dials FtpGw line rules peer ending old new h = h
  denied_dials Smap line rules peer ending old new h = h

  held_undialed : (line : ℕ) (rules : RuleBook) (peer : Peer) (ending : Ending) (old new : Devices Origin) → Permits line rules peer ending old new → new.dialer ≡ dialer_then (Permit line) rules old.dialer
  held_undialed line rules peer ending old new h =
      session_serverless rows (logged_row (decision_text (Permit line) Authsrv peer) (session_row false)) (patient (timeout_of rules) (mailless old)) (mailless new) ending h.session
      (logged_serverless (decision_text (Permit line) Authsrv peer) (keeps_serverless Origin false))

  treats_dialed : (verdict : Verdict) (service : Service) (rules : RuleBook) (peer : Peer) (ending : Ending) (old new : Devices Origin) (logs : SinkView) → Treats verdict service rules peer ending old (with_logs new logs)
      → NotedIf (ending_line service peer ending) logs new.logs → Dials service verdict rules peer ending old new
  treats_dialed (Deny line) service rules peer ending old new logs h noted =
      denied_dials service line rules peer ending old new (away_undialed (decision_text (Deny line) service peer) (denied_words service line) h.told old (with_logs new logs) h.session)
  treats_dialed (Permit line) (PlugGw at) rules peer ending old new logs h noted = plug_dials at line rules peer ending old new logs (ending_line (PlugGw at) peer ending) (unended (PlugGw at) peer ending) h noted
  treats_dialed (Permit line) TnGw rules peer ending old new logs h noted = tt
  treats_dialed (Permit line) Authsrv rules peer ending old new logs h noted = held_undialed line rules peer ending old (with_logs new logs) h
  treats_dialed (Permit line) (Netacl label) rules peer ending old new logs h noted = absurd h
  treats_dialed (Permit line) FtpGw rules peer ending old new logs h noted = tt
  treats_dialed (Permit line) Smap rules peer ending old new logs h noted = h.dialer

  pub conn_dialed : (service : Service) (rules : RuleBook) (peer : Peer) (old new : Devices Origin) (ending : Ending) → Conn service rules peer old new ending → Dials service (verdict_of rules peer) rules peer ending old new
  conn_dialed service rules peer old new ending conn = treats_dialed (verdict_of rules peer) service rules peer ending old new conn.logs conn.treats conn.noted

  -- ---- what reached each side

  none_front : (service : Service) (line : ℕ) (rules : RuleBook) (peer : Peer) (ending : Ending) (old new : Devices Origin) → FrontsBy service (Deny line) rules peer ending old new
  none_front (PlugGw at) line rules peer ending old new = tt
  none_front TnGw line rules peer ending old new = tt
  none_front Authsrv line rules peer ending old new = tt
  none_front (Netacl label) line rules peer ending old new = tt
  none_front FtpGw line rules peer ending old new = tt
  none_front Smap line rules peer ending old new = tt

  treats_fronts : (verdict : Verdict) (service : Service) (rules : RuleBook) (peer : Peer) (ending : Ending) (old new : Devices Origin) (logs : SinkView) → Treats verdict service rules peer ending old (with_logs new logs)
      → NotedIf (ending_line service peer ending) logs new.logs → FrontsBy service verdict rules peer ending old new
  treats_fronts (Deny line) service rules peer ending old new logs h noted = none_front service line rules peer ending old new
  treats_fronts (Permit line) (PlugGw at) rules peer ending old new logs h noted = fronts_later ending old new logs (plug_gives at line rules peer ending old (with_logs new logs) h)
  treats_fronts (Permit line) TnGw rules peer ending old new logs h noted =
      record { logs = logs; noted = noted; so = fronts_behind (decision_text (Permit line) TnGw peer) (gate_at rules line peer) ending (patient (timeout_of rules) (gate_devices old)) (gate_devices (with_logs new logs)) h.held }
  treats_fronts (Permit line) Authsrv rules peer ending old new logs h noted = tt
  treats_fronts (Permit line) (Netacl label) rules peer ending old new logs h noted = absurd h
  treats_fronts (Permit line) FtpGw rules peer ending old new logs h noted =
      record { logs = logs; noted = noted; so = serving_behind (decision_text (Permit line) FtpGw peer) (ftp.gate_at rules line peer) ending (patient (timeout_of rules) (gate_devices old)) (gate_devices (with_logs new logs)) h.held }
  treats_fronts (Permit line) Smap rules peer ending old new logs h noted = tt

  pub conn_fronts : (service : Service) (rules : RuleBook) (peer : Peer) (old new : Devices Origin) (ending : Ending) → Conn service rules peer old new ending → FrontsBy service (verdict_of rules peer) rules peer ending old new
  conn_fronts service rules peer old new ending conn = treats_fronts (verdict_of rules peer) service rules peer ending old new conn.logs conn.treats conn.noted

  -- ---- at the console

  pub console_caused : (service : Service) (peer : Peer) (old new : Devices Origin) (ending : Ending) → AtConsole service peer old new ending → CausedAlone ending old new
  console_caused service peer old new ending h =
      caused_later ending old new h.logs (noted_most (ending_line service peer ending) h.logs new.logs h.noted)
      (caused_mailless ending old (with_logs new h.logs) (session_alone rows (session_row true) (mailless old) (mailless (with_logs new h.logs)) ending h.session (keeps_serverless Origin true)))

  pub console_spent : (service : Service) (peer : Peer) (old new : Devices Origin) (ending : Ending) → AtConsole service peer old new ending → TakesExactly ending old new
  console_spent service peer old new ending h =
      takes_later Alone ending old new h.logs
      (takes_mailless ending old (with_logs new h.logs) (session_exact rows (session_row true) (mailless old) (mailless (with_logs new h.logs)) ending h.session (keeps_serverless Origin true)))

  pub console_undialed : (service : Service) (peer : Peer) (old new : Devices Origin) (ending : Ending) → AtConsole service peer old new ending → new.dialer ≡ old.dialer
  console_undialed service peer old new ending h =
      session_serverless rows (session_row true) (mailless old) (mailless (with_logs new h.logs)) ending h.session (keeps_serverless Origin true)

  pub console_origin : (service : Service) (peer : Peer) (old new : Devices Origin) (ending : Ending) → AtConsole service peer old new ending → new.port.origin ≡ old.port.origin
  console_origin service peer old new ending h = (session_keeps h.session).origin
