-- What the mail store is given for a client.
use Rattle.std.proofs.Common.{◌≡◌, ap, ℕ, List, inl, inr, false}
use Rattle.std.specs.Prelude.{Option, Some, None}
use Rattle.fw_outside.specs.SinkView.{SinkView}
use Rattle.fw_types.specs.declared.ending.Ending.{Ending}
use Rattle.fw_types.specs.declared.peer.Peer.{Peer}
use Rattle.gate_rules.specs.Reading.{RuleBook}
use Rattle.gate_rules.specs.Verdict.{verdict_of}
use Rattle.gate_rules.specs.declared.service.Service.{Service}
use Rattle.gate_rules.specs.declared.service.Service.TheVariants.{Authsrv, FtpGw, Netacl, PlugGw, Smap, TnGw}
use Rattle.gate_rules.specs.declared.verdict.Verdict.{Verdict}
use Rattle.gate_rules.specs.declared.verdict.Verdict.TheVariants.{Permit, Deny}
use Rattle.session_acts.specs.Client.{Denies}
use Rattle.session_acts.specs.Denying.{no_rows}
use Rattle.session_acts.specs.Session.{Session}
use Rattle.session_acts.specs.World.{Devices}
use Rattle.session_acts.proofs.ClientLemmas.{denies}
use Rattle.client_service.specs.Conn.{Conn, Mails, Treats}
use Rattle.client_service.specs.Decision.{decision_text}
use Rattle.client_service.specs.Endings.{NotedIf, denied_words, ending_line}
use Rattle.client_service.specs.MailService.{mail_devices, mail_gate_of}
use Rattle.client_service.specs.Meeting.{away_row, patient, timeout_of}
use Rattle.client_service.proofs.LaterLemmas.{with_logs}
use Rattle.client_service.proofs.MailLemmas.{mails_behind}
use Rattle.client_service.proofs.PlugLemmas.{LogsOnly, silent_denial}

module _ {Origin : Type 0} where
  words_kept : (line words : List ℕ) (told : Ending) (old new : Devices Origin) → Denies line words old new told → new.store ≡ old.store
  words_kept line words told old new (inl fails) = ap (λ (d : Devices Origin). d.store) fails.same
  words_kept line words told old new (inr away) = ap (λ (d : Devices Origin). d.store) away.same

  logged_kept : (line : List ℕ) (told : Ending) (old new : Devices Origin) → LogsOnly line old new told → new.store ≡ old.store
  logged_kept line told old new (inl fails) = ap (λ (d : Devices Origin). d.store) fails.same
  logged_kept line told old new (inr alone) = ap (λ (d : Devices Origin). d.store) alone.same

  away_kept : (line : List ℕ) (words : Option (List ℕ)) (told : Ending) (old new : Devices Origin) → Session no_rows (away_row line words) old new told → new.store ≡ old.store
  away_kept line None told old new session = logged_kept line told old new (silent_denial line old new told session)
  away_kept line (Some words) told old new session = words_kept line words told old new (denies line words old new told session)

  denied_mails : (service : Service) (line : ℕ) (rules : RuleBook) (peer : Peer) (ending : Ending) (old new : Devices Origin) → new.store ≡ old.store → Mails service (Deny line) rules peer ending old new
  denied_mails (PlugGw at) line rules peer ending old new h = h
  denied_mails TnGw line rules peer ending old new h = h
  denied_mails Authsrv line rules peer ending old new h = h
  denied_mails (Netacl label) line rules peer ending old new h = h
  denied_mails FtpGw line rules peer ending old new h = h
  denied_mails Smap line rules peer ending old new h = h

  treats_kept : (verdict : Verdict) (service : Service) (rules : RuleBook) (peer : Peer) (ending : Ending) (old new : Devices Origin) (logs : SinkView) → Treats verdict service rules peer ending old (with_logs new logs)
      → NotedIf (ending_line service peer ending) logs new.logs → Mails service verdict rules peer ending old new
  treats_kept (Deny line) service rules peer ending old new logs h noted =
      denied_mails service line rules peer ending old new (away_kept (decision_text (Deny line) service peer) (denied_words service line) h.told old (with_logs new logs) h.session)
  treats_kept (Permit line) (PlugGw at) rules peer ending old new logs h noted = h.store
  treats_kept (Permit line) TnGw rules peer ending old new logs h noted = h.store
  treats_kept (Permit line) Authsrv rules peer ending old new logs h noted = h.store
  treats_kept (Permit line) Smap rules peer ending old new logs h noted =
      record { logs = logs; noted = noted; so = mails_behind (decision_text (Permit line) Smap peer) (mail_gate_of rules peer) ending (mail_devices (patient (timeout_of rules) old)) (mail_devices (with_logs new logs)) h.over }
  treats_kept (Permit line) (Netacl label) rules peer ending old new logs h noted = absurd h
  treats_kept (Permit line) FtpGw rules peer ending old new logs h noted = h.store

  pub conn_kept : (service : Service) (rules : RuleBook) (peer : Peer) (old new : Devices Origin) (ending : Ending) → Conn service rules peer old new ending → Mails service (verdict_of rules peer) rules peer ending old new
  conn_kept service rules peer old new ending conn = treats_kept (verdict_of rules peer) service rules peer ending old new conn.logs conn.treats conn.noted
