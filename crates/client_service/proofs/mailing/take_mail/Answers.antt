use Rattle.std.proofs.Common.{ap, subst, ◌∙◌, ◌≡◌, List, ℕ}
use Rattle.fw_outside.specs.DialerView.{dialer_waiting}
use Rattle.fw_outside.specs.SourceView.{SourceView, waiting}
use Rattle.gate_rules.specs.declared.service.Service.{Service}
use Rattle.gate_rules.specs.declared.service.Service.TheVariants.{Smap}
use Rattle.gate_rules.specs.declared.verdict.Verdict.TheVariants.{Permit}
use Rattle.session_acts.specs.Session.{Session}
use Rattle.session_acts.specs.World.{Devices}
use Rattle.smap_gate.specs.Dialogue.{smap_row, smap_rows}
use Rattle.smap_gate.specs.Dummies.{lent}
use Rattle.smap_gate.specs.Gate.{Gate}
use Rattle.client_service.specs.Decision.{decision_text}
use Rattle.client_service.specs.MailService.{mail_gate_of}
use Rattle.client_service.specs.Meeting.{logged_row}
use Rattle.client_service.proofs.mailing.take_mail.Goals as goal

pub returns : goal.returns
returns g c =
    let new : Devices (Unit {0}) = lent (g.S.Source.source_view c.mail.new.from) (g.K.Sink.sink_view c.mail.new.to) (g.G.Sink.sink_view c.mail.new.logs) (g.M-SlotStore.store_view c.mail.new.store) in
    let At : Gate → List ℕ → SourceView → Type 0 =
    λ gate t s. Session (smap_rows gate) (logged_row t smap_row) (lent s (g.K.Sink.sink_view c.args.to.now) (g.G.Sink.sink_view c.args.logs.now) (g.M-SlotStore.store_view c.args.store.now)) new c.mail.result in
    let inlet : SourceView = g.S.Source.source_view c.args.from.now in
    let gate : Gate = mail_gate_of c.args.rules.now c.args.peer.now in
    let line : List ℕ = decision_text (Permit c.args.line) Smap c.args.peer.now in
    let text : c.as_slice.result.now ≡ line = c.as_slice.ensures.value ∙ c.decision_line-text.ensures ∙ ap (λ (s : Service). decision_text (Permit c.args.line) s c.args.peer.now) c.requires.service in
    record {
      mails =
          subst (λ (n : ℕ). At gate line (waiting inlet n)) c.timeout_of-seconds.ensures
          (subst (λ (s : SourceView). At gate line s) c.set_waits.ensures.source
          (subst (λ (t : List ℕ). At gate t (g.S.Source.source_view c.set_waits.new.from)) text
          (subst (λ (e : Gate). At e c.as_slice.result.now (g.S.Source.source_view c.set_waits.new.from)) c.script_for-script.ensures c.mail.ensures)));
      dialer = c.set_waits.ensures.links ∙ ap (λ (n : ℕ). dialer_waiting (g.D.Dialer.dialer_view c.args.dialer.now) n) c.timeout_of-seconds.ensures;
    }
