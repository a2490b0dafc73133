use Rattle.std.proofs.Common.{ap, subst, ◌∙◌, ◌≡◌, List, ℕ}
use Rattle.std.specs.Prelude.{Option, Some}
use Rattle.gate_rules.specs.declared.options.Options.{Options}
use Rattle.gate_rules.specs.declared.service.Service.{Service}
use Rattle.gate_rules.specs.declared.service.Service.TheVariants.{FtpGw}
use Rattle.gate_rules.specs.declared.verdict.Verdict.TheVariants.{Permit}
use Rattle.session_acts.specs.World.{Devices}
use Rattle.ftp_gate.specs.Dummies.{lent}
use Rattle.ftp_gate.specs.Gate.{Gate, options_or_none}
use Rattle.client_service.specs.Decision.{decision_text}
use Rattle.client_service.specs.FtpService.{ServedBehind}
use Rattle.client_service.specs.Meeting.{patient, timeout_of}
use Rattle.client_service.proofs.ftp_serving.serve_ftp.Goals as goal

pub returns : goal.returns
returns g c =
    let old : Devices g.row.P-Origin.Denot = patient (timeout_of c.args.rules.now) (lent (g.P.AuthPort.port c.args.port.now) (g.S.Source.source_view c.args.from.now) (g.K.Sink.sink_view c.args.to.now) (g.G.Sink.sink_view c.args.logs.now)
    (g.D.Dialer.dialer_view c.args.dialer.now) (g.C.Clock.clock_view c.args.clock.now)) in
    let new : Devices g.row.P-Origin.Denot = lent (g.P.AuthPort.port c.hold_by.new.port) (g.S.Source.source_view c.hold_by.new.from) (g.K.Sink.sink_view c.hold_by.new.to) (g.G.Sink.sink_view c.hold_by.new.logs)
    (g.D.Dialer.dialer_view c.hold_by.new.dialer) (g.C.Clock.clock_view c.hold_by.new.clock) in
    let gate : Option Options → Gate = λ o. record { options = options_or_none o; peer = c.args.peer.now; line = c.args.line } in
    let line : List ℕ = decision_text (Permit c.args.line) FtpGw c.args.peer.now in
    let text : c.as_slice.result.now ≡ line = c.as_slice.ensures.value ∙ c.decision_line-text.ensures ∙ ap (λ (s : Service). decision_text (Permit c.args.line) s c.args.peer.now) c.requires.service in
    let held : ServedBehind c.as_slice.result.now (gate (Some c.in-Some.options.now)) c.hold_by.result old new = c.hold_by.ensures in
    subst (λ (o : Option Options). ServedBehind line (gate o) c.hold_by.result old new) c.in-Some.ensures
    (subst (λ (t : List ℕ). ServedBehind t (gate (Some c.in-Some.options.now)) c.hold_by.result old new) text held)
