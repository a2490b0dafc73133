use Rattle.std.proofs.Common.{ap, subst, ◌∙◌, ◌≡◌, List, ℕ, false}
use Rattle.authsrv_gate.specs.Dialogue.{rows, session_row}
use Rattle.gate_rules.specs.declared.service.Service.{Service}
use Rattle.gate_rules.specs.declared.service.Service.TheVariants.{Authsrv}
use Rattle.gate_rules.specs.declared.verdict.Verdict.TheVariants.{Permit}
use Rattle.session_acts.specs.Session.{Session}
use Rattle.session_acts.specs.World.{Devices, devices_with}
use Rattle.client_service.specs.Decision.{decision_text}
use Rattle.client_service.specs.Meeting.{logged_row, patient, timeout_of}
use Rattle.client_service.proofs.admitting.admit_client.Goals as goal

pub returns : goal.returns
returns g c =
    let old : Devices g.row.P-Origin.Denot = devices_with (g.P.AuthPort.port c.args.port.now) (g.S.Source.source_view c.args.from.now) (g.K.Sink.sink_view c.args.to.now) (g.G.Sink.sink_view c.args.logs.now)
    (g.D.Dialer.dialer_view c.args.dialer.now) (g.C.Clock.clock_view c.args.clock.now) (g.R.Dice.dice_view c.args.dice.now) in
    let new : Devices g.row.P-Origin.Denot = devices_with (g.P.AuthPort.port c.admit_by.new.port) (g.S.Source.source_view c.admit_by.new.from) (g.K.Sink.sink_view c.admit_by.new.to) (g.G.Sink.sink_view c.admit_by.new.logs)
    (g.D.Dialer.dialer_view c.admit_by.new.dialer) (g.C.Clock.clock_view c.admit_by.new.clock) (g.R.Dice.dice_view c.admit_by.new.dice) in
    let text : c.as_slice.result.now ≡ decision_text (Permit c.args.line) Authsrv c.args.peer.now =
    c.as_slice.ensures.value ∙ c.decision_line-text.ensures ∙ ap (λ (s : Service). decision_text (Permit c.args.line) s c.args.peer.now) c.requires in
    let Line : List ℕ → Type 0 = λ t. Session rows (logged_row t (session_row false)) (patient (timeout_of c.args.rules.now) old) new c.admit_by.result in
    subst Line text c.admit_by.ensures
