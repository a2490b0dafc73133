use Rattle.std.proofs.Common.{subst, ℕ, false}
use Rattle.authsrv_gate.specs.Dialogue.{rows, session_row}
use Rattle.fw_outside.specs.DialerView.{DialerView, dialer_waiting}
use Rattle.fw_outside.specs.SourceView.{SourceView, waiting}
use Rattle.session_acts.specs.Session.{Session}
use Rattle.session_acts.specs.World.{Devices, devices_with}
use Rattle.client_service.specs.Meeting.{logged_row}
use Rattle.client_service.proofs.admitting.admit_by.Goals as goal

pub returns : goal.returns
returns g c =
    let lent : SourceView → DialerView → Devices g.row.P-Origin.Denot = λ s d. devices_with (g.P.AuthPort.port c.args.port.now) s (g.K.Sink.sink_view c.args.to.now) (g.G.Sink.sink_view c.args.logs.now) d (g.C.Clock.clock_view c.args.clock.now) (g.R.Dice.dice_view c.args.dice.now) in
    let new : Devices g.row.P-Origin.Denot = devices_with (g.P.AuthPort.port c.admit.new.port) (g.S.Source.source_view c.admit.new.from) (g.K.Sink.sink_view c.admit.new.to) (g.G.Sink.sink_view c.admit.new.logs)
    (g.D.Dialer.dialer_view c.admit.new.dialer) (g.C.Clock.clock_view c.admit.new.clock) (g.R.Dice.dice_view c.admit.new.dice) in
    let At : SourceView → DialerView → Type 0 = λ s d. Session rows (logged_row c.args.line.now (session_row false)) (lent s d) new c.admit.result in
    let inlet : SourceView = g.S.Source.source_view c.args.from.now in
    let links : DialerView = g.D.Dialer.dialer_view c.args.dialer.now in
    subst (λ (n : ℕ). At (waiting inlet n) (dialer_waiting links n)) c.timeout_of-seconds.ensures
    (subst (λ (d : DialerView). At (waiting inlet c.timeout_of-seconds.result) d) c.set_waits.ensures.links
    (subst (λ (s : SourceView). At s (g.D.Dialer.dialer_view c.set_waits.new.dialer)) c.set_waits.ensures.source c.admit.ensures))
