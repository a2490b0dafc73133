use Rattle.std.proofs.Common.{subst, ℕ}
use Rattle.fw_outside.specs.DialerView.{DialerView, dialer_waiting}
use Rattle.fw_outside.specs.SourceView.{SourceView, waiting}
use Rattle.session_acts.specs.World.{Devices}
use Rattle.ftp_gate.specs.Dummies.{lent}
use Rattle.client_service.specs.FtpService.{ServedBehind}
use Rattle.client_service.proofs.ftp_serving.hold_by.Goals as goal

pub returns : goal.returns
returns g c =
    let met : SourceView → DialerView → Devices g.row.P-Origin.Denot = λ s d. lent (g.P.AuthPort.port c.args.port.now) s (g.K.Sink.sink_view c.args.to.now) (g.G.Sink.sink_view c.args.logs.now) d (g.C.Clock.clock_view c.args.clock.now) in
    let new : Devices g.row.P-Origin.Denot = lent (g.P.AuthPort.port c.hold.new.port) (g.S.Source.source_view c.hold.new.from) (g.K.Sink.sink_view c.hold.new.to) (g.G.Sink.sink_view c.hold.new.logs)
    (g.D.Dialer.dialer_view c.hold.new.dialer) (g.C.Clock.clock_view c.hold.new.clock) in
    let At : SourceView → DialerView → Type 0 = λ s d. ServedBehind c.args.said.now c.args.script.now c.hold.result (met s d) new in
    let inlet : SourceView = g.S.Source.source_view c.args.from.now in
    let links : DialerView = g.D.Dialer.dialer_view c.args.dialer.now in
    subst (λ (n : ℕ). At (waiting inlet n) (dialer_waiting links n)) c.timeout_of-seconds.ensures
    (subst (λ (d : DialerView). At (waiting inlet c.timeout_of-seconds.result) d) c.set_waits.ensures.links
    (subst (λ (s : SourceView). At s (g.D.Dialer.dialer_view c.set_waits.new.dialer)) c.set_waits.ensures.source c.hold.ensures))
