use Rattle.session_acts.specs.World.{Devices}
use Rattle.ftp_gate.specs.Dummies.{lent}
use Rattle.client_service.proofs.FtpLemmas.{served_behind}
use Rattle.client_service.proofs.ftp_serving.hold.Goals as goal

pub returns : goal.returns
returns g c =
    let old : Devices g.row.P-Origin.Denot = lent (g.P.AuthPort.port c.args.port.now) (g.S.Source.source_view c.args.from.now) (g.K.Sink.sink_view c.args.to.now) (g.G.Sink.sink_view c.args.logs.now)
    (g.D.Dialer.dialer_view c.args.dialer.now) (g.C.Clock.clock_view c.args.clock.now) in
    let new : Devices g.row.P-Origin.Denot = lent (g.P.AuthPort.port c.session_over.new.port) (g.S.Source.source_view c.session_over.new.from) (g.K.Sink.sink_view c.session_over.new.to) (g.G.Sink.sink_view c.session_over.new.logs)
    (g.D.Dialer.dialer_view c.session_over.new.dialer) (g.C.Clock.clock_view c.session_over.new.clock) in
    served_behind c.args.said.now c.args.script.now old new c.session_over.result c.session_over.ensures.session
