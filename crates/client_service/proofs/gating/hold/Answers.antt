use Rattle.session_acts.specs.World.{Devices}
use Rattle.tn_gate.specs.Dummies.{lent}
use Rattle.client_service.proofs.GateLemmas.{held_behind}
use Rattle.client_service.proofs.gating.hold.Goals as goal

pub returns : goal.returns
returns g c =
    let old : Devices g.row.P-Origin.Denot = lent (g.P.AuthPort.port c.args.port.now) (g.S.Source.source_view c.args.from.now) (g.K.Sink.sink_view c.args.to.now) (g.G.Sink.sink_view c.args.logs.now)
    (g.D.Dialer.dialer_view c.args.dialer.now) (g.C.Clock.clock_view c.args.clock.now) in
    let new : Devices g.row.P-Origin.Denot = lent (g.P.AuthPort.port c.relayed_over.new.port) (g.S.Source.source_view c.relayed_over.new.from) (g.K.Sink.sink_view c.relayed_over.new.to) (g.G.Sink.sink_view c.relayed_over.new.logs)
    (g.D.Dialer.dialer_view c.relayed_over.new.dialer) (g.C.Clock.clock_view c.relayed_over.new.clock) in
    held_behind c.args.said.now c.args.script.now old new c.relayed_over.result c.relayed_over.ensures.session
