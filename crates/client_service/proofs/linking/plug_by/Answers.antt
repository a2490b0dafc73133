use Rattle.std.proofs.Common.{subst, ℕ}
use Rattle.fw_outside.specs.DialerView.{DialerView, dialer_waiting}
use Rattle.fw_outside.specs.SinkView.{SinkView}
use Rattle.fw_outside.specs.SourceView.{SourceView, waiting}
use Rattle.plug_gate.specs.Dialogue.{connect_text, plug_row}
use Rattle.plug_gate.specs.Dummies.{lent}
use Rattle.session_acts.specs.Denying.{no_rows}
use Rattle.session_acts.specs.Relayed.{relayed}
use Rattle.session_acts.specs.Session.{RelaySession}
use Rattle.session_acts.specs.World.{Devices}
use Rattle.client_service.specs.Meeting.{logged_row}
use Rattle.client_service.proofs.linking.plug_by.Goals as goal

pub returns : goal.returns
returns g c =
    let to : SinkView = g.K.Sink.sink_view c.args.to.now in
    let logs : SinkView = g.G.Sink.sink_view c.args.logs.now in
    let new : Devices (Unit {0}) = lent (g.S.Source.source_view c.plug.new.from) (g.K.Sink.sink_view c.plug.new.to) (g.G.Sink.sink_view c.plug.new.logs) (g.D.Dialer.dialer_view c.plug.new.dialer) in
    let At : SourceView → DialerView → Type 0 =
    λ s d. RelaySession (relayed no_rows) (logged_row c.args.said.now (plug_row (connect_text c.args.port c.args.peer.now c.args.dest.now c.args.line) c.args.dest.now)) (lent s to logs d) new c.plug.result in
    let inlet : SourceView = g.S.Source.source_view c.args.from.now in
    let links : DialerView = g.D.Dialer.dialer_view c.args.dialer.now in
    subst (λ (n : ℕ). At (waiting inlet n) (dialer_waiting links n)) c.timeout_of-seconds.ensures
    (subst (λ (d : DialerView). At (waiting inlet c.timeout_of-seconds.result) d) c.set_waits.ensures.links
    (subst (λ (s : SourceView). At s (g.D.Dialer.dialer_view c.set_waits.new.dialer)) c.set_waits.ensures.source c.plug.ensures))
