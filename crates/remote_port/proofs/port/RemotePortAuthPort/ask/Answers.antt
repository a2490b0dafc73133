use Rattle.std.proofs.Common.{subst}
use Rattle.auth_events.specs.Port.{Asks}
use Rattle.remote_port.specs.Remote.{RemoteOrigin, RemoteView, remote_port}
use Rattle.remote_port.specs.Talk.{talk_of}
use Rattle.remote_port.proofs.PortLemmas.{asks_port, made}
use Rattle.remote_port.proofs.TextLemmas.{texts_after}
use Rattle.remote_port.proofs.port.RemotePortAuthPort.ask.Goals as goal

pub invariant_of-self : goal.invariant_of-self
invariant_of-self g c =
    let origin : RemoteOrigin = record { source = g.S.Source.source_view c.self.inside.from_at_first.value; sink = g.K.Sink.sink_view c.self.inside.to_at_first.value } in
    texts_after c.converse.result c.args.sid c.args.at c.args.request (talk_of c.self.inside.talk) (talk_of c.converse.new.talk) c.self.inside.link c.converse.new.link origin c.converse.ensures c.self.invariant

pub returns-clause-asks : goal.returns-clause-asks
returns-clause-asks g c =
    let origin : RemoteOrigin = record { source = g.S.Source.source_view c.self.inside.from_at_first.value; sink = g.K.Sink.sink_view c.self.inside.to_at_first.value } in
    let new : RemoteView = made (talk_of c.converse.new.talk) c.converse.new.link origin in
    let P : RemoteView → Type 0 = λ (old : RemoteView). Asks c.converse.result c.args.sid c.args.at c.args.request (remote_port old) (remote_port new) in
    subst P c.self.view_is
    (asks_port c.converse.result c.args.sid c.args.at c.args.request (talk_of c.self.inside.talk) (talk_of c.converse.new.talk) c.self.inside.link c.converse.new.link origin c.converse.ensures)

pub returns-clause-texts : goal.returns-clause-texts
returns-clause-texts g c = invariant_of-self g c
