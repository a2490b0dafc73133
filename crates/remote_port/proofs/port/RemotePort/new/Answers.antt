use Rattle.std.proofs.Common.{ap, sym, ◌∙◌}
use Rattle.remote_port.specs.Link.{LinkView}
use Rattle.remote_port.specs.Remote.{RemoteOrigin}
use Rattle.remote_port.specs.Talk.{talk_of}
use Rattle.remote_port.proofs.TextLemmas.{texts_first}
use Rattle.remote_port.proofs.port.RemotePort.new.Goals as goal

pub invariant_of-result : goal.invariant_of-result
invariant_of-result g c =
    let origin : RemoteOrigin = record { source = g.S.Source.source_view c.of-from_at_first.result.value; sink = g.K.Sink.sink_view c.of-to_at_first.result.value } in
    texts_first (talk_of c.new.result) c.new-2.result origin c.new.ensures (ap (λ (l : LinkView). l.reader) c.new-2.ensures)
    (ap (λ (l : LinkView). l.source) c.new-2.ensures ∙ ap g.S.Source.source_view (sym c.of-from_at_first.ensures))
    (ap (λ (l : LinkView). l.sink) c.new-2.ensures ∙ ap g.K.Sink.sink_view (sym c.of-to_at_first.ensures))
