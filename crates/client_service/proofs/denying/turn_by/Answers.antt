use Rattle.std.proofs.Common.{subst, refl, List, ℕ}
use Rattle.fw_outside.specs.SinkView.{SinkView}
use Rattle.client_service.specs.TurningAway.{TurnedAway}
use Rattle.client_service.proofs.denying.turn_by.Goals as goal

pub returns-in-Some : goal.returns-in-Some
returns-in-Some g c =
    let to : SinkView = g.K.Sink.sink_view c.args.to.now in
    let told : SinkView = g.K.Sink.sink_view c.turn_away.new.to in
    let logs : SinkView = g.G.Sink.sink_view c.args.logs.now in
    let noted : SinkView = g.G.Sink.sink_view c.turn_away.new.logs in
    let Words : List ℕ → Type 0 = λ t. TurnedAway c.args.line.now t c.turn_away.result to told logs noted in
    rw c.in-Some.is (subst Words c.as_slice.ensures.value c.turn_away.ensures)

pub returns-in-None : goal.returns-in-None
returns-in-None g c = rw c.in-None.is (record { so = c.log_alone.ensures; same = refl })
