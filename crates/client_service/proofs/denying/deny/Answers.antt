use Rattle.std.proofs.Common.{subst, ◌∙◌, ◌≡◌, List, ℕ, Option}
use Rattle.fw_outside.specs.SinkView.{SinkView}
use Rattle.gate_rules.specs.declared.verdict.Verdict.TheVariants.{Deny}
use Rattle.client_service.specs.Decision.{decision_text}
use Rattle.client_service.specs.Endings.{denied_words}
use Rattle.client_service.specs.TurningAway.{TurnedBy}
use Rattle.client_service.proofs.denying.deny.Goals as goal

pub returns : goal.returns
returns g c =
    let to : SinkView = g.K.Sink.sink_view c.args.to.now in
    let told : SinkView = g.K.Sink.sink_view c.turn_by-told.new.to in
    let logs : SinkView = g.G.Sink.sink_view c.args.logs.now in
    let noted : SinkView = g.G.Sink.sink_view c.turn_by-told.new.logs in
    let line : List ℕ = decision_text (Deny c.args.line) c.args.service.now c.args.peer.now in
    let text : c.as_slice.result.now ≡ line = c.as_slice.ensures.value ∙ c.decision_line-text.ensures in
    let Words : Option (List ℕ) → Type 0 = λ w. TurnedBy c.as_slice.result.now w c.turn_by-told.result to told logs noted in
    let Line : List ℕ → Type 0 = λ t. TurnedBy t (denied_words c.args.service.now c.args.line) c.turn_by-told.result to told logs noted in
    record { away = c.turn_by-told.result; turns = subst Line text (subst Words c.denied_words-words.ensures c.turn_by-told.ensures); ends = c.denied_by.ensures }
