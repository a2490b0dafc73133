use Rattle.std.proofs.Common.{◌∙◌, refl}
use Rattle.fwtk_serve.proofs.RoundLemmas.{hands_none, hands_then}
use Rattle.fwtk_serve.proofs.handing_on.hand_on_meanwhile.Goals as goal

pub loop-init : goal.loop-init
loop-init g c = (hands_none _ _, refl)

pub loop-preserved : goal.loop-preserved
loop-preserved g c = (hands_then _ _ _ _ c.loop.invariant.0 c.hand_on-troubled.ensures.hands, c.hand_on-troubled.ensures.many ∙ c.loop.invariant.1)
