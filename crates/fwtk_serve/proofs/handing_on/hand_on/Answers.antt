use Rattle.fwtk_serve.proofs.RoundLemmas.{hands_one, mailers_many}
use Rattle.fwtk_serve.proofs.handing_on.hand_on.Goals as goal

pub returns-clause-hands : goal.returns-clause-hands
returns-clause-hands g c = hands_one _ _ _ _ c.smapd_round-answer.ensures c.with.ensures

pub returns-clause-many : goal.returns-clause-many
returns-clause-many g c = mailers_many _ _ _ _ c.smapd_round-answer.ensures.mailers
