use Rattle.std.proofs.Common.{[], ◌∷◌}
use Rattle.spool_law.proofs.ExampleLemmas.{example, example_possible, example_answered}
use Rattle.spool_law.proofs.laws.a_message_can_stand.Goals as goal

pub returns : goal.returns
returns c = (example, record { number = 0; mail = record { from = []; rcpts = (97 ∷ []) ∷ []; body = [] } }, example_possible, example_answered)
