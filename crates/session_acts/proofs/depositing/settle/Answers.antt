use Rattle.session_acts.proofs.FillLemmas.{settled_large, settled_lost, settled_open}
use Rattle.session_acts.proofs.depositing.settle.Goals as goal

pub returns-in-Open : goal.returns-in-Open
returns-in-Open g c = rw c.in-Open.is (λ sender rcpts most slot given left laid. settled_open sender rcpts most left given c.keep.result slot _ _ c.in-Open.filling laid (c.keep.ensures sender rcpts given slot laid.filled))

pub returns-in-Large : goal.returns-in-Large
returns-in-Large g c = rw c.in-Large.is (λ sender rcpts most slot given left large. settled_large sender rcpts most given slot _ _ c.in-Large.filling large c.give_up.ensures)

pub returns-in-Lost : goal.returns-in-Lost
returns-in-Lost g c = rw c.in-Lost.is (λ sender rcpts most slot given left away. settled_lost sender rcpts most given slot _ _ c.in-Lost.broken away c.put_lost.ensures)
