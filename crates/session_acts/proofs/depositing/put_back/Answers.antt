use Rattle.session_acts.proofs.FillLemmas.{back_large, back_lost, back_open}
use Rattle.session_acts.proofs.depositing.put_back.Goals as goal

pub returns-in-Open : goal.returns-in-Open
returns-in-Open g c = rw c.in-Open.is (λ sender rcpts most slot given left laid. back_open sender rcpts most left given slot _ _ c.in-Open.filling laid c.give_up.ensures)

pub returns-in-Large : goal.returns-in-Large
returns-in-Large g c = rw c.in-Large.is (λ sender rcpts most slot given left large. back_large sender rcpts most given slot _ _ c.in-Large.filling large c.give_up-in-Large.ensures)

pub returns-in-Lost : goal.returns-in-Lost
returns-in-Lost g c = rw c.in-Lost.is (λ sender rcpts most slot given left away. back_lost sender rcpts most given slot _ _ c.in-Lost.broken away c.put_lost.ensures)
