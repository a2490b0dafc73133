use Rattle.session_acts.proofs.DepositLemmas.{deposits_on}
use Rattle.session_acts.proofs.desk.DeskStage.deposit.Goals as goal

pub returns : goal.returns
returns g c = deposits_on c.args.sender.now c.args.rcpts.now c.args.words.now c.args.most c.deposit.result _ _ _ c.deposit.ensures
