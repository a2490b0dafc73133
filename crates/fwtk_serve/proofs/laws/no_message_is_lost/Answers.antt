use Rattle.fwtk_serve.proofs.AccountLemmas.{none_lost}
use Rattle.fwtk_serve.proofs.laws.no_message_is_lost.Goals as goal

pub returns : goal.returns
returns c = none_lost
