use Rattle.otp_words.proofs.ChallengeLemmas.{opened}
use Rattle.otp_words.proofs.laws.opens.Goals as goal

pub returns : goal.returns
returns c = λ s phrase number kept is small keeps. opened s phrase number kept is small keeps
