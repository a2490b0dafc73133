use Rattle.otp_words.proofs.ChallengeLemmas.{challenge_read}
use Rattle.otp_words.proofs.laws.challenges_are_read.Goals as goal

pub returns : goal.returns
returns c = λ s number is small. challenge_read s number is small
