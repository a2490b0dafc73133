use Rattle.otp_words.proofs.LawLemmas.{read_back}
use Rattle.otp_words.proofs.laws.inverse.Goals as goal

pub returns : goal.returns
returns c = λ dictionary x is small. read_back dictionary x is small
