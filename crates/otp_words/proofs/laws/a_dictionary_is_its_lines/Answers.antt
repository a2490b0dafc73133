use Rattle.otp_words.proofs.LawLemmas.{says_of}
use Rattle.otp_words.proofs.laws.a_dictionary_is_its_lines.Goals as goal

pub returns : goal.returns
returns c = λ text. says_of text
