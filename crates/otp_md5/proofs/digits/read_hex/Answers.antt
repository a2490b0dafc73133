use Rattle.std.proofs.Common.{◌∙◌, ap}
use Rattle.otp_md5.specs.Hexadecimal.{unblanked, hex_word_of}
use Rattle.otp_md5.proofs.DigitLemmas.{some_word}
use Rattle.otp_md5.proofs.digits.read_hex.Goals as goal

pub returns-in-Some-clause-some : goal.returns-in-Some-clause-some
returns-in-Some-clause-some c = some_word (unblanked c.args.text.now) c.read_digits.result (c.read_digits.ensures ∙ ap hex_word_of (c.as_slice.ensures.value ∙ c.in-Some.ensures.some))
