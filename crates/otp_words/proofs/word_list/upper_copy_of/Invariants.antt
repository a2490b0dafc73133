use Rattle.std.proofs.Common.{◌≡◌, take}
use Rattle.std.specs.Str.{str_to_ascii_uppercase}
use Rattle.otp_words.proofs.word_list.upper_copy_of.Given as goal

abbrev pub invariant-loop-byte : goal.invariant-loop-byte
invariant-loop-byte l = l.word.items ≡ str_to_ascii_uppercase (take l.byte-index l.text)
