use Rattle.std.proofs.Common.{◌≡◌, length}
use Rattle.std.specs.Str.Lines.{lines}
use Rattle.otp_words.specs.Dictionary.{dictionary_of, words_then}
use Rattle.otp_words.proofs.dictionary.read_lines.Given as goal

abbrev pub invariant-loop-line : goal.invariant-loop-line
invariant-loop-line l = dictionary_of l.text ≡ words_then l.list (lines l.rest)

abbrev pub decreases-loop-line : goal.decreases-loop-line
decreases-loop-line l = length l.rest
