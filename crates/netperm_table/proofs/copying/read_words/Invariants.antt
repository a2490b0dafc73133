use Rattle.std.proofs.Common.{◌≡◌, length}
use Rattle.netperm_table.specs.Words.{words_of}
use Rattle.netperm_table.proofs.WordLemmas.{words_then}
use Rattle.netperm_table.proofs.copying.read_words.Given as goal

abbrev pub invariant-loop-words : goal.invariant-loop-words
invariant-loop-words l = words_then l.words (words_of l.rest) ≡ words_of l.bytes

abbrev pub decreases-loop-words : goal.decreases-loop-words
decreases-loop-words l = length l.rest
