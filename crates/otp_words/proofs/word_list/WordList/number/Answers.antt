use Rattle.std.proofs.Common.{sym}
use Rattle.otp_words.proofs.ListLemmas.{long_missing}
use Rattle.otp_words.proofs.word_list.WordList.number.Goals as goal

pub returns-then-word-gt4-clause-number : goal.returns-then-word-gt4-clause-number
returns-then-word-gt4-clause-number c = rw (← c.self.view_is) (sym (long_missing _ c.args.word.now c.self.invariant.1 c.if-word-gt4.true))
