use Rattle.netperm_table.proofs.WordLemmas.{words_of-blanks, no_blank_first}
use Rattle.netperm_table.proofs.part.after_blanks.Goals as goal

pub returns-clause-words : goal.returns-clause-words
returns-clause-words c = rw (c.split_at.ensures.back, c.count_of_blanks.ensures.count) (words_of-blanks c.args.bytes.now)

pub returns-clause-begins : goal.returns-clause-begins
returns-clause-begins c = rw (c.split_at.ensures.back, c.count_of_blanks.ensures.count) (no_blank_first c.args.bytes.now)
