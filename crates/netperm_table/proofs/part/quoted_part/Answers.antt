use Rattle.std.proofs.Common.{sym}
use Rattle.netperm_table.proofs.WordLemmas.{quoted_word}
use Rattle.netperm_table.proofs.part.quoted_part.Goals as goal

pub returns-in-Some-clause-word : goal.returns-in-Some-clause-word
returns-in-Some-clause-word c = λ first quote.
    rw (c.in-Some.ensures.front, c.in-Some.ensures.back) (quoted_word first c.args.bytes.now quote (sym c.in-Some.ensures.is))
