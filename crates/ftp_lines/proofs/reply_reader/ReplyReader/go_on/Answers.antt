use Rattle.ftp_lines.proofs.ReaderStateLemmas.{stands_on}
use Rattle.ftp_lines.proofs.reply_reader.ReplyReader.go_on.Goals as goal

pub invariant_of-self : goal.invariant_of-self
invariant_of-self c =
    stands_on c.self.inside.fed.value c.and.result.value c.self.inside.opening c.self.inside.line c.go_on.new.self c.args.byte c.requires c.self.invariant c.go_on.ensures
    (rw c.replace.ensures.value at c.and.ensures)

pub returns-clause-unended : goal.returns-clause-unended
returns-clause-unended c = let stands = invariant_of-self c in stands.going_on
