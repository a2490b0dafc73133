use Rattle.ftp_lines.proofs.FirstLemmas.{is_first, stays}
use Rattle.ftp_lines.proofs.laws.replies.Goals as goal

pub returns-clause-stays : goal.returns-clause-stays
returns-clause-stays c = stays

pub returns-clause-first : goal.returns-clause-first
returns-clause-first c = is_first
