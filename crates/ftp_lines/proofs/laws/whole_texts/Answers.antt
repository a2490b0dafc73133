use Rattle.ftp_lines.proofs.FeedingLemmas.{fed_whole}
use Rattle.ftp_lines.proofs.HeardLemmas.{heard_whole}
use Rattle.ftp_lines.proofs.laws.whole_texts.Goals as goal

pub returns-clause-replies : goal.returns-clause-replies
returns-clause-replies c = fed_whole

pub returns-clause-lines : goal.returns-clause-lines
returns-clause-lines c = heard_whole
