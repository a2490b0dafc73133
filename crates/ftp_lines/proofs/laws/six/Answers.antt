use Rattle.ftp_lines.proofs.SixLemmas.{found_first, found_quiet, read_written}
use Rattle.ftp_lines.proofs.SixPlaceLemmas.{is_leading, is_leftmost, leading_is, leftmost_is}
use Rattle.ftp_lines.proofs.laws.six.Goals as goal

pub returns-clause-read : goal.returns-clause-read
returns-clause-read c = read_written

pub returns-clause-found : goal.returns-clause-found
returns-clause-found c = found_first

pub returns-clause-quiet : goal.returns-clause-quiet
returns-clause-quiet c = found_quiet

pub returns-clause-begins : goal.returns-clause-begins
returns-clause-begins c = λ text six. (leading_is text six, is_leading text six)

pub returns-clause-leftmost : goal.returns-clause-leftmost
returns-clause-leftmost c = λ text six. (leftmost_is text six, is_leftmost text six)
