use Rattle.ftp_gate.proofs.KnownLemmas.{login_known}
use Rattle.ftp_gate.proofs.laws.a_login_is_told_by_the_talk.Goals as goal

pub returns : goal.returns
returns c = λ gate deeds. login_known gate deeds
