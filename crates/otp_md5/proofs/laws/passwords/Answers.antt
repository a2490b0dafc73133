use Rattle.otp_md5.proofs.PasswordLemmas.{counted, later}
use Rattle.otp_md5.proofs.laws.passwords.Goals as goal

pub returns-clause-counted : goal.returns-clause-counted
returns-clause-counted c = counted

pub returns-clause-later : goal.returns-clause-later
returns-clause-later c = later
