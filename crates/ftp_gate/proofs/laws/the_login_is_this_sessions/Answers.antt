use Rattle.ftp_gate.proofs.OwnLemmas.{held_login, whole_login}
use Rattle.ftp_gate.proofs.laws.the_login_is_this_sessions.Goals as goal

pub returns-clause-own : goal.returns-clause-own
returns-clause-own g c = λ gate old new ending held none entered before after deed is outward needs. held_login gate old new ending held none entered before after deed is outward needs

pub returns-clause-whole : goal.returns-clause-whole
returns-clause-whole g c =
    λ gate old new ending held none empty all before after deed is outward needs. whole_login gate old new ending held none empty all before after deed is outward needs
