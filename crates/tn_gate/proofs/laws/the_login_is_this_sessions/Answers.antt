use Rattle.tn_gate.proofs.LoginLemmas.{held_login, whole_login}
use Rattle.tn_gate.proofs.laws.the_login_is_this_sessions.Goals as goal

pub returns-clause-own : goal.returns-clause-own
returns-clause-own g c =
    λ gate old new ending held none entered asks before after deed dest is calls. held_login gate old new ending held none entered asks before after deed dest is calls

pub returns-clause-whole : goal.returns-clause-whole
returns-clause-whole g c =
    λ gate old new ending held none empty all asks before after deed dest is calls. whole_login gate old new ending held none empty all asks before after deed dest is calls
