use Rattle.smap_gate.proofs.SessionLemmas.{as_gate, at_nowhere, exact, never, over_lent, own_by}
use Rattle.smap_gate.specs.Dialogue.{smap_row, smap_rows}
use Rattle.session_acts.specs.Causes.{SessionKeeps, WaitsFor}
use Rattle.session_acts.specs.Serverless.{TakesExactly}
use Rattle.session_acts.specs.Session.{Session}
use Rattle.smap_gate.proofs.session.smap_session.Goals as goal

pub returns-clause-session : goal.returns-clause-session
returns-clause-session g c =
    as_gate c.new-script.ensures
    (at_nowhere (λ old new. Session (smap_rows c.new-script.result) smap_row old new c.mail_session_over.result) c.new-script.result _ _ c.mail_session_over.result c.mail_session_over.ensures.session c.new-dialer.ensures c.mail_session_over.ensures.session)

pub returns-clause-keeps : goal.returns-clause-keeps
returns-clause-keeps g c =
    at_nowhere (λ old new. SessionKeeps old new) c.new-script.result _ _ c.mail_session_over.result c.mail_session_over.ensures.session c.new-dialer.ensures c.mail_session_over.ensures.keeps

pub returns-clause-caused : goal.returns-clause-caused
returns-clause-caused g c = over_lent c.new-script.result _ _ c.mail_session_over.result c.mail_session_over.ensures.session c.new-dialer.ensures

pub returns-clause-waited : goal.returns-clause-waited
returns-clause-waited g c =
    at_nowhere (λ old new. WaitsFor c.mail_session_over.result old new) c.new-script.result _ _ c.mail_session_over.result c.mail_session_over.ensures.session c.new-dialer.ensures c.mail_session_over.ensures.waited

pub returns-clause-spent : goal.returns-clause-spent
returns-clause-spent g c =
    at_nowhere (λ old new. TakesExactly c.mail_session_over.result old new) c.new-script.result _ _ c.mail_session_over.result c.mail_session_over.ensures.session c.new-dialer.ensures (exact c.new-script.result _ _ c.mail_session_over.result c.mail_session_over.ensures.session)

pub returns-clause-own : goal.returns-clause-own
returns-clause-own g c =
    own_by c.mail_session_over.result _ _ (over_lent c.new-script.result _ _ c.mail_session_over.result c.mail_session_over.ensures.session c.new-dialer.ensures) never
