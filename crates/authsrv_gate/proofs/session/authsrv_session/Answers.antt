use Rattle.authsrv_gate.proofs.SessionLemmas.{at_nowhere, exact, never, over_lent, own_by}
use Rattle.authsrv_gate.specs.Dialogue.{rows, session_row}
use Rattle.session_acts.specs.Causes.{SessionKeeps, WaitsFor}
use Rattle.session_acts.specs.Serverless.{TakesExactly}
use Rattle.session_acts.specs.Session.{Session}
use Rattle.authsrv_gate.proofs.session.authsrv_session.Goals as goal

pub returns-clause-session : goal.returns-clause-session
returns-clause-session g c =
    at_nowhere (λ old new. Session rows (session_row c.args.console) old new c.session_over.result) c.args.console _ _ c.session_over.result c.session_over.ensures.session c.new-dialer.ensures c.session_over.ensures.session

pub returns-clause-keeps : goal.returns-clause-keeps
returns-clause-keeps g c =
    at_nowhere (λ old new. SessionKeeps old new) c.args.console _ _ c.session_over.result c.session_over.ensures.session c.new-dialer.ensures c.session_over.ensures.keeps

pub returns-clause-caused : goal.returns-clause-caused
returns-clause-caused g c = over_lent c.args.console _ _ c.session_over.result c.session_over.ensures.session c.new-dialer.ensures

pub returns-clause-waited : goal.returns-clause-waited
returns-clause-waited g c =
    at_nowhere (λ old new. WaitsFor c.session_over.result old new) c.args.console _ _ c.session_over.result c.session_over.ensures.session c.new-dialer.ensures c.session_over.ensures.waited

pub returns-clause-spent : goal.returns-clause-spent
returns-clause-spent g c =
    at_nowhere (λ old new. TakesExactly c.session_over.result old new) c.args.console _ _ c.session_over.result c.session_over.ensures.session c.new-dialer.ensures (exact c.args.console _ _ c.session_over.result c.session_over.ensures.session)

pub returns-clause-own : goal.returns-clause-own
returns-clause-own g c =
    own_by c.session_over.result _ _ (over_lent c.args.console _ _ c.session_over.result c.session_over.ensures.session c.new-dialer.ensures) never
