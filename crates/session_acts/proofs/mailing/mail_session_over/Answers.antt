use Rattle.std.proofs.Common.{false, rules}
use Rattle.session_acts.proofs.CauseLemmas.{session_caused, session_keeps}
use Rattle.session_acts.proofs.SpentLemmas.{session_spent}
use Rattle.session_acts.proofs.WaitedLemmas.{session_waited}
use Rattle.session_acts.proofs.mailing.mail_session_over.Goals as goal

pub returns-clause-keeps : goal.returns-clause-keeps
returns-clause-keeps g c =
    session_keeps {rows = g.T.Script.rows c.args.script.now g.row.P-Origin.Denot} {first = g.T.Script.first c.args.script.now g.row.P-Origin.Denot} {ending = c.session_at.result} (search rules)

pub returns-clause-caused : goal.returns-clause-caused
returns-clause-caused g c =
    session_caused {relays = false} {rows = g.T.Script.rows c.args.script.now g.row.P-Origin.Denot} {first = g.T.Script.first c.args.script.now g.row.P-Origin.Denot} {ending = c.session_at.result} (search rules)

pub returns-clause-spent : goal.returns-clause-spent
returns-clause-spent g c =
    session_spent {relays = false} {rows = g.T.Script.rows c.args.script.now g.row.P-Origin.Denot} {first = g.T.Script.first c.args.script.now g.row.P-Origin.Denot} {ending = c.session_at.result} (search rules)

pub returns-clause-waited : goal.returns-clause-waited
returns-clause-waited g c =
    session_waited {relays = false} {rows = g.T.Script.rows c.args.script.now g.row.P-Origin.Denot} {first = g.T.Script.first c.args.script.now g.row.P-Origin.Denot} {ending = c.session_at.result} (search rules)
