use Rattle.std.proofs.Common.{true, rules}
use Rattle.session_acts.specs.Relayed.{relayed, then_relay}
use Rattle.session_acts.proofs.CauseLemmas.{session_caused, relay_keeps}
use Rattle.session_acts.proofs.SpentLemmas.{session_spent}
use Rattle.session_acts.proofs.WaitedLemmas.{session_waited}
use Rattle.session_acts.proofs.relayed.relayed_over.Goals as goal

pub returns-clause-keeps : goal.returns-clause-keeps
returns-clause-keeps g c =
    relay_keeps {rows = relayed (g.T.Script.rows c.args.script.now g.row.P-Origin.Denot)} {first = then_relay (g.T.Script.first c.args.script.now g.row.P-Origin.Denot)} {ending = c.relayed_with.result} (search rules)

pub returns-clause-caused : goal.returns-clause-caused
returns-clause-caused g c =
    session_caused {relays = true} {rows = relayed (g.T.Script.rows c.args.script.now g.row.P-Origin.Denot)} {first = then_relay (g.T.Script.first c.args.script.now g.row.P-Origin.Denot)} {ending = c.relayed_with.result} (search rules)

pub returns-clause-spent : goal.returns-clause-spent
returns-clause-spent g c =
    session_spent {relays = true} {rows = relayed (g.T.Script.rows c.args.script.now g.row.P-Origin.Denot)} {first = then_relay (g.T.Script.first c.args.script.now g.row.P-Origin.Denot)} {ending = c.relayed_with.result} (search rules)

pub returns-clause-waited : goal.returns-clause-waited
returns-clause-waited g c =
    session_waited {relays = true} {rows = relayed (g.T.Script.rows c.args.script.now g.row.P-Origin.Denot)} {first = then_relay (g.T.Script.first c.args.script.now g.row.P-Origin.Denot)} {ending = c.relayed_with.result} (search rules)
