use Rattle.std.proofs.Common.{ap}
use Rattle.auth_events.specs.Login.{is_ok}
use Rattle.ftp_gate.proofs.RowLemmas.{refused_as}
use Rattle.ftp_gate.proofs.destinations.operated_row.Goals as goal

pub returns-in-Ok : goal.returns-in-Ok
returns-in-Ok g c = rw c.in-Ok.is c.connect_row.ensures

pub returns-in-Denied : goal.returns-in-Denied
returns-in-Denied g c = refused_as c.args.script.now c.args.state c.args.name.now c.args.dest c.args.reply.now (ap is_ok c.in-Denied.is) c.unpermitted_row.ensures

pub returns-in-Opened : goal.returns-in-Opened
returns-in-Opened g c = refused_as c.args.script.now c.args.state c.args.name.now c.args.dest c.args.reply.now (ap is_ok c.in-Opened.is) c.unpermitted_row-in-Opened.ensures

pub returns-in-Password : goal.returns-in-Password
returns-in-Password g c = refused_as c.args.script.now c.args.state c.args.name.now c.args.dest c.args.reply.now (ap is_ok c.in-Password.is) c.unpermitted_row-in-Password.ensures

pub returns-in-Challenge : goal.returns-in-Challenge
returns-in-Challenge g c = refused_as c.args.script.now c.args.state c.args.name.now c.args.dest c.args.reply.now (ap is_ok c.in-Challenge.is) c.unpermitted_row-in-Challenge.ensures

pub returns-in-Shown : goal.returns-in-Shown
returns-in-Shown g c = refused_as c.args.script.now c.args.state c.args.name.now c.args.dest c.args.reply.now (ap is_ok c.in-Shown.is) c.unpermitted_row-in-Shown.ensures
