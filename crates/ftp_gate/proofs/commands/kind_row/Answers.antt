use Rattle.std.proofs.Common.{sym}
use Rattle.ftp_gate.proofs.commands.kind_row.Goals as goal

pub returns-in-Authorize : goal.returns-in-Authorize
returns-in-Authorize g c = rw (c.in-Authorize.is, sym c.arg.ensures.is) c.authorize_row.ensures

pub returns-in-Response : goal.returns-in-Response
returns-in-Response g c = rw (c.in-Response.is, sym c.arg-in-Response.ensures.is) c.response_row.ensures

pub returns-in-Outward : goal.returns-in-Outward
returns-in-Outward g c = rw c.in-Outward.is c.outward_row.ensures
