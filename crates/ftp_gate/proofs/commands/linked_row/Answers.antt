use Rattle.std.proofs.Common.{sym}
use Rattle.ftp_gate.proofs.commands.linked_row.Goals as goal

pub returns-in-Port : goal.returns-in-Port
returns-in-Port g c = rw (c.in-Port.is, sym c.arg.ensures.is) c.port_row.ensures

pub returns-in-Pasv : goal.returns-in-Pasv
returns-in-Pasv g c = rw c.in-Pasv.is c.door_row.ensures

pub returns-in-Extended : goal.returns-in-Extended
returns-in-Extended g c = rw c.in-Extended.is c.tell_row.ensures

pub returns-in-Transfer : goal.returns-in-Transfer
returns-in-Transfer g c = rw c.in-Transfer.is c.transfer_row.ensures

pub returns-in-Quit : goal.returns-in-Quit
returns-in-Quit g c = rw c.in-Quit.is c.line_row.ensures

pub returns-in-Other : goal.returns-in-Other
returns-in-Other g c = rw c.in-Other.is c.line_row-in-Other.ensures
