use Rattle.std.proofs.Common.{refl, sym}
use Rattle.fw_acts.proofs.RanLemmas.{ran_here}
use Rattle.ftp_gate.proofs.commands.heard_row.Goals as goal

pub returns-in-Line-clause-ran : goal.returns-in-Line-clause-ran
returns-in-Line-clause-ran g c = rw (c.in-Line.is, sym c.as_slice.ensures.value, sym c.read.ensures) c.command_row.ensures

pub returns-in-TooLong-clause-ran : goal.returns-in-TooLong-clause-ran
returns-in-TooLong-clause-ran g c = rw c.in-TooLong.is c.command_row-in-TooLong.ensures

pub returns-in-Stopped-clause-ran : goal.returns-in-Stopped-clause-ran
returns-in-Stopped-clause-ran g c = rw c.in-Stopped.is (ran_here (refl, refl))
