use Rattle.std.proofs.Common.{refl}
use Rattle.fw_acts.proofs.RanLemmas.{ran_here}
use Rattle.smap_gate.proofs.mail.deposited_row.Goals as goal

pub returns-in-NoSlot-clause-ran : goal.returns-in-NoSlot-clause-ran
returns-in-NoSlot-clause-ran g c = rw c.in-NoSlot.is c.tell_at.ensures.ran

pub returns-in-NotBegun-clause-ran : goal.returns-in-NotBegun-clause-ran
returns-in-NotBegun-clause-ran g c = rw c.in-NotBegun.is c.tell_at-in-NotBegun.ensures.ran

pub returns-in-Kept-clause-ran : goal.returns-in-Kept-clause-ran
returns-in-Kept-clause-ran g c = rw c.in-Kept.is c.kept_row.ensures.ran

pub returns-in-TooLarge-clause-ran : goal.returns-in-TooLarge-clause-ran
returns-in-TooLarge-clause-ran g c = rw c.in-TooLarge.is c.tell_at-in-TooLarge.ensures.ran

pub returns-in-Faulted-clause-ran : goal.returns-in-Faulted-clause-ran
returns-in-Faulted-clause-ran g c = rw c.in-Faulted.is c.tell_at-in-Faulted.ensures.ran

pub returns-in-Ended-clause-ran : goal.returns-in-Ended-clause-ran
returns-in-Ended-clause-ran g c = rw c.in-Ended.is (ran_here (refl, refl))
