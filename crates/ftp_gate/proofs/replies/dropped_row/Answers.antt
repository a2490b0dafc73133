use Rattle.std.proofs.Common.{refl, sym, ◌∙◌}
use Rattle.fw_acts.proofs.RanLemmas.{ran_here}
use Rattle.ftp_gate.proofs.replies.dropped_row.Goals as goal

pub returns-then-goes_on-clause-ran : goal.returns-then-goes_on-clause-ran
returns-then-goes_on-clause-ran g c = rw (sym c.goes_on.ensures ∙ c.if-goes_on.true) (ran_here (refl, refl))

pub returns-clause-ran : goal.returns-clause-ran
returns-clause-ran g c = rw (sym c.goes_on.ensures ∙ c.if-goes_on.false) c.early_row.ensures.ran
