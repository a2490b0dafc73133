use Rattle.std.proofs.Common.{refl, sym, ◌∙◌}
use Rattle.fw_acts.proofs.RanLemmas.{ran_here}
use Rattle.ftp_gate.proofs.copies.copied_row.Goals as goal

pub returns-then-is_done : goal.returns-then-is_done
returns-then-is_done g c = rw (sym c.is_done.ensures ∙ c.if-is_done.true) (ran_here (refl, refl))

pub returns : goal.returns
returns g c = rw (sym c.is_done.ensures ∙ c.if-is_done.false) (ran_here (refl, refl))
