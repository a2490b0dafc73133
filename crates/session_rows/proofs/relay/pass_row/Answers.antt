use Rattle.std.proofs.Common.{refl, sym, ◌∙◌}
use Rattle.fw_acts.proofs.RanLemmas.{ran_here}
use Rattle.session_acts.proofs.Acting.{did}
use Rattle.session_rows.proofs.relay.pass_row.Goals as goal

pub returns : goal.returns
returns g c = record { ran = rw (sym (c.as_slice.ensures.value ∙ c.ended-text.ensures)) (did c.in_ok-pass.ensures (ran_here (refl, refl))) }
