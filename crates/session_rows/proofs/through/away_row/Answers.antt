use Rattle.std.proofs.Common.{refl}
use Rattle.fw_acts.proofs.RanLemmas.{ran_here}
use Rattle.session_acts.proofs.Acting.{did}
use Rattle.session_rows.proofs.through.away_row.Goals as goal

pub returns-clause-ran : goal.returns-clause-ran
returns-clause-ran g c = λ form. did c.hang_up.ensures (ran_here (refl, refl))
