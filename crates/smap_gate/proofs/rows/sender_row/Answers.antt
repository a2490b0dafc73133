use Rattle.std.proofs.Common.{ap, List, ℕ}
use Rattle.smap_gate.specs.declared.place.Place.TheVariants.{Mailing}
use Rattle.smap_gate.proofs.RowLemmas.{tells_at}
use Rattle.smap_gate.proofs.rows.sender_row.Goals as goal

pub returns-in-Ok-clause-ran : goal.returns-in-Ok-clause-ran
returns-in-Ok-clause-ran g c = rw c.in-Ok.is (tells_at (ap (λ (r : List (List ℕ)). Mailing c.in-Ok.sender r) c.new-rcpts.ensures) c.tell_at.ensures.ran)

pub returns-in-Err-clause-ran : goal.returns-in-Err-clause-ran
returns-in-Err-clause-ran g c = rw c.in-Err.is c.fault_row.ensures.ran
