use Rattle.std.proofs.Common.{arith}
use Rattle.byte_reader.proofs.NumberLemmas.{all_bytes}
use Rattle.spool_slots.proofs.FillingLemmas.{has_held}
use Rattle.spool_slots.proofs.adding.hold.Goals as goal

pub returns-clause-added : goal.returns-clause-added
returns-clause-added g c =
    has_held c.args.piece.now c.args.pen.now c.hold.new.self (g.D.Disk.disk_view c.args.disk.now) (all_bytes c.args.piece.now (λ i. omega (arith, c.type_inv.piece i))) c.requires.small c.requires.filling c.hold.ensures
