use Rattle.std.proofs.Common.{arith}
use Rattle.spool_slots.proofs.EventLemmas.{runs_fill}
use Rattle.spool_slots.proofs.adding.fill.Goals as goal

pub returns-clause-runs : goal.returns-clause-runs
returns-clause-runs g c = λ k begun.
    runs_fill k c.args.at c.args.bytes.now c.write_at.result (g.D.Disk.disk_view c.args.disk.now) (g.D.Disk.disk_view c.write_at.new.self) begun c.requires.behind c.requires.within (λ i. omega (arith, c.type_inv.bytes i)) c.write_at.ensures
