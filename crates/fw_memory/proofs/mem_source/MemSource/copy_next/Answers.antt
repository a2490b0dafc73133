use Rattle.std.proofs.Common.{refl}
use Rattle.std.proofs.Math.Seq.{take-add}
use Rattle.std.proofs.lemmas.List.{drop-drop}
use Rattle.fw_memory.proofs.mem_source.MemSource.copy_next.Goals as goal

pub returns-clause-is : goal.returns-clause-is
returns-clause-is c =
    let front = take-add c.self.inside.at c.args.count c.self.inside.bytes in
    let back = drop-drop c.args.count c.self.inside.at c.self.inside.bytes in
    rw (← c.self.view_is) (rw (front, back) refl)
