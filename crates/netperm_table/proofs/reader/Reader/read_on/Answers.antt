use Rattle.netperm_table.specs.Progress.{Progress}
use Rattle.netperm_table.proofs.ProgressLemmas.{many_lines}
use Rattle.netperm_table.proofs.reader.Reader.read_on.Goals as goal

pub returns-then-self-gt-LAST_LINE-clause-fault : goal.returns-then-self-gt-LAST_LINE-clause-fault
returns-then-self-gt-LAST_LINE-clause-fault c = λ _.
    let inside = c.self.inside in
    let p : Progress = record { made = inside.made.items; number = inside.number; line = inside.line.items } in
    rw (← c.self.view_is) (many_lines p c.args.bytes.now c.self.invariant.0 c.if-self-gt-LAST_LINE.true c.requires)
