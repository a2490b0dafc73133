use Rattle.std.proofs.Common.{◌≡◌, [], rules, ◌≢◌, Err}
use Rattle.netperm_table.specs.declared.table_fault.TableFault.TheVariants.{NoMemory}
use Rattle.netperm_table.specs.Progress.{AddsLine, Progress, table_with}
use Rattle.netperm_table.specs.Reading.{reading}
use Rattle.netperm_table.proofs.ProgressLemmas.{last_line, last_shows, passed_up}
use Rattle.netperm_table.proofs.reader.Reader.finish.Goals as goal

pub returns-in_err-read_and_keep-clause-fault : goal.returns-in_err-read_and_keep-clause-fault
returns-in_err-read_and_keep-clause-fault c =
    let inside = c.self.inside in
    let p : Progress = record { made = inside.made.items; number = inside.number; line = inside.line.items } in
    let e = c.in_err-read_and_keep.field-0.0 in
    passed_up (λ e. e ≢ NoMemory → table_with c.args.self [] ≡ Err e) c.from_residual.result e c.from_residual.ensures.1
    (λ some.
    let read : reading inside.number inside.line.items ≡ Err e = rw c.as_slice.ensures.value at (c.in_err-read_and_keep.ensures.err some) in
    rw (← c.self.view_is) (last_shows p e c.self.invariant.0 (search rules) read))

pub returns-clause-ok : goal.returns-clause-ok
returns-clause-ok c =
    let inside = c.self.inside in
    let p : Progress = record { made = inside.made.items; number = inside.number; line = inside.line.items } in
    let keeps : AddsLine inside.number inside.line.items inside.made.items c.read_and_keep.new.made.items = rw c.as_slice.ensures.value at c.in_ok-read_and_keep.ensures.ok in
    rw (← c.self.view_is) (last_line p c.read_and_keep.new.made.items c.self.invariant.0 (search rules) keeps)
