use Rattle.std.proofs.Common.{◌≡◌, [], ◌∷◌, ◌≢◌, Err, refl}
use Rattle.std.specs.Str.Lines.{strip_carriage_return}
use Rattle.netperm_table.specs.declared.table_fault.TableFault.TheVariants.{NoMemory}
use Rattle.netperm_table.specs.Progress.{AddsLine, Progress, ShowsFault}
use Rattle.netperm_table.specs.Reading.{reading}
use Rattle.netperm_table.proofs.ProgressLemmas.{line_ended, line_shows, passed_up}
use Rattle.netperm_table.proofs.reader.Reader.end_line.Goals as goal

pub returns-in_err-read_and_keep-clause-fault : goal.returns-in_err-read_and_keep-clause-fault
returns-in_err-read_and_keep-clause-fault c =
    let inside = c.self.inside in
    let p : Progress = record { made = inside.made.items; number = inside.number; line = inside.line.items } in
    let e = c.in_err-read_and_keep.field-0.0 in
    passed_up (λ e. e ≢ NoMemory → ShowsFault c.args.self.now (10 ∷ []) e) c.from_residual.result e c.from_residual.ensures.1
    (λ some.
    let read : reading inside.number (strip_carriage_return inside.line.items) ≡ Err e = rw (c.without_return-line.ensures, c.as_slice.ensures.value) at (c.in_err-read_and_keep.ensures.err some) in
    rw (← c.self.view_is) (line_shows p e c.self.invariant.0 read))

pub returns-clause-ok : goal.returns-clause-ok
returns-clause-ok c =
    let inside = c.self.inside in
    let p : Progress = record { made = inside.made.items; number = inside.number; line = inside.line.items } in
    let made = c.read_and_keep.new.made.items in
    let keeps : AddsLine inside.number (strip_carriage_return inside.line.items) inside.made.items made = rw (c.without_return-line.ensures, c.as_slice.ensures.value) at c.in_ok-read_and_keep.ensures.ok in
    rw (← c.self.view_is) (line_ended p _ c.self.invariant.0 keeps refl c.clear.ensures)
