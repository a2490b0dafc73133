use Rattle.std.proofs.Common.{◌≡◌, ◌+◌, ◌-◌, ◌≤◌, arith, refl, rules}
use Rattle.std.proofs.lemmas.List.{take-append-le}
use Rattle.relay_ways.proofs.WayLemmas.{copies_cut, copies_none, lost_end}
use Rattle.relay_ways.proofs.copying.move_piece.Goals as goal

pub returns-in-Err-give-clause-copies : goal.returns-in-Err-give-clause-copies
returns-in-Err-give-clause-copies g c =
    let fits : c.in-Ok-Bytes.count ≤ c.args.left.now = search rules in
    let small : c.in-Ok-Bytes.count ≤ 4096 = search rules in
    let came = rw c.in-Ok-Bytes.field-0-is at c.in-Ok-Bytes.ensures in
    copies_cut c.in-Ok-Bytes.count c.args.left.now (c.args.left.now - c.in-Ok-Bytes.count) c.take.new.buf _ (g.S.Source.source_view c.args.from.now) (g.S.Source.source_view c.take.new.self) (g.K.Sink.sink_view c.args.to.now) (g.K.Sink.sink_view c.give.new.self) (omega (arith, fits)) small came c.in-Err-give.ensures (take-append-le _ _ _ came.fits)

pub returns-in-Ok-end-clause-copies : goal.returns-in-Ok-end-clause-copies
returns-in-Ok-end-clause-copies g c =
    let over = rw c.in-Ok-End.field-0-is at c.in-Ok-End.ensures in
    copies_none _ _ _ _ _ _ refl c.requires (refl, (over, c.in-Ok-end.ensures))

pub returns-in-Err-end-clause-copies : goal.returns-in-Err-end-clause-copies
returns-in-Err-end-clause-copies g c =
    let over = rw c.in-Ok-End.field-0-is at c.in-Ok-End.ensures in
    copies_none _ _ _ _ _ _ refl c.requires (lost_end _ _ _ _ over c.in-Err-end.ensures)

pub returns-in-Ok-Idle-clause-copies : goal.returns-in-Ok-Idle-clause-copies
returns-in-Ok-Idle-clause-copies g c =
    let idled = rw c.in-Ok-Idle.field-0-is at c.in-Ok-Idle.ensures in
    copies_none _ _ _ _ _ _ refl c.requires (refl, (idled, refl))

pub returns-in-Err-clause-copies : goal.returns-in-Err-clause-copies
returns-in-Err-clause-copies g c = copies_none _ _ _ _ _ _ refl c.requires (refl, (c.in-Err.ensures, refl))
