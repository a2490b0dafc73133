use Rattle.std.proofs.Common.{◌≡◌, List, drop, ap, subst, sym}
use Rattle.spool_slots.specs.declared.opening.Opened.{Opened}
use Rattle.spool_rack.specs.Room.{QueueView}
use Rattle.spool_rack.proofs.ShelfLemmas.{IsShelving, shelf_next, shelf_last}
use Rattle.spool_rack.proofs.shelving.shelve.Goals as goal

pub loop-slot-preserved : goal.loop-slot-preserved
loop-slot-preserved g c =
    let rest : c.pop.new.self.items ≡ drop 1 c.loop-slot.found.items = ap (λ (q : QueueView (Opened g.row.D.Denot)). q.items) c.in-Some.ensures.rest in
    subst (λ (l : List (Opened g.row.D.Denot)). IsShelving g.row.D.Denot c.args.found.items l c.args.shelves.now c.shelve_one.new.shelves) (sym rest)
    (shelf_next g.row.D.Denot c.args.found.items c.loop-slot.found.items c.args.shelves.now c.loop-slot.shelves c.shelve_one.new.shelves c.in-Some.slot c.loop-slot.invariant c.in-Some.ensures.front c.shelve_one.ensures)

pub returns : goal.returns
returns g c = shelf_last g.row.D.Denot c.args.found.items c.loop-slot.found.items c.args.shelves.now c.loop-slot.shelves c.loop-slot.invariant c.in_default.ensures.front
