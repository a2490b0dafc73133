use Rattle.std.proofs.Common.{◌≡◌, List, drop, ap, subst, sym}
use Rattle.spool_rack.specs.Opening.{HeldView}
use Rattle.spool_rack.specs.Room.{QueueView}
use Rattle.spool_rack.proofs.ClosingLemmas.{IsMade, made_first, made_next, all_poured}
use Rattle.spool_rack.proofs.closing.pour.Goals as goal

pub loop-slot-init : goal.loop-slot-init
loop-slot-init g c = made_first g.row.S.Denot HeldView HeldView g.S.Apart.held_view (λ h. h) c.args.from.items c.args.held.now c.requires

pub loop-slot-preserved : goal.loop-slot-preserved
loop-slot-preserved g c =
    let S = g.row.S.Denot in
    let rest : c.pop.new.self.items ≡ drop 1 c.loop-slot.from.items = ap (λ (q : QueueView S). q.items) c.in-Some.ensures.rest in
    subst (λ (l : List S). IsMade S HeldView HeldView g.S.Apart.held_view (λ h. h) c.args.from.items l c.args.held.now c.push.new.self) (sym rest)
    (made_next S HeldView HeldView g.S.Apart.held_view (λ h. h) c.args.from.items c.loop-slot.from.items c.args.held.now c.loop-slot.held c.push.new.self c.in-Some.slot c.apart.result c.loop-slot.invariant c.in-Some.ensures.front c.apart.ensures c.push.ensures)

pub returns : goal.returns
returns g c = all_poured g.row.S.Denot HeldView g.S.Apart.held_view c.args.from.items c.loop-slot.from.items c.args.held.now c.loop-slot.held c.loop-slot.invariant c.in_default.ensures.front
