use Rattle.std.proofs.Common.{subst, IfSome}
use Rattle.acceptors.proofs.MemAcceptorLemmas.{coming, first_gives, one_came}
use Rattle.acceptors.specs.MemAcceptorView.{GivesFirst, MemAcceptorView, came_of}
use Rattle.acceptors.proofs.mem_acceptor.MemAcceptor.pop.Goals as goal

pub invariant_of-self : goal.invariant_of-self
invariant_of-self c =
    let i = c.self.inside in
    let m : MemAcceptorView = record {
      callers = i.callers.items;
      fails = i.fails;
      calls = i.calls;
      handed = came_of i.all.value.items i.callers.items;
      took = i.took.items;
      over = i.over;
      ends = i.ends;
      faults = i.faults;
    } in
    one_came c.pop_front.result m i.all.value.items i.callers.items c.pop_front.new.self.items _ c.pop_front.ensures.items c.self.invariant.0 c.self.invariant.1

pub returns-clause-first : goal.returns-clause-first
returns-clause-first c =
    let i = c.self.inside in
    let m : MemAcceptorView = record {
      callers = i.callers.items;
      fails = i.fails;
      calls = i.calls;
      handed = came_of i.all.value.items i.callers.items;
      took = i.took.items;
      over = i.over;
      ends = i.ends;
      faults = i.faults;
    } in
    subst (λ (old : MemAcceptorView). IfSome c.pop_front.result (λ caller. GivesFirst caller old (coming m i.all.value.items c.pop_front.new.self.items))) c.self.view_is
    (first_gives c.pop_front.result m i.all.value.items i.callers.items c.pop_front.new.self.items c.pop_front.ensures.items c.self.invariant.0.in_order)
