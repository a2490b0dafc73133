use Rattle.std.proofs.Common.{arith, ap, sym, ◌∙◌, length}
use Rattle.fwtk_serve.proofs.GatheringLemmas.{as_many, begin_all, begin_more, begin_none, left_all}
use Rattle.fwtk_serve.proofs.starting.workers_of.Goals as goal

pub loop-door-init : goal.loop-door-init
loop-door-init g c =
    let none = c.requires.none in
    let left = c.from_vec-left in
    let sized = left.ensures.len ∙ c.args.doors.ok.0 in
    let fits = c.requires.room in
    let turns = c.requires.turns in
    let parts = c.requires.parts in
    begin_none _ _ _ _ _ _ _ _ _ _ _ c.requires.passes left.ensures.items none (c.args.room.ok.0 ∙ ap (λ l. length l) none)
    (sized ∙ ap (λ l. length l) (sym left.ensures.items)) (omega (arith, sized, fits)) (omega (arith, sized, turns)) (omega (arith, sized, parts))

pub loop-door-preserved : goal.loop-door-preserved
loop-door-preserved g c =
    let one = c.begin_one.ensures in
    begin_more _ _ _ _ _ _ _ _ _ _ _ _ _ _ _ _ _ _ _ c.loop-door.invariant c.in-Some.ensures.items one.begun one.less one.own one.len c.in-Some.ensures.cases one.capacity

pub returns : goal.returns
returns g c =
    let h = c.loop-door.invariant in
    let over = c.in_default.ensures.cases.0 in
    let all = begin_all _ _ _ _ _ _ _ _ _ _ _ _ h over in
    record {
      less = left_all _ _ _ _ _ _ _ _ _ _ _ _ h over c.loop-door.workers.ok.0;
      own = h.own;
      are = all;
      len = as_many _ _ _ _ all;
    }
