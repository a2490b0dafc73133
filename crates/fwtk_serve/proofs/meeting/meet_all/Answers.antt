use Rattle.std.proofs.Common.{arith, List, ap, subst, sym, ◌∙◌, length, map}
use Rattle.fwtk_serve.specs.Meeting.{WorkerView, passes_of}
use Rattle.fwtk_serve.specs.Passes.{MeetAll}
use Rattle.fwtk_serve.specs.Stepping.{gathered_with, workers_short}
use Rattle.fwtk_serve.proofs.GatheringLemmas.{gather_all, gather_more, gather_none, next_has}
use Rattle.fwtk_serve.proofs.meeting.meet_all.Goals as goal

pub loop-worker-init : goal.loop-worker-init
loop-worker-init g c =
    let room = c.args.room in
    let none = c.requires.none in
    let left = c.from_vec-left in
    let sized = left.ensures.len ∙ c.args.workers.ok.0 in
    let fits_doors = c.requires.doors in
    let fits_sessions = c.requires.sessions in
    gather_none _ _ _ _ _ _ _ _ _ _ _ _ c.requires.passes c.requires.apart c.requires.workers left.ensures.items
    (λ i. gathered_with (map g.A.Acceptor.acceptor_view (none.0 i)) (map (λ s. s.items) (none.1 i)) (none.2 i))
    (room.doors.ok.0 ∙ ap (λ l. length l) none.0) (room.sessions.ok.0 ∙ ap (λ l. length l) none.1)
    (sized ∙ ap (λ l. length l) (sym left.ensures.items)) (omega (arith, sized, fits_doors)) (omega (arith, sized, fits_sessions))

pub gather_one-requires-clause-worker : goal.gather_one-requires-clause-worker
gather_one-requires-clause-worker g c lifetimes outlive = next_has _ _ _ _ _ _ _ _ _ _ _ _ _ _ _ c.loop-worker.invariant c.in-Some.ensures.items

pub loop-worker-preserved : goal.loop-worker-preserved
loop-worker-preserved g c =
    let one = c.gather_one.ensures in
    gather_more _ _ _ _ _ _ _ _ _ _ _ _ _ _ _ _ _ _ _ _ _ _ c.loop-worker.invariant c.in-Some.ensures.items one.met one.own one.gathered one.door_len one.session_len c.in-Some.ensures.cases one.door_room one.session_room

pub returns : goal.returns
returns g c =
    let h = c.loop-worker.invariant in
    let all = gather_all _ _ _ _ _ _ _ _ _ _ _ _ _ h c.in_default.ensures.cases.0 in
    record {
      met = subst (λ (done : List WorkerView). MeetAll c.args.turns.now (passes_of done) c.args.passes.now c.loop-worker.passes) all h.met;
      own = h.own;
      doors = h.doors_are ∙ ap (λ (done : List WorkerView). map (λ (w : WorkerView). w.door) done) all;
      sessions = h.sessions_are ∙ ap (λ (done : List WorkerView). map (λ (w : WorkerView). w.sessions) done) all;
      short = h.short_is ∙ ap (λ (done : List WorkerView). workers_short done) all;
    }
