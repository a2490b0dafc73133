use Rattle.std.proofs.Common.{◌≡◌, length, map}
use Rattle.smapd_queue.specs.Meeting.{meeting_with}
use Rattle.smapd_queue.specs.Steps.{IsSoFar}
use Rattle.smapd_queue.proofs.queue.smapd_round_telling.Given as goal

abbrev pub invariant-loop-left : goal.invariant-loop-left
invariant-loop-left g l =
    IsSoFar l.fn.turns l.left l.tally
    (meeting_with (g.M-SlotStore.store_view l.fn.store) (map (λ m. (g.dyn-1.0.entry m.vtable).1.mailer_view m.value) l.fn.mailers.items) (g.G.Sink.sink_view l.fn.logs))
    (meeting_with (g.M-SlotStore.store_view l.store) (map (λ m. (g.dyn-1.0.entry m.vtable).1.mailer_view m.value) l.mailers.items) (g.G.Sink.sink_view l.logs))
    × (length l.mailers.items ≡ length l.fn.mailers.items)

abbrev pub decreases-loop-left : goal.decreases-loop-left
decreases-loop-left g l = l.left
