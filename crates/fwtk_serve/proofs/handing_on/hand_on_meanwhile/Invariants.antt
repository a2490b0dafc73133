use Rattle.std.proofs.Common.{◌≡◌, length, map}
use Rattle.spool_pool.specs.Known.{store_of}
use Rattle.fwtk_serve.specs.Clerks.{HandsMore, clerk_with}
use Rattle.fwtk_serve.proofs.handing_on.hand_on_meanwhile.Given as goal

abbrev pub invariant-loop : goal.invariant-loop
invariant-loop g l =
    HandsMore l.fn.each
    (clerk_with (store_of l.fn.seat) (map (λ m. (g.dyn-1.0.entry m.vtable).1.mailer_view m.value) l.fn.mailers.items) (g.G.Sink.sink_view l.fn.logs) l.fn.sums)
    (clerk_with (store_of l.seat) (map (λ m. (g.dyn-1.0.entry m.vtable).1.mailer_view m.value) l.mailers.items) (g.G.Sink.sink_view l.logs) l.sums)
    × (length l.mailers.items ≡ length l.fn.mailers.items)
