use Rattle.std.proofs.Common.{arith, ◌≡◌, ◌^◌, ◌++◌, List, length, refl, ap, sym, subst}
use mathlib.Core.List.{IsPrefix}
use Rattle.auth_events.specs.declared.entry.Entry.{Entry}
use Rattle.turn_lock.specs.Places.{AreWithin, Fill}
use Rattle.fwtk_serve.specs.Sessions.{Both}
use Rattle.fwtk_serve.proofs.ServingLemmas.{all_begin, all_have, all_served, all_taken, all_there, apart_left, begins_with, hands_done, none_out, own_after, settles_done, some_views, unput_after}
use Rattle.fwtk_serve.proofs.serving.serve_over.Goals as goal

pub serve_all-workers-requires-clause-ready : goal.serve_all-workers-requires-clause-ready
serve_all-workers-requires-clause-ready g c κs within =
    all_begin g.A.Acceptor.acceptor_view _ c.args.turns c.args.pool c.args.doors.items c.workers_of-workers.result.items c.args.passes.book.seen c.args.passes.mail.handed.home c.args.passes.mail.handed.began c.requires.passes.mail c.workers_of-workers.ensures.are

pub into_pass-mail-requires : goal.into_pass-mail-requires
into_pass-mail-requires g c =
    none_out c.args.turns c.args.passes c.workers_of-workers.new.passes (length c.args.doors.items) c.args.each c.new-seat.result c.serve_all-workers.new.seat _ _ _ _ _ _
    (record { mail = c.requires.mail; kept = c.workers_of-workers.ensures.less; pass = c.new-seat.ensures.pass; out = c.new-seat.ensures.out; hands = c.serve_all-workers.ensures.hands })

pub meet_all-doors-requires-clause-passes : goal.meet_all-doors-requires-clause-passes
meet_all-doors-requires-clause-passes g c κs within =
    own_after c.args.turns c.args.passes c.workers_of-workers.new.passes (length c.args.doors.items) c.args.each c.new-seat.result c.serve_all-workers.new.seat _ _ _ _ _ _
    (record { mail = c.requires.mail; kept = c.workers_of-workers.ensures.less; pass = c.new-seat.ensures.pass; out = c.new-seat.ensures.out; hands = c.serve_all-workers.ensures.hands })
    c.args.pool c.into_pass-mail.result c.workers_of-workers.ensures.own.book c.requires.passes.mail c.into_pass-mail.ensures

pub meet_all-doors-requires-clause-apart : goal.meet_all-doors-requires-clause-apart
meet_all-doors-requires-clause-apart g c κs within = apart_left c.args.turns c.args.passes c.workers_of-workers.new.passes (length c.args.doors.items) c.requires.first c.workers_of-workers.ensures.less

pub meet_all-doors-requires-clause-workers : goal.meet_all-doors-requires-clause-workers
meet_all-doors-requires-clause-workers g c κs within =
    all_have g.A.Acceptor.acceptor_view _ c.args.turns c.args.pool c.args.rules.now c.workers_of-workers.result.items c.serve_all-workers.result.items c.serve_all-workers.ensures.workers

pub meet_all-doors-requires-clause-doors : goal.meet_all-doors-requires-clause-doors
meet_all-doors-requires-clause-doors g c κs within =
    let many = all_there g.A.Acceptor.acceptor_view _ c.args.turns c.args.pool c.args.rules.now c.workers_of-workers.result.items c.serve_all-workers.result.items c.serve_all-workers.ensures.workers in
    omega (arith, many, c.workers_of-workers.ensures.len, c.requires.doors)

pub meet_all-doors-requires-clause-sessions : goal.meet_all-doors-requires-clause-sessions
meet_all-doors-requires-clause-sessions g c κs within =
    let many = all_there g.A.Acceptor.acceptor_view _ c.args.turns c.args.pool c.args.rules.now c.workers_of-workers.result.items c.serve_all-workers.result.items c.serve_all-workers.ensures.workers in
    omega (arith, many, c.workers_of-workers.ensures.len, c.requires.sessions)

pub returns-clause-begins : goal.returns-clause-begins
returns-clause-begins g c =
    let front : IsPrefix c.meet_all-doors.new.passes.book.seen c.close-keeper.result.1.items = subst (λ (s : List Entry). IsPrefix c.meet_all-doors.new.passes.book.seen s) (sym c.close-keeper.ensures.history) c.close.ensures.begins in
    begins_with c.args.turns (length c.args.doors.items) c.args.passes (record { book = c.workers_of-workers.new.passes.book; mail = c.into_pass-mail.result }) c.meet_all-doors.new.passes _ c.close-keeper.result.1.items
    (ap (λ (both : Both). both.book) c.workers_of-workers.ensures.less) c.meet_all-doors.ensures.met front

pub returns-clause-doors : goal.returns-clause-doors
returns-clause-doors g c =
    let history = c.close-keeper.ensures.history in
    let front : IsPrefix c.meet_all-doors.new.passes.book.seen c.close-keeper.result.1.items = subst (λ (s : List Entry). IsPrefix c.meet_all-doors.new.passes.book.seen s) (sym history) c.close.ensures.begins in
    let unput = unput_after c.args.turns c.args.passes c.workers_of-workers.new.passes (length c.args.doors.items) c.args.each c.new-seat.result c.serve_all-workers.new.seat _ _ _ _ _ _
    (record { mail = c.requires.mail; kept = c.workers_of-workers.ensures.less; pass = c.new-seat.ensures.pass; out = c.new-seat.ensures.out; hands = c.serve_all-workers.ensures.hands })
    c.into_pass-mail.result c.into_pass-mail.ensures in
    all_served
    g.A.Acceptor.acceptor_view
    _
    c.args.turns
    c.args.pool
    c.args.rules.now
    c.args.doors.items
    c.workers_of-workers.result.items
    c.serve_all-workers.result.items
    c.args.passes
    c.workers_of-workers.new.passes
    (record { book = c.workers_of-workers.new.passes.book; mail = c.into_pass-mail.result })
    c.meet_all-doors.new.passes
    c.close-keeper.result.1.items
    _
    _
    _
    _
    c.requires.first
    c.requires.begun
    c.requires.few
    c.workers_of-workers.ensures.are
    c.serve_all-workers.ensures.workers
    c.workers_of-workers.ensures.less
    refl
    unput
    c.meet_all-doors.ensures.met
    front
    (subst (λ (s : List Entry). AreWithin c.args.turns.begun (length s) (c.meet_all-doors.new.passes.book.mine ++ c.meet_all-doors.new.passes.book.met)) (sym history) c.close.ensures.within)
    (subst (λ (s : List Entry). c.meet_all-doors.new.passes.book.parts ≡ 2 ^ 64 → Fill c.args.turns.begun (length s) (c.meet_all-doors.new.passes.book.mine ++ c.meet_all-doors.new.passes.book.met)) (sym history) c.close.ensures.whole)
    c.meet_all-doors.ensures.doors
    c.meet_all-doors.ensures.sessions
    c.meet_all-doors.ensures.short
    c.close-rack.ensures.pass

pub returns-clause-hands : goal.returns-clause-hands
returns-clause-hands g c =
    let took = all_taken
    g.A.Acceptor.acceptor_view
    _
    c.args.turns
    c.args.pool
    c.args.rules.now
    c.args.doors.items
    c.workers_of-workers.result.items
    c.serve_all-workers.result.items
    c.args.passes.book.seen
    c.args.passes.mail.handed.home
    c.args.passes.mail.handed.began
    (record { book = c.workers_of-workers.new.passes.book; mail = c.into_pass-mail.result })
    c.meet_all-doors.new.passes
    c.workers_of-workers.ensures.are
    c.serve_all-workers.ensures.workers
    c.meet_all-doors.ensures.met in
    hands_done c.args.turns c.args.passes c.workers_of-workers.new.passes (length c.args.doors.items) c.args.each c.new-seat.result c.serve_all-workers.new.seat _ _ _ _ _ _
    (record { mail = c.requires.mail; kept = c.workers_of-workers.ensures.less; pass = c.new-seat.ensures.pass; out = c.new-seat.ensures.out; hands = c.serve_all-workers.ensures.hands })
    c.into_pass-mail.result c.meet_all-doors.new.passes.mail c.close-rack.result.1
    (omega (arith, c.ranges.each.fits)) c.none-sums.ensures (some_views _ _ c.requires.some) c.into_pass-mail.ensures took c.close-rack.ensures.pass

pub returns-clause-settles : goal.returns-clause-settles
returns-clause-settles g c =
    let took = all_taken
    g.A.Acceptor.acceptor_view
    _
    c.args.turns
    c.args.pool
    c.args.rules.now
    c.args.doors.items
    c.workers_of-workers.result.items
    c.serve_all-workers.result.items
    c.args.passes.book.seen
    c.args.passes.mail.handed.home
    c.args.passes.mail.handed.began
    (record { book = c.workers_of-workers.new.passes.book; mail = c.into_pass-mail.result })
    c.meet_all-doors.new.passes
    c.workers_of-workers.ensures.are
    c.serve_all-workers.ensures.workers
    c.meet_all-doors.ensures.met in
    settles_done c.args.turns c.args.passes c.workers_of-workers.new.passes (length c.args.doors.items) c.args.each c.new-seat.result c.serve_all-workers.new.seat _ _ _ _ _ _
    (record { mail = c.requires.mail; kept = c.workers_of-workers.ensures.less; pass = c.new-seat.ensures.pass; out = c.new-seat.ensures.out; hands = c.serve_all-workers.ensures.hands })
    c.into_pass-mail.result c.meet_all-doors.new.passes.mail c.close-rack.result.1 c.close-rack.result.0
    c.requires.few c.into_pass-mail.ensures took c.close-rack.ensures.pass c.close-rack.ensures.settled
