use Rattle.std.proofs.Common.{arith, ◌-◌, ◌∙◌}
use Rattle.smapd_queue.proofs.RoundLemmas.{round_all, round_lacked, round_none, round_unlogged, some_mapped}
use Rattle.smapd_queue.proofs.TurnLemmas.{so_far_more, so_far_room}
use Rattle.smapd_queue.proofs.queue.smapd_round_telling.Goals as goal

pub take_turn-requires-clause-room : goal.take_turn-requires-clause-room
take_turn-requires-clause-room g c = so_far_room c.args.turns c.loop-left.left c.loop-left.tally _ _ (omega (arith, c.ranges.turns.fits)) c.loop-left-test.true c.loop-left.invariant.0

pub loop-left-preserved : goal.loop-left-preserved
loop-left-preserved g c =
    let some = c.loop-left-test.true in (
      so_far_more c.args.turns c.loop-left.left (c.loop-left.left - 1) c.loop-left.tally c.take_turn.new.tally _ _ _ (omega (arith, some)) c.loop-left.invariant.0 c.in-Went.ensures.so,
      c.in-Went.ensures.many ∙ c.loop-left.invariant.1,
    )

pub returns-in-NoneFull : goal.returns-in-NoneFull
returns-in-NoneFull g c = rw c.well.ensures (round_none c.args.turns c.loop-left.left c.loop-left.tally c.take_turn.new.tally _ _ _ (some_mapped _ _ c.requires) c.loop-left-test.true c.loop-left.invariant.0 c.in-NoneFull.ensures.so)

pub returns-in-Unlogged : goal.returns-in-Unlogged
returns-in-Unlogged g c = rw c.unlogged.ensures (round_unlogged c.args.turns c.loop-left.left c.loop-left.tally c.take_turn.new.tally _ _ _ (some_mapped _ _ c.requires) c.loop-left-test.true c.loop-left.invariant.0 c.in-Unlogged.ensures.so)

pub returns-in-Lacked : goal.returns-in-Lacked
returns-in-Lacked g c = rw c.lacked.ensures (round_lacked c.args.turns c.loop-left.left c.loop-left.tally c.take_turn.new.tally _ _ _ (some_mapped _ _ c.requires) c.loop-left-test.true c.loop-left.invariant.0 c.in-Lacked.ensures.so)

pub returns : goal.returns
returns g c = rw c.well-2.ensures (round_all c.args.turns c.loop-left.left c.loop-left.tally _ _ (some_mapped _ _ c.requires) c.loop-left-test.false c.loop-left.invariant.0)
