use Rattle.std.proofs.Common.{sym, ◌∙◌}
use Rattle.telnet_hearing.proofs.HearingLemmas.{byte_nearer}
use Rattle.session_acts.proofs.ReplyReadLemmas.{came_stop, came_whole, coming_more, coming_none, ends_step, not_last}
use Rattle.session_acts.proofs.replying.drop_rest.Goals as goal

pub loop-byte-init : goal.loop-byte-init
loop-byte-init g c = coming_none _ c.args.reader.now (g.I.Source.source_view c.args.from.now) c.requires

pub loop-byte-smaller : goal.loop-byte-smaller
loop-byte-smaller g c = byte_nearer c.in-Ok.byte _ _ _ _ c.in-Ok.ensures.reads

pub loop-byte-preserved : goal.loop-byte-preserved
loop-byte-preserved g c =
    coming_more _ _ _ c.in-Ok.byte c.feed-step.result _ _ _ _ _ _ c.loop-byte.invariant c.in-Ok.ensures.reads (not_last c.feed-step.result (sym c.last_code.ensures ∙ c.in-None.is)) c.feed-step.ensures.fed c.feed-step.ensures.unended

pub returns-in-Some : goal.returns-in-Some
returns-in-Some g c = λ outlet.
    rw c.six_in-six.ensures (came_whole _ _ c.in-Ok.byte c.in-Some.code c.feed-step.new.self.heard _ _ _ _ _ _ outlet c.loop-byte.invariant c.in-Ok.ensures.reads c.in-Ok.ensures.near (ends_step _ c.in-Ok.byte c.in-Some.code _ c.feed-step.result (sym c.last_code.ensures ∙ c.in-Some.is) c.feed-step.ensures.step c.feed-step.ensures.reply c.feed-step.ensures.line))

pub returns-in-Err : goal.returns-in-Err
returns-in-Err g c = λ outlet. rw c.miss_of.ensures (came_stop c.in-Err.stop _ _ _ _ _ _ _ _ outlet c.loop-byte.invariant c.in-Err.ensures.reads c.in-Err.ensures.near)
