use Rattle.std.proofs.Common.{refl, sym, ◌∙◌}
use Rattle.telnet_hearing.proofs.HearingLemmas.{byte_nearer}
use Rattle.session_acts.proofs.ReplyPassLemmas.{coming_first, coming_next, passed_cut, passed_stop, passed_whole}
use Rattle.session_acts.proofs.ReplyReadLemmas.{ends_step, not_last}
use Rattle.session_acts.proofs.replying.pass_rest.Goals as goal

pub loop-byte-init : goal.loop-byte-init
loop-byte-init g c = coming_first _ _ c.args.reader.now (g.I.Source.source_view c.args.from.now) (g.K.Sink.sink_view c.args.to.now) c.requires.unended c.requires.room

pub loop-byte-smaller : goal.loop-byte-smaller
loop-byte-smaller g c = byte_nearer c.in-Ok.byte _ _ _ _ c.in-Ok.ensures.reads

pub loop-byte-preserved : goal.loop-byte-preserved
loop-byte-preserved g c =
    coming_next _ _ _ _ _ _ c.in-Ok.byte c.feed-step.result _ _ _ _ _ _ _ _ _ c.loop-byte.invariant c.in-Ok.ensures.reads (not_last c.feed-step.result (sym c.last_code.ensures ∙ c.in-None.is)) c.feed-step.ensures.fed c.feed-step.ensures.unended c.in-Ok-keep.ensures.keeps c.in-Ok-keep.ensures.room

pub returns-in-Err-keep : goal.returns-in-Err-keep
returns-in-Err-keep g c = λ outlet client.
    passed_cut _ _ _ _ c.in-Ok.byte _ _ _ _ _ _ outlet client _ _ _ c.loop-byte.invariant.coming c.loop-byte.invariant.passing c.in-Ok.ensures.reads c.in-Ok.ensures.near c.in-Err-keep.ensures.keeps

pub returns-in-Some : goal.returns-in-Some
returns-in-Some g c = λ outlet client.
    let ends = ends_step _ c.in-Ok.byte c.in-Some.code _ c.feed-step.result (sym c.last_code.ensures ∙ c.in-Some.is) c.feed-step.ensures.step c.feed-step.ensures.reply c.feed-step.ensures.line in
    rw c.six_in-six.ensures (passed_whole _ _ _ _ _ c.in-Ok.byte c.in-Some.code c.feed-step.new.self.heard _ _ _ _ _ _ outlet client _ _ _ c.loop-byte.invariant.coming c.loop-byte.invariant.passing c.in-Ok.ensures.reads c.in-Ok.ensures.near ends c.in-Ok-keep.ensures.keeps (λ lf. c.in-Ok-keep.ensures.keeps.at_end (rw lf refl)))

pub returns-in-Err : goal.returns-in-Err
returns-in-Err g c = λ outlet client. passed_stop c.in-Err.stop _ _ _ _ c.stop_passing.result _ _ _ _ _ _ outlet client _ _ _ c.loop-byte.invariant.coming c.loop-byte.invariant.passing c.in-Err.ensures.reads c.in-Err.ensures.near c.stop_passing.ensures
