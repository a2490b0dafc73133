use Rattle.std.proofs.Common.{ap, sym, ◌∙◌}
use Rattle.ftp_lines.specs.ReplyReaderView.{ReplyReaderView}
use Rattle.telnet_hearing.proofs.HearingLemmas.{byte_nearer}
use Rattle.session_acts.proofs.GreetsLemmas.{greets_first, greets_last, greets_next, greets_on, greets_stop}
use Rattle.session_acts.proofs.greeting.hear_greeting.Goals as goal

pub loop-byte-init : goal.loop-byte-init
loop-byte-init g c = greets_first _ _ c.args.reader.now (g.I.Source.source_view c.args.from.now) (g.K.Sink.sink_view c.args.to.now) (ap (λ (v : ReplyReaderView). v.fed) c.new-replies.ensures) c.new-head.ensures

pub loop-byte-smaller : goal.loop-byte-smaller
loop-byte-smaller g c = byte_nearer c.in-Ok.byte _ _ _ _ c.in-Ok.ensures.reads

pub loop-byte-preserved : goal.loop-byte-preserved
loop-byte-preserved g c =
    greets_next _ _ _ _ _ c.in-Ok.byte c.feed-step.result _ _ _ _ _ _ _ _ c.loop-byte.invariant c.in-Ok.ensures.reads (sym c.last_code.ensures ∙ c.in-None.is) c.feed-step.ensures.step c.feed-step.ensures.fed c.feed-step.ensures.unended c.keep_head.ensures.items c.keep_head.ensures.few
    (sym c.told_by.ensures ∙ c.in-None-told_by.is) c.pass_line.ensures

pub returns-in-Some : goal.returns-in-Some
returns-in-Some g c = λ outlet client.
    greets_last _ _ _ c.in-Ok.byte c.in-Some.code _ c.feed-step.result c.greeted.result _ _ _ _ _ _ outlet client _ _ _ c.loop-byte.invariant c.in-Ok.ensures.reads c.in-Ok.ensures.near (sym c.last_code.ensures ∙ c.in-Some.is) c.feed-step.ensures.step c.feed-step.ensures.reply c.feed-step.ensures.line c.keep_head.ensures.items c.greeted.ensures

pub returns-in-Some-told_by : goal.returns-in-Some-told_by
returns-in-Some-told_by g c = λ outlet client.
    greets_on _ _ _ _ c.in-Ok.byte c.in-Some-told_by.code c.feed-step.result c.pass_by.result _ _ _ _ _ _ _ _ outlet client _ _ _ c.loop-byte.invariant c.in-Ok.ensures.reads c.feed-step.ensures.step c.feed-step.ensures.fed c.keep_head.ensures.items (sym c.told_by.ensures ∙ c.in-Some-told_by.is) (c.pass_by.ensures outlet client)

pub returns-in-Err : goal.returns-in-Err
returns-in-Err g c = λ outlet client. rw c.miss_of.ensures (greets_stop c.in-Err.stop _ _ _ _ _ _ _ _ outlet client _ _ c.loop-byte.invariant c.in-Err.ensures.reads c.in-Err.ensures.near)
