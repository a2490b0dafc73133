use Rattle.std.proofs.Common.{refl}
use Rattle.session_acts.proofs.ReplyDeskLemmas.{replies_on}
use Rattle.session_acts.proofs.desk.DeskStage.take_reply.Goals as goal

pub returns : goal.returns
returns g c =
    replies_on c.args.how c.take_reply.result _ _ _ _ refl (c.take_reply.ensures (record { inlet = g.S.Source.source_view c.args.self.now.from.now; reader = c.args.self.now.reader; outlet = g.K.Sink.sink_view c.args.self.now.to.now }))
