use Rattle.std.proofs.Common.{refl}
use Rattle.session_acts.specs.Acts.Undeposited.{Unsaid}
use Rattle.session_acts.proofs.FillLemmas.{entrusts_so}
use Rattle.session_acts.proofs.StageLemmas.{cut_at, front_of}
use Rattle.session_acts.proofs.depositing.entrust.Goals as goal

pub returns-in-Ok : goal.returns-in-Ok
returns-in-Ok g c = λ sender rcpts slot filled. entrusts_so sender rcpts c.args.words.now c.args.most c.hear_into.result slot _ _ _ _ _ (record { outlet = g.K.Sink.sink_view c.give.new.self; gets = c.in-Ok.ensures; is = refl }) (c.hear_into.ensures sender rcpts c.args.words.now slot (g.K.Sink.sink_view c.give.new.self) filled)

pub returns-in-Err : goal.returns-in-Err
returns-in-Err g c = λ sender rcpts slot filled. record {
  halt = Unsaid (front_of c.in-Err.ensures);
  is_cause = refl;
  at_client = record { outlet = g.K.Sink.sink_view c.give.new.self; gets = cut_at c.in-Err.ensures; is = refl };
  at_store = λ old takes. record { slot = slot; lent = g.M-SlotStore.store_view c.args.store.now; takes = takes; does = record { filling = c.args.filling; filled = filled; is = c.give_up.ensures } };
}
