use Rattle.std.proofs.Common.{refl}
use Rattle.session_acts.proofs.StageLemmas.{cut_at, front_of}
use Rattle.session_acts.proofs.desk.DeskStage.say.Goals as goal

pub returns-in-Err : goal.returns-in-Err
returns-in-Err g c = record {
  halt = front_of c.in-Err.ensures;
  is_cause = refl;
  met = record { client = record { outlet = g.K.Sink.sink_view c.give.new.self; gets = cut_at c.in-Err.ensures; is = refl }; logs = refl; office = refl; server = refl; store = refl; names = refl; may = tt };
}
