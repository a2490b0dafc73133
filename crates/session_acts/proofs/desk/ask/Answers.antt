use Rattle.std.proofs.Common.{refl, sym}
use Rattle.session_acts.proofs.desk.ask.Goals as goal

pub returns : goal.returns
returns g c = λ dice. record {
  moment = c.now-moment.result;
  clock = g.C.Clock.clock_view c.now-moment.new.self;
  port = g.P.AuthPort.port c.ask-reply.new.self;
  gave_time = c.now-moment.ensures;
  asks = rw (sym c.unwrap_or-sid.ensures, sym c.twin.ensures) c.ask-reply.ensures;
  is = rw c.opened_then.ensures refl;
}
