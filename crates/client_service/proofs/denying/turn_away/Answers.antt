use Rattle.std.proofs.Common.{refl, inl, inr}
use Rattle.client_service.proofs.denying.turn_away.Goals as goal

pub returns-in-Ok : goal.returns-in-Ok
returns-in-Ok g c = inr (record { ends = refl; logged = c.in-Ok.ensures; tried = c.try_words.ensures })

pub returns-in-Err : goal.returns-in-Err
returns-in-Err g c = inl (record { ends = refl; cut = c.in-Err.ensures; same = refl })
