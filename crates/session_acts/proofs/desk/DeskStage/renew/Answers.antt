use Rattle.std.proofs.Common.{refl}
use Rattle.session_acts.proofs.desk.DeskStage.renew.Goals as goal

pub returns-in-Ok : goal.returns-in-Ok
returns-in-Ok g c = record {
  client = refl;
  logs = refl;
  office = record { dice = g.R.Dice.dice_view c.salt-salt.new.self; gave_salt = c.salt-salt.ensures; asking = c.in-Ok.ensures (g.R.Dice.dice_view c.salt-salt.new.self) };
  server = refl;
  store = refl;
  names = refl;
  may = tt;
}

pub returns-in-Err : goal.returns-in-Err
returns-in-Err g c = record {
  halt = (c.salt-salt.result, c.in-Err.fault);
  is_cause = c.fault_cause.ensures;
  met = record {
    client = refl;
    logs = refl;
    office = record { dice = g.R.Dice.dice_view c.salt-salt.new.self; gave_salt = c.salt-salt.ensures; asking = c.in-Err.ensures (g.R.Dice.dice_view c.salt-salt.new.self) };
    server = refl;
    store = refl;
    names = refl;
    may = tt;
  };
}
