use Rattle.fw_real.proofs.database.Database.open.Goals as goal

pub returns-clause-ready : goal.returns-clause-ready
returns-clause-ready c clean =
    let ran = c.in_ok-make_table.ensures.runs clean in
    record {
      first = c.in_ok-database.database;
      count = ran.0;
      opened = c.in_ok-database.ensures.opened (c.in_ok-make_table.ensures.clean clean);
      made = ran.1;
    }
