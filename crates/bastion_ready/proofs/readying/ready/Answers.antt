use Rattle.bastion_ready.specs.Words.{server_of}
use Rattle.bastion_ready.proofs.ReadyLemmas.{ready_out, refused_left, refused_so, refused_status}
use Rattle.bastion_ready.proofs.readying.ready.Goals as goal

pub returns-in-Ok : goal.returns-in-Ok
returns-in-Ok g c =
    let line = server_of c.args.words.now in
    let ready = c.in-Ok.ready in
    record {
      ready = c.in-Ok.ensures.ready;
      may = c.in-Ok.ensures.may;
      refused = tt;
      status = tt;
      returned = ready_out line ready.doors.items ready.rules.items ready.book ready.rack c.args.world.now c.prepare.new.world c.in-Ok.ensures.ready;
      kept = tt;
      disks = tt;
    }

pub returns-in-Err : goal.returns-in-Err
returns-in-Err g c =
    let line = server_of c.args.words.now in
    let old = c.args.world.now in
    let new = c.refuse.new.world in
    let refused = refused_so line c.in-Err.outcome c.refuse.result old c.prepare.new.world new c.in-Err.ensures.stops c.refuse.ensures.tells c.refuse.ensures.status in
    let left = refused_left line c.refuse.result old new refused in
    record {
      ready = tt;
      may = tt;
      refused = refused;
      status = refused_status line c.refuse.result old new refused;
      returned = left.out;
      kept = left.keeper c.requires.keeper;
      disks = left.disks;
    }
