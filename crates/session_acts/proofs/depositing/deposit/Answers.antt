use Rattle.std.proofs.Common.{refl, []}
use Rattle.session_acts.proofs.FillLemmas.{broken_first, deposits_so, filled_first}
use Rattle.session_acts.proofs.depositing.deposit.Goals as goal

pub returns-in-Ok : goal.returns-in-Ok
returns-in-Ok g c = deposits_so c.args.sender.now c.args.rcpts.now c.args.words.now c.args.most c.entrust.result c.in-Some.free _ _ _ _ _ c.in-Some.ensures
    (c.entrust.ensures c.args.sender.now c.args.rcpts.now c.in-Some.free (filled_first c.args.sender.now c.args.rcpts.now c.in-Some.free c.in-Ok.filling c.in-Ok.ensures.ok c.in-Ok.ensures.empty.0 c.in-Ok.ensures.draft c.in-Ok.ensures.images c.in-Ok.ensures.events))

pub returns-in-Err-Disk : goal.returns-in-Err-Disk
returns-in-Err-Disk g c = record {
  data_heard = [];
  at_client = refl;
  at_store = record {
    slot = c.in-Some.free;
    lent = g.M-SlotStore.store_view c.take_free.new.store;
    takes = c.in-Some.ensures;
    does = record {
      broken = c.in-Err-Disk.broken;
      fails = broken_first c.args.sender.now c.args.rcpts.now c.in-Some.free c.in-Err-Disk.field-0 c.in-Err-Disk.broken c.in-Err-Disk.field-0-is c.in-Err-Disk.ensures.err c.in-Err-Disk.ensures.images c.in-Err-Disk.ensures.events;
      puts = c.put_broken.ensures;
    };
  };
}
