use Rattle.smapd_queue.proofs.FateLemmas.{freed_so, not_freed_so}
use Rattle.smapd_queue.proofs.puts.free_slot.Goals as goal

pub returns-in-Ok : goal.returns-in-Ok
returns-in-Ok g c = record {
  free = c.in-Ok.free;
  freed = freed_so c.args.full c.in-Ok.free c.in-Ok.ensures.ok c.in-Ok.ensures.free c.in-Ok.ensures.images c.in-Ok.ensures.events;
  puts = c.put_free.ensures;
}

pub returns-in-Err : goal.returns-in-Err
returns-in-Err g c = record {
  broken = c.in-Err.broken;
  freed = not_freed_so c.args.full c.in-Err.broken c.in-Err.ensures.err c.in-Err.ensures.images c.in-Err.ensures.message c.in-Err.ensures.events;
  puts = c.put_broken.ensures;
}
