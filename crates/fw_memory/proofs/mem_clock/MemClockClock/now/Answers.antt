use Rattle.fw_memory.proofs.CallCounterLemmas.{gave_time}
use Rattle.fw_memory.proofs.mem_clock.MemClockClock.now.Goals as goal

pub returns-clause-gave_time : goal.returns-clause-gave_time
returns-clause-gave_time c = gave_time _ _ _ c.next_moment.ensures.fits c.next_moment.ensures.answer c.next_moment.ensures.once
