use Rattle.fw_memory.proofs.CallCounterLemmas.{gave_salt}
use Rattle.fw_memory.proofs.mem_dice.MemDiceDice.salt.Goals as goal

pub returns-clause-gave_salt : goal.returns-clause-gave_salt
returns-clause-gave_salt c = gave_salt _ _ _ c.next_salt.ensures.fits c.next_salt.ensures.answer c.next_salt.ensures.once
