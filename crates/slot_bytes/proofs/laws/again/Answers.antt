use Rattle.slot_bytes.proofs.SlotLemmas.{done_again, reads_again, reads_free}
use Rattle.slot_bytes.proofs.laws.again.Goals as goal

pub returns-clause-kept : goal.returns-clause-kept
returns-clause-kept c = reads_again

pub returns-clause-free : goal.returns-clause-free
returns-clause-free c = reads_free

pub returns-clause-done : goal.returns-clause-done
returns-clause-done c = done_again
