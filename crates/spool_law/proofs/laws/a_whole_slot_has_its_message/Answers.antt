use Rattle.spool_law.proofs.WholeLemmas.{whole_has_its_message}
use Rattle.spool_law.proofs.laws.a_whole_slot_has_its_message.Goals as goal

pub returns : goal.returns
returns c = whole_has_its_message
