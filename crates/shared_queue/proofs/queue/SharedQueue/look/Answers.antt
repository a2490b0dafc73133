use Rattle.shared_queue.proofs.Keeps.{learns}
use Rattle.shared_queue.proofs.queue.SharedQueue.look.Goals as goal

pub len_as-requires-clause-rule : goal.len_as-requires-clause-rule
len_as-requires-clause-rule g c = learns _ _
