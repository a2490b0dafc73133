use Rattle.std.proofs.Common.{rules}
use Rattle.fw_real.proofs.EntryLemmas.{ascends_added}
use Rattle.fw_real.proofs.entries.add.Goals as goal

pub returns-clause-ordered : goal.returns-clause-ordered
returns-clause-ordered c = rw c.in_ok-push.ensures.ok (ascends_added c.args.entries.now.items c.args.entry c.requires (search rules))
