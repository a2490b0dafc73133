use Rattle.bastion_ready.proofs.ReadyLemmas.{lacks_start}
use Rattle.bastion_ready.specs.Words.{server_of}
use Rattle.bastion_ready.proofs.readying.prepare.Goals as goal

pub returns-in-Err-clause-stops : goal.returns-in-Err-clause-stops
returns-in-Err-clause-stops g c = lacks_start (server_of c.args.words.now) c.args.world.now c.in-Err.ensures.lacks
