use Rattle.acceptors.proofs.MemAcceptorLemmas.{takes_back}
use Rattle.acceptors.proofs.mem_acceptor.MemAcceptorAcceptor.back.Goals as goal

pub returns-clause-takes : goal.returns-clause-takes
returns-clause-takes c = takes_back c.args.caller c.args.self.now c.keep.new.self c.keep.ensures
