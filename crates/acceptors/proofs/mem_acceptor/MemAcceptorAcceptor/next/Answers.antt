use Rattle.acceptors.proofs.MemAcceptorLemmas.{comes}
use Rattle.acceptors.proofs.mem_acceptor.MemAcceptorAcceptor.next.Goals as goal

pub returns-in-Some-clause-session : goal.returns-in-Some-clause-session
returns-in-Some-clause-session c = comes c.in-Some.caller c.args.self.now c.is_failing.new.self c.pop.new.self c.is_failing.ensures.is c.in-Some.ensures.is_new c.pop.ensures.back c.in-Some.ensures.first
