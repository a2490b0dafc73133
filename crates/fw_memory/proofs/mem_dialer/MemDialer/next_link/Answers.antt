use Rattle.fw_memory.specs.MemDialerView.{IsNewLink}
use Rattle.fw_memory.proofs.MemDialerLemmas.{first_holds}
use Rattle.fw_memory.proofs.mem_dialer.MemDialer.next_link.Goals as goal

pub returns-clause-is_new : goal.returns-clause-is_new
returns-clause-is_new c =
    first_holds IsNewLink c.pop_front.result _ c.self.inside.links.items c.pop_front.ensures.items c.self.invariant.2
