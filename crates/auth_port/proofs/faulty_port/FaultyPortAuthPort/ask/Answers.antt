use Rattle.auth_port.proofs.FaultyLemmas.{port_answers, port_fails, port_lacked}
use Rattle.auth_port.proofs.faulty_port.FaultyPortAuthPort.ask.Goals as goal

pub returns-then-is_failing-clause-asks : goal.returns-then-is_failing-clause-asks
returns-then-is_failing-clause-asks g c = port_fails c.args.self.now c.is_failing.new.self c.count_fault.new.self c.is_failing.ensures.is c.is_failing.ensures.grew c.count_fault.ensures.is c.count_fault.ensures.rose

pub returns-in-Ok-clause-asks : goal.returns-in-Ok-clause-asks
returns-in-Ok-clause-asks g c = port_answers c.args.sid c.args.at c.args.request c.in-Ok.reply c.args.self.now c.is_failing.new.self c.ask_book.new.self c.is_failing.ensures.is c.is_failing.ensures.grew c.in-Ok.ensures

pub returns-in-Err-clause-asks : goal.returns-in-Err-clause-asks
returns-in-Err-clause-asks g c = port_lacked c.args.sid c.args.at c.args.request c.args.self.now c.is_failing.new.self c.ask_book.new.self c.is_failing.ensures.is c.is_failing.ensures.grew c.in-Err.ensures
