use Rattle.auth_machine.proofs.PortLemmas.{port_lacks, port_replies}
use Rattle.auth_machine.proofs.port.BookAuthPort.ask.Goals as goal

pub returns-in-Ok : goal.returns-in-Ok
returns-in-Ok g c = port_replies c.args.sid c.args.at c.args.request c.in-Ok.reply c.args.self.now c.ask.new.self c.in-Ok.ensures.limit c.in-Ok.ensures.origin c.in-Ok.ensures.failed_before c.in-Ok.ensures.called_before c.in-Ok.ensures.counted c.in-Ok.ensures.refused c.in-Ok.ensures.asked

pub returns-in-Err : goal.returns-in-Err
returns-in-Err g c = port_lacks c.args.self.now c.ask.new.self c.in-Err.ensures.limit c.in-Err.ensures.origin c.in-Err.ensures.failed_before c.in-Err.ensures.called_before c.in-Err.ensures.counted c.in-Err.ensures.refused c.in-Err.ensures.asked.answers
