use Rattle.tn_gate.proofs.commands.command_row.Goals as goal

pub returns-in-Nothing : goal.returns-in-Nothing
returns-in-Nothing g c = rw c.in-Nothing.is c.ask_command.ensures

pub returns-in-Connect : goal.returns-in-Connect
returns-in-Connect g c = rw c.in-Connect.is c.dest_row.ensures

pub returns-in-Quit : goal.returns-in-Quit
returns-in-Quit g c = rw c.in-Quit.is (c.tell.ensures.ran _)

pub returns-in-Help : goal.returns-in-Help
returns-in-Help g c = rw c.in-Help.is c.ask_command-in-Help.ensures

pub returns-in-Unknown : goal.returns-in-Unknown
returns-in-Unknown g c = rw c.in-Unknown.is c.ask_command-in-Unknown.ensures
