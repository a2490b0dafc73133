use Rattle.ftp_lines.proofs.CommandLemmas.{again, command_is, is_command, written}
use Rattle.ftp_lines.proofs.laws.commands.Goals as goal

pub returns-clause-written : goal.returns-clause-written
returns-clause-written c = written

pub returns-clause-again : goal.returns-clause-again
returns-clause-again c = again

pub returns-clause-exact : goal.returns-clause-exact
returns-clause-exact c = λ line verb arg. (command_is line verb arg, is_command line verb arg)
