use Rattle.smap_lines.proofs.CommandLemmas.{mail_asks, mail_read, rcpt_asks, rcpt_read, too_long, verb_same, word_and_rest}
use Rattle.smap_lines.proofs.laws.commands.Goals as goal

pub returns-clause-verb : goal.returns-clause-verb
returns-clause-verb c = verb_same

pub returns-clause-rest : goal.returns-clause-rest
returns-clause-rest c = word_and_rest

pub returns-clause-mail : goal.returns-clause-mail
returns-clause-mail c = λ line text. (mail_asks line text, mail_read line text)

pub returns-clause-rcpt : goal.returns-clause-rcpt
returns-clause-rcpt c = λ line text. (rcpt_asks line text, rcpt_read line text)

pub returns-clause-long : goal.returns-clause-long
returns-clause-long c = too_long
