use Rattle.std.proofs.Common.{◌∙◌}
use Rattle.telnet_hearing.proofs.hearing.feed.Goals as goal

pub returns-in-More-clause-none : goal.returns-in-More-clause-none
returns-in-More-clause-none c = record { hears = rw c.in-More.is at c.feed.ensures.hears; prompt = c.feed.ensures.prompt }

pub returns-in-Line-clause-some : goal.returns-in-Line-clause-some
returns-in-Line-clause-some c = (c.copy_of.ensures ∙ c.line.ensures.line, record { hears = rw c.in-Line.is at c.feed.ensures.hears; prompt = c.feed.ensures.prompt })

pub returns-in-TooLong-clause-some : goal.returns-in-TooLong-clause-some
returns-in-TooLong-clause-some c = record { hears = rw c.in-TooLong.is at c.feed.ensures.hears; prompt = c.feed.ensures.prompt }
