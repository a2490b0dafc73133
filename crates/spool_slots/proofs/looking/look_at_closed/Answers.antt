use Rattle.std.proofs.Common.{arith}
use Rattle.spool_slots.proofs.LookLemmas.{says_free, says_one}
use Rattle.spool_slots.proofs.looking.look_at_closed.Goals as goal

pub returns-then-ended-clause-says : goal.returns-then-ended-clause-says
returns-then-ended-clause-says c = says_one c.args.rest.now c.args.ended (omega (arith, c.in-empty.len_below)) c.if-ended.true

pub returns-in-len1-up-clause-says : goal.returns-in-len1-up-clause-says
returns-in-len1-up-clause-says c = says_free c.args.rest.now c.args.ended (omega (arith, c.in-len1-up.len_at_least))
