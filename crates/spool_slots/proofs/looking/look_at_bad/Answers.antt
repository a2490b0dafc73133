use Rattle.std.proofs.Common.{arith}
use Rattle.byte_reader.proofs.NumberLemmas.{all_bytes}
use Rattle.spool_slots.proofs.LookLemmas.{left_within, says_bad}
use Rattle.spool_slots.proofs.looking.look_at_bad.Goals as goal

pub overflow_sub-good : goal.overflow_sub-good
overflow_sub-good c = left_within c.args.front.now c.args.left (all_bytes c.args.front.now (λ i. omega (arith, c.type_inv.front i))) c.requires.bad

pub returns-then-left-gt0-clause-says : goal.returns-then-left-gt0-clause-says
returns-then-left-gt0-clause-says c = says_bad c.args.front.now c.args.left c.args.ended c.requires.opened c.requires.bad c.if-left-gt0.true
