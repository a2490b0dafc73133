use Rattle.std.proofs.Common.{arith}
use Rattle.byte_reader.proofs.NumberLemmas.{all_bytes}
use Rattle.slot_bytes.specs.HeadView.{head_view}
use Rattle.spool_slots.proofs.LookLemmas.{head_within, says_kept}
use Rattle.spool_slots.proofs.looking.look_at_head.Goals as goal

pub overflow_sub-result : goal.overflow_sub-result
overflow_sub-result c = head_within c.args.front.now (head_view c.args.head) c.args.rest.now (all_bytes c.args.front.now (λ i. omega (arith, c.type_inv.front i))) c.requires.read

pub returns-clause-says : goal.returns-clause-says
returns-clause-says c = λ ended bytes f. says_kept c.args.front.now c.args.rest.now c.args.head ended (all_bytes c.args.front.now (λ i. omega (arith, c.type_inv.front i))) c.requires.opened c.requires.read bytes f
