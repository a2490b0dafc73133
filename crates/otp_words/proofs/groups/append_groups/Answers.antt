use Rattle.std.proofs.Common.{arith}
use Rattle.otp_words.proofs.GroupLemmas.{groups_pushed}
use Rattle.otp_words.proofs.groups.append_groups.Goals as goal

pub returns-clause-items : goal.returns-clause-items
returns-clause-items g c =
    rw (c.append_group-4.ensures.items, c.append_byte-3.ensures.items, c.append_group-3.ensures.items, c.append_byte-2.ensures.items, c.append_group-2.ensures.items, c.append_byte.ensures.items, c.append_group.ensures.items)
    (groups_pushed c.args.out.now.items c.args.password (omega arith))
