use Rattle.otp_words.proofs.GroupLemmas.{group_pushed}
use Rattle.otp_words.proofs.groups.append_group.Goals as goal

pub returns-clause-items : goal.returns-clause-items
returns-clause-items g c =
    rw (c.append_byte-4.ensures.items, c.append_byte-3.ensures.items, c.append_byte-2.ensures.items, c.append_byte.ensures.items)
    (group_pushed c.args.out.now.items c.args.number c.hex_digit.result c.hex_digit-2.result c.hex_digit-3.result c.hex_digit-4.result c.requires.small c.hex_digit.ensures c.hex_digit-2.ensures c.hex_digit-3.ensures c.hex_digit-4.ensures)
