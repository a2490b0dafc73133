use Rattle.std.proofs.Common.{◌≡◌, length, rules}
use Rattle.ftp_lines.proofs.SixLemmas.{written_is}
use Rattle.ftp_lines.proofs.six.write_six.Goals as goal

pub returns : goal.returns
returns c =
    let four : length c.args.addr ≡ 4 = search rules in
    rw (
      c.append_octet.ensures.items,
      c.append_part-5.ensures.items,
      c.append_part-4.ensures.items,
      c.append_part-3.ensures.items,
      c.append_part-2.ensures.items,
      c.append_part.ensures.items,
      c.clear.ensures,
    ) (written_is c.args.addr c.args.port four)
