use Rattle.ftp_lines.proofs.SixLemmas.{first_part_more}
use Rattle.ftp_lines.proofs.six_parts.first_part.Goals as goal

pub returns-in-Some : goal.returns-in-Some
returns-in-Some c =
    let told = c.in-Some.ensures in
    first_part_more c.args.text.now c.in-Some.part.now c.in-Some.field-0-1.now told.some
