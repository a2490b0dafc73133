use Rattle.std.proofs.Common.{arith}
use Rattle.ftp_lines.proofs.LineLemmas.{keep_none, keep_some}
use Rattle.ftp_lines.proofs.reply_line.ReplyLine.keep.Goals as goal

pub returns-then-remaining_capacity-gt0 : goal.returns-then-remaining_capacity-gt0
returns-then-remaining_capacity-gt0 c =
    keep_some c.self.inside.kept.items c.push.new.self.items c.self.inside.ended c.args.self.now c.args.byte c.self.view_is c.push.ensures.items (omega (arith, c.remaining_capacity.ensures))

pub returns-else-remaining_capacity-gt0 : goal.returns-else-remaining_capacity-gt0
returns-else-remaining_capacity-gt0 c =
    keep_none c.self.inside.kept.items c.self.inside.ended c.args.self.now c.args.byte c.self.view_is (omega (arith, c.remaining_capacity.ensures))
