use Rattle.std.proofs.Common.{◌-◌, length}
use Rattle.fw_outside.specs.LineReaderView.{TookBytes}
use Rattle.otp_words.proofs.gathering.gather.Given as goal

abbrev pub invariant-loop-from : goal.invariant-loop-from
invariant-loop-from g l = TookBytes l.text.items (g.S.Source.source_view l.fn.from) (g.S.Source.source_view l.from)

abbrev pub decreases-loop-from : goal.decreases-loop-from
decreases-loop-from g l = 12289 - length l.text.items
