use Rattle.std.proofs.Common.{◌-◌, length, rules}
use Rattle.fw_memory.proofs.MemSinkLemmas.{cut_at_once, cut_short}
use Rattle.fw_memory.proofs.mem_sink.MemSinkSink.give.Goals as goal

pub returns-then-is_failing-clause-gives : goal.returns-then-is_failing-clause-gives
returns-then-is_failing-clause-gives c =
    cut_at_once c.args.piece.now c.args.self.now c.fail.new.self (search rules) (search rules) (search rules) (search rules)

pub returns-then-not-keep-clause-gives : goal.returns-then-not-keep-clause-gives
returns-then-not-keep-clause-gives c =
    cut_short c.args.piece.now (c.args.self.now.room - length c.args.self.now.given) c.args.self.now c.fail-then-not-keep.new.self (search rules) (search rules) (search rules) (search rules) (search rules)
