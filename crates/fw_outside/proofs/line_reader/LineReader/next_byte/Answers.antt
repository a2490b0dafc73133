use Rattle.fw_outside.proofs.ByteLemmas.{byte_missed, byte_popped, byte_spent, seeking_filled, seeking_from}
use Rattle.fw_outside.proofs.line_reader.LineReader.next_byte.Goals as goal

pub loop-self-init : goal.loop-self-init
loop-self-init g c = seeking_from c.args.self.now (g.S.Source.source_view c.args.from.now)

pub returns-then-is_spent-clause-reads : goal.returns-then-is_spent-clause-reads
returns-then-is_spent-clause-reads g c = byte_spent _ _ _ _ c.loop-self.invariant c.if-is_spent.ensures.spent

pub returns-in-Some-clause-reads : goal.returns-in-Some-clause-reads
returns-in-Some-clause-reads g c = byte_popped _ _ _ _ _ _ c.loop-self.invariant c.if-is_spent.ensures.spent c.in-Some.ensures.byte

pub returns-in-Err-clause-reads : goal.returns-in-Err-clause-reads
returns-in-Err-clause-reads g c =
    byte_missed c.in-Err.stop _ _ _ _ _ _ _ c.loop-self.invariant c.if-is_spent.ensures.spent c.in_default.ensures.none c.in-Err.ensures.kept c.in-Err.ensures.misses

pub loop-self-preserved : goal.loop-self-preserved
loop-self-preserved g c = seeking_filled _ _ _ _ _ _ _ c.loop-self.invariant c.in_default.ensures.none c.in_default-fill.ensures.fills
