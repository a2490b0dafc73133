use Rattle.std.proofs.Common.{[], get_or}
use Rattle.gate_rules.proofs.IndexLemmas.{note_further}
use Rattle.gate_rules.proofs.index.note_each.Goals as goal

pub loop-octet-preserved : goal.loop-octet-preserved
loop-octet-preserved c = record {
  count = c.note.ensures.count;
  noted = λ other small.
      note_further c.args.octets.now c.loop-octet.octet-index other c.args.at (get_or c.args.own.now.items other []) (get_or c.loop-octet.own.items other []) (get_or c.note.new.own.items other []) c.loop-octet-test.true
      (c.loop-octet.invariant.noted other small)
      (c.in_ok-note.ensures.noted other small);
}
