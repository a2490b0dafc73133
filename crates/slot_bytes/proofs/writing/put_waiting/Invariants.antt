use Rattle.std.proofs.Common.{◌≡◌, ◌++◌, drop}
use Rattle.slot_bytes.specs.Layout.{all_waiting}
use Rattle.slot_bytes.proofs.writing.put_waiting.Given as goal

abbrev pub invariant-loop : goal.invariant-loop
invariant-loop l = l.out.items ++ all_waiting (drop l.index l.texts) ≡ l.initial.out.items ++ all_waiting l.texts
