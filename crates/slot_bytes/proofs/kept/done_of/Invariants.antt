use Rattle.std.proofs.Common.{◌≡◌, ◌++◌, drop}
use Rattle.slot_bytes.specs.Layout.{done_of, places_from}
use Rattle.slot_bytes.proofs.kept.done_of.Given as goal

abbrev pub invariant-loop-mark : goal.invariant-loop-mark
invariant-loop-mark l = record {
  made : l.items.items ++ places_from l.place (drop l.mark-index l.marks) ≡ done_of l.marks;
  here : l.place ≡ l.mark-index;
}
