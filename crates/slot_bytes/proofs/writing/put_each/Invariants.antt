use Rattle.std.proofs.Common.{◌≡◌, ◌++◌, drop}
use Rattle.std.specs.List.{AllByRecursion}
use Rattle.slot_bytes.specs.Layout.{IsTextFrom, each_counted}
use Rattle.slot_bytes.proofs.writing.put_each.Given as goal

abbrev pub invariant-loop-text : goal.invariant-loop-text
invariant-loop-text l = record {
  written : l.out.items ++ each_counted (drop l.text-index l.texts) ≡ l.initial.out.items ++ each_counted l.texts;
  fits : AllByRecursion (IsTextFrom 1 256) (drop l.text-index l.texts);
}
