use Rattle.std.proofs.Common.{All, drop}
use Rattle.auth_records.specs.Spelling.{HasForm}
use Rattle.auth_machine.proofs.OpeningLemmas.{HasRead}
use Rattle.auth_machine.proofs.opening.read_entries.Given as goal

abbrev pub invariant-loop-entry : goal.invariant-loop-entry
invariant-loop-entry l = record {
  read : HasRead l.records.items (drop l.entry-index l.entries) l.entries;
  formed : All HasForm l.records.items;
}
