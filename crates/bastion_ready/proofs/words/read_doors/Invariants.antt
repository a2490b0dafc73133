use Rattle.std.proofs.Common.{◌≡◌, length, true}
use Rattle.std.specs.Prelude.{is_some}
use Rattle.bastion_ready.specs.Words.{doors_in}
use Rattle.bastion_ready.proofs.WordLemmas.{onto}
use Rattle.bastion_ready.proofs.words.read_doors.Given as goal

abbrev pub invariant-loop-words : goal.invariant-loop-words
invariant-loop-words l = record {
  so_far : onto l.doors.items (doors_in l.words) ≡ doors_in l.fn.words;
  good : is_some (doors_in l.words) ≡ true;
}

abbrev pub decreases-loop-words : goal.decreases-loop-words
decreases-loop-words l = length l.words
