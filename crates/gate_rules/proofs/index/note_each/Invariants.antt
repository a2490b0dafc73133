use Rattle.std.proofs.Common.{◌≡◌, ◌<◌, ◌==◌, ℕ, [], get_or, length, take}
use Rattle.std.specs.List.{list_any}
use Rattle.gate_rules.specs.Index.{noted_if}
use Rattle.gate_rules.proofs.index.note_each.Given as goal

abbrev pub invariant-loop-octet : goal.invariant-loop-octet
invariant-loop-octet l = record {
  count : length l.own.items ≡ 256;
  noted : (other : ℕ) → other < 256 → get_or l.own.items other [] ≡ noted_if (list_any (λ octet. octet == other) (take l.octet-index l.octets)) l.at (get_or l.fn.own.items other []);
}
