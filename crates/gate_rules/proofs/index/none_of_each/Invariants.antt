use Rattle.std.proofs.Common.{◌≡◌, ℕ, [], get_or, length}
use Rattle.gate_rules.proofs.index.none_of_each.Given as goal

abbrev pub invariant-loop-octet : goal.invariant-loop-octet
invariant-loop-octet l = record {
  count : length l.own.items ≡ l._octet;
  none : (octet : ℕ) → get_or l.own.items octet [] ≡ [];
}
