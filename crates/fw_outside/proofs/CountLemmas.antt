-- How a count that grows goes on.
use Rattle.std.proofs.Common.{◌≡◌, ℕ, ◌+◌, arith}
use Rattle.fw_outside.specs.Counts.{Grew}

pub grew_none : (count : ℕ) → Grew 0 count count
grew_none count = record { least = omega (arith); most = omega (arith); later = omega (arith) }

-- what grew twice grew by both
pub grew_by : (n m both before mid now : ℕ) → both ≡ n + m → Grew n before mid → Grew m mid now → Grew both before now
grew_by n m both before mid now is first next = record {
  least = omega (arith, is, first.least, first.later, next.least, next.later);
  most = omega (arith, is, first.most, next.most);
  later = omega (arith, first.later, next.later);
}
