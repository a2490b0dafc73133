-- Where something stands among words.
use Rattle.std.proofs.Common.{◌≡◌, ℕ, ◌≤◌, Bool, true, false, List, length, refl, arith}
use Rattle.std.specs.Prelude.{not, nat_lt, cond, position, unwrap_or, Some, None}
use Rattle.std.specs.List.{position_or_len}
use Rattle.std.proofs.lemmas.Bool.Decides.{nat_tests}
use Rattle.std.proofs.lemmas.List.Sums.{prefix_len-le-length}

within_or_all : (at all : ℕ) → at ≤ all → unwrap_or (cond (nat_lt at all) (Some at) None) all ≡ at
within_or_all at all h = elim (nat_lt at all) as (λ b. nat_lt at all ≡ b → unwrap_or (cond b (Some at) None) all ≡ at) [ true ↦ λ _. refl | false ↦ λ e. grind (arith, nat_tests) ] refl

-- the first place that passes, or the length
pub position_or_all : {X : Type 0} (p : X → Bool) (xs : List X) → unwrap_or (position p xs) (length xs) ≡ position_or_len p xs
position_or_all p xs = within_or_all (position_or_len p xs) (length xs) (prefix_len-le-length (λ x. not (p x)) xs)

pub position_within : {X : Type 0} (p : X → Bool) (xs : List X) → position_or_len p xs ≤ length xs
position_within p xs = prefix_len-le-length (λ x. not (p x)) xs
