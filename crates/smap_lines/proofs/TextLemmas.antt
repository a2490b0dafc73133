-- What stands behind a count of bytes.
use Rattle.std.proofs.Common.{◌≡◌, ℕ, ◌<◌, ◌≤◌, List, length, drop, ap, sym, ◌∙◌, ◌⊎◌, inl, inr, arith}
use Rattle.std.specs.Prelude.{min}
use Rattle.std.proofs.lemmas.Bool.{cases_lt}
use Rattle.std.proofs.lemmas.List.{drop_all}

drop_by : (n : ℕ) (text : List ℕ) → (length text < n) ⊎ (n ≤ length text) → drop (min n (length text)) text ≡ drop n text
drop_by n text (inl short) = drop_all (min n (length text)) text (omega (arith, short)) ∙ sym (drop_all n text (omega (arith, short)))
drop_by n text (inr long) = let same : min n (length text) ≡ n = omega (arith, long) in ap (λ m. drop m text) same

pub drop_min : (n : ℕ) (text : List ℕ) → drop (min n (length text)) text ≡ drop n text
drop_min n text = drop_by n text (cases_lt (length text) n)
