-- What stands of a message fits into a slot.
use Rattle.std.proofs.Common.{arith, ◌≡◌, ℕ, ◌==◌, ◌<◌, ◌≤◌, false, List, [], ◌∷◌, ◌++◌, length}
use Rattle.std.proofs.lemmas.List.{length-append}
use Rattle.std.specs.List.{AllByRecursion}
use Rattle.slot_bytes.specs.Layout.{IsEnvelope, IsTextFrom}
use Rattle.smap_gate.specs.Draft.{IsDraft}
use Rattle.smap_gate.specs.Gate.{Gate}

each_longer : (rcpts : List (List ℕ)) (path : List ℕ) → AllByRecursion (IsTextFrom 1 256) rcpts → IsTextFrom 1 256 path → AllByRecursion (IsTextFrom 1 256) (rcpts ++ path ∷ [])
each_longer [] path each fits = (fits, tt)
each_longer (rcpt ∷ rcpts) path each fits = (each.0, each_longer rcpts path each.1 fits)

-- with one recipient more
pub draft_longer : (gate : Gate) (sender : List ℕ) (rcpts : List (List ℕ)) (path : List ℕ) → IsDraft gate sender rcpts → length rcpts < gate.most_rcpts → IsTextFrom 1 256 path → IsDraft gate sender (rcpts ++ path ∷ [])
draft_longer gate sender rcpts path draft room fits = record {
  from = draft.from;
  few = let longer = length-append rcpts (path ∷ []) in omega (arith, longer, room);
  each = each_longer rcpts path draft.each fits;
}

some_rcpts : (rcpts : List (List ℕ)) → (length rcpts == 0) ≡ false → 1 ≤ length rcpts
some_rcpts [] some = absurd (cc)
some_rcpts (rcpt ∷ rcpts) some = omega (arith)

-- with a recipient it is an envelope
pub envelope : (gate : Gate) (sender : List ℕ) (rcpts : List (List ℕ)) (most : ℕ) → IsDraft gate sender rcpts → most ≡ gate.most_rcpts → most ≤ 1000 → (length rcpts == 0) ≡ false → IsEnvelope sender rcpts
envelope gate sender rcpts most draft is fits some = record {
  from_fits = draft.from;
  some = some_rcpts rcpts some;
  few = let few = draft.few in omega (arith, few, is, fits);
  each = draft.each;
}
