-- Nothing follows a client's line.
use Rattle.std.proofs.Common.{◌≡◌, Option, Some, None, IfSome}

pub none_next : {A : Type 0} (P : A → Type 0) (next : Option A) → next ≡ None → IfSome next P
none_next P None is = tt
none_next P (Some place) is = absurd (cc)
