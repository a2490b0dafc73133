-- A port that was full refuses all that follows.
use Rattle.std.specs.Prelude.{◌≡◌, ℕ, List, [], ◌∷◌, Option, Some, None}
use Rattle.auth_events.specs.declared.denial.Denial.{Denial}
use Rattle.auth_events.specs.declared.denial.Denial.TheVariants.{Full}
use Rattle.auth_events.specs.declared.reply.Reply.{Reply}
use Rattle.auth_events.specs.declared.reply.Reply.TheVariants.{Denied}
use Rattle.auth_events.specs.declared.request.Request.{Request}

-- the limit that a denial tells
abbrev pub limit_in : Denial → Option ℕ
limit_in (Full limit) = Some limit
limit_in _ = None

abbrev pub limit_told : Reply → Option ℕ
limit_told (Denied denial) = limit_in denial
limit_told _ = None

-- once a limit is known to be reached, each of these that was answered was refused because of it, and till then one tells it
abbrev pub RefusesOn : Option ℕ → List (Request × Reply) → Type 0
RefusesOn None [] = Unit {0}
RefusesOn (Some limit) [] = Unit {0}
RefusesOn None (ask ∷ asks) = RefusesOn (limit_told ask.1) asks
RefusesOn (Some limit) (ask ∷ asks) = (limit_told ask.1 ≡ Some limit) × RefusesOn (Some limit) asks
