-- A dialogue, turn by turn.
use Rattle.std.proofs.Common.{arith, ◌≡◌, refl, subst, ℕ, suc, ◌<◌, Option, Some, None, IfSome, Ok}
use Rattle.fw_acts.specs.Acts.{Row, PlaceTable}
use Rattle.fw_acts.specs.Acts.Row.{Over}
use Rattle.fw_acts.specs.Ran.{Ran}
use Rattle.fw_acts.proofs.RanLemmas.{ran_as}
use Rattle.session_acts.specs.Met.{acts}
use Rattle.session_acts.specs.Session.{leads}
use Rattle.session_acts.specs.World.{World}

-- how far it is, at most, to the end
abbrev pub still : {Origin P : Type 0} → (P → World Origin → ℕ) → Option P → World Origin → ℕ
still distance None world = 0
still distance (Some place) world = suc (distance place world)

pub still_less : {Origin P : Type 0} (distance : P → World Origin → ℕ) (next : Option P) (place : P) (old new : World Origin) → IfSome next (λ p. distance p new < distance place old) → still distance next new < suc (distance place old)
still_less distance None place old new less = omega (arith)
still_less distance (Some p) place old new less = omega (arith, less)

-- from the beginning of a session to a place, or to the end
pub record Talks {Origin P : Type 0} (rows : PlaceTable (acts Origin) P) (first : Row (acts Origin) P) (Holds : P → Type 0) (old now : World Origin) (next : Option P) : Type 0 where
  pub ran : Ran rows first leads old now (Ok next)
  pub form : IfSome next Holds

module _ {Origin P : Type 0} {rows : PlaceTable (acts Origin) P} {first : Row (acts Origin) P} where
  pub at_place : {Holds : P → Type 0} {old now : World Origin} {next : Option P} {place : P} → Talks rows first Holds old now next → next ≡ Some place → Ran rows first leads old now (Ok (Some place))
  at_place {Holds} {old} {now} {next} {place} talks is = subst (λ (n : Option P). Ran rows first leads old now (Ok n)) is talks.ran

  pub at_end : {Holds : P → Type 0} {old now : World Origin} {next : Option P} → Talks rows first Holds old now next → next ≡ None → Ran rows first (λ (done : Unit {0}). Over) old now (Ok (tt {0}))
  at_end {Holds} {old} {now} {next} talks is = ran_as (subst (λ (n : Option P). Ran rows first leads old now (Ok n)) is talks.ran) refl
