-- Each turn of the relay comes nearer to the end.
use Rattle.std.proofs.Common.{arith, ◌≡◌, sym, subst, ◌+◌, ◌<◌, ◌≤◌, Option, Some, None, IfSome, IfOk, Result, Ok, Err}
use Rattle.fw_outside.specs.declared.heard.Heard.{Heard}
use Rattle.fw_outside.specs.declared.heard.Heard.TheVariants.{Line, TooLong, Stopped}
use Rattle.session_acts.specs.Acts.Act.{Hear, Take}
use Rattle.session_acts.specs.Distance.{ahead_of_client}
use Rattle.session_acts.specs.Met.{Met}
use Rattle.session_acts.specs.World.{World}
use Rattle.session_acts.specs.declared.form.Form.TheVariants.{Lines}
use Rattle.session_acts.specs.declared.cause.Cause.{Cause}
use Rattle.session_acts.proofs.AheadLemmas.{heard_ahead, met_ahead}
use Rattle.session_rows.specs.Relay.{IsNext, distance}
use Rattle.session_rows.specs.declared.relay.Place.{Place}
use Rattle.session_rows.specs.declared.relay.Place.TheVariants.{Waiting, Answering}

-- a line leads to a place, where fewer bytes may still be heard
nearer_by : {Origin : Type 0} (next : Option Place) (old new : World Origin) → ahead_of_client new < ahead_of_client old → IfSome next (λ p. distance p new < distance Waiting old)
nearer_by None old new less = tt
nearer_by (Some Waiting) old new less = omega (arith, less)
nearer_by (Some Answering) old new less = omega (arith, less)

pub near_client : {Origin : Type 0} (heard : Heard) (old mid new : World Origin) (next : Option Place) → Met (Hear Lines) (Ok heard) old mid → ahead_of_client new ≤ ahead_of_client mid → IsNext heard next
    → IfSome next (λ p. distance p new < distance Waiting old)
near_client (Line line) old mid new next met more is = let less = heard_ahead Lines (Line line) old mid tt met in nearer_by next old new (omega (arith, less, more))
near_client TooLong old mid new next met more is = let less = heard_ahead Lines TooLong old mid tt met in nearer_by next old new (omega (arith, less, more))
near_client (Stopped stop) old mid new next met more is = subst (λ (n : Option Place). IfSome n (λ p. distance p new < distance Waiting old)) (sym is) tt

pub near_server : {Origin : Type 0} (heard : Heard) (old mid new : World Origin) (next : Option Place) → Met Take (Ok heard) old mid → ahead_of_client new ≤ ahead_of_client mid → IfSome next (λ place. place ≡ Waiting)
    → IfSome next (λ p. distance p new < distance Answering old)
near_server heard old mid new None met more is = tt
near_server heard old mid new (Some place) met more is =
    let before = met_ahead Take (Ok heard) old mid met in
    subst (λ (p : Place). distance p new < distance Answering old) (sym is) (omega (arith, before, more))
