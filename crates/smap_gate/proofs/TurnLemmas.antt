-- Each turn comes nearer to the end.
use Rattle.std.proofs.Common.{arith, ◌<◌, ◌≤◌, Option, Some, None, IfSome, Ok}
use Rattle.fw_outside.specs.declared.heard.Heard.{Heard}
use Rattle.fw_outside.specs.declared.heard.Heard.TheVariants.{Line, TooLong, Stopped}
use Rattle.session_acts.specs.Acts.Act.{Hear}
use Rattle.session_acts.specs.Distance.{ahead_of_client}
use Rattle.session_acts.specs.Met.{Met}
use Rattle.session_acts.specs.World.{World}
use Rattle.session_acts.specs.declared.form.Form.TheVariants.{Lines}
use Rattle.session_acts.proofs.AheadLemmas.{heard_ahead}
use Rattle.smap_gate.specs.Draft.{IsNext}
use Rattle.smap_gate.specs.declared.place.Place.{Place}

some_near : {Origin : Type 0} (next : Option Place) (old new : World Origin) → ahead_of_client new < ahead_of_client old → IfSome next (λ p. ahead_of_client new < ahead_of_client old)
some_near None old new less = tt
some_near (Some place) old new less = less

pub near_line : {Origin : Type 0} (heard : Heard) (old mid new : World Origin) (next : Option Place) → Met (Hear Lines) (Ok heard) old mid → ahead_of_client new ≤ ahead_of_client mid → IsNext heard next
    → IfSome next (λ p. ahead_of_client new < ahead_of_client old)
near_line (Line line) old mid new next met more fresh =
    let less = heard_ahead Lines (Line line) old mid tt met in some_near next old new (omega (arith, less, more))
near_line TooLong old mid new next met more fresh =
    let less = heard_ahead Lines TooLong old mid tt met in some_near next old new (omega (arith, less, more))
near_line (Stopped stop) old mid new next met more none = rw none tt
