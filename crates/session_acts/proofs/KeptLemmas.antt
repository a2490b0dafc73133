-- The references that a session is lent stay, and asking leaves the link.
use Rattle.std.proofs.Common.{◌≡◌, refl, ◌∙◌, Result}
use Rattle.fw_types.specs.declared.ending.Ending.{Ending}
use Rattle.fw_acts.specs.Acts.{Row, PlaceTable}
use Rattle.fw_acts.specs.Ran.{Ran}
use Rattle.session_acts.specs.Deeds.{Lasts}
use Rattle.session_acts.specs.Finishing.{Finishing}
use Rattle.session_acts.specs.Met.{acts}
use Rattle.session_acts.specs.Session.{owed}
use Rattle.session_acts.specs.World.{World}
use Rattle.session_acts.specs.declared.cause.Cause.{Cause}
use Rattle.session_acts.proofs.DeedLemmas.{all_last, ran_last}

pub names_last : {Origin : Type 0} → Lasts Origin (λ old new. new.names ≡ old.names)
names_last = record { none = λ world. refl; both = λ old mid new a b. b ∙ a; one = λ act outcome old new met. met.names }

-- as they do by a run of rows, and by what is owed after it
pub ran_names : {Origin P T : Type 0} {rows : PlaceTable (acts Origin) P} {r : Row (acts Origin) P} {at : T → Row (acts Origin) P} {old new : World Origin} {result : Result T Cause} → Ran rows r at old new result → new.names ≡ old.names
ran_names ran = ran_last names_last ran

pub kept_names : {Origin : Type 0} {dialogue : Result (Unit {0}) Cause} {old new : World Origin} {ending : Ending} → Finishing dialogue old new ending → new.names ≡ old.names
kept_names {old = old} {new = new} finishing = all_last names_last (owed old finishing.answer) old new finishing.after
