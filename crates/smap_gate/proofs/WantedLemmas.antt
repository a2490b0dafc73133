-- Each act of a session is wanted.
use Rattle.std.proofs.Common.{refl, subst, List, [], ◌∷◌, ◌++◌, map, Result, Ok, Err}
use Rattle.fw_acts.specs.Acts.{Row, Step}
use Rattle.fw_acts.specs.Acts.Row.{Do, At, Over}
use Rattle.fw_acts.specs.Histories.{AllMay, Leaves, history}
use Rattle.fw_acts.specs.Ran.{Comes}
use Rattle.fw_acts.proofs.HistoryLemmas.{run_leaves, run_may}
use Rattle.fw_types.specs.declared.ending.Ending.{Ending}
use Rattle.session_acts.specs.Deeds.{Deed, deed_last, deeds_ran, done}
use Rattle.session_acts.specs.Met.{acts}
use Rattle.session_acts.specs.Session.{Held}
use Rattle.session_acts.specs.World.{World}
use Rattle.session_acts.specs.declared.cause.Cause.{Cause}
use Rattle.smap_gate.specs.Dialogue.{smap_row, smap_rows}
use Rattle.smap_gate.specs.Gate.{Gate}
use Rattle.smap_gate.specs.Replies.{Reply}
use Rattle.smap_gate.specs.Wanted.{AreWanted, greeting, owing_behind}
use Rattle.smap_gate.specs.declared.place.Place.{Place}
use Rattle.smap_gate.proofs.ReplyLemmas.{first_tells, own_rows, rows_tell, watch}

module _ {Origin : Type 0} (gate : Gate) where
  last_wanted : (owing : Reply) (dialogue : Result (Unit {0}) Cause) (new mid : World Origin) (left : Row (acts Origin) Place) (comes : Comes (smap_rows gate) (λ (over : Unit {0}). Over) dialogue new left mid) → Leaves (watch Origin gate) left owing
      → AreWanted gate owing (deed_last (smap_rows gate) (λ (over : Unit {0}). Over) dialogue new left mid comes)
  last_wanted owing (Ok over) new mid left comes leaves = subst (λ (row : Row (acts Origin) Place). Leaves (watch Origin gate) row owing) comes.0 leaves
  last_wanted owing (Err cause) new mid (Do act go) comes leaves = (leaves.0, refl)
  last_wanted owing (Err cause) new mid (At place) comes leaves = ((rows_tell Origin gate place owing leaves).0, refl)
  last_wanted owing (Err cause) new mid Over comes leaves = absurd comes

  steps_wanted : (owing : Reply) (steps : List (Step (acts Origin))) (last : List Deed) → AllMay (watch Origin gate) owing steps → AreWanted gate (history (watch Origin gate) owing steps) last → AreWanted gate owing (map done steps ++ last)
  steps_wanted owing [] last all ends = ends
  steps_wanted owing (step ∷ steps) last all ends = (all.0, steps_wanted (owing_behind gate owing step.act step.answer) steps last all.1 ends)

  pub are_wanted : (old new : World Origin) (ending : Ending) (held : Held (smap_rows gate) smap_row old new ending) → AreWanted gate greeting (deeds_ran held.ran)
  are_wanted old new ending held =
      let ran = held.ran in
      let leaves = run_leaves (own_rows Origin gate) (watch Origin gate) (rows_tell Origin gate) smap_row ran.left greeting ran.steps (first_tells Origin gate) ran.run in
      let all = run_may (own_rows Origin gate) (watch Origin gate) (rows_tell Origin gate) smap_row ran.left greeting ran.steps (first_tells Origin gate) ran.run in
      let here = history (watch Origin gate) greeting ran.steps in
      let last = deed_last (smap_rows gate) (λ (over : Unit {0}). Over) held.dialogue held.mid ran.left ran.mid ran.comes in
      steps_wanted greeting ran.steps last all (last_wanted here held.dialogue held.mid ran.mid ran.left ran.comes leaves)
