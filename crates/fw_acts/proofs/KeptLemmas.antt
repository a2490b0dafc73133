-- What each act keeps is kept by a whole run.
use Rattle.std.specs.Prelude.{List, [], ◌∷◌, Result, Ok, Err}
use Rattle.std.proofs.Common.{subst}
use Rattle.fw_acts.specs.Acts.{Sig, Step, Row, PlaceTable}
use Rattle.fw_acts.specs.Runs.{DoesAll}
use Rattle.fw_acts.specs.Ran.{Ran, Comes}
use Rattle.fw_acts.proofs.RanLemmas.{stopped}
use Rattle.fw_acts.proofs.Preserved.{Preserved}

-- what each act keeps is kept by all of them
pub does_kept : {S : Sig} {Stays : S.World → S.World → Type 0} → Preserved S Stays → (steps : List (Step S)) (old new : S.World)
    → DoesAll steps old new → Stays old new
does_kept {Stays = Stays} kept [] old new does = subst (λ world. Stays old world) does (kept.none old)
does_kept kept (step ∷ steps) old new does =
    kept.both old does.0 new (kept.act step.act step.answer old does.0 does.1) (does_kept kept steps does.0 new does.2)

comes_kept : {S : Sig} {Stays : S.World → S.World → Type 0} → Preserved S Stays → {P T : Type 0} (rows : PlaceTable S P) (at : T → Row S P) (result : Result T S.Stop) (new : S.World) (s : Row S P) (mid : S.World)
    → Comes rows at result new s mid → Stays mid new
comes_kept {Stays = Stays} kept rows at (Ok x) new s mid comes = subst (λ world. Stays mid world) comes.1 (kept.none mid)
comes_kept kept rows at (Err stop) new s mid comes =
    let here = stopped rows s stop mid new comes in kept.stop here.act stop mid new here.why

-- and by a call, however it ended
pub ran_kept : {S : Sig} {Stays : S.World → S.World → Type 0} → Preserved S Stays → {P T : Type 0} {rows : PlaceTable S P} {r : Row S P} {at : T → Row S P} {old new : S.World} {result : Result T S.Stop}
    → Ran rows r at old new result → Stays old new
ran_kept kept {rows = rows} {at = at} {old = old} {new = new} {result = result} ran =
    kept.both old ran.mid new (does_kept kept ran.steps old ran.mid ran.does) (comes_kept kept rows at result new ran.left ran.mid ran.comes)
