-- By which steps a call's `Ran` is shown.
use Rattle.std.specs.Prelude.{◌≡◌, [], ◌∷◌, ◌++◌, refl, Result, Ok, Err, IsErrAnd}
use Rattle.std.proofs.Common.{subst, sym, ◌∙◌}
use Rattle.fw_acts.specs.Acts.{Sig, Row, PlaceTable}
use Rattle.fw_acts.specs.Acts.Row.{Do, At, Over}
use Rattle.fw_acts.specs.Runs.{Run, DoesAll}
use Rattle.fw_acts.specs.Ran.{StopsAt, Comes, Ran, Stopped}
use Rattle.fw_acts.proofs.RunLemmas.{run_joined, does_joined}

-- nothing was done: the answer tells the row at hand, or its first act stopped
pub ran_here : {S : Sig} {P T : Type 0} {rows : PlaceTable S P} {r : Row S P} {at : T → Row S P} {old new : S.World} {result : Result T S.Stop}
    → Comes rows at result new r old → Ran rows r at old new result
ran_here {r = r} {old = old} comes = record { steps = []; left = r; mid = old; run = refl; does = refl; comes = comes }

-- an act was done, and then the row that follows its answer
pub ran_did : {S : Sig} {P T : Type 0} {rows : PlaceTable S P} {act : S.Act} {go : S.Answer act → Row S P} {at : T → Row S P} {old mid new : S.World} {result : Result T S.Stop} (answer : S.Answer act)
    → S.does act answer old mid → Ran rows (go answer) at mid new result → Ran rows (Do act go) at old new result
ran_did {act = act} {mid = mid} answer done rest = record {
  steps = record { act = act; answer = answer } ∷ rest.steps;
  left = rest.left;
  mid = rest.mid;
  run = (answer, refl, rest.run);
  does = (mid, done, rest.does);
  comes = rest.comes;
}

-- a place's act was done, and then the row that follows its answer
pub ran_at : {S : Sig} {P T : Type 0} {rows : PlaceTable S P} {place : P} {at : T → Row S P} {old mid new : S.World} {result : Result T S.Stop} (answer : S.Answer (rows.act place))
    → S.does (rows.act place) answer old mid → Ran rows (rows.go place answer) at mid new result → Ran rows (At place) at old new result
ran_at {rows = rows} {place = place} {mid = mid} answer done rest = record {
  steps = record { act = rows.act place; answer = answer } ∷ rest.steps;
  left = rest.left;
  mid = rest.mid;
  run = (answer, refl, rest.run);
  does = (mid, done, rest.does);
  comes = rest.comes;
}

-- one call, and then another from the row to which the first one came
pub ran_then : {S : Sig} {P T U : Type 0} {rows : PlaceTable S P} {r : Row S P} {at : T → Row S P} {to : U → Row S P} {old mid new : S.World} {x : T} {result : Result U S.Stop}
    → Ran rows r at old mid (Ok x) → Ran rows (at x) to mid new result → Ran rows r to old new result
ran_then {rows = rows} {r = r} {old = old} a b = record {
  steps = a.steps ++ b.steps;
  left = b.left;
  mid = b.mid;
  run = run_joined rows r a.left b.left a.steps b.steps a.run (subst (λ row. Run rows row b.steps b.left) (sym a.comes.0) b.run);
  does = does_joined old a.mid b.mid a.steps b.steps a.does (subst (λ world. DoesAll b.steps world b.mid) (sym a.comes.1) b.does);
  comes = b.comes;
}

-- another answer that tells the same row
pub ran_as : {S : Sig} {P T U : Type 0} {rows : PlaceTable S P} {r : Row S P} {at : T → Row S P} {to : U → Row S P} {old new : S.World} {x : T} {y : U}
    → Ran rows r at old new (Ok x) → at x ≡ to y → Ran rows r to old new (Ok y)
ran_as a same = record { steps = a.steps; left = a.left; mid = a.mid; run = a.run; does = a.does; comes = (a.comes.0 ∙ same, a.comes.1) }

-- a call that stopped says nothing of the rows to which it did not come
pub ran_stop : {S : Sig} {P T U : Type 0} {rows : PlaceTable S P} {r : Row S P} {at : T → Row S P} {to : U → Row S P} {old new : S.World} {stop : S.Stop}
    → Ran rows r at old new (Err stop) → Ran rows r to old new (Err stop)
ran_stop a = record { steps = a.steps; left = a.left; mid = a.mid; run = a.run; does = a.does; comes = a.comes }

-- so it is with a stop that `?` hands on
pub ran_on : {S : Sig} {P T U : Type 0} {rows : PlaceTable S P} {r : Row S P} {at : T → Row S P} {to : U → Row S P} {old new : S.World} {stop : S.Stop} {result : Result U S.Stop}
    → Ran rows r at old new (Err stop) → IsErrAnd result (λ e. e ≡ stop) → Ran rows r to old new result
ran_on {result = Ok x} a same = absurd same
ran_on {rows = rows} {r = r} {to = to} {old = old} {new = new} {result = Err e} a same =
    subst (λ z. Ran rows r to old new (Err z)) (sym same) (ran_stop a)

-- what stopped at a row stopped at its next act
pub stopped : {S : Sig} {P : Type 0} (rows : PlaceTable S P) (s : Row S P) (stop : S.Stop) (old new : S.World)
    → StopsAt rows s stop old new → Stopped rows s stop old new
stopped rows (Do act go) stop old new why = record { act = act; next = refl; why = why }
stopped rows (At place) stop old new why = record { act = rows.act place; next = refl; why = why }
stopped rows Over stop old new why = absurd why
