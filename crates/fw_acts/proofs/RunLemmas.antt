-- Runs, and what their acts do, join and part.
use Rattle.std.specs.Prelude.{List, [], ◌∷◌, ◌++◌, refl}
use Rattle.std.proofs.Common.{subst, sym}
use Rattle.fw_acts.specs.Acts.{Sig, Step, Row, PlaceTable}
use Rattle.fw_acts.specs.Acts.Row.{Do, At, Over}
use Rattle.fw_acts.specs.Runs.{Run, DoesAll, Parted, DoesParted}

-- two runs, the second from where the first leads, are one run
pub run_joined : {S : Sig} {P : Type 0} (rows : PlaceTable S P) (r s t : Row S P) (first more : List (Step S))
    → Run rows r first s → Run rows s more t → Run rows r (first ++ more) t
run_joined rows r s t [] more a b = subst (λ x. Run rows x more t) (sym a) b
run_joined rows (Do act go) s t (step ∷ first) more a b =
    (a.0, a.1, run_joined rows (go a.0) s t first more a.2 b)
run_joined rows (At place) s t (step ∷ first) more a b =
    (a.0, a.1, run_joined rows (rows.go place a.0) s t first more a.2 b)
run_joined rows Over s t (step ∷ first) more a b = absurd a

-- a run of joined acts parts into two
pub run_parted : {S : Sig} {P : Type 0} (rows : PlaceTable S P) (r t : Row S P) (first more : List (Step S))
    → Run rows r (first ++ more) t → Parted rows r first more t
run_parted rows r t [] more a = record { between = r; before = refl; after = a }
run_parted rows (Do act go) t (step ∷ first) more a =
    let rest = run_parted rows (go a.0) t first more a.2 in
    record { between = rest.between; before = (a.0, a.1, rest.before); after = rest.after }
run_parted rows (At place) t (step ∷ first) more a =
    let rest = run_parted rows (rows.go place a.0) t first more a.2 in
    record { between = rest.between; before = (a.0, a.1, rest.before); after = rest.after }
run_parted rows Over t (step ∷ first) more a = absurd a

-- what acts do, and then what others do, is what all of them do
pub does_joined : {S : Sig} (old mid new : S.World) (first more : List (Step S))
    → DoesAll first old mid → DoesAll more mid new → DoesAll (first ++ more) old new
does_joined old mid new [] more a b = subst (λ world. DoesAll more world new) (sym a) b
does_joined old mid new (step ∷ first) more a b = (a.0, a.1, does_joined a.0 mid new first more a.2 b)

-- what joined acts do parts into two
pub does_parted : {S : Sig} (old new : S.World) (first more : List (Step S))
    → DoesAll (first ++ more) old new → DoesParted first more old new
does_parted old new [] more a = record { mid = old; before = refl; after = a }
does_parted old new (step ∷ first) more a =
    let rest = does_parted a.0 new first more a.2 in
    record { mid = rest.mid; before = (a.0, a.1, rest.before); after = rest.after }
