-- What each deed gives or keeps is given or kept by all of them.
use Rattle.std.proofs.Common.{refl, sym, subst, List, [], ◌∷◌, ◌++◌, map, Result, Ok, Err}
use Rattle.fw_acts.specs.Acts.{Row, Step, PlaceTable}
use Rattle.fw_acts.specs.Acts.Row.{Do, At, Over}
use Rattle.fw_acts.specs.Ran.{Comes, Ran}
use Rattle.fw_acts.specs.Runs.{DoesAll}
use Rattle.fw_types.specs.declared.ending.Ending.{Ending}
use Rattle.session_acts.specs.Acts.{Act, Outcome}
use Rattle.session_acts.specs.Deeds.{Deed, DeedsAll, Gains, Lasts, deed_last, deeds_ran, done, gives}
use Rattle.session_acts.specs.Met.{acts}
use Rattle.session_acts.specs.Session.{Held, deeds_of, owed}
use Rattle.session_acts.specs.World.{World}
use Rattle.session_acts.specs.declared.cause.Cause.{Cause}

pub all_gain : {Origin A : Type 0} {of : (act : Act) → Outcome act → List A} {Grew : List A → World Origin → World Origin → Type 0} → Gains Origin of Grew
    → (deeds : List Deed) (old new : World Origin) → DeedsAll deeds old new → Grew (gives of deeds) old new
all_gain {Grew = Grew} gains [] old new all = subst (λ world. Grew [] old world) all (gains.none old)
all_gain {of = of} gains (deed ∷ deeds) old new all =
    gains.both (of deed.act deed.outcome) (gives of deeds) old all.0 new (gains.one deed.act deed.outcome old all.0 all.1) (all_gain gains deeds all.0 new all.2)

pub all_last : {Origin : Type 0} {Stays : World Origin → World Origin → Type 0} → Lasts Origin Stays
    → (deeds : List Deed) (old new : World Origin) → DeedsAll deeds old new → Stays old new
all_last {Stays = Stays} lasts [] old new all = subst (λ world. Stays old world) all (lasts.none old)
all_last lasts (deed ∷ deeds) old new all =
    lasts.both old all.0 new (lasts.one deed.act deed.outcome old all.0 all.1) (all_last lasts deeds all.0 new all.2)

-- some deeds, and then others
pub deeds_both : {Origin : Type 0} (first more : List Deed) (old mid new : World Origin) → DeedsAll first old mid → DeedsAll more mid new → DeedsAll (first ++ more) old new
deeds_both [] more old mid new a b = subst (λ world. DeedsAll more world new) (sym a) b
deeds_both (deed ∷ first) more old mid new a b = (a.0, a.1, deeds_both first more a.0 mid new a.2 b)

module _ {Origin : Type 0} where
  -- what was done of a row
  pub deeds_done : (steps : List (Step (acts Origin))) (old new : World Origin) → DoesAll steps old new → DeedsAll (map done steps) old new
  deeds_done [] old new does = does
  deeds_done (step ∷ steps) old new does = (does.0, does.1, deeds_done steps does.0 new does.2)

  pub deeds_last : {P T : Type 0} (rows : PlaceTable (acts Origin) P) (at : T → Row (acts Origin) P) (result : Result T Cause) (new : World Origin) (left : Row (acts Origin) P) (mid : World Origin) (comes : Comes rows at result new left mid)
      → DeedsAll (deed_last rows at result new left mid comes) mid new
  deeds_last rows at (Ok x) new left mid comes = comes.1
  deeds_last rows at (Err cause) new (Do act go) mid comes = (new, comes.met, refl)
  deeds_last rows at (Err cause) new (At place) mid comes = (new, comes.met, refl)
  deeds_last rows at (Err cause) new Over mid comes = absurd comes

  pub ran_deeds : {P T : Type 0} {rows : PlaceTable (acts Origin) P} {r : Row (acts Origin) P} {at : T → Row (acts Origin) P} {old new : World Origin} {result : Result T Cause} (ran : Ran rows r at old new result)
      → DeedsAll (deeds_ran ran) old new
  ran_deeds {rows = rows} {at = at} {old = old} {new = new} {result = result} ran =
      deeds_both (map done ran.steps) (deed_last rows at result new ran.left ran.mid ran.comes) old ran.mid new (deeds_done ran.steps old ran.mid ran.does) (deeds_last rows at result new ran.left ran.mid ran.comes)

  -- what a session did
  pub held_deeds : {P : Type 0} {rows : PlaceTable (acts Origin) P} {first : Row (acts Origin) P} {old new : World Origin} {ending : Ending} (held : Held rows first old new ending)
      → DeedsAll (deeds_of held) old new
  held_deeds {old = old} {new = new} held = deeds_both (deeds_ran held.ran) (owed held.mid held.answer) old held.mid new (ran_deeds held.ran) held.after

  -- what each deed keeps is kept by a run
  pub ran_last : {Stays : World Origin → World Origin → Type 0} → Lasts Origin Stays → {P T : Type 0} {rows : PlaceTable (acts Origin) P} {r : Row (acts Origin) P} {at : T → Row (acts Origin) P} {old new : World Origin} {result : Result T Cause}
      → Ran rows r at old new result → Stays old new
  ran_last lasts {old = old} {new = new} ran = all_last lasts (deeds_ran ran) old new (ran_deeds ran)

-- some deeds, and then others, part
pub record DeedsParted {Origin : Type 0} (first more : List Deed) (old new : World Origin) : Type 0 where
  pub mid : World Origin
  pub before : DeedsAll first old mid
  pub after : DeedsAll more mid new

pub deeds_parted : {Origin : Type 0} (first more : List Deed) (old new : World Origin) → DeedsAll (first ++ more) old new → DeedsParted first more old new
deeds_parted [] more old new all = record { mid = old; before = refl; after = all }
deeds_parted (deed ∷ first) more old new all =
    let rest = deeds_parted first more all.0 new all.2 in
    record { mid = rest.mid; before = (all.0, all.1, rest.before); after = rest.after }
