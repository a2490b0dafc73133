-- What a whole run gives.
use Rattle.std.specs.Prelude.{◌≡◌, List, [], ◌∷◌, ◌++◌, refl, Result, Ok, Err}
use Rattle.std.proofs.Common.{subst, sym, ap, ◌∙◌, append_assoc, append-nil}
use Rattle.std.proofs.lemmas.List.Concat.{flat_map-append}
use Rattle.fw_acts.specs.Acts.{Sig, Step, Row, PlaceTable}
use Rattle.fw_acts.specs.Runs.{Run, Next, DoesAll}
use Rattle.fw_acts.specs.Acts.Row.{Do, At, Over}
use Rattle.fw_acts.specs.Ran.{Ran}
use Rattle.fw_acts.proofs.RanLemmas.{stopped}
use Rattle.fw_acts.specs.Histories.{Watch, history}
use Rattle.fw_acts.specs.Fronts.{GoesOn}
use Rattle.fw_acts.specs.Projections.{projection, Grows, Cuts, Gave}

-- acts done one after another give what the first ones give, and then what the others give
pub projection_joined : {S : Sig} {A : Type 0} (gives : (act : S.Act) → S.Answer act → List A) (first more : List (Step S))
    → projection gives (first ++ more) ≡ projection gives first ++ projection gives more
projection_joined gives first more = flat_map-append (λ step. gives step.act step.answer) first more

-- so a front of a run gives a front of what the run gives
pub projection_front : {S : Sig} {P A : Type 0} {rows : PlaceTable S P} {first : List (Step S)} {s : Row S P} {all : List (Step S)} {t : Row S P} (gives : (act : S.Act) → S.Answer act → List A) (g : GoesOn rows first s all t)
    → projection gives all ≡ projection gives first ++ projection gives g.more
projection_front {first = first} gives g = ap (projection gives) g.joined ∙ projection_joined gives first g.more

-- the world grows by the projection of all acts that were done
pub does_grow : {S : Sig} {A : Type 0} {gives : (act : S.Act) → S.Answer act → List A} {Grew : List A → S.World → S.World → Type 0} → Grows S gives Grew → (steps : List (Step S)) (old new : S.World)
    → DoesAll steps old new → Grew (projection gives steps) old new
does_grow {Grew = Grew} grows [] old new does = subst (λ world. Grew [] old world) does (grows.none old)
does_grow {gives = gives} grows (step ∷ steps) old new does =
    grows.both (gives step.act step.answer) (projection gives steps) old does.0 new (grows.act step.act step.answer old does.0 does.1) (does_grow grows steps does.0 new does.2)

-- and so it does in a call, up to the act at which it stopped
pub ran_grew : {S : Sig} {A : Type 0} {gives : (act : S.Act) → S.Answer act → List A} {Grew : List A → S.World → S.World → Type 0} → Grows S gives Grew → {P T : Type 0} {rows : PlaceTable S P} {r : Row S P} {at : T → Row S P} {old new : S.World} {result : Result T S.Stop}
    (ran : Ran rows r at old new result) → Grew (projection gives ran.steps) old ran.mid
ran_grew grows {old = old} ran = does_grow grows ran.steps old ran.mid ran.does

-- the act that comes next is the first one of a run that goes on
next_first : {S : Sig} {P : Type 0} (rows : PlaceTable S P) (left : Row S P) (act : S.Act) (step : Step S) (more : List (Step S)) (t : Row S P)
    → Next rows left act → Run rows left (step ∷ more) t → act ≡ step.act
next_first {S} rows (Do first go) act step more t next run = sym (ap (λ (z : Step S). z.act) run.1 ∙ next)
next_first {S} rows (At place) act step more t next run = sym (ap (λ (z : Step S). z.act) run.1 ∙ next)
next_first rows Over act step more t next run = absurd next

-- a part of the next act is a front of what a run gives that goes on with it
part_front : {S : Sig} {A : Type 0} (gives : (act : S.Act) → S.Answer act → List A) (steps : List (Step S)) (part rest : List A) (step : Step S) (more : List (Step S))
    → gives step.act step.answer ≡ part ++ rest → projection gives (steps ++ (step ∷ more)) ≡ (projection gives steps ++ part) ++ (rest ++ projection gives more)
part_front gives steps part rest step more is =
    let before = projection gives steps in
    let after = projection gives more in
    projection_joined gives steps (step ∷ more) ∙ ap (λ here. before ++ (here ++ after)) is ∙ ap (λ here. before ++ here) (append_assoc part rest after) ∙ sym (append_assoc before part (rest ++ after))

-- what a call gave, however it ended
pub ran_gave : {S : Sig} {A : Type 0} {gives : (act : S.Act) → S.Answer act → List A} {Grew : List A → S.World → S.World → Type 0} → Grows S gives Grew → Cuts S gives Grew → {P T : Type 0} {rows : PlaceTable S P} {r : Row S P} {at : T → Row S P} {old new : S.World} (result : Result T S.Stop) (ran : Ran rows r at old new result)
    → Gave rows gives Grew ran.steps ran.left old new
ran_gave {gives = gives} {Grew = Grew} grows cuts {old = old} {new = new} (Ok x) ran =
    let done = projection gives ran.steps in
    record {
      part = [];
      grew = subst (λ given. Grew given old new) (sym (append-nil done)) (subst (λ world. Grew done old world) ran.comes.1 (ran_grew grows ran));
      front = λ step more t run.
          let rest = projection gives (step ∷ more) in
          (rest, projection_joined gives ran.steps (step ∷ more) ∙ ap (λ given. given ++ rest) (sym (append-nil done)));
      over = λ is. refl;
    }
ran_gave {S} {A} {gives = gives} {Grew = Grew} grows cuts {rows = rows} {old = old} {new = new} (Err stop) ran =
    let here = stopped rows ran.left stop ran.mid new ran.comes in
    let cut = cuts here.act stop ran.mid new here.why in
    record {
      part = cut.part;
      grew = grows.both (projection gives ran.steps) cut.part old ran.mid new (ran_grew grows ran) cut.grew;
      front = λ step more t run.
          let same = next_first rows ran.left here.act step more t here.next run in
          let Front : S.Act → Type 0 = λ act. (answer : S.Answer act) → (rest : List A) × (gives act answer ≡ cut.part ++ rest) in
          let front = subst Front same cut.front step.answer in
          (front.0 ++ projection gives more, part_front gives ran.steps cut.part front.0 step more front.1);
      over = λ is. absurd (subst (λ row. Next rows row here.act) is here.next);
    }

-- a watch that adds to a list what each act gives has noted the projection
pub history_projection : {S : Sig} {P A : Type 0} (gives : (act : S.Act) → S.Answer act → List A) (watch : Watch S P) (view : watch.Noted → List A)
    → ((noted : watch.Noted) (act : S.Act) (answer : S.Answer act) → view (watch.note noted act answer) ≡ view noted ++ gives act answer)
    → (noted : watch.Noted) (steps : List (Step S)) → view (history watch noted steps) ≡ view noted ++ projection gives steps
history_projection gives watch view each noted [] = sym (append-nil (view noted))
history_projection gives watch view each noted (step ∷ steps) =
    let rest = projection gives steps in
    history_projection gives watch view each (watch.note noted step.act step.answer) steps ∙ ap (λ seen. seen ++ rest) (each noted step.act step.answer) ∙ append_assoc (view noted) (gives step.act step.answer) rest
