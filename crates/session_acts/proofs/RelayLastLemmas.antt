-- A session with a relay is its dialogue, the relay, and what is owed.
use Rattle.std.proofs.Common.{◌≡◌, refl, sym, ap, subst, ◌∙◌, ℕ, ◌⊎◌, inl, inr, List, [], ◌∷◌, ◌++◌, map, Option, Some, Result, Ok, Err, append_assoc, append-nil}
use Rattle.fw_acts.specs.Acts.{Row, Step, PlaceTable}
use Rattle.fw_acts.specs.Acts.Row.{Do, At, Over}
use Rattle.fw_acts.specs.Ran.{Comes, Ran, StopsAt}
use Rattle.fw_acts.specs.Runs.{DoesAll, Run}
use Rattle.fw_acts.proofs.RunLemmas.{does_parted}
use Rattle.fw_outside.specs.SinkView.{SinkView}
use Rattle.fw_outside.specs.SourceView.{SourceView}
use Rattle.fw_outside.specs.ToldList.{IsOver}
use Rattle.fw_types.specs.declared.ending.Ending.{Ending}
use Rattle.relay_ways.specs.Carried.{LeavesSink, LeavesSource, Way, is_write_fault}
use Rattle.relay_ways.specs.Way.{holding}
use Rattle.relay_ways.specs.declared.way_end.WayEnd.{WayEnd}
use Rattle.relay_ways.specs.declared.way_end.WayEnd.TheVariants as ways
use Rattle.session_acts.specs.Acts.{Outcome}
use Rattle.session_acts.specs.Acts.Act.{Relay}
use Rattle.session_acts.specs.Deeds.{Deed, deed_last, deeds_ran, done}
use Rattle.session_acts.specs.Met.{Carrying, Met, acts}
use Rattle.session_acts.specs.RelayLast.{IsThrough, RelaysLast, StopsBefore, told_by}
use Rattle.session_acts.specs.Relayed.{relayed, then_relay}
use Rattle.session_acts.specs.Relaying.{Through}
use Rattle.session_acts.specs.Session.{Held, owed}
use Rattle.session_acts.specs.World.{Speaker, World}
use Rattle.session_acts.specs.declared.cause.Cause.{Cause}

module _ {Origin P : Type 0} (rows : PlaceTable (acts Origin) P) where
  -- these steps are within the dialogue
  record Within (r : Row (acts Origin) P) (steps : List (Step (acts Origin))) (left : Row (acts Origin) P) : Type 0 where
    before : Row (acts Origin) P
    run : Run rows r steps before
    is : left ≡ then_relay before

  -- or they are all of it, and then the relay
  record Beyond (r : Row (acts Origin) P) (steps : List (Step (acts Origin))) (left : Row (acts Origin) P) : Type 0 where
    talk : List (Step (acts Origin))
    through : Option Through
    run : Run rows r talk Over
    is : steps ≡ talk ++ (record { act = Relay; answer = through } ∷ [])
    over : left ≡ Over

  within_more : (r s left : Row (acts Origin) P) (step : Step (acts Origin)) (steps : List (Step (acts Origin))) → ((t : Row (acts Origin) P) (all : List (Step (acts Origin))) → Run rows s all t → Run rows r (step ∷ all) t)
      → Within s steps left ⊎ Beyond s steps left → Within r (step ∷ steps) left ⊎ Beyond r (step ∷ steps) left
  within_more r s left step steps more (inl w) = inl (record { before = w.before; run = more w.before steps w.run; is = w.is })
  within_more r s left step steps more (inr b) = inr (record { talk = step ∷ b.talk; through = b.through; run = more Over b.talk b.run; is = ap (λ (z : List (Step (acts Origin))). step ∷ z) b.is; over = b.over })

  relay_alone : (step : Step (acts Origin)) (steps : List (Step (acts Origin))) (left : Row (acts Origin) P) (through : Option Through) → step ≡ record { act = Relay; answer = through } → Run (relayed rows) Over steps left → Within Over (step ∷ steps) left ⊎ Beyond Over (step ∷ steps) left
  relay_alone step [] left through is run = inr (record { talk = []; through = through; run = refl; is = ap (λ (s : Step (acts Origin)). s ∷ []) is; over = sym run })
  relay_alone step (other ∷ steps) left through is run = absurd run

  parts : (r left : Row (acts Origin) P) (steps : List (Step (acts Origin))) → Run (relayed rows) (then_relay r) steps left → Within r steps left ⊎ Beyond r steps left
  parts r left [] run = inl (record { before = r; run = refl; is = sym run })
  parts (Do act go) left (step ∷ steps) run = within_more (Do act go) (go run.0) left step steps (λ t all more. (run.0, run.1, more)) (parts (go run.0) left steps run.2)
  parts (At place) left (step ∷ steps) run = within_more (At place) (rows.go place run.0) left step steps (λ t all more. (run.0, run.1, more)) (parts (rows.go place run.0) left steps run.2)
  parts Over left (step ∷ steps) run = relay_alone step steps left run.0 run.1 run.2

  -- no row that relays is over
  never_over : (r : Row (acts Origin) P) → then_relay r ≡ Over → ⊥
  never_over (Do act go) is = absurd (cc)
  never_over (At place) is = absurd (cc)
  never_over Over is = absurd (cc)

  -- a dialogue that stopped, and the row at which it did
  module _ (first : Row (acts Origin) P) (old new : World Origin) (cause : Cause) (steps : List (Step (acts Origin))) (mid : World Origin) (does : DoesAll steps old mid) where
    -- with its deeds
    record Before (deeds : List Deed) : Type 0 where
      talk : Ran rows first (λ (done : Unit {0}). Over) old new (Err cause)
      same : deeds ≡ deeds_ran talk

    record Last (deeds : List Deed) : Type 0 where
      talk : Ran rows first (λ (done : Unit {0}). Over) old mid (Ok (tt {0}))
      outcome : Outcome Relay
      met : Met Relay outcome mid new
      is : told_by outcome ≡ Err cause
      same : deeds ≡ deeds_ran talk ++ (record { act = Relay; outcome = outcome } ∷ [])

    stops_there : (left : Row (acts Origin) P) → Run rows first steps left → (stops : StopsAt (relayed rows) (then_relay left) cause mid new)
        → Before (map done steps ++ deed_last (relayed rows) (λ (over : Unit {0}). Over) (Err cause) new (then_relay left) mid stops) ⊎ Last (map done steps ++ deed_last (relayed rows) (λ (over : Unit {0}). Over) (Err cause) new (then_relay left) mid stops)
    stops_there (Do act go) run stops = inl (record { talk = record { steps = steps; left = Do act go; mid = mid; run = run; does = does; comes = stops }; same = refl })
    stops_there (At place) run stops = inl (record { talk = record { steps = steps; left = At place; mid = mid; run = run; does = does; comes = stops }; same = refl })
    stops_there Over run stops = inr (record {
      talk = record { steps = steps; left = Over; mid = mid; run = run; does = does; comes = (refl, refl) };
      outcome = Err stops.halt;
      met = stops.met;
      is = sym (ap (λ (c : Cause). Err c) stops.is_cause);
      same = ap (λ (z : List Deed). z ++ (record { act = Relay; outcome = Err stops.halt } ∷ [])) (sym (append-nil (map done steps)));
    })

  -- what was done, whatever came of it
  module _ (first : Row (acts Origin) P) (old new : World Origin) where
    record Stopped (dialogue : Result (Unit {0}) Cause) (deeds : List Deed) : Type 0 where
      cause : Cause
      talk : Ran rows first (λ (done : Unit {0}). Over) old new (Err cause)
      is : dialogue ≡ Err cause
      same : deeds ≡ deeds_ran talk

    record Went (dialogue : Result (Unit {0}) Cause) (deeds : List Deed) : Type 0 where
      before : World Origin
      talk : Ran rows first (λ (done : Unit {0}). Over) old before (Ok (tt {0}))
      outcome : Outcome Relay
      met : Met Relay outcome before new
      is : dialogue ≡ told_by outcome
      same : deeds ≡ deeds_ran talk ++ (record { act = Relay; outcome = outcome } ∷ [])

    went_by : (cause : Cause) (steps : List (Step (acts Origin))) (mid : World Origin) (does : DoesAll steps old mid) (deeds : List Deed) → Before first old new cause steps mid does deeds ⊎ Last first old new cause steps mid does deeds → Stopped (Err cause) deeds ⊎ Went (Err cause) deeds
    went_by cause steps mid does deeds (inl b) = inl (record { cause = cause; talk = b.talk; is = refl; same = b.same })
    went_by cause steps mid does deeds (inr l) = inr (record { before = mid; talk = l.talk; outcome = l.outcome; met = l.met; is = sym l.is; same = l.same })

    -- the relay was done
    went_through : (steps : List (Step (acts Origin))) (mid : World Origin) → DoesAll steps old mid → mid ≡ new → (left : Row (acts Origin) P) → Beyond first steps left → Went (Ok tt) (map done steps ++ [])
    went_through steps mid does same left b =
        let all : DoesAll (b.talk ++ (record { act = Relay; answer = b.through } ∷ [])) old mid = subst (λ (z : List (Step (acts Origin))). DoesAll z old mid) b.is does in
        let parted = does_parted old mid b.talk (record { act = Relay; answer = b.through } ∷ []) all in
        record {
          before = parted.mid;
          talk = record { steps = b.talk; left = Over; mid = parted.mid; run = b.run; does = parted.before; comes = (refl, refl) };
          outcome = Ok b.through;
          met = subst (λ (w : World Origin). Met Relay (Ok b.through) parted.mid w) (parted.after.2 ∙ same) parted.after.1;
          is = refl;
          same = append-nil (map done steps) ∙ ap (λ (z : List (Step (acts Origin))). map done z) b.is ∙ map_both b.talk b.through ∙ ap (λ (z : List Deed). z ++ (record { act = Relay; outcome = Ok b.through } ∷ [])) (sym (append-nil (map done b.talk)));
        }
      where
        map_both : (talk : List (Step (acts Origin))) (through : Option Through) → map done (talk ++ (record { act = Relay; answer = through } ∷ [])) ≡ map done talk ++ (record { act = Relay; outcome = Ok through } ∷ [])
        map_both [] through = refl
        map_both (step ∷ talk) through = ap (λ (z : List Deed). done step ∷ z) (map_both talk through)

    went : (dialogue : Result (Unit {0}) Cause) (steps : List (Step (acts Origin))) (left : Row (acts Origin) P) (mid : World Origin) → DoesAll steps old mid → (comes : Comes (relayed rows) (λ (done : Unit {0}). Over) dialogue new left mid) → Within first steps left ⊎ Beyond first steps left
        → Stopped dialogue (map done steps ++ deed_last (relayed rows) (λ (done : Unit {0}). Over) dialogue new left mid comes) ⊎ Went dialogue (map done steps ++ deed_last (relayed rows) (λ (done : Unit {0}). Over) dialogue new left mid comes)
    went (Ok over) steps left mid does comes (inl w) = absurd (never_over w.before (sym w.is ∙ comes.0))
    went (Ok over) steps left mid does comes (inr b) = inr (went_through steps mid does comes.1 left b)
    went (Err cause) steps left mid does comes (inl w) =
        let At_row : Row (acts Origin) P → Type 0 = λ row. (stops : StopsAt (relayed rows) row cause mid new) → Stopped (Err cause) (map done steps ++ deed_last (relayed rows) (λ (done : Unit {0}). Over) (Err cause) new row mid stops) ⊎ Went (Err cause) (map done steps ++ deed_last (relayed rows) (λ (done : Unit {0}). Over) (Err cause) new row mid stops) in
        subst At_row (sym w.is) (λ stops. went_by cause steps mid does (map done steps ++ deed_last (relayed rows) (λ (done : Unit {0}). Over) (Err cause) new (then_relay w.before) mid stops) (stops_there first old new cause steps mid does w.before w.run stops)) comes
    went (Err cause) steps left mid does comes (inr b) = absurd (subst (λ (row : Row (acts Origin) P). StopsAt (relayed rows) row cause mid new) b.over comes)

  relays_by : (first : Row (acts Origin) P) (old new : World Origin) (ending : Ending) (held : Held (relayed rows) (then_relay first) old new ending) → Stopped first old held.mid held.dialogue (deeds_ran held.ran) ⊎ Went first old held.mid held.dialogue (deeds_ran held.ran) → StopsBefore rows first held ⊎ RelaysLast rows first held
  relays_by first old new ending held (inl s) = inl (record { cause = s.cause; talk = s.talk; is = s.is; deeds = ap (λ (z : List Deed). z ++ owed held.mid held.answer) s.same })
  relays_by first old new ending held (inr w) = inr (record {
    before = w.before;
    talk = w.talk;
    outcome = w.outcome;
    met = w.met;
    is = w.is;
    deeds = ap (λ (z : List Deed). z ++ owed held.mid held.answer) w.same ∙ append_assoc (deeds_ran w.talk) (record { act = Relay; outcome = w.outcome } ∷ []) (owed held.mid held.answer);
  })

  pub held_relays : (first : Row (acts Origin) P) (old new : World Origin) (ending : Ending) (held : Held (relayed rows) (then_relay first) old new ending) → StopsBefore rows first held ⊎ RelaysLast rows first held
  held_relays first old new ending held =
      relays_by first old new ending held (went first old held.mid held.dialogue held.ran.steps held.ran.left held.ran.mid held.ran.does held.ran.comes (parts first held.ran.left held.ran.steps held.ran.run))

-- ---- a relay whose ways are done

pub done_through : (off on : Way) (old new : Speaker) → off.end ≡ ways.Done → on.end ≡ ways.Done → Carrying off on old new → IsThrough off on old new
done_through off on old new one other c =
    let leaves : LeavesSource ways.Done off.lost c.room c.drains.middle c.inlet = subst (λ (e : WayEnd). LeavesSource e off.lost c.room c.drains.middle c.inlet) one c.drains.leaves in
    let told : LeavesSink ways.Done (holding on.given old.outlet) c.outlet = subst (λ (e : WayEnd). LeavesSink e (holding on.given old.outlet) c.outlet) other c.supplies in
    let over : IsOver c.inlet.left = subst (λ (s : SourceView). IsOver s.left) (sym leaves.1.is) leaves.1.over in
    subst (λ (s : Speaker). IsThrough off on old s) (sym c.is) (record {
      over = over;
      given = sym (off.cut ∙ ap (λ (z : List ℕ). off.given ++ z) (off.whole (ap is_write_fault one)) ∙ append-nil off.given);
      shut = ap (λ (s : SinkView). s.shut) told;
    })
