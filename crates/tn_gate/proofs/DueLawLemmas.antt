-- What the rows log, said of all deeds of a session.
use Rattle.std.proofs.Common.{◌≡◌, refl, sym, ap, subst, ◌∙◌, ℕ, Bool, true, false, List, [], ◌∷◌, ◌++◌, map, Option, Some, None, Result, Ok, Err, codes, append_assoc, append-nil}
use mathlib.Core.Bool.{true≢false}
use Rattle.auth_events.specs.declared.port.PortFault.{PortFault}
use Rattle.auth_events.specs.declared.reply.Reply.{Reply}
use Rattle.auth_events.specs.declared.request.Request.TheVariants as requests
use Rattle.fw_acts.specs.Acts.{Row, Step, PlaceTable}
use Rattle.fw_acts.specs.Acts.Row.{Do, At, Over}
use Rattle.fw_acts.specs.Histories.{AllMay, Keeps, Leaves, history}
use Rattle.fw_acts.specs.Ran.{Comes}
use Rattle.fw_acts.proofs.HistoryLemmas.{run_leaves, run_may}
use Rattle.fw_types.specs.declared.dest.Dest.{Dest}
use Rattle.fw_types.specs.declared.ending.Ending.{Ending}
use Rattle.session_acts.specs.Acts.{Act, Halt, Outcome}
use Rattle.session_acts.specs.Acts.Act.{Hear, Say, Try, Log, Note, Ask, Renew, Dial, Reach, Take, Pass, HangUp, Relay, Deposit, Allot, TakeReply, OpenDoor, Join, Copy, Part}
use Rattle.session_acts.specs.Client.{line_logged}
use Rattle.session_acts.specs.Deeds.{Deed, deed_last, deeds_ran, done}
use Rattle.session_acts.specs.Hearing.{heard_by}
use Rattle.session_acts.specs.Met.{acts}
use Rattle.session_acts.specs.Relayed.{relayed, then_relay}
use Rattle.session_acts.specs.Session.{Held, closing, deeds_of, freeing, owed}
use Rattle.session_acts.specs.World.{Speaker, World}
use Rattle.session_acts.specs.declared.cause.Cause.{Cause}
use Rattle.session_acts.proofs.RelayLemmas.{keeps_relayed, leaves_relayed}
use Rattle.tn_gate.specs.Dialogue.{tn_row, tn_rows}
use Rattle.tn_gate.specs.Due.{LogsWhatIsDue, due, due_heard, takes_commands, writes_first}
use Rattle.tn_gate.specs.Gate.{Gate}
use Rattle.tn_gate.specs.Laws.{DenialsLogged, IsDialed, IsLoggedFirst, LinesDialed, begins}
use Rattle.tn_gate.specs.LogLines.{connect_line}
use Rattle.tn_gate.specs.declared.place.Place.{Place}
use Rattle.tn_gate.proofs.AccountLemmas.{deed_of}
use Rattle.tn_gate.proofs.DueLemmas.{DialsNext, IsFree, May, NoDial, Tells, Trail, behind, due_watch, first_logs, logging, may_free, rows_log}

-- ---- all deeds

abbrev trail_after : Gate → Trail → List Deed → Trail
trail_after gate t [] = t
trail_after gate t (deed ∷ deeds) = trail_after gate (behind gate t.deeds deed.act deed.outcome) deeds

-- each may come where it does, and nothing is due at the end
abbrev AllFit : Gate → Trail → List Deed → Type 0
AllFit gate t [] = IsFree t
AllFit gate t (deed ∷ deeds) = May gate t deed.act × AllFit gate (behind gate t.deeds deed.act deed.outcome) deeds

abbrev at_start : Trail
at_start = record { deeds = []; due = None; line = None }

fit_from : (gate : Gate) (t : Trail) (before after : List Deed) → AllFit gate t (before ++ after) → AllFit gate (trail_after gate t before) after
fit_from gate t [] after all = all
fit_from gate t (deed ∷ before) after all = fit_from gate (behind gate t.deeds deed.act deed.outcome) before after all.1

trail_deeds : (gate : Gate) (t : Trail) (deeds : List Deed) → (trail_after gate t deeds).deeds ≡ t.deeds ++ deeds
trail_deeds gate t [] = sym (append-nil t.deeds)
trail_deeds gate t (deed ∷ deeds) = trail_deeds gate (behind gate t.deeds deed.act deed.outcome) deeds ∙ append_assoc t.deeds (deed ∷ []) deeds

-- ---- what is owed

free_stop : (gate : Gate) (deeds : List Deed) (act : Act) (halt : Halt act) → IsFree (behind gate deeds act (Err halt))
free_stop gate deeds (Hear form) halt = record { due = none_heard (takes_commands gate deeds); line = tt }
  where
    none_heard : (command : Bool) → due_heard gate command (heard_by (Err halt)) ≡ None
    none_heard true = refl
    none_heard false = refl
free_stop gate deeds (Say text) halt = record { due = refl; line = tt }
free_stop gate deeds (Try text) halt = absurd halt
free_stop gate deeds (Log text) halt = record { due = refl; line = tt }
free_stop gate deeds (Note text) halt = absurd halt
free_stop gate deeds (Ask request) halt = record { due = refl; line = tt }
free_stop gate deeds (Renew name hash) halt = record { due = refl; line = tt }
free_stop gate deeds (Dial dest) halt = absurd halt
free_stop gate deeds (Reach dest) halt = record { due = refl; line = tt }
free_stop gate deeds Take halt = record { due = refl; line = tt }
free_stop gate deeds (Pass text) halt = record { due = refl; line = tt }
free_stop gate deeds HangUp halt = absurd halt
free_stop gate deeds Relay halt = record { due = refl; line = tt }
free_stop gate deeds (Deposit sender rcpts words most) halt = record { due = refl; line = tt }
free_stop gate deeds Allot halt = record { due = refl; line = tt }
free_stop gate deeds (TakeReply how) halt = record { due = refl; line = tt }
free_stop gate deeds OpenDoor halt = absurd halt
free_stop gate deeds (Join dest target) halt = absurd halt
free_stop gate deeds (Copy toward) halt = absurd halt
free_stop gate deeds Part halt = absurd halt

free_close : (gate : Gate) (deeds : List Deed) (answer : Result Reply PortFault) → IsFree (behind gate deeds (Ask requests.Close) answer)
free_close gate deeds (Ok reply) = record { due = refl; line = tt }
free_close gate deeds (Err fault) = record { due = refl; line = tt }

closing_fits : (gate : Gate) (t : Trail) (opened : Option ℕ) (answer : Result Reply PortFault) → IsFree t → AllFit gate t (closing opened answer)
closing_fits gate t None answer free = free
closing_fits gate t (Some sid) answer free = (may_free gate t (Ask requests.Close) free refl tt, free_close gate t.deeds answer)

owed_fits : (gate : Gate) (t : Trail) (link : Option Speaker) (opened : Option ℕ) (answer : Result Reply PortFault) → IsFree t → AllFit gate t (freeing link ++ closing opened answer)
owed_fits gate t None opened answer free = closing_fits gate t opened answer free
owed_fits gate t (Some up) opened answer free =
    (may_free gate t HangUp free refl tt, closing_fits gate (behind gate t.deeds HangUp (Ok tt)) opened answer (record { due = refl; line = tt }))

-- ---- a session

module _ (Origin : Type 0) (gate : Gate) where
  relay_leaves : (t : Trail) → IsFree t → Leaves (due_watch Origin gate) (Do Relay (λ flow. Over)) t
  relay_leaves t free = (may_free gate t Relay free refl tt, λ flow. record { due = refl; line = tt })

  steps_fit : (t : Trail) (steps : List (Step (acts Origin))) (more : List Deed) → AllMay (due_watch Origin gate) t steps → AllFit gate (history (due_watch Origin gate) t steps) more → AllFit gate t (map done steps ++ more)
  steps_fit t [] more all rest = rest
  steps_fit t (step ∷ steps) more all rest = (all.0, steps_fit (behind gate t.deeds step.act (Ok step.answer)) steps more all.1 rest)

  module _ (rows : PlaceTable (acts Origin) Place) (keeps : Keeps rows (due_watch Origin gate)) where
    abbrev over : Unit {0} → Row (acts Origin) Place
    over done = Over

    last_fits : (dialogue : Result (Unit {0}) Cause) (new : World Origin) (left : Row (acts Origin) Place) (mid : World Origin) (comes : Comes rows over dialogue new left mid) (t : Trail) (answer : Result Reply PortFault) → Leaves (due_watch Origin gate) left t
        → AllFit gate t (deed_last rows over dialogue new left mid comes ++ owed new answer)
    last_fits (Ok end) new left mid comes t answer leaves =
        owed_fits gate t new.server.link new.office.opened answer (subst (λ (r : Row (acts Origin) Place). Leaves (due_watch Origin gate) r t) comes.0 leaves)
    last_fits (Err cause) new (Do act go) mid comes t answer leaves =
        (leaves.0, owed_fits gate (behind gate t.deeds act (Err comes.halt)) new.server.link new.office.opened answer (free_stop gate t.deeds act comes.halt))
    last_fits (Err cause) new (At place) mid comes t answer leaves =
        ((keeps place t leaves).0, owed_fits gate (behind gate t.deeds (rows.act place) (Err comes.halt)) new.server.link new.office.opened answer (free_stop gate t.deeds (rows.act place) comes.halt))
    last_fits (Err cause) new Over mid comes t answer leaves = absurd comes

    held_fits : (first : Row (acts Origin) Place) (old new : World Origin) (ending : Ending) (held : Held rows first old new ending) → Leaves (due_watch Origin gate) first at_start → AllFit gate at_start (deeds_of held)
    held_fits first old new ending held begins =
        let steps = held.ran.steps in
        let last = deed_last rows over held.dialogue held.mid held.ran.left held.ran.mid held.ran.comes in
        let leaves = run_leaves rows (due_watch Origin gate) keeps first held.ran.left at_start steps begins held.ran.run in
        let all = run_may rows (due_watch Origin gate) keeps first held.ran.left at_start steps begins held.ran.run in
        let rest = last_fits held.dialogue held.mid held.ran.left held.ran.mid held.ran.comes (history (due_watch Origin gate) at_start steps) held.answer leaves in
        subst (λ (d : List Deed). AllFit gate at_start d) (sym (append_assoc (map done steps) last (owed held.mid held.answer))) (steps_fit at_start steps (last ++ owed held.mid held.answer) all rest)

-- ---- the laws

-- the line that is due is logged next
due_next : (gate : Gate) (t : Trail) (after : List Deed) → AllFit gate t after → writes_first after ≡ logging t.due
due_next gate t [] fit = ap logging (sym fit.due)
due_next gate t (deed ∷ after) fit = fit.0.due

fits_due : (gate : Gate) (deeds : List Deed) → AllFit gate at_start deeds → LogsWhatIsDue gate deeds
fits_due gate deeds all = record {
  begins = due_next gate at_start deeds all;
  goes_on = λ before after deed is.
      let here = fit_from gate at_start before (deed ∷ after) (subst (λ (d : List Deed). AllFit gate at_start d) is all) in
      due_next gate (behind gate (trail_after gate at_start before).deeds deed.act deed.outcome) after here.1 ∙ ap (λ (d : List Deed). logging (due gate d deed.act deed.outcome)) (trail_deeds gate at_start before);
}

tells_by : (gate : Gate) (deeds : List Deed) (act : Act) (text : List ℕ) → act ≡ Say text → Tells gate deeds act → IsLoggedFirst gate text deeds
tells_by gate deeds act text is tells = subst (λ (a : Act). Tells gate deeds a) is tells

fits_logged : (gate : Gate) (deeds : List Deed) → AllFit gate at_start deeds → DenialsLogged gate deeds
fits_logged gate deeds all before after deed text is says =
    let here = fit_from gate at_start before (deed ∷ after) (subst (λ (d : List Deed). AllFit gate at_start d) is all) in
    subst (λ (d : List Deed). IsLoggedFirst gate text d) (trail_deeds gate at_start before) (tells_by gate (trail_after gate at_start before).deeds deed.act text says here.0.tells)

-- a dial, as it came out
record IsDial (dest : Dest) (act : Act) (outcome : Outcome act) : Type 0 where
  up : Bool
  is : deed_of act outcome ≡ deed_of (Dial dest) (Ok up)

dial_by : (dest : Dest) (outcome : Outcome (Dial dest)) → IsDial dest (Dial dest) outcome
dial_by dest (Ok up) = record { up = up; is = refl }
dial_by dest (Err never) = absurd never

some_dial : (dest : Dest) (act : Act) (outcome : Outcome act) → act ≡ Dial dest → IsDial dest act outcome
some_dial dest act outcome is = subst (λ (a : Act). (o : Outcome a) → IsDial dest a o) (sym is) (λ o. dial_by dest o) outcome

dialed_next : (gate : Gate) (t : Trail) (line : List ℕ) (after : List Deed) → t.line ≡ Some line → begins line (codes "connect ") ≡ true → AllFit gate t after → IsDialed gate line after
dialed_next gate t line [] is connects fit =
    absurd (true≢false (sym connects ∙ subst (λ (l : Option (List ℕ)). NoDial l) is fit.line))
dialed_next gate t line (deed ∷ after) is connects fit =
    let dials = subst (λ (l : Option (List ℕ)). DialsNext gate l deed.act) is fit.0.dials connects in
    let dial = some_dial dials.0 deed.act deed.outcome dials.2 in
    record { dest = dials.0; up = dial.up; more = after; is = dials.1; dials = ap (λ (d : Deed). d ∷ after) dial.is }

fits_dialed : (gate : Gate) (deeds : List Deed) → AllFit gate at_start deeds → LinesDialed gate deeds
fits_dialed gate deeds all before after line is connects =
    let here = fit_from gate at_start before (line_logged line ∷ after) (subst (λ (d : List Deed). AllFit gate at_start d) is all) in
    dialed_next gate (behind gate (trail_after gate at_start before).deeds (Log line) (Ok tt)) line after refl connects here.1

module _ {Origin : Type 0} (gate : Gate) (old new : World Origin) (ending : Ending) (held : Held (relayed (tn_rows gate)) (then_relay (tn_row gate)) old new ending) where
  all_fit : AllFit gate at_start (deeds_of held)
  all_fit =
      held_fits Origin gate (relayed (tn_rows gate)) (keeps_relayed (tn_rows gate) (due_watch Origin gate) (relay_leaves Origin gate) (rows_log Origin gate)) (then_relay (tn_row gate)) old new ending held
      (leaves_relayed (tn_rows gate) (due_watch Origin gate) (relay_leaves Origin gate) (tn_row gate) at_start (first_logs Origin gate))

  pub held_due : LogsWhatIsDue gate (deeds_of held)
  held_due = fits_due gate (deeds_of held) all_fit

  pub held_logged : DenialsLogged gate (deeds_of held)
  held_logged = fits_logged gate (deeds_of held) all_fit

  pub held_dialed : LinesDialed gate (deeds_of held)
  held_dialed = fits_dialed gate (deeds_of held) all_fit
