-- Runs of steps: one after the other, and from the calls of a disk.
use Rattle.std.proofs.Common.{◌≡◌, ℕ, ◌+◌, ◌≤◌, Bool, true, false, cond, List, [], ◌∷◌, ◌++◌, length, Option, Some, None, Result, Ok, Err, refl, sym, ap, subst, ◌∙◌, ◌⊎◌, inl, inr}
use Rattle.std.specs.Prelude.{IfSome, option_map}
use Rattle.std.specs.List.{Contains}
use Rattle.fw_outside.specs.declared.failed.Failed.{Failed as DiskFailed}
use Rattle.fw_disk.specs.Medium.{Medium, written_at, synced_now}
use Rattle.fw_disk.specs.Laws.{AreBytes}
use Rattle.fw_disk.specs.DiskView.{Tape, DiskView, onward, changed, IsTorn, IsToldTorn, Changes, Syncs, HasFailed}
use Rattle.fw_disk.specs.Moments.{Since, Now, EachImage}
use Rattle.fw_disk.proofs.MomentLemmas.{since_here, since_then, since_onward, since_weaker}
use Rattle.spool_law.specs.World.{OfLetter}
use Rattle.spool_law.specs.World.Use.{Begun}
use Rattle.spool_law.specs.Images.{IsFree, IsWhole, IsReady}
use Rattle.spool_law.specs.Events.{Outcome, Step, MayLeave, IsBegun, IsPossibleAt, added, opened, new_letter, stepped}
use Rattle.spool_law.specs.Events.Outcome.{Done, Failed}
use Rattle.spool_law.specs.Events.Step.{Start, Add, Write, Sync, OpenGate, CloseGate, SetAside}
use Rattle.spool_law.specs.Runs.{Known, slot_of, known_after, tape_after, is_noted, Does, IsRun, IsToldRun, Runs, used_for, IsReached}

-- ---- one after the other

pub run_here : (k : Known) (tape : Tape) → IsRun k tape k tape
run_here k tape = record { steps = []; does = (refl, refl) }

does_then : (a b : List Step) (k l m : Known) (s t u : Tape) → Does a k s l t → Does b l t m u → Does (a ++ b) k s m u
does_then [] b k l m s t u d e = subst (λ (x : Tape). Does b k x m u) d.1 (subst (λ (x : Known). Does b x t m u) d.0 e)
does_then (step ∷ a) b k l m s t u d e = (d.0, does_then a b (known_after step s k) l m (tape_after step k s) t u d.1 e)

pub run_then : (k l m : Known) (s t u : Tape) → IsRun k s l t → IsRun l t m u → IsRun k s m u
run_then k l m s t u a b = record { steps = a.steps ++ b.steps; does = does_then a.steps b.steps k l m s t u a.does b.does }

pub run_one : (step : Step) (k : Known) (tape : Tape) → IsPossibleAt step k.accepted (slot_of k tape) → IsRun k tape (known_after step tape k) (tape_after step k tape)
run_one step k tape can = record { steps = step ∷ []; does = (can, (refl, refl)) }

pub told_then : (k l m : Known) (s t u : Option Tape) → IsToldRun k s l t → IsToldRun l t m u → IsToldRun k s m u
told_then k l m None None None a b = tt
told_then k l m None None (Some u) a b = absurd b
told_then k l m None (Some t) u a b = absurd a
told_then k l m (Some s) None u a b = absurd a
told_then k l m (Some s) (Some t) None a b = absurd b
told_then k l m (Some s) (Some t) (Some u) a b = run_then k l m s t u a b

pub runs_then : (k l m : Known) (a b c : DiskView) → Runs k a l b → Runs l b m c → Runs k a m c
runs_then k l m a b c p q = told_then k l m a.told b.told c.told p q

told_here : (k : Known) (told : Option Tape) → IsToldRun k told k told
told_here k None = tt
told_here k (Some tape) = run_here k tape

-- ---- where the disk isn't changed

-- nothing is done
pub runs_here : (k : Known) (view : DiskView) → Runs k view k view
runs_here k view = told_here k view.told

pub runs_failed : (k : Known) (old new : DiskView) → HasFailed old new → Runs k old k new
runs_failed k old new f = subst (Runs k old k) (sym f.is) (told_here k old.told)

begun_run : (k : Known) (from : List ℕ) (rcpts : List (List ℕ)) (told : Option Tape) → IfSome told (λ tape. EachImage IsFree tape.now)
    → IsToldRun k told (record { begun = k.begun + 1; accepted = k.accepted; use_of = Begun (new_letter k.begun from rcpts) }) told
begun_run k from rcpts None free = tt
begun_run k from rcpts (Some tape) free = run_one (Start from rcpts) k tape free

-- a message is begun in a free slot
pub runs_start : (k : Known) (from : List ℕ) (rcpts : List (List ℕ)) (view : DiskView) → Now (EachImage IsFree) view
    → Runs k view (record { begun = k.begun + 1; accepted = k.accepted; use_of = Begun (new_letter k.begun from rcpts) }) view
runs_start k from rcpts view free = begun_run k from rcpts view.told free

added_run : (k : Known) (piece : List ℕ) (told : Option Tape) → IsBegun k.use_of → IsToldRun k told (used_for (added piece k.use_of) k) told
added_run k piece None begun = tt
added_run k piece (Some tape) begun = run_one (Add piece) k tape begun

-- a piece is added to the message that is being written
pub runs_add : (k : Known) (piece : List ℕ) (view : DiskView) → IsBegun k.use_of → Runs k view (used_for (added piece k.use_of) k) view
runs_add k piece view begun = added_run k piece view.told begun

-- ---- changes of the disk

-- a change of the disk that is a step, done or failed, of a slot that is used for something
pub record IsChange (make : Outcome → Step) (change : Medium → Medium) (k l : Known) (tape : Tape) : Type 0 where
  pub possible : (o : Outcome) → MayLeave o (change tape.now) → IsPossibleAt (make o) k.accepted (slot_of k tape)
  pub done : (known_after (make Done) tape k ≡ l) × (tape_after (make Done) k tape ≡ onward (change tape.now) tape)
  pub torn : (seen : List ℕ) → (known_after (make (Failed seen)) tape k ≡ l) × (tape_after (make (Failed seen)) k tape ≡ onward (record (change tape.now) { seen = seen }) tape)

run_to : (step : Step) (k l : Known) (old new : Tape) → IsPossibleAt step k.accepted (slot_of k old) → known_after step old k ≡ l → tape_after step k old ≡ new → IsRun k old l new
run_to step k l old new can p q = subst (λ (x : Tape). IsRun k old l x) q (subst (λ (x : Known). IsRun k old x (tape_after step k old)) p (run_one step k old can))

-- nothing was done, or the change was a step
torn_run : (make : Outcome → Step) (change : Medium → Medium) (k l : Known) (old new : Tape) → IsChange make change k l old → IsTorn change old new → IsRun k old k new ⊎ IsRun k old l new
torn_run make change k l old new c (inl e) = inl (subst (IsRun k old k) (sym e) (run_here k old))
torn_run make change k l old new c (inr p) =
    let seen : List ℕ = p.0 in
    inr (run_to (make (Failed seen)) k l old new (c.possible (Failed seen) p.1.image_of) (c.torn seen).0 ((c.torn seen).1 ∙ sym p.1.is))

told_torn_run : (make : Outcome → Step) (change : Medium → Medium) (k l : Known) (old new : Option Tape) → IfSome old (IsChange make change k l) → IsToldTorn change old new
    → IsToldRun k old k new ⊎ IsToldRun k old l new
told_torn_run make change k l None None c t = inl tt
told_torn_run make change k l None (Some new) c t = absurd t
told_torn_run make change k l (Some old) None c t = absurd t
told_torn_run make change k l (Some old) (Some new) c t = torn_run make change k l old new c t

told_done_run : (make : Outcome → Step) (change : Medium → Medium) (k l : Known) (told : Option Tape) → IfSome told (IsChange make change k l) → IsToldRun k told l (option_map (changed change) told)
told_done_run make change k l None c = tt
told_done_run make change k l (Some tape) c = run_to (make Done) k l tape (onward (change tape.now) tape) (c.possible Done tt) c.done.0 c.done.1

pub changes_done : (make : Outcome → Step) (change : Medium → Medium) (k l : Known) (old new : DiskView) → IfSome old.told (IsChange make change k l)
    → new ≡ record old { told = option_map (changed change) old.told } → Runs k old l new
changes_done make change k l old new c e = subst (Runs k old l) (sym e) (told_done_run make change k l old.told c)

pub changes_either : (make : Outcome → Step) (change : Medium → Medium) (k l : Known) (result : Result (Unit {0}) DiskFailed) (old new : DiskView) → IfSome old.told (IsChange make change k l)
    → Changes result change old new → Runs k old k new ⊎ Runs k old l new
changes_either make change k l (Ok u) old new c e = inr (changes_done make change k l old new c e)
changes_either make change k l (Err f) old new c t = elim (told_torn_run make change k l old.told t.told c t.torn) [
  | inl r ↦ inl (subst (Runs k old k) (sym t.is) r)
  | inr r ↦ inr (subst (Runs k old l) (sym t.is) r)
]

-- ---- a write behind the gate

-- bytes at a place behind the gate, and within the file or at its end
pub record IsBehindGate (at : ℕ) (tape : Tape) : Type 0 where
  pub behind : 1 ≤ at
  pub within : at ≤ length tape.now.seen

pub write_change : (k : Known) (at : ℕ) (bytes : List ℕ) (tape : Tape) → IsBegun k.use_of → 1 ≤ at → at ≤ length tape.now.seen → AreBytes bytes → IsChange (Write at bytes) (written_at at bytes) k k tape
write_change k at bytes tape begun behind within are = record {
  possible = λ o may. record { begun = begun; behind = behind; within = within; are = are; leaves = may };
  done = (refl, refl);
  torn = λ seen. (refl, refl);
}

either_same : (A : Type 0) → A ⊎ A → A
either_same A (inl a) = a
either_same A (inr a) = a

write_told : (k : Known) (at : ℕ) (bytes : List ℕ) (told : Option Tape) → IsBegun k.use_of → 1 ≤ at → IfSome told (λ tape. at ≤ length tape.now.seen) → AreBytes bytes
    → IfSome told (IsChange (Write at bytes) (written_at at bytes) k k)
write_told k at bytes None begun behind within are = tt
write_told k at bytes (Some tape) begun behind within are = write_change k at bytes tape begun behind within are

-- bytes are written for the message that is being written, or the write fails
pub runs_write : (k : Known) (at : ℕ) (bytes : List ℕ) (result : Result (Unit {0}) DiskFailed) (old new : DiskView) → IsBegun k.use_of → 1 ≤ at → IfSome old.told (λ tape. at ≤ length tape.now.seen) → AreBytes bytes
    → Changes result (written_at at bytes) old new → Runs k old k new
runs_write k at bytes result old new begun behind within are h =
    either_same (Runs k old k new) (changes_either (Write at bytes) (written_at at bytes) k k result old new (write_told k at bytes old.told begun behind within are) h)

-- ---- a sync

told_synced : (k : Known) (told : Option Tape) → IsToldRun k told k (option_map (changed synced_now) told)
told_synced k None = tt
told_synced k (Some tape) = run_one Sync k tape tt

-- a sync succeeds, or does nothing
pub runs_sync : (k : Known) (result : Result (Unit {0}) DiskFailed) (old new : DiskView) → Syncs result old new → Runs k old k new
runs_sync k (Ok u) old new s = subst (Runs k old k) (sym s.is) (told_synced k old.told)
runs_sync k (Err f) old new s = runs_failed k old new s

-- ---- the gate and the mark

open_told : (k : Known) (told : Option Tape) → OfLetter (λ l. IfSome told (λ tape. EachImage (IsReady l.mail) tape.now)) k.use_of → IfSome told (IsChange OpenGate (written_at 0 (1 ∷ [])) k (used_for (opened k.use_of) k))
open_told k None ready = tt
open_told k (Some tape) ready = record {
  possible = λ o may. record { ready = ready; leaves = may };
  done = (refl, refl);
  torn = λ seen. (refl, refl);
}

-- the gate is opened over a message that is ready, or nothing is done
pub runs_open : (k : Known) (result : Result (Unit {0}) DiskFailed) (old new : DiskView) → OfLetter (λ l. Now (EachImage (IsReady l.mail)) old) k.use_of
    → Changes result (written_at 0 (1 ∷ [])) old new → Runs k old k new ⊎ Runs k old (used_for (opened k.use_of) k) new
runs_open k result old new ready h = changes_either OpenGate (written_at 0 (1 ∷ [])) k (used_for (opened k.use_of) k) result old new (open_told k old.told ready) h

pub runs_opened : (k : Known) (old new : DiskView) → OfLetter (λ l. Now (EachImage (IsReady l.mail)) old) k.use_of
    → new ≡ record old { told = option_map (changed (written_at 0 (1 ∷ []))) old.told } → Runs k old (used_for (opened k.use_of) k) new
runs_opened k old new ready e = changes_done OpenGate (written_at 0 (1 ∷ [])) k (used_for (opened k.use_of) k) old new (open_told k old.told ready) e

close_told : (k : Known) (told : Option Tape) → OfLetter (Contains k.accepted) k.use_of → IfSome told (IsChange CloseGate (written_at 0 (0 ∷ [])) k k)
close_told k None is = tt
close_told k (Some tape) is = record {
  possible = λ o may. record { is_accepted = is; leaves = may };
  done = (refl, refl);
  torn = λ seen. (refl, refl);
}

-- the gate is closed over a message that was accepted, or the write fails
pub runs_close : (k : Known) (result : Result (Unit {0}) DiskFailed) (old new : DiskView) → OfLetter (Contains k.accepted) k.use_of → Changes result (written_at 0 (0 ∷ [])) old new → Runs k old k new
runs_close k result old new is h = either_same (Runs k old k new) (changes_either CloseGate (written_at 0 (0 ∷ [])) k k result old new (close_told k old.told is) h)

aside_told : (k : Known) (told : Option Tape) → IfSome told (λ tape. EachImage IsWhole tape.now) → IfSome told (IsChange SetAside (written_at 1 (1 ∷ [])) k k)
aside_told k None whole = tt
aside_told k (Some tape) whole = record {
  possible = λ o may. record { whole = whole; leaves = may };
  done = (refl, refl);
  torn = λ seen. (refl, refl);
}

-- a message is set aside, or the write fails
pub runs_aside : (k : Known) (result : Result (Unit {0}) DiskFailed) (old new : DiskView) → Now (EachImage IsWhole) old → Changes result (written_at 1 (1 ∷ [])) old new → Runs k old k new
runs_aside k result old new whole h = either_same (Runs k old k new) (changes_either SetAside (written_at 1 (1 ∷ [])) k k result old new (aside_told k old.told whole) h)

-- ---- moments

reached_here : (steps : List Step) (k : Known) (tape : Tape) → IsReached steps k tape tape.now
reached_here steps k tape = record { front = []; rest = steps; are = refl; l = k; tape = tape; does = (refl, refl); now = refl }

reached_after : (step : Step) (steps : List Step) (k : Known) (old : Tape) → IsPossibleAt step k.accepted (slot_of k old) → (m : Medium)
    → IsReached steps (known_after step old k) (tape_after step k old) m → IsReached (step ∷ steps) k old m
reached_after step steps k old can m r = record {
  front = step ∷ r.front;
  rest = r.rest;
  are = ap (λ (x : List Step). step ∷ x) r.are;
  l = r.l;
  tape = r.tape;
  does = (can, r.does);
  now = r.now;
}

step_since : (P : Medium → Type 0) (b : Bool) (m : Medium) (tape : Tape) → P tape.now → P (cond b (onward m tape) tape).now → Since P tape (cond b (onward m tape) tape)
step_since P true m tape h k = since_onward P m tape h k
step_since P false m tape h k = since_here P tape h

-- each medium since the first step is where some first of the steps lead
pub does_moments : (steps : List Step) (k l : Known) (old new : Tape) → Does steps k old l new → Since (IsReached steps k old) old new
does_moments [] k l old new d = subst (Since (IsReached [] k old) old) (sym d.1) (since_here (IsReached [] k old) old (reached_here [] k old))
does_moments (step ∷ steps) k l old new d =
    let mid : Tape = tape_after step k old in
    let after : Known = known_after step old k in
    let first : Since (IsReached (step ∷ steps) k old) old mid =
    step_since (IsReached (step ∷ steps) k old) (is_noted step) (stepped k.begun step (slot_of k old)).medium old
    (reached_here (step ∷ steps) k old) (reached_after step steps k old d.0 mid.now (reached_here steps after mid)) in
    let rest : Since (IsReached steps after mid) mid new = does_moments steps after l mid new d.1 in
    since_then (IsReached (step ∷ steps) k old) old mid new first
    (since_weaker (IsReached steps after mid) (IsReached (step ∷ steps) k old) (reached_after step steps k old d.0) mid new rest)
