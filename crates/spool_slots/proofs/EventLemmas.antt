-- Each call as events of the spool.
use Rattle.std.proofs.Common.{◌≡◌, ℕ, ◌+◌, ◌<◌, ◌≤◌, List, [], ◌∷◌, ◌++◌, length, Option, Some, None, Result, Ok, Err, refl, sym, ap, subst, ◌∙◌, ◌⊎◌, inl, inr}
use Rattle.std.specs.Prelude.{IfSome, OnOk, OnErr, MatchResult, option_map}
use Rattle.std.specs.List.{Contains}
use Rattle.fw_outside.specs.declared.failed.Failed.{Failed}
use Rattle.fw_disk.specs.Laws.{AreBytes}
use Rattle.fw_disk.specs.Medium.{Medium, IsImage, written_at}
use Rattle.fw_disk.specs.DiskView.{Tape, DiskView, Changes, Syncs, HasFailed, HasSetByte, FailsToSet, changed, length_told}
use Rattle.fw_disk.specs.Moments.{Now, EachImage}
use Rattle.spool_law.specs.World.{Letter, Use, OfLetter}
use Rattle.spool_law.specs.World.Use.{Begun, Opened}
use Rattle.spool_law.specs.Events.{IsBegun, added, opened, longer}
use Rattle.spool_law.specs.Images.{IsWhole, IsReady}
use Rattle.spool_law.specs.Runs.{Known, Runs, used_for}
use Rattle.spool_law.proofs.RunLemmas.{runs_here, runs_failed, runs_then, runs_start, runs_add, runs_write, runs_sync, runs_open, runs_opened, runs_close, runs_aside}
use Rattle.spool_slots.specs.Media.{IsVacant, IsSettled, IsStanding, IsFull, IsAside}
use Rattle.spool_slots.specs.Started.{begun_in}
use Rattle.spool_slots.specs.States.{SlotView}
use Rattle.spool_slots.proofs.ShutLemmas.{now_weaker, vacant_free}
use Rattle.spool_slots.proofs.MarkLemmas.{whole_image}
use Rattle.spool_slots.proofs.FinishingLemmas.{ready_image}

-- whatever message is being written, its events lead from one disk to the other
abbrev pub GoesOn : DiskView → DiskView → Type 0
GoesOn a b = (k : Known) → IsBegun k.use_of → Runs k a k b

begun_use : (u : Use) (l : Letter) → u ≡ Begun l → IsBegun u
begun_use u l e = subst IsBegun (sym e) tt

pub begun_here : (k : Known) (view : DiskView) → Runs k view k view
begun_here k view = runs_here k view

pub runs_begun : (k : Known) (l : Letter) (a b : DiskView) → k.use_of ≡ Begun l → GoesOn a b → Runs k a k b ⊎ Runs k a (used_for (Opened l) k) b
runs_begun k l a b e g = inl (g k (begun_use k.use_of l e))

pub runs_added : (k t : Known) (l : Letter) (piece : List ℕ) (a b : DiskView) → k.use_of ≡ Begun l → t ≡ used_for (Begun (longer piece l)) k → GoesOn a b → Runs k a t b
runs_added k t l piece a b e f g =
    let n : Known = used_for (Begun (longer piece l)) k in
    let add : Runs k a (used_for (added piece k.use_of) k) a = runs_add k piece a (begun_use k.use_of l e) in
    let same : used_for (added piece k.use_of) k ≡ n = ap (λ (u : Use). used_for (added piece u) k) e in
    subst (λ (x : Known). Runs k a x b) (sym f) (runs_then k n n a a b (subst (λ (x : Known). Runs k a x a) same add) (g n tt))

pub runs_begins : (k : Known) (from : List ℕ) (rcpts : List (List ℕ)) (a b : DiskView) → Now IsVacant a → GoesOn a b → Runs k a (begun_in k from rcpts) b
runs_begins k from rcpts a b v g =
    let n : Known = begun_in k from rcpts in
    runs_then k n n a a b (runs_start k from rcpts a (vacant_free a v)) (g n tt)

-- ---- writing

told_within : (at : ℕ) (told : Option Tape) (faults : ℕ) → IfSome (length_told (record { told = told; faults = faults })) (λ len. at ≤ len) → IfSome told (λ tape. at ≤ length tape.now.seen)
told_within at None faults h = tt
told_within at (Some tape) faults h = h

pub runs_fill : (k : Known) (at : ℕ) (bytes : List ℕ) (result : Result (Unit {0}) Failed) (old new : DiskView) → IsBegun k.use_of → 1 ≤ at → IfSome (length_told old) (λ len. at ≤ len) → AreBytes bytes
    → Changes result (written_at at bytes) old new → Runs k old k new
runs_fill k at bytes result old new begun behind within are h = runs_write k at bytes result old new begun behind (told_within at old.told old.faults within) are h

pub runs_fill_and_sync : (k : Known) (result : Result (Unit {0}) Failed) (a b c : DiskView) → Runs k a k b → Syncs result b c → Runs k a k c
runs_fill_and_sync k result a b c r s = runs_then k k k a b c r (runs_sync k result b c s)

pub runs_on : (k : Known) (a b c : DiskView) → Runs k a k b → Runs k b k c → Runs k a k c
runs_on k a b c r s = runs_then k k k a b c r s

-- ---- marks

full_whole_at : (medium : Medium) → IsFull medium → EachImage IsWhole medium
full_whole_at medium f image is = record { mail = f.m; is = whole_image f.m medium f.settled_as image is }

full_whole : (view : DiskView) → Now IsFull view → Now (EachImage IsWhole) view
full_whole view h = now_weaker IsFull (EachImage IsWhole) full_whole_at view h

pub runs_set_aside : (k : Known) (old new : DiskView) → HasSetByte 1 1 old new → Now IsFull old → Runs k old k new
runs_set_aside k old new s h = runs_then k k k old s.middle new (runs_aside k (Ok tt) old s.middle (full_whole old h) s.wrote) (runs_sync k (Ok tt) s.middle new s.syncs)

pub runs_not_set_aside : (k : Known) (old new : DiskView) → FailsToSet 1 1 old new → Now IsFull old → Runs k old k new
runs_not_set_aside k old new (inl t) h = runs_aside k (Err (record {})) old new (full_whole old h) t
runs_not_set_aside k old new (inr s) h = runs_then k k k old s.middle new (runs_aside k (Ok tt) old s.middle (full_whole old h) s.wrote) (runs_sync k (Err (record {})) s.middle new s.fails)

pub runs_released : (k : Known) (old new : DiskView) → OfLetter (Contains k.accepted) k.use_of → HasSetByte 0 0 old new → Runs k old k new
runs_released k old new is s = runs_then k k k old s.middle new (runs_close k (Ok tt) old s.middle is s.wrote) (runs_sync k (Ok tt) s.middle new s.syncs)

pub runs_not_released : (k : Known) (old new : DiskView) → OfLetter (Contains k.accepted) k.use_of → FailsToSet 0 0 old new → Runs k old k new
runs_not_released k old new is (inl t) = runs_close k (Err (record {})) old new is t
runs_not_released k old new is (inr s) = runs_then k k k old s.middle new (runs_close k (Ok tt) old s.middle is s.wrote) (runs_sync k (Err (record {})) s.middle new s.fails)

-- ---- the gate

of_begun : (P : Letter → Type 0) (u : Use) (l : Letter) → u ≡ Begun l → P l → OfLetter P u
of_begun P u l e h = subst (OfLetter P) (sym e) h

opened_same : (k : Known) (l : Letter) → k.use_of ≡ Begun l → used_for (opened k.use_of) k ≡ used_for (Opened l) k
opened_same k l e = ap (λ (u : Use). used_for (opened u) k) e

ready_of : (k : Known) (l : Letter) (view : DiskView) → k.use_of ≡ Begun l → Now (IsStanding 0 0 l.mail) view → OfLetter (λ x. Now (EachImage (IsReady x.mail)) view) k.use_of
ready_of k l view e h = of_begun (λ x. Now (EachImage (IsReady x.mail)) view) k.use_of l e (now_weaker (IsStanding 0 0 l.mail) (EachImage (IsReady l.mail)) (ready_image l.mail) view h)

pub runs_finished : (k : Known) (l : Letter) (a b c : DiskView) → k.use_of ≡ Begun l → GoesOn a b → Now (IsStanding 0 0 l.mail) b → HasSetByte 0 1 b c → Runs k a (used_for (Opened l) k) c
runs_finished k l a b c e g h s =
    let r : Runs k a k b = g k (begun_use k.use_of l e) in
    let o : Known = used_for (opened k.use_of) k in
    subst (λ (x : Known). Runs k a x c) (opened_same k l e)
    (runs_then k k o a b c r (runs_then k o o b s.middle c (runs_opened k b s.middle (ready_of k l b e h) s.wrote) (runs_sync o (Ok tt) s.middle c s.syncs)))

pub runs_not_finished : (k : Known) (l : Letter) (a b c : DiskView) → k.use_of ≡ Begun l → GoesOn a b → Now (IsStanding 0 0 l.mail) b → FailsToSet 0 1 b c → Runs k a k c ⊎ Runs k a (used_for (Opened l) k) c
runs_not_finished k l a b c e g h (inl t) =
    let r : Runs k a k b = g k (begun_use k.use_of l e) in
    let o : Known = used_for (opened k.use_of) k in
    elim (runs_open k (Err (record {})) b c (ready_of k l b e h) t) [
      | inl n ↦ inl (runs_then k k k a b c r n)
      | inr y ↦ inr (subst (λ (x : Known). Runs k a x c) (opened_same k l e) (runs_then k k o a b c r y))
    ]
runs_not_finished k l a b c e g h (inr s) =
    let r : Runs k a k b = g k (begun_use k.use_of l e) in
    let o : Known = used_for (opened k.use_of) k in
    inr (subst (λ (x : Known). Runs k a x c) (opened_same k l e)
    (runs_then k k o a b c r (runs_then k o o b s.middle c (runs_opened k b s.middle (ready_of k l b e h) s.wrote) (runs_sync o (Err (record {})) s.middle c s.fails))))

-- ---- where only reads follow

runs_at : (k l : Known) (a b : DiskView) (told : Option Tape) (faults : ℕ) → told ≡ b.told → Runs k a l b → Runs k a l (record { told = told; faults = faults })
runs_at k l a b told faults e r =
    let same : Runs k a l (record { told = b.told; faults = faults }) = r in
    subst (λ (t : Option Tape). Runs k a l (record { told = t; faults = faults })) (sym e) same

pub runs_read : (k l : Known) (a b c : DiskView) → c.told ≡ b.told → Runs k a l b → Runs k a l c
runs_read k l a b c e r = runs_at k l a b c.told c.faults e r

pub runs_synced_and_read : (k : Known) (result : Result (Unit {0}) Failed) (a b c : DiskView) → Syncs result a b → c.told ≡ b.told → Runs k a k c
runs_synced_and_read k result a b c s e = runs_read k k a b c e (runs_sync k result a b s)

pub runs_only_read : (k : Known) (a b : DiskView) → b.told ≡ a.told → Runs k a k b
runs_only_read k a b e = runs_read k k a a b e (runs_here k a)

pub runs_unsynced : (k : Known) (a b : DiskView) → HasFailed a b → Runs k a k b
runs_unsynced k a b f = runs_failed k a b f

pub runs_same : (k : Known) (a b spelled : SlotView) → a ≡ spelled → b ≡ spelled → Runs k a.disk k b.disk
runs_same k a b spelled e f =
    let along : Runs k a.disk k spelled.disk = subst (λ (s : SlotView). Runs k s.disk k spelled.disk) (sym e) (runs_here k spelled.disk) in
    subst (λ (s : SlotView). Runs k a.disk k s.disk) (sym f) along

pub runs_gate : (result : Result (Unit {0}) Failed) (k : Known) (l : Letter) (a b c : DiskView) → k.use_of ≡ Begun l → GoesOn a b → Now (IsStanding 0 0 l.mail) b
    → OnOk result (HasSetByte 0 1 b c) → OnErr result (FailsToSet 0 1 b c)
    → MatchResult result (λ u. Runs k a (used_for (Opened l) k) c) (λ e. Runs k a k c ⊎ Runs k a (used_for (Opened l) k) c)
runs_gate (Ok u) k l a b c e g h s f = runs_finished k l a b c e g h s
runs_gate (Err x) k l a b c e g h s f = runs_not_finished k l a b c e g h f
