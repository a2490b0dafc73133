-- What the workers did, once their passes have met.
use Rattle.std.proofs.Common.{◌≡◌, refl, sym, ap, ap₂, subst, ◌∙◌, arith, ℕ, ◌+◌, ◌-◌, ◌^◌, min, cond, List, [], ◌∷◌, ◌++◌, length, flat_map, sum_by, count_by, Option, append-nil}
use Rattle.std.proofs.lemmas.List.Concat.{flat_map-append}
use Rattle.std.proofs.lemmas.List.Sums.{sum_by-cons}
use Rattle.std.specs.Prelude.{map}
use Rattle.std.specs.List.{AllByRecursion}
use Rattle.std.specs.List.Sorted.{IsStrictlyIncreasing}
use Rattle.acceptors.specs.AcceptorView.{AcceptorView}
use Rattle.auth_events.specs.declared.entry.Entry.{Entry}
use Rattle.auth_machine.specs.Port.{BookOrigin}
use Rattle.gate_rules.specs.Reading.{RuleBook}
use Rattle.gate_rules.specs.declared.service.Service.{Service}
use Rattle.spool_pool.specs.Known.{PassView, PoolView}
use Rattle.spool_rack.specs.Store.{Queues}
use Rattle.spool_slots.specs.States.{FullView}
use Rattle.turn_lock.specs.Known.{Lock}
use Rattle.turn_lock.specs.Places.{AreWithin, Fill, NoneTwice}
use Rattle.fwtk_serve.specs.Meeting.{HasPasses, HasWorked, HavePasses, HaveWorked, WorkerView, passes_of, starting, with_passes}
use Rattle.fwtk_serve.specs.Passes.{AreOf, IsMet, MeetAll, MetAll, Pass, held_by, parts_of}
use Rattle.fwtk_serve.specs.Sessions.{Both, ServedView, Sitting, places_of}
use Rattle.fwtk_serve.specs.Stepping.{workers_short}
use Rattle.fwtk_serve.specs.Working.{DoorView, ServedAll, ServedDoor, ServedDoors, Worked, all_sittings, at_first, reported, short_count}
use Rattle.fwtk_serve.proofs.MailLemmas.{Takes, began_so, sittings_of}
use Rattle.fwtk_serve.proofs.PassLemmas.{met_later}
use Rattle.fwtk_serve.proofs.SessionLemmas.{met_served, mine_served, parts_served}
use mathlib.Core.List.{IsPrefix}

-- who has worked has passes of the lock and the pool
pub have_passes : (rules : List (Service × RuleBook)) (lock : Lock BookOrigin) (pool : PoolView) (olds news : List WorkerView) → HaveWorked rules lock pool olds news → HavePasses lock pool news
have_passes rules lock pool [] [] worked = tt
have_passes rules lock pool (old ∷ olds) (new ∷ news) worked = (subst (HasPasses (AreOf lock pool)) (sym worked.0.has) worked.0.own, have_passes rules lock pool olds news worked.1)
have_passes rules lock pool [] (new ∷ news) worked = absurd worked
have_passes rules lock pool (old ∷ olds) [] worked = absurd worked

-- they are as many as before
pub as_many_worked : (rules : List (Service × RuleBook)) (lock : Lock BookOrigin) (pool : PoolView) (olds news : List WorkerView) → HaveWorked rules lock pool olds news → length news ≡ length olds
as_many_worked rules lock pool [] [] worked = refl
as_many_worked rules lock pool (old ∷ olds) (new ∷ news) worked = let more = as_many_worked rules lock pool olds news worked.1 in omega (arith, more)
as_many_worked rules lock pool [] (new ∷ news) worked = absurd worked
as_many_worked rules lock pool (old ∷ olds) [] worked = absurd worked

module _ (rules : List (Service × RuleBook)) (lock : Lock BookOrigin) (pool : PoolView) (before : List Entry) (home : List (List ℕ)) (began : Queues) where
  abbrev first : Both
  first = at_first lock before home began

  abbrev begun : List AcceptorView → List WorkerView
  begun olds = map (λ (old : AcceptorView). starting old first) olds

  -- ---- one worker

  -- all places of its pass are those of its sessions
  own_places : (old : AcceptorView) (new : WorkerView) → (h : HasWorked rules lock pool (starting old first) new) → h.last.book.mine ≡ places_of h.sittings
  own_places old new h =
      mine_served rules lock h.first h.last h.sittings h.worked.serves.were
      ∙ ap (λ (b : Both). b.book.mine ++ places_of h.sittings) (began_so rules lock pool before home began old new h)

  none_met : (old : AcceptorView) (new : WorkerView) → (h : HasWorked rules lock pool (starting old first) new) → h.last.book.met ≡ []
  none_met old new h = met_served rules lock h.first h.last h.sittings h.worked.serves.were ∙ ap (λ (b : Both). b.book.met) (began_so rules lock pool before home began old new h)

  one_part : (old : AcceptorView) (new : WorkerView) → (h : HasWorked rules lock pool (starting old first) new) → h.last.book.parts ≡ 1
  one_part old new h = parts_served rules lock h.first h.last h.sittings h.worked.serves.were ∙ ap (λ (b : Both). b.book.parts) (began_so rules lock pool before home began old new h)

  abbrev door_of : (old : AcceptorView) (new : WorkerView) → HasWorked rules lock pool (starting old first) new → DoorView
  door_of old new h = record { door = new.door; sittings = h.sittings; short = new.short }

  door_served : (history : List Entry) (old : AcceptorView) (new : WorkerView) → (h : HasWorked rules lock pool (starting old first) new) → IsMet history h.last.book
      → ServedDoor rules lock first history old (door_of old new h)
  door_served history old new h met = record {
    last = h.last;
    worked = subst (λ (p : Both). Worked rules lock p h.last old (door_of old new h)) (began_so rules lock pool before home began old new h) h.worked;
    seen = met.begins;
    rise = subst IsStrictlyIncreasing (own_places old new h) met.rise;
  }

  -- ---- all workers

  abbrev pub doors_of : (olds : List AcceptorView) (news : List WorkerView) → HaveWorked rules lock pool (begun olds) news → List DoorView
  doors_of [] [] worked = []
  doors_of (old ∷ olds) (new ∷ news) worked = door_of old new worked.0 ∷ doors_of olds news worked.1
  doors_of [] (new ∷ news) worked = []
  doors_of (old ∷ olds) [] worked = []

  at_doors : (olds : List AcceptorView) (news : List WorkerView) (worked : HaveWorked rules lock pool (begun olds) news) → map (λ (d : DoorView). d.door) (doors_of olds news worked) ≡ map (λ (w : WorkerView). w.door) news
  at_doors [] [] worked = refl
  at_doors (old ∷ olds) (new ∷ news) worked = ap (λ (l : List AcceptorView). new.door ∷ l) (at_doors olds news worked.1)
  at_doors [] (new ∷ news) worked = absurd worked
  at_doors (old ∷ olds) [] worked = absurd worked

  at_sessions : (olds : List AcceptorView) (news : List WorkerView) (worked : HaveWorked rules lock pool (begun olds) news) → map reported (doors_of olds news worked) ≡ map (λ (w : WorkerView). w.sessions) news
  at_sessions [] [] worked = refl
  at_sessions (old ∷ olds) (new ∷ news) worked = ap₂ (λ (s : List ServedView) (l : List (List ServedView)). s ∷ l) (sym worked.0.sessions) (at_sessions olds news worked.1)
  at_sessions [] (new ∷ news) worked = absurd worked
  at_sessions (old ∷ olds) [] worked = absurd worked

  at_short : (olds : List AcceptorView) (news : List WorkerView) (worked : HaveWorked rules lock pool (begun olds) news) → short_count (doors_of olds news worked) ≡ workers_short news
  at_short olds news worked = ap (λ (n : ℕ). min n (2 ^ 32 - 1)) (counts olds news worked)
    where
      counts : (olds : List AcceptorView) (news : List WorkerView) (worked : HaveWorked rules lock pool (begun olds) news) → count_by (λ (d : DoorView). d.short) (doors_of olds news worked) ≡ count_by (λ (w : WorkerView). w.short) news
      counts [] [] worked = refl
      counts (old ∷ olds) (new ∷ news) worked =
          sum_by-cons (λ (d : DoorView). cond d.short 1 0) (door_of old new worked.0) (doors_of olds news worked.1)
          ∙ ap (λ (n : ℕ). cond new.short 1 0 + n) (counts olds news worked.1)
          ∙ sym (sum_by-cons (λ (w : WorkerView). cond w.short 1 0) new news)
      counts [] (new ∷ news) worked = absurd worked
      counts (old ∷ olds) [] worked = absurd worked

  -- all sessions at these doors are those of these workers
  pub sittings_are : (olds : List AcceptorView) (news : List WorkerView) (worked : HaveWorked rules lock pool (begun olds) news) → all_sittings (doors_of olds news worked) ≡ sittings_of rules lock pool before home began olds news worked
  sittings_are [] [] worked = refl
  sittings_are (old ∷ olds) (new ∷ news) worked = ap (λ (l : List Sitting). worked.0.sittings ++ l) (sittings_are olds news worked.1)
  sittings_are [] (new ∷ news) worked = absurd worked
  sittings_are (old ∷ olds) [] worked = absurd worked

  pub doors_served : (history : List Entry) (olds : List AcceptorView) (news : List WorkerView) → (worked : HaveWorked rules lock pool (begun olds) news) → AllByRecursion (IsMet history) (map (λ (b : Both). b.book) (passes_of news))
      → ServedDoors rules lock first history olds (doors_of olds news worked)
  doors_served history [] [] worked met = tt
  doors_served history (old ∷ olds) (new ∷ news) worked met =
      let all = subst (λ (p : Option Both). AllByRecursion (IsMet history) (map (λ (b : Both). b.book) (with_passes p (passes_of news)))) worked.0.has met in
      (door_served history old new worked.0 all.0, doors_served history olds news worked.1 all.1)
  doors_served history [] (new ∷ news) worked met = absurd worked
  doors_served history (old ∷ olds) [] worked met = absurd worked

  places_held : (olds : List AcceptorView) (news : List WorkerView) → (worked : HaveWorked rules lock pool (begun olds) news)
      → held_by (map (λ (b : Both). b.book) (passes_of news)) ≡ places_of (sittings_of rules lock pool before home began olds news worked)
  places_held [] [] worked = refl
  places_held (old ∷ olds) (new ∷ news) worked =
      let h = worked.0 in
      let own : (h.last.book.mine ++ h.last.book.met) ≡ places_of h.sittings =
      ap₂ (λ (a b : List ℕ). a ++ b) (own_places old new h) (none_met old new h) ∙ append-nil (places_of h.sittings) in
      ap (λ (p : Option Both). held_by (map (λ (b : Both). b.book) (with_passes p (passes_of news)))) h.has
      ∙ ap₂ (λ (a b : List ℕ). a ++ b) own (places_held olds news worked.1)
      ∙ sym (flat_map-append (λ (s : Sitting). s.served.places) h.sittings (sittings_of rules lock pool before home began olds news worked.1))
  places_held [] (new ∷ news) worked = absurd worked
  places_held (old ∷ olds) [] worked = absurd worked

  -- as many parts as workers
  parts_held_by : (olds : List AcceptorView) (news : List WorkerView) → HaveWorked rules lock pool (begun olds) news → parts_of (map (λ (b : Both). b.book) (passes_of news)) ≡ length olds
  parts_held_by [] [] worked = refl
  parts_held_by (old ∷ olds) (new ∷ news) worked =
      let h = worked.0 in
      ap (λ (p : Option Both). parts_of (map (λ (b : Both). b.book) (with_passes p (passes_of news)))) h.has
      ∙ omega (arith, one_part old new h, parts_held_by olds news worked.1)
  parts_held_by [] (new ∷ news) worked = absurd worked
  parts_held_by (old ∷ olds) [] worked = absurd worked

  -- all places of the pass that met them, where it had none of its own
  places_met : (olds : List AcceptorView) (news : List WorkerView) (old new : Pass) → (worked : HaveWorked rules lock pool (begun olds) news) → old.mine ≡ [] → old.met ≡ []
      → MetAll lock (map (λ (b : Both). b.book) (passes_of news)) old new → (new.mine ++ new.met) ≡ places_of (all_sittings (doors_of olds news worked))
  places_met olds news old new worked mine met h =
      ap (λ (p : Pass). p.mine ++ p.met) h.is
      ∙ ap₂ (λ (a b : List ℕ). a ++ (b ++ held_by (map (λ (b : Both). b.book) (passes_of news)))) mine met
      ∙ places_held olds news worked
      ∙ ap places_of (sym (sittings_are olds news worked))

  -- the lock began with what was there before
  lock_is : lock.begun ≡ length before → lock ≡ record { home = lock.home; begun = length before; limit = lock.limit; origin = lock.origin }
  lock_is start = λ i. record { home = lock.home; begun = start i; limit = lock.limit; origin = lock.origin }

  -- ---- the whole

  -- of the calling thread's passes: that of the book has no places and what is left of the parts, and that of the pool has put nothing
  pub served_all : (olds : List AcceptorView) (news : List WorkerView) (old new : Both) (history : List Entry) (doors : List AcceptorView) (sessions : List (List ServedView)) (short : ℕ) (mail : PassView)
      → (worked : HaveWorked rules lock pool (begun olds) news) → old.book.mine ≡ [] → old.book.met ≡ [] → old.book.parts + length olds ≡ 2 ^ 64 → lock.begun ≡ length before → MeetAll lock (passes_of news) old new → IsPrefix new.book.seen history
      → AreWithin lock.begun (length history) (new.book.mine ++ new.book.met) → (new.book.parts ≡ 2 ^ 64 → Fill lock.begun (length history) (new.book.mine ++ new.book.met))
      → doors ≡ map (λ (w : WorkerView). w.door) news → sessions ≡ map (λ (w : WorkerView). w.sessions) news → short ≡ workers_short news
      → old.mail.handed.put ≡ [] → Takes (sittings_of rules lock pool before home began olds news worked) (length olds) old.mail new.mail
      → mail.handed.put ≡ new.mail.handed.put → mail.no_free ≡ new.mail.no_free → mail.broken ≡ new.mail.broken
      → ServedAll rules before history lock.limit lock.origin olds doors sessions short mail
  served_all olds news old new history doors sessions short mail worked mine met sum start h front inside filled doors_are sessions_are short_is unput takes put_same free_same broken_same =
      let books = h.books in
      let later : IsPrefix books.seen history = subst (λ (s : List Entry). IsPrefix s history) (ap (λ (p : Pass). p.seen) books.is) front in
      let all = places_met olds news old.book new.book worked mine met books in
      let parts : new.book.parts ≡ 2 ^ 64 = omega (arith, ap (λ (p : Pass). p.parts) books.is, parts_held_by olds news worked, sum) in
      let are = sittings_are olds news worked in
      let free = takes.no_free in
      let broke = takes.broken in
      record {
        home = lock.home;
        pool = home;
        began = began;
        news = doors_of olds news worked;
        doors_are = at_doors olds news worked ∙ sym doors_are;
        sessions_are = at_sessions olds news worked ∙ sym sessions_are;
        short_is = short_is ∙ sym (at_short olds news worked);
        served = subst (λ (l : Lock BookOrigin). ServedDoors rules l (at_first l before home began) history olds (doors_of olds news worked)) (lock_is start)
            (doors_served history olds news worked (met_later books.seen history (map (λ (b : Both). b.book) (passes_of news)) later books.met));
        apart = subst NoneTwice all books.apart;
        within = subst (λ (k : ℕ × List ℕ). AreWithin k.0 (length history) k.1) (λ i. (start i, all i)) inside;
        whole = subst (λ (k : ℕ × List ℕ). Fill k.0 (length history) k.1) (λ i. (start i, all i)) (filled parts);
        put = put_same ∙ takes.put ∙ ap (λ (p : List FullView). p ++ flat_map (λ (s : Sitting). s.mailed.put) (sittings_of rules lock pool before home began olds news worked)) unput
            ∙ ap (flat_map (λ (s : Sitting). s.mailed.put)) (sym are);
        no_free = omega (arith, free, free_same, ap (sum_by (λ (s : Sitting). s.mailed.unslotted)) are);
        broken = omega (arith, broke, broken_same, ap (sum_by (λ (s : Sitting). s.mailed.faulted)) are);
      }
