-- Passes and seats: which pool they are of, and what they know after a call.
use Rattle.std.proofs.Common.{◌≡◌, ℕ, ◌+◌, ◌-◌, ◌<◌, Bool, true, false, List, [], ◌∷◌, ◌++◌, map, refl, ap, sym, subst, ◌∙◌, arith}
use mathlib.Core.List.{cons≢nil, head-eq_of_cons-eq, tail-eq_of_cons-eq}
use Rattle.std.specs.List.{flat_map}
use Rattle.std.proofs.lemmas.List.{append-nil}
use Rattle.std.proofs.lemmas.Grind.{flat_map-append}
use Rattle.spool_slots.specs.States.{SlotView, BrokenView}
use Rattle.shared_queue.specs.Moves.{counted}
use Rattle.spool_pool.specs.declared.lanes.Lanes.{Lanes}
use Rattle.spool_pool.specs.Shelf.{is_aside, is_broken, aside_of, broken_of}
use Rattle.spool_pool.specs.Events.{Event, TallyView, joined}
use Rattle.spool_pool.specs.Account.{IsSound, IsSoundUnless, all_met, handed_by, handed_in, homes_of, one_less, one_off, pass_of}
use Rattle.spool_pool.specs.Numbers.{AreKept}
use Rattle.spool_pool.specs.Known.{IsPassOf, PassView, PoolView, closed, less_one, met, split_off}
use Rattle.spool_pool.proofs.Accounts.{meets, none_yet}
use Rattle.spool_pool.proofs.Numbers.{kept_meet, kept_none}
use Rattle.spool_pool.proofs.Tallies.{met_lists}

-- a pass of a pool isn't closed
pub is_open : {D : Type 0} (c : Bool) (l : Lanes D) (events : List Event) (h : List ℕ) (hs : List (List ℕ)) → (handed_by c l events).home ≡ h ∷ hs → c ≡ false
is_open true l events h hs e = absurd (cons≢nil (sym e))
is_open false l events h hs e = refl

pub homes_are : {D : Type 0} (c : Bool) (l : Lanes D) (events : List Event) (h : List ℕ) (hs : List (List ℕ)) → (handed_by c l events).home ≡ h ∷ hs → homes_of l ≡ h ∷ hs
homes_are true l events h hs e = absurd (cons≢nil (sym e))
homes_are false l events h hs e = e

pub sound : {D : Type 0} (c : Bool) (l : Lanes D) (t : TallyView) → c ≡ false → IsSoundUnless c l t → IsSound l t
sound c l t e h = subst (λ b. IsSoundUnless b l t) e h

-- slots set aside and broken slots that were put on one shelf
asides_only : (slots : List SlotView) → flat_map aside_of (map is_aside slots) ≡ slots
asides_only [] = refl
asides_only (slot ∷ slots) = ap (λ l. slot ∷ l) (asides_only slots)

no_asides : (slots : List BrokenView) → flat_map aside_of (map is_broken slots) ≡ []
no_asides [] = refl
no_asides (slot ∷ slots) = no_asides slots

broken_only : (slots : List BrokenView) → flat_map broken_of (map is_broken slots) ≡ slots
broken_only [] = refl
broken_only (slot ∷ slots) = ap (λ l. slot ∷ l) (broken_only slots)

no_broken : (slots : List SlotView) → flat_map broken_of (map is_aside slots) ≡ []
no_broken [] = refl
no_broken (slot ∷ slots) = no_broken slots

pub asides_back : (asides : List SlotView) (brokens : List BrokenView) → flat_map aside_of (map is_aside asides ++ map is_broken brokens) ≡ asides
asides_back asides brokens = flat_map-append aside_of (map is_aside asides) (map is_broken brokens) ∙ (λ i. asides_only asides i ++ no_asides brokens i) ∙ append-nil asides

pub brokens_back : (asides : List SlotView) (brokens : List BrokenView) → flat_map broken_of (map is_aside asides ++ map is_broken brokens) ≡ brokens
brokens_back asides brokens = flat_map-append broken_of (map is_aside asides) (map is_broken brokens) ∙ (λ i. no_broken asides i ++ broken_only brokens i)

-- the homes of the three queues, one by one
pub homes_each : {D : Type 0} (l : Lanes D) (a b c : List ℕ) → homes_of l ≡ a ∷ b ∷ c ∷ [] → (l.free.home ≡ a) × (l.full.home ≡ b) × (l.shelf.home ≡ c)
homes_each l a b c e = (head-eq_of_cons-eq e, head-eq_of_cons-eq (tail-eq_of_cons-eq e), head-eq_of_cons-eq (tail-eq_of_cons-eq (tail-eq_of_cons-eq e)))

less_is : (n m : ℕ) → n ≡ m → n - 1 ≡ m - 1
less_is n m e = ap (λ k. k - 1) e

-- one part fewer
pub sound_less : {D : Type 0} (l : Lanes D) (t : TallyView) → 1 < l.full.parts → IsSound l t → IsSound (one_less l) t
sound_less l t many s = record {
  even = record { free = less_is _ _ s.even.free; shelf = less_is _ _ s.even.shelf; some_part = omega (arith, many) };
  account = record {
    put = s.account.put;
    shelf_put = s.account.shelf_put;
    shelf_taken = s.account.shelf_taken;
    taken = s.account.taken;
    events_true = s.account.events_true;
    out_told = s.account.out_told;
  };
  kept = record { each = s.kept.each };
}

-- a part that was split off
pub sound_off : {D : Type 0} (l : Lanes D) → IsSound (one_off l) (record { events = []; out = []; steps = 0 })
sound_off l = record {
  even = record { free = refl; shelf = refl; some_part = omega arith };
  account = none_yet (one_off l).full (one_off l).shelf 0 refl refl refl refl;
  kept = kept_none (one_off l).free (one_off l).full (one_off l).shelf refl refl refl refl refl;
}

-- two passes have met
pub sound_met : {D : Type 0} (l k : Lanes D) (t u : TallyView) → t.out ≡ [] → u.out ≡ [] → IsSound l t → IsSound k u → IsSound (all_met l k) (joined t u)
sound_met l k t u none none' s r = record {
  even = record {
    free = (λ i. s.even.free i + r.even.free i);
    shelf = (λ i. s.even.shelf i + r.even.shelf i);
    some_part = omega (arith, s.even.some_part);
  };
  account = meets l.full k.full l.shelf k.shelf t u none none' s.account r.account;
  kept = kept_meet l.free k.free l.full k.full l.shelf k.shelf t.out s.kept (subst (AreKept k.free k.full k.shelf) none' r.kept);
}

pub view_met : {D : Type 0} (l k : Lanes D) (t u : TallyView) (c c' : ℕ) → pass_of false (all_met l k) (joined t u) (counted c c') ≡ met (pass_of false l t c) (pass_of false k u c')
view_met l k t u c c' = λ i. record {
  handed = met_lists (homes_of l) (l.full.parts + k.full.parts) (handed_in l t.events).began t.events u.events i;
  no_free = counted l.free.misses k.free.misses;
  no_full = counted l.full.misses k.full.misses;
  broken = counted c c';
}

-- ---- passes that are handed in

-- a pass of a pool, with no slot out
pub record Open {D : Type 0} (c : Bool) (l : Lanes D) (t : TallyView) (home : List (List ℕ)) : Type 0 where
  pub is_so : c ≡ false
  pub homes : homes_of l ≡ home
  pub sound_so : IsSound l t
  pub none : t.out ≡ []

-- it is of each queue of this pool, and has a part of each
pub open_homes : {D : Type 0} (c : Bool) (l : Lanes D) (t : TallyView) (x y z : List ℕ) (pool : PoolView) → record { home = x ∷ y ∷ z ∷ [] } ≡ pool → Open c l t pool.home → (l.free.home ≡ x) × (l.full.home ≡ y) × (l.shelf.home ≡ z)
open_homes c l t x y z pool w o = homes_each l x y z (o.homes ∙ sym (ap (λ (q : PoolView). q.home) w))

pub open_parts : {D : Type 0} (c : Bool) (l : Lanes D) (t : TallyView) (home : List (List ℕ)) → Open c l t home → (0 < l.free.parts) × (0 < l.full.parts) × (0 < l.shelf.parts)
open_parts c l t home o = let e = o.sound_so.even in (omega (arith, e.some_part, e.free), e.some_part, omega (arith, e.some_part, e.shelf))

module _ {D : Type 0} (c : Bool) (l : Lanes D) (t : TallyView) (n : ℕ) (p : PassView) (v : pass_of c l t n ≡ p) where
  pub opened : (x y z : List ℕ) (pool : PoolView) → record { home = x ∷ y ∷ z ∷ [] } ≡ pool → IsPassOf pool p → IsSoundUnless c l t × (t.out ≡ []) → Open c l t pool.home
  opened x y z pool w of inv =
      let home : (x ∷ y ∷ z ∷ []) ≡ pool.home = ap (λ (q : PoolView). q.home) w in
      let e : (handed_by c l t.events).home ≡ x ∷ y ∷ z ∷ [] = ap (λ (q : PassView). q.handed.home) v ∙ of ∙ sym home in
      let o = is_open c l t.events x (y ∷ z ∷ []) e in
      record { is_so = o; homes = homes_are c l t.events x (y ∷ z ∷ []) e ∙ home; sound_so = sound c l t o inv.0; none = inv.1 }

  -- a seat and its pass know the same
  pub same_pass : c ≡ false → pass_of false l t n ≡ p
  same_pass o = ap (λ k. pass_of k l t n) (sym o) ∙ v

  pub parts_are : c ≡ false → l.full.parts ≡ p.handed.parts
  parts_are o = ap (λ (q : PassView). q.handed.parts) (same_pass o)

  pub less_pass : (new : Lanes D) → c ≡ false → new ≡ one_less l → pass_of c new t n ≡ less_one p
  less_pass new o e = ap (λ k. pass_of c k t n) e ∙ ap (λ k. pass_of k (one_less l) t n) o ∙ ap less_one (same_pass o)

  pub off_pass : (new : Lanes D) (u : TallyView) → c ≡ false → new ≡ one_off l → u ≡ record { events = []; out = []; steps = 0 } → pass_of false new u 0 ≡ split_off p
  off_pass new u o e f = ap (λ k. pass_of false k u 0) e ∙ ap (λ k. pass_of false (one_off l) k 0) f ∙ ap split_off (same_pass o)

  pub closed_pass : (new : Lanes D) → new.free.misses ≡ l.free.misses → new.full.misses ≡ l.full.misses → pass_of true new t n ≡ closed p
  closed_pass new e f = (λ i. record { handed = handed_by true l t.events; no_free = e i; no_full = f i; broken = n }) ∙ lists c ∙ ap closed v
    where
      lists : (k : Bool) → pass_of true l t n ≡ closed (pass_of k l t n)
      lists true = refl
      lists false = refl

  pub met_pass : (k new : Lanes D) (u m : TallyView) (n' : ℕ) (q : PassView) → c ≡ false → pass_of false k u n' ≡ q → new ≡ all_met l k → m ≡ joined t u → pass_of c new m (counted n n') ≡ met p q
  met_pass k new u m n' q o w e f =
      ap (λ h. pass_of h new m (counted n n')) o
      ∙ ap (λ h. pass_of false h m (counted n n')) e
      ∙ ap (λ h. pass_of false (all_met l k) h (counted n n')) f
      ∙ view_met l k t u n n'
      ∙ (λ i. met (same_pass o i) (w i))

-- what is kept where a pass changes
pub kept_less : {D : Type 0} (c : Bool) (l new : Lanes D) (t : TallyView) (home : List (List ℕ)) → Open c l t home → 1 < l.full.parts → new ≡ one_less l → IsSoundUnless c new t × (t.out ≡ [])
kept_less c l new t home o many e = (subst (λ k. IsSoundUnless k new t) (sym o.is_so) (subst (λ k. IsSound k t) (sym e) (sound_less l t many o.sound_so)), o.none)

pub kept_off : {D : Type 0} (l new : Lanes D) (u : TallyView) → new ≡ one_off l → u ≡ record { events = []; out = []; steps = 0 } → IsSoundUnless false new u × (u.out ≡ [])
kept_off l new u e f = (subst (λ k. IsSound k u) (sym e) (subst (IsSound (one_off l)) (sym f) (sound_off l)), ap (λ (k : TallyView). k.out) f)

pub kept_met : {D : Type 0} (c : Bool) (l k new : Lanes D) (t u m : TallyView) (home : List (List ℕ)) (c' : Bool) → Open c l t home → Open c' k u home → new ≡ all_met l k → m ≡ joined t u → IsSoundUnless c new m × (m.out ≡ [])
kept_met c l k new t u m home c' o r e f =
    (subst (λ h. IsSoundUnless h new m) (sym o.is_so) (subst (λ h. IsSound h m) (sym e) (subst (IsSound (all_met l k)) (sym f) (sound_met l k t u o.none r.none o.sound_so r.sound_so))), ap (λ (h : TallyView). h.out) f ∙ o.none)
