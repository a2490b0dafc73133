-- Putting what a queue begins with, one after the other.
use Rattle.std.proofs.Common.{◌≡◌, ℕ, ◌<◌, ◌^◌, false, List, [], ◌∷◌, ◌++◌, map, refl, ap, sym, subst, ◌∙◌, arith}
use Rattle.std.specs.List.{flat_map}
use Rattle.std.proofs.lemmas.List.{append-nil, append_assoc}
use Rattle.spool_slots.specs.States.{SlotView, FullView}
use Rattle.spool_rack.specs.Store.{Queues}
use Rattle.shared_queue.specs.Moves.{Moves, begun_with}
use Rattle.spool_pool.specs.declared.lanes.Lanes.{Lanes}
use Rattle.spool_pool.specs.Shelf.{ShelvedView, is_aside, is_broken, aside_of, broken_of}
use Rattle.spool_pool.specs.Account.{IsSound, IsSoundUnless, pass_of}
use Rattle.spool_pool.specs.Events.{TallyView}
use Rattle.spool_pool.specs.Known.{PassView, bare}
use Rattle.spool_pool.specs.Opening.{IsBegun, IsFresh, begun_all, fresh}
use Rattle.spool_pool.proofs.Accounts.{none_yet}
use Rattle.spool_pool.proofs.Numbers.{kept_none}
use Rattle.spool_pool.proofs.Passes.{asides_back, brokens_back}

module _ {T : Type 0} where
  -- what is left, put, makes what all make
  pub record Beginning (all : List T) (first : Moves T) (left : List T) (m : Moves T) : Type 0 where
    pub whole : begun_all left m ≡ begun_all all first
    pub home : m.home ≡ first.home
    pub parts : m.parts ≡ first.parts

  pub begin_first : (all : List T) (m : Moves T) → Beginning all m all m
  begin_first all m = record { whole = refl; home = refl; parts = refl }

  pub begin_next : (all : List T) (first m new : Moves T) (item : T) (left less : List T) → Beginning all first left m → left ≡ item ∷ less → new ≡ begun_with item m → Beginning all first less new
  begin_next all first m new item left less b e is = record {
    whole = ap (begun_all less) is ∙ (λ i. record { home = m.home; parts = m.parts; began = append_assoc m.began (item ∷ []) less i; put = m.put; taken = m.taken; misses = m.misses }) ∙ ap (λ l. begun_all l m) (sym e) ∙ b.whole;
    home = ap (λ (k : Moves T). k.home) is ∙ b.home;
    parts = ap (λ (k : Moves T). k.parts) is ∙ b.parts;
  }

  pub begin_last : (all : List T) (first m : Moves T) (left : List T) → Beginning all first left m → left ≡ [] → m ≡ begun_all all first
  begin_last all first m left b e =
      (λ i. record { home = m.home; parts = m.parts; began = sym (append-nil m.began) i; put = m.put; taken = m.taken; misses = m.misses }) ∙ ap (λ l. begun_all l m) (sym e) ∙ b.whole

-- other queues stay
pub rest_free : (first old new : Queues) → old ≡ record first { free = old.free } → new ≡ record old { free = new.free } → new ≡ record first { free = new.free }
rest_free first old new e f = f ∙ ap (λ (q : Queues). let r : Queues = record q { free = new.free } in r) e

pub rest_full : (first old new : Queues) → old ≡ record first { full = old.full } → new ≡ record old { full = new.full } → new ≡ record first { full = new.full }
rest_full first old new e f = f ∙ ap (λ (q : Queues). let r : Queues = record q { full = new.full } in r) e

pub rest_aside : (first old new : Queues) → old ≡ record first { aside = old.aside } → new ≡ record old { aside = new.aside } → new ≡ record first { aside = new.aside }
rest_aside first old new e f = f ∙ ap (λ (q : Queues). let r : Queues = record q { aside = new.aside } in r) e

pub rest_broken : (first old new : Queues) → old ≡ record first { broken = old.broken } → new ≡ record old { broken = new.broken } → new ≡ record first { broken = new.broken }
rest_broken first old new e f = f ∙ ap (λ (q : Queues). let r : Queues = record q { broken = new.broken } in r) e

-- ---- all queues

pub fresh_lanes : {D : Type 0} (free : Moves SlotView) (full : Moves FullView) (shelf : Moves ShelvedView) (a b c : List ℕ) → free ≡ fresh a [] → full ≡ fresh b [] → shelf ≡ fresh c []
    → IsFresh {D = D} (a ∷ b ∷ c ∷ []) (record { free = free; full = full; shelf = shelf })
fresh_lanes free full shelf a b c e f g = record {
  homes = λ i. ap (λ (m : Moves SlotView). m.home) e i ∷ ap (λ (m : Moves FullView). m.home) f i ∷ ap (λ (m : Moves ShelvedView). m.home) g i ∷ [];
  free_is = e ∙ ap (λ h. fresh h []) (sym (ap (λ (m : Moves SlotView). m.home) e));
  full_is = f ∙ ap (λ h. fresh h []) (sym (ap (λ (m : Moves FullView). m.home) f));
  shelf_is = g ∙ ap (λ h. fresh h []) (sym (ap (λ (m : Moves ShelvedView). m.home) g));
}

pub begun : {D : Type 0} (home : List (List ℕ)) (l : Lanes D) (s s1 s2 s3 : Queues) (free : Moves SlotView) (full : Moves FullView) (one two : Moves ShelvedView) → IsFresh home l
    → free ≡ begun_all s.free l.free → s1 ≡ record s { free = s1.free } → full ≡ begun_all s1.full l.full → s2 ≡ record s1 { full = s2.full }
    → one ≡ begun_all (map is_aside s2.aside) l.shelf → s3 ≡ record s2 { aside = s3.aside } → two ≡ begun_all (map is_broken s3.broken) one
    → IsBegun {D = D} home s (record { free = free; full = full; shelf = two })
begun home l s s1 s2 s3 free full one two f e p1 g p2 h p3 k =
    let asides = map is_aside s.aside in
    let brokens = map is_broken s.broken in
    let same_full : s1.full ≡ s.full = ap (λ (q : Queues). q.full) p1 in
    let same_aside : s2.aside ≡ s.aside = ap (λ (q : Queues). q.aside) p2 ∙ ap (λ (q : Queues). q.aside) p1 in
    let same_broken : s3.broken ≡ s.broken = ap (λ (q : Queues). q.broken) p3 ∙ ap (λ (q : Queues). q.broken) p2 ∙ ap (λ (q : Queues). q.broken) p1 in
    let g' : full ≡ begun_all s.full l.full = g ∙ ap (λ b. begun_all b l.full) same_full in
    let h' : one ≡ begun_all asides l.shelf = h ∙ ap (λ b. begun_all (map is_aside b) l.shelf) same_aside in
    let k' : two ≡ begun_all brokens (begun_all asides l.shelf) = k ∙ ap (λ b. begun_all (map is_broken b) one) same_broken ∙ ap (begun_all brokens) h' in
    let free_home : free.home ≡ l.free.home = ap (λ (m : Moves SlotView). m.home) e in
    let full_home : full.home ≡ l.full.home = ap (λ (m : Moves FullView). m.home) g' in
    let shelf_home : two.home ≡ l.shelf.home = ap (λ (m : Moves ShelvedView). m.home) k' in record {
      homes = (λ i. free_home i ∷ full_home i ∷ shelf_home i ∷ []) ∙ f.homes;
      free_is = e ∙ ap (begun_all s.free) f.free_is ∙ ap (λ b. fresh b s.free) (sym free_home);
      full_is = g' ∙ ap (begun_all s.full) f.full_is ∙ ap (λ b. fresh b s.full) (sym full_home);
      shelf_is = k' ∙ ap (λ (m : Moves ShelvedView). begun_all brokens (begun_all asides m)) f.shelf_is ∙ ap (λ b. fresh b (asides ++ brokens)) (sym shelf_home);
    }

-- the first pass of a pool, before any call
begun_sound : {D : Type 0} (home : List (List ℕ)) (s : Queues) (l : Lanes D) → IsBegun home s l → IsSound l (record { events = []; out = []; steps = 0 })
begun_sound home s l b =
    let free_all : l.free.parts ≡ 2 ^ 64 = ap (λ (m : Moves SlotView). m.parts) b.free_is in
    let full_all : l.full.parts ≡ 2 ^ 64 = ap (λ (m : Moves FullView). m.parts) b.full_is in
    let shelf_all : l.shelf.parts ≡ 2 ^ 64 = ap (λ (m : Moves ShelvedView). m.parts) b.shelf_is in record {
      even = record { free = free_all ∙ sym full_all; shelf = shelf_all ∙ sym full_all; some_part = subst (λ n. 0 < n) (sym full_all) (omega arith) };
      account = none_yet l.full l.shelf 0 (ap (λ (m : Moves FullView). m.put) b.full_is) (ap (λ (m : Moves FullView). m.taken) b.full_is) (ap (λ (m : Moves ShelvedView). m.put) b.shelf_is) (ap (λ (m : Moves ShelvedView). m.taken) b.shelf_is);
      kept = kept_none l.free l.full l.shelf (ap (λ (m : Moves SlotView). m.put) b.free_is) (ap (λ (m : Moves SlotView). m.taken) b.free_is) (ap (λ (m : Moves FullView). m.put) b.full_is) (ap (λ (m : Moves FullView). m.taken) b.full_is) (ap (λ (m : Moves ShelvedView). m.put) b.shelf_is);
    }

pub begun_kept : {D : Type 0} (home : List (List ℕ)) (s : Queues) (l : Lanes D) (t : TallyView) → IsBegun home s l → t ≡ record { events = []; out = []; steps = 0 } → IsSoundUnless false l t × (t.out ≡ [])
begun_kept home s l t b e = (subst (IsSound l) (sym e) (begun_sound home s l b), ap (λ (u : TallyView). u.out) e)

pub begun_pass : {D : Type 0} (home : List (List ℕ)) (s : Queues) (l : Lanes D) (t : TallyView) → IsBegun home s l → t ≡ record { events = []; out = []; steps = 0 } → pass_of false l t 0 ≡ bare home (2 ^ 64) s
begun_pass home s l t b e =
    let parts : l.full.parts ≡ 2 ^ 64 = ap (λ (m : Moves FullView). m.parts) b.full_is in
    let free : l.free.began ≡ s.free = ap (λ (m : Moves SlotView). m.began) b.free_is in
    let full : l.full.began ≡ s.full = ap (λ (m : Moves FullView). m.began) b.full_is in
    let aside : flat_map aside_of l.shelf.began ≡ s.aside = ap (λ (m : Moves ShelvedView). flat_map aside_of m.began) b.shelf_is ∙ asides_back s.aside s.broken in
    let broken : flat_map broken_of l.shelf.began ≡ s.broken = ap (λ (m : Moves ShelvedView). flat_map broken_of m.began) b.shelf_is ∙ brokens_back s.aside s.broken in
    let no_free : l.free.misses ≡ 0 = ap (λ (m : Moves SlotView). m.misses) b.free_is in
    let no_full : l.full.misses ≡ 0 = ap (λ (m : Moves FullView). m.misses) b.full_is in
    ap (λ u. pass_of false l u 0) e
    ∙ (λ i. record { handed = (bare (b.homes i) (parts i) (record { free = free i; full = full i; aside = aside i; broken = broken i })).handed; no_free = no_free i; no_full = no_full i; broken = 0 })

-- the same, whatever the slots are
pub begun_whole : {D : Type 0} (home : List (List ℕ)) (s : Queues) (l : Lanes D) (t : TallyView) → IsBegun home s l → t ≡ record { events = []; out = []; steps = 0 }
    → pass_of false l t 0 ≡ bare home (2 ^ 64) (pass_of false l t 0).handed.began
begun_whole home s l t b e =
    let is = begun_pass home s l t b e in
    is ∙ ap (bare home (2 ^ 64)) (sym (ap (λ (q : PassView). q.handed.began) is))
