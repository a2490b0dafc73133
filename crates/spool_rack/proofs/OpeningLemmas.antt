-- Opening the slots of disks, one after the other.
use Rattle.std.proofs.Common.{◌≡◌, ℕ, suc, ◌+◌, ◌<◌, ◌≤◌, List, [], ◌∷◌, ◌++◌, length, take, drop, map, refl, sym, ap, subst, ◌∙◌, arith, append_assoc, length-append}
use Rattle.std.proofs.lemmas.List.{map-append, append-nil, length-map}
use Rattle.fw_disk.specs.DiskView.{DiskView}
use Rattle.spool_slots.specs.declared.opening.Opened.{Opened}
use Rattle.spool_slots.specs.declared.slot_why.SlotWhy.{SlotWhy}
use Rattle.spool_slots.specs.States.{BrokenView}
use Rattle.spool_slots.specs.Opened.{IsReadAs, disk_of}
use Rattle.spool_rack.specs.Opening.{IsSlotOf, AreSlotsOf, HasBroken, CameBack}
use Rattle.spool_slots.specs.declared.opening.Opened.TheVariants.{Free, Full, Aside}
use Rattle.spool_rack.specs.Room.{QueueView}
use Rattle.spool_rack.specs.Shelving.{IsReadable, AreReadable}

-- ---- disks that come back

pub record IsBack (X : Type 0) (view : X → DiskView) (first now : QueueView (Opened X)) (rest left : QueueView X) : Type 0 where
  pub room : length now.items + length left.items ≤ left.room
  pub same : map (disk_of {D = X}) now.items ++ map view left.items ≡ map (disk_of {D = X}) first.items ++ map view rest.items

pub back_room : (X : Type 0) (view : X → DiskView) (first now next : QueueView (Opened X)) (rest left : QueueView X)
    (slot : Opened X)
    → IsBack X view first now rest left → now.items ≡ next.items ++ slot ∷ [] → length left.items < left.room
back_room X view first now next rest left slot b e =
    omega (arith, b.room, ap (λ (l : List (Opened X)). length l) e, length-append next.items (slot ∷ []))

pub one_back : (X : Type 0) (view : X → DiskView) (first now next : QueueView (Opened X))
    (rest left after : QueueView X) (slot : Opened X) (disk : X)
    → IsBack X view first now rest left → now.items ≡ next.items ++ slot ∷ [] → view disk ≡ disk_of slot
    → after ≡ record { items = disk ∷ left.items; room = left.room }
    → IsBack X view first next rest after
one_back X view first now next rest left after slot disk b e d a =
    let of : Opened X → DiskView = disk_of {D = X} in
    let long : length now.items ≡ length next.items + 1 = ap (λ (l : List (Opened X)). length l) e ∙ length-append next.items (slot ∷ []) in
    let there : QueueView X = record { items = disk ∷ left.items; room = left.room } in
    let shifted : map of next.items ++ (view disk ∷ map view left.items) ≡ map of now.items ++ map view left.items =
    ap (λ (x : DiskView). map of next.items ++ (x ∷ map view left.items)) d
    ∙ sym (append_assoc (map of next.items) (of slot ∷ []) (map view left.items))
    ∙ ap (λ (l : List DiskView). l ++ map view left.items) (sym (map-append of next.items (slot ∷ [])))
    ∙ ap (λ (l : List (Opened X)). map of l ++ map view left.items) (sym e) in
    let is : IsBack X view first next rest there = record { room = omega (arith, b.room, long); same = shifted ∙ b.same } in
    subst (IsBack X view first next rest) (sym a) is

pub all_back : (X : Type 0) (view : X → DiskView) (first now : QueueView (Opened X)) (rest left : QueueView X)
    → IsBack X view first now rest left → now.items ≡ []
    → map view left.items ≡ map (disk_of {D = X}) first.items ++ map view rest.items
all_back X view first now rest left b e = ap (λ (l : List (Opened X)). map (disk_of {D = X}) l ++ map view left.items) (sym e) ∙ b.same

-- ---- slots so far

pub record IsSoFar (X : Type 0) (view : X → DiskView) (disks : List DiskView) (number : ℕ) (found : QueueView (Opened X)) (rest : QueueView X) : Type 0 where
  pub count : number + length rest.items ≡ length disks
  pub found_count : length found.items ≡ number
  pub rest_room : rest.room ≡ length disks
  pub found_room : length disks ≤ found.room
  pub slots : (more : List (Opened X)) → AreSlotsOf X number (map view rest.items) more → AreSlotsOf X 0 disks (found.items ++ more)
  pub back : (k : ℕ) (why : SlotWhy) (news : List DiskView) → CameBack X number k why (map view rest.items) news → CameBack X 0 (number + k) why disks (map (disk_of {D = X}) found.items ++ news)

front_of : (X : Type 0) (disk : X) (items : List X) → take 1 items ≡ disk ∷ [] → items ≡ disk ∷ drop 1 items
front_of X disk [] e = absurd cc
front_of X disk (x ∷ items) e = let is : x ≡ disk = cc in ap (λ (y : X). y ∷ items) is

pub so_far_first : (X : Type 0) (view : X → DiskView) (disks : List X) (found : QueueView (Opened X))
    (rest : QueueView X)
    → found.items ≡ [] → length disks ≤ found.room → rest ≡ record { items = disks; room = length disks }
    → length (map view disks) ≡ length disks
    → IsSoFar X view (map view disks) 0 found rest
so_far_first X view disks found rest none room is len =
    let of : Opened X → DiskView = disk_of {D = X} in
    let there : QueueView X = record { items = disks; room = length disks } in
    let first : IsSoFar X view (map view disks) 0 found there = record {
      count = omega (arith, len);
      found_count = ap (λ (l : List (Opened X)). length l) none;
      rest_room = sym len;
      found_room = omega (arith, len, room);
      slots = λ more h. subst (λ (l : List (Opened X)). AreSlotsOf X 0 (map view disks) (l ++ more)) (sym none) h;
      back = λ k why news h.
          let zero_more : k ≡ 0 + k = omega arith in
          subst (λ (n : ℕ). CameBack X 0 n why (map view disks) (map of found.items ++ news)) zero_more
          (subst (λ (l : List (Opened X)). CameBack X 0 k why (map view disks) (map of l ++ news)) (sym none) h);
    } in
    subst (IsSoFar X view (map view disks) 0 found) (sym is) first

pub so_far_next : (X : Type 0) (view : X → DiskView) (disks : List DiskView) (number : ℕ)
    (found next : QueueView (Opened X)) (rest left : QueueView X) (disk : X) (slot : Opened X)
    → IsSoFar X view disks number found rest → take 1 rest.items ≡ disk ∷ []
    → left ≡ record { items = drop 1 rest.items; room = rest.room }
    → next ≡ record { items = found.items ++ slot ∷ []; room = found.room }
    → IsSlotOf X number (view disk) slot → IsSoFar X view disks (number + 1) next left
so_far_next X view disks number found next rest left disk slot s e l n one =
    let of : Opened X → DiskView = disk_of {D = X} in
    let items : rest.items ≡ disk ∷ drop 1 rest.items = front_of X disk rest.items e in
    let long : length rest.items ≡ suc (length (drop 1 rest.items)) = ap (λ (x : List X). length x) items in
    let len : length rest.items ≡ length (drop 1 rest.items) + 1 = omega (arith, long) in
    let left_is : QueueView X = record { items = drop 1 rest.items; room = rest.room } in
    let next_is : QueueView (Opened X) = record { items = found.items ++ slot ∷ []; room = found.room } in
    let is : IsSoFar X view disks (number + 1) next_is left_is = record {
      count = omega (arith, s.count, len);
      found_count = omega (arith, s.found_count, length-append found.items (slot ∷ []));
      rest_room = s.rest_room;
      found_room = s.found_room;
      slots = λ more h.
          let front : AreSlotsOf X number (map view (disk ∷ drop 1 rest.items)) (slot ∷ more) = (one, h) in
          let all : AreSlotsOf X number (map view rest.items) (slot ∷ more) = subst (λ (x : List X). AreSlotsOf X number (map view x) (slot ∷ more)) (sym items) front in
          subst (AreSlotsOf X 0 disks) (sym (append_assoc found.items (slot ∷ []) more)) (s.slots (slot ∷ more) all);
      back = λ k why news h.
          let front : CameBack X number (suc k) why (map view (disk ∷ drop 1 rest.items)) (of slot ∷ news) = (record { slot = slot; is = one; disk = refl }, h) in
          let all : CameBack X number (suc k) why (map view rest.items) (of slot ∷ news) = subst (λ (x : List X). CameBack X number (suc k) why (map view x) (of slot ∷ news)) (sym items) front in
          let sum : number + suc k ≡ number + 1 + k = omega arith in
          let lists : map of found.items ++ (of slot ∷ news) ≡ map of (found.items ++ slot ∷ []) ++ news =
          sym (append_assoc (map of found.items) (of slot ∷ []) news) ∙ ap (λ (x : List DiskView). x ++ news) (sym (map-append of found.items (slot ∷ []))) in
          subst (λ (x : List DiskView). CameBack X 0 (number + 1 + k) why disks x) lists
          (subst (λ (m : ℕ). CameBack X 0 m why disks (map of found.items ++ (of slot ∷ news))) sum (s.back (suc k) why (of slot ∷ news) all));
    } in
    subst (λ (x : QueueView (Opened X)). IsSoFar X view disks (number + 1) x left) (sym n) (subst (IsSoFar X view disks (number + 1) next_is) (sym l) is)

pub so_far_last : (X : Type 0) (view : X → DiskView) (disks : List DiskView) (number : ℕ)
    (found : QueueView (Opened X)) (rest : QueueView X)
    → IsSoFar X view disks number found rest → rest.items ≡ [] → AreSlotsOf X 0 disks found.items
so_far_last X view disks number found rest s e =
    let end : AreSlotsOf X number (map view rest.items) [] = subst (λ (x : List X). AreSlotsOf X number (map view x) []) (sym e) tt in
    subst (AreSlotsOf X 0 disks) (append-nil found.items) (s.slots [] end)

pub so_far_stopped : (X : Type 0) (view : X → DiskView) (disks : List DiskView) (number : ℕ)
    (found : QueueView (Opened X)) (rest : QueueView X) (disk : X) (broken : BrokenView) (why : SlotWhy)
    (back : List DiskView)
    → IsSoFar X view disks number found rest → take 1 rest.items ≡ disk ∷ [] → HasBroken why (view disk) broken.disk
    → back ≡ map (disk_of {D = X}) found.items ++ (broken.disk ∷ map view (drop 1 rest.items))
    → CameBack X 0 number why disks back
so_far_stopped X view disks number found rest disk broken why back s e one b =
    let of : Opened X → DiskView = disk_of {D = X} in
    let items : rest.items ≡ disk ∷ drop 1 rest.items = front_of X disk rest.items e in
    let front : CameBack X number 0 why (map view (disk ∷ drop 1 rest.items)) (broken.disk ∷ map view (drop 1 rest.items)) = (one, refl) in
    let all : CameBack X number 0 why (map view rest.items) (broken.disk ∷ map view (drop 1 rest.items)) =
    subst (λ (x : List X). CameBack X number 0 why (map view x) (broken.disk ∷ map view (drop 1 rest.items))) (sym items) front in
    let none : number + 0 ≡ number = omega arith in
    subst (CameBack X 0 number why disks) (sym b)
    (subst (λ (m : ℕ). CameBack X 0 m why disks (map of found.items ++ (broken.disk ∷ map view (drop 1 rest.items)))) none
    (s.back 0 why (broken.disk ∷ map view (drop 1 rest.items)) all))

pub back_first : (X : Type 0) (view : X → DiskView) (first : QueueView (Opened X)) (rest : QueueView X)
    → length first.items + length rest.items ≤ rest.room → IsBack X view first first rest rest
back_first X view first rest room = record { room = room; same = refl }

pub back_less : (X : Type 0) (now next : List (Opened X)) (slot : Opened X) → now ≡ next ++ slot ∷ []
    → length next < length now
back_less X now next slot e = omega (arith, ap (λ (l : List (Opened X)). length l) e, length-append next (slot ∷ []))

-- ---- slots of disks

pub slots_count : (X : Type 0) (n : ℕ) (disks : List DiskView) (slots : List (Opened X)) → AreSlotsOf X n disks slots
    → length slots ≡ length disks
slots_count X n [] [] h = refl
slots_count X n [] (slot ∷ slots) h = absurd h
slots_count X n (disk ∷ disks) [] h = absurd h
slots_count X n (disk ∷ disks) (slot ∷ slots) h = ap (λ (k : ℕ). suc k) (slots_count X (n + 1) disks slots h.1)

readable : (X : Type 0) (slot : Opened X) → IsReadAs slot → IsReadable slot
readable X (Free slot) h = tt
readable X (Full slot) h = h.1
readable X (Aside slot) h = tt

pub slots_read : (X : Type 0) (n : ℕ) (disks : List DiskView) (slots : List (Opened X)) → AreSlotsOf X n disks slots
    → AreReadable slots
slots_read X n [] [] h = tt
slots_read X n [] (slot ∷ slots) h = absurd h
slots_read X n (disk ∷ disks) [] h = absurd h
slots_read X n (disk ∷ disks) (slot ∷ slots) h = (readable X slot h.0.read, slots_read X (n + 1) disks slots h.1)

pub length_views : (X : Type 0) (view : X → DiskView) (disks : List X) → length (map view disks) ≡ length disks
length_views X view disks = length-map disks view
