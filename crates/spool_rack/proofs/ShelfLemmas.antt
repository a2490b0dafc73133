-- Putting slots into queues, one after the other.
use Rattle.std.proofs.Common.{◌≡◌, ℕ, suc, ◌+◌, ◌<◌, ◌≤◌, false, List, [], ◌∷◌, ◌++◌, length, take, drop, refl, sym, ap, subst, ◌∙◌, arith, append_assoc, length-append}
use Rattle.std.specs.List.{AllByRecursion}
use Rattle.std.proofs.lemmas.List.{append-nil}
use Rattle.spool_slots.specs.declared.opening.Opened.{Opened}
use Rattle.spool_slots.specs.declared.opening.Opened.TheVariants.{Free, Full, Aside}
use Rattle.spool_slots.specs.States.{SlotView, FullView, BrokenView}
use Rattle.spool_rack.specs.declared.shelving.Shelves.{Shelves}
use Rattle.spool_rack.specs.Store.{Loan}
use Rattle.spool_rack.specs.Room.{QueueView, HasRoom}
use Rattle.spool_rack.specs.Opening.{queues_of, store_of}
use Rattle.spool_rack.specs.Shelving.{HasSpace, IsBare, IsShelved, AreReadable, shelved}

-- what is shelved and what is left are all
pub record IsShelving (X : Type 0) (all left : List (Opened X)) (old now : Shelves X) : Type 0 where
  pub space : HasSpace (length left) now
  pub rest : (new : Shelves X) → IsShelved left now new → IsShelved all old new

pub shelf_first : (X : Type 0) (all : List (Opened X)) (old : Shelves X) → HasSpace (length all) old
    → IsShelving X all all old old
shelf_first X all old space = record { space = space; rest = λ new h. h }

front_of : (X : Type 0) (slot : Opened X) (items : List (Opened X)) → take 1 items ≡ slot ∷ []
    → items ≡ slot ∷ drop 1 items
front_of X slot [] e = absurd cc
front_of X slot (x ∷ items) e = let is : x ≡ slot = cc in ap (λ (y : Opened X). y ∷ items) is

more_length : (X : Type 0) (slot : Opened X) (left : List (Opened X)) → take 1 left ≡ slot ∷ []
    → length left ≡ length (drop 1 left) + 1
more_length X slot left e =
    let long : length left ≡ suc (length (drop 1 left)) = ap (λ (l : List (Opened X)). length l) (front_of X slot left e) in
    omega (arith, long)

pub shelf_less : (X : Type 0) (slot : Opened X) (left : List (Opened X)) → take 1 left ≡ slot ∷ []
    → length (drop 1 left) < length left
shelf_less X slot left e = omega (arith, more_length X slot left e)

pub shelf_space : (X : Type 0) (all left : List (Opened X)) (old now : Shelves X) (slot : Opened X)
    → IsShelving X all left old now → take 1 left ≡ slot ∷ [] → HasSpace 1 now
shelf_space X all left old now slot s e =
    let len = more_length X slot left e in
    record {
      free = omega (arith, s.space.free, len);
      full = omega (arith, s.space.full, len);
      aside = omega (arith, s.space.aside, len);
    }

space_left : (X : Type 0) (n : ℕ) (slot : Opened X) (now : Shelves X) → HasSpace (n + 1) now
    → HasSpace n (shelved slot now)
space_left X n (Free slot) now h = record { free = omega (arith, h.free, length-append now.free.items (slot ∷ [])); full = omega (arith, h.full); aside = omega (arith, h.aside) }
space_left X n (Full slot) now h = record { free = omega (arith, h.free); full = omega (arith, h.full, length-append now.full.items (slot ∷ [])); aside = omega (arith, h.aside) }
space_left X n (Aside slot) now h = record { free = omega (arith, h.free); full = omega (arith, h.full); aside = omega (arith, h.aside, length-append now.aside.items (slot ∷ [])) }

behind : (X : Type 0) (x : X) (more : List X) (q new : QueueView X)
    → new ≡ record { items = (q.items ++ x ∷ []) ++ more; room = q.room }
    → new ≡ record { items = q.items ++ (x ∷ more); room = q.room }
behind X x more q new e = e ∙ ap (λ (l : List X). let r : QueueView X = record { items = l; room = q.room } in r) (append_assoc q.items (x ∷ []) more)

shelved_front : (X : Type 0) (slot : Opened X) (more : List (Opened X)) (now new : Shelves X)
    → IsShelved more (shelved slot now) new → IsShelved (slot ∷ more) now new
shelved_front X (Free slot) more now new h = record { free = behind SlotView slot (queues_of more).free now.free new.free h.free; full = h.full; aside = h.aside }
shelved_front X (Full slot) more now new h = record { free = h.free; full = behind FullView slot (queues_of more).full now.full new.full h.full; aside = h.aside }
shelved_front X (Aside slot) more now new h = record { free = h.free; full = h.full; aside = behind SlotView slot (queues_of more).aside now.aside new.aside h.aside }

pub shelf_next : (X : Type 0) (all left : List (Opened X)) (old now next : Shelves X) (slot : Opened X)
    → IsShelving X all left old now → take 1 left ≡ slot ∷ [] → next ≡ shelved slot now
    → IsShelving X all (drop 1 left) old next
shelf_next X all left old now next slot s e is =
    let len = more_length X slot left e in
    let space : HasSpace (length left) now = s.space in
    let wide : HasSpace (length (drop 1 left) + 1) now = subst (λ (n : ℕ). HasSpace n now) len space in
    let then_is : IsShelving X all (drop 1 left) old (shelved slot now) = record {
      space = space_left X (length (drop 1 left)) slot now wide;
      rest = λ new h. s.rest new (subst (λ (l : List (Opened X)). IsShelved l now new) (sym (front_of X slot left e)) (shelved_front X slot (drop 1 left) now new h));
    } in
    subst (IsShelving X all (drop 1 left) old) (sym is) then_is

nothing_behind : (X : Type 0) (q : QueueView X) → q ≡ record { items = q.items ++ []; room = q.room }
nothing_behind X q = ap (λ (l : List X). let r : QueueView X = record { items = l; room = q.room } in r) (sym (append-nil q.items))

pub shelf_last : (X : Type 0) (all left : List (Opened X)) (old now : Shelves X) → IsShelving X all left old now
    → left ≡ [] → IsShelved all old now
shelf_last X all left old now s e =
    s.rest now (subst (λ (l : List (Opened X)). IsShelved l now now) (sym e) (record {
      free = nothing_behind SlotView now.free;
      full = nothing_behind FullView now.full;
      aside = nothing_behind SlotView now.aside;
    }))

-- ---- a rack of them

pub queues_sum : (X : Type 0) (slots : List (Opened X))
    → length (queues_of slots).free + length (queues_of slots).full + length (queues_of slots).aside ≡ length slots
queues_sum X [] = refl
queues_sum X (Free slot ∷ slots) = omega (arith, queues_sum X slots)
queues_sum X (Full slot ∷ slots) = omega (arith, queues_sum X slots)
queues_sum X (Aside slot ∷ slots) = omega (arith, queues_sum X slots)

queues_read : (X : Type 0) (slots : List (Opened X)) → AreReadable slots
    → AllByRecursion (λ slot. slot.unread ≡ false) (queues_of slots).full
queues_read X [] read = tt
queues_read X (Free slot ∷ slots) read = queues_read X slots read.1
queues_read X (Full slot ∷ slots) read = (read.0, queues_read X slots read.1)
queues_read X (Aside slot ∷ slots) read = queues_read X slots read.1

bare_items : (X : Type 0) (q old : QueueView X) (more : List X) (room : ℕ)
    → q ≡ record { items = old.items ++ more; room = old.room } → old ≡ record { items = []; room = room }
    → q ≡ record { items = more; room = room }
bare_items X q old more room e is = e ∙ ap (λ (o : QueueView X). let r : QueueView X = record { items = o.items ++ more; room = o.room } in r) is

items_of : (X : Type 0) (q : QueueView X) (more : List X) (room : ℕ) → q ≡ record { items = more; room = room }
    → (q.items ≡ more) × (q.room ≡ room)
items_of X q more room e = (ap (λ (o : QueueView X). o.items) e, ap (λ (o : QueueView X). o.room) e)

pub filled_room : (X : Type 0) (slots : List (Opened X)) (old new : Shelves X) (broken : QueueView BrokenView)
    (out : QueueView Loan) (room : ℕ)
    → AreReadable slots → length slots ≤ room → IsBare room old broken out → IsShelved slots old new
    → HasRoom new.free new.full new.aside broken out room
filled_room X slots old new broken out room read few bare h =
    let a = items_of SlotView new.free (queues_of slots).free room (bare_items SlotView new.free old.free (queues_of slots).free room h.free bare.free) in
    let b = items_of FullView new.full (queues_of slots).full room (bare_items FullView new.full old.full (queues_of slots).full room h.full bare.full) in
    let c = items_of SlotView new.aside (queues_of slots).aside room (bare_items SlotView new.aside old.aside (queues_of slots).aside room h.aside bare.aside) in
    let d = items_of BrokenView broken [] room bare.broken_is in
    let e = items_of Loan out [] room bare.out_is in
    let free_len : length new.free.items ≡ length (queues_of slots).free = ap (λ (l : List SlotView). length l) a.0 in
    let full_len : length new.full.items ≡ length (queues_of slots).full = ap (λ (l : List FullView). length l) b.0 in
    let aside_len : length new.aside.items ≡ length (queues_of slots).aside = ap (λ (l : List SlotView). length l) c.0 in
    let broken_len : length broken.items ≡ 0 = ap (λ (l : List BrokenView). length l) d.0 in
    let out_len : length out.items ≡ 0 = ap (λ (l : List Loan). length l) e.0 in
    record {
      sum = omega (arith, free_len, full_len, aside_len, broken_len, out_len, queues_sum X slots, few);
      free_room = a.1;
      full_room = b.1;
      aside_room = c.1;
      broken_room = d.1;
      out_room = e.1;
      read = subst (λ (l : List FullView). AllByRecursion (λ slot. slot.unread ≡ false) l) (sym b.0) (queues_read X slots read);
    }

same_store : (a b : List SlotView) (c d : List FullView) (e f : List SlotView) (p q : List BrokenView)
    (x y : List Loan)
    → a ≡ b → c ≡ d → e ≡ f → p ≡ q → x ≡ y → store_of a c e p x ≡ store_of b d f q y
same_store a b c d e f p q x y g h i j k =
    ap (λ (l : List SlotView). store_of l c e p x) g
    ∙ ap (λ (l : List FullView). store_of b l e p x) h
    ∙ ap (λ (l : List SlotView). store_of b d l p x) i
    ∙ ap (λ (l : List BrokenView). store_of b d f l x) j
    ∙ ap (λ (l : List Loan). store_of b d f q l) k

pub filled_store : (X : Type 0) (slots : List (Opened X)) (old new : Shelves X) (broken : QueueView BrokenView)
    (out : QueueView Loan) (room : ℕ)
    → IsBare room old broken out → IsShelved slots old new
    → store_of new.free.items new.full.items new.aside.items broken.items out.items ≡ store_of (queues_of slots).free (queues_of slots).full (queues_of slots).aside [] []
filled_store X slots old new broken out room bare h =
    let a = items_of SlotView new.free (queues_of slots).free room (bare_items SlotView new.free old.free (queues_of slots).free room h.free bare.free) in
    let b = items_of FullView new.full (queues_of slots).full room (bare_items FullView new.full old.full (queues_of slots).full room h.full bare.full) in
    let c = items_of SlotView new.aside (queues_of slots).aside room (bare_items SlotView new.aside old.aside (queues_of slots).aside room h.aside bare.aside) in
    let d = items_of BrokenView broken [] room bare.broken_is in
    let e = items_of Loan out [] room bare.out_is in
    same_store new.free.items (queues_of slots).free new.full.items (queues_of slots).full new.aside.items (queues_of slots).aside broken.items [] out.items [] a.0 b.0 c.0 d.0 e.0

pub bare_space : (X : Type 0) (n room : ℕ) (s : Shelves X) (broken : QueueView BrokenView) (out : QueueView Loan)
    → n ≤ room → IsBare room s broken out → HasSpace n s
bare_space X n room s broken out few bare =
    let a = items_of SlotView s.free [] room bare.free in
    let b = items_of FullView s.full [] room bare.full in
    let c = items_of SlotView s.aside [] room bare.aside in
    let free_len : length s.free.items ≡ 0 = ap (λ (l : List SlotView). length l) a.0 in
    let full_len : length s.full.items ≡ 0 = ap (λ (l : List FullView). length l) b.0 in
    let aside_len : length s.aside.items ≡ 0 = ap (λ (l : List SlotView). length l) c.0 in
    record { free = omega (arith, free_len, a.1, few); full = omega (arith, full_len, b.1, few); aside = omega (arith, aside_len, c.1, few) }
