-- The account of a pool that is closed by the pass with all parts.
use Rattle.std.proofs.Common.{◌≡◌, ℕ, ◌^◌, Bool, true, false, List, [], ◌∷◌, ◌++◌, map, refl, ap, sym, subst, ◌∙◌}
use Rattle.std.specs.Prelude.{if◌then◌else◌}
use Rattle.std.specs.List.{flat_map, AllByRecursion}
use Rattle.std.specs.List.Sorted.{IsPermutation}
use Rattle.std.proofs.lemmas.List.{append-nil, append_assoc}
use Rattle.std.proofs.lemmas.Grind.{flat_map-append}
use Rattle.std.proofs.lemmas.List.Sorted.{IsPermutation-trans, IsPermutation-append_left, IsPermutation-append_right, IsPermutation-append_comm}
use Rattle.spool_slots.specs.States.{SlotView, FullView, BrokenView}
use Rattle.spool_rack.specs.Store.{Queues, with_aside, with_broken, with_free, with_full}
use Rattle.spool_rack.specs.Stock.{StockView, no_slots}
use Rattle.shared_queue.specs.Moves.{Moves}
use Rattle.spool_pool.specs.declared.lanes.Lanes.{Lanes}
use Rattle.spool_pool.specs.Shelf.{ShelvedView, is_aside, is_broken, aside_of, broken_of}
use Rattle.spool_pool.specs.Ends.{Became, IsSettled, from_full, stands}
use Rattle.spool_pool.specs.Events.{Event, TallyView, kept, spoilt, back, freed, shelved, broke, first_of, set_aside_of, broke_of, full_of, shelf_of, taken_of, told_of}
use Rattle.spool_pool.specs.Account.{Account, IsSound, IsTrue, handed_in, pass_of}
use Rattle.spool_pool.specs.Closing.{Drains, with_all, with_shelved}
use Rattle.spool_pool.specs.Known.{PassView}
use Rattle.spool_pool.specs.Numbers.{AreKept}
use Rattle.spool_pool.proofs.Numbers.{numbers_left}
use Rattle.spool_pool.proofs.Passes.{Open, parts_are, same_pass}
use Rattle.spool_pool.proofs.Perms.{same, flat_map_permuted}
use Rattle.spool_pool.proofs.Fates.{all_turned, both, cancel_all, ends_of, over, permuted, stand}

-- ---- what stood on the shelf

asides_put : (events : List Event) → flat_map aside_of (flat_map shelf_of events) ≡ flat_map set_aside_of events
asides_put [] = refl
asides_put (e ∷ events) = flat_map-append aside_of (shelf_of e) (flat_map shelf_of events) ∙ (λ i. one e i ++ asides_put events i)
  where
    one : (e : Event) → flat_map aside_of (shelf_of e) ≡ set_aside_of e
    one (kept slot) = refl
    one (spoilt slot) = refl
    one (back loan slot) = refl
    one (freed loan) = refl
    one (shelved loan slot) = refl
    one (broke loan slot) = refl

abbrev alone_if : BrokenView → List BrokenView
alone_if slot = if slot.from_full then slot ∷ [] else []

made_at : (slot : BrokenView) (w : Bool) (found rest : List BrokenView) → found ≡ rest → (if w then slot ∷ found else found) ≡ (if w then slot ∷ [] else []) ++ rest
made_at slot true found rest e = ap (λ l. slot ∷ l) e
made_at slot false found rest e = e

from_full_made : (slots : List BrokenView) → from_full slots ≡ flat_map alone_if slots
from_full_made [] = refl
from_full_made (slot ∷ slots) = made_at slot slot.from_full (from_full slots) (flat_map alone_if slots) (from_full_made slots)

from_full_both : (xs ys : List BrokenView) → from_full (xs ++ ys) ≡ from_full xs ++ from_full ys
from_full_both xs ys = from_full_made (xs ++ ys) ∙ flat_map-append alone_if xs ys ∙ (λ i. sym (from_full_made xs) i ++ sym (from_full_made ys) i)

from_full_permuted : (xs ys : List BrokenView) → IsPermutation xs ys → IsPermutation (from_full xs) (from_full ys)
from_full_permuted xs ys p = subst (λ (l : List BrokenView × List BrokenView). IsPermutation l.0 l.1) (λ i. (sym (from_full_made xs) i, sym (from_full_made ys) i)) (flat_map_permuted alone_if xs ys p)

broken_put : (events : List Event) → AllByRecursion IsTrue events → from_full (flat_map broken_of (flat_map shelf_of events)) ≡ flat_map broke_of events
broken_put [] t = refl
broken_put (e ∷ events) t =
    ap from_full (flat_map-append broken_of (shelf_of e) (flat_map shelf_of events)) ∙ from_full_both (flat_map broken_of (shelf_of e)) (flat_map broken_of (flat_map shelf_of events))
    ∙ (λ i. one e t.0 i ++ broken_put events t.1 i)
  where
    flag_true : (slot : BrokenView) (w : Bool) → w ≡ true → (if w then slot ∷ [] else []) ≡ slot ∷ []
    flag_true slot w e = ap (λ v. if v then slot ∷ [] else []) e

    flag_false : (slot : BrokenView) (w : Bool) → w ≡ false → (if w then slot ∷ [] else []) ≡ []
    flag_false slot w e = ap (λ v. if v then slot ∷ [] else []) e

    one : (e : Event) → IsTrue e → from_full (flat_map broken_of (shelf_of e)) ≡ broke_of e
    one (kept slot) t = refl
    one (spoilt slot) t = flag_false slot slot.from_full t
    one (back loan slot) t = refl
    one (freed loan) t = refl
    one (shelved loan slot) t = refl
    one (broke loan slot) t = flag_true slot slot.from_full t.0

-- ---- slots that went into a rack

pub frees_home : (slots : List SlotView) (q : Queues) → with_all with_free slots q ≡ record { free = q.free ++ slots; full = q.full; aside = q.aside; broken = q.broken }
frees_home [] q = λ i. record { free = sym (append-nil q.free) i; full = q.full; aside = q.aside; broken = q.broken }
frees_home (slot ∷ slots) q = frees_home slots (with_free slot q) ∙ (λ i. record { free = append_assoc q.free (slot ∷ []) slots i; full = q.full; aside = q.aside; broken = q.broken })

pub fulls_home : (slots : List FullView) (q : Queues) → with_all with_full slots q ≡ record { free = q.free; full = q.full ++ slots; aside = q.aside; broken = q.broken }
fulls_home [] q = λ i. record { free = q.free; full = sym (append-nil q.full) i; aside = q.aside; broken = q.broken }
fulls_home (slot ∷ slots) q = fulls_home slots (with_full slot q) ∙ (λ i. record { free = q.free; full = append_assoc q.full (slot ∷ []) slots i; aside = q.aside; broken = q.broken })

pub shelf_home : (slots : List ShelvedView) (q : Queues) → with_all with_shelved slots q
    ≡ record { free = q.free; full = q.full; aside = q.aside ++ flat_map aside_of slots; broken = q.broken ++ flat_map broken_of slots }
shelf_home [] q = λ i. record { free = q.free; full = q.full; aside = sym (append-nil q.aside) i; broken = sym (append-nil q.broken) i }
shelf_home (is_aside slot ∷ slots) q = shelf_home slots (with_aside slot q)
    ∙ (λ i. record { free = q.free; full = q.full; aside = append_assoc q.aside (slot ∷ []) (flat_map aside_of slots) i; broken = q.broken ++ flat_map broken_of slots })
shelf_home (is_broken slot ∷ slots) q = shelf_home slots (with_broken slot q)
    ∙ (λ i. record { free = q.free; full = q.full; aside = q.aside ++ flat_map aside_of slots; broken = append_assoc q.broken (slot ∷ []) (flat_map broken_of slots) i })

-- ---- the account

full_settled : (began items : List FullView) (full : Moves FullView) (shelf : Moves ShelvedView) (t : TallyView) → Account full shelf t → t.out ≡ []
    → IsPermutation (began ++ full.put) (items ++ full.taken) → Became (began ++ flat_map first_of t.events) (map stands items ++ ends_of t.events)
full_settled began items full shelf t a none p =
    let puts = flat_map full_of t.events in
    let firsts = flat_map first_of t.events in
    let gone = flat_map taken_of t.events in
    let b = both items (firsts ++ gone) (map stands items) (map stands puts ++ ends_of t.events) (stand items) (all_turned t.events a.events_true) in
    let taken = subst (λ o. IsPermutation full.taken (gone ++ flat_map told_of o)) none a.taken in
    let taken' = IsPermutation-trans _ _ _ taken (same (gone ++ []) gone (append-nil gone)) in
    let one = same (puts ++ (began ++ firsts)) ((puts ++ began) ++ firsts) (sym (append_assoc puts began firsts)) in
    let two = IsPermutation-append_left firsts _ _ (IsPermutation-append_comm puts began) in
    let three = IsPermutation-append_left firsts _ _ (subst (λ l. IsPermutation (began ++ l) (items ++ full.taken)) a.put p) in
    let four = IsPermutation-append_left firsts _ _ (IsPermutation-append_right items _ _ taken') in
    let five = same ((items ++ gone) ++ firsts) (items ++ (gone ++ firsts)) (append_assoc items gone firsts) in
    let six = IsPermutation-append_right items _ _ (IsPermutation-append_comm gone firsts) in
    let starts = IsPermutation-trans _ _ _ one (IsPermutation-trans _ _ _ two (IsPermutation-trans _ _ _ three (IsPermutation-trans _ _ _ four (IsPermutation-trans _ _ _ five six)))) in
    let ends = over (map stands puts) (map stands items) (ends_of t.events) in
    cancel_all puts (began ++ firsts) (map stands items ++ ends_of t.events) (permuted _ _ _ _ starts ends b)

shelf_stands : {Y : Type 0} (f : ShelvedView → List Y) (shelf : Moves ShelvedView) (items : List ShelvedView) → shelf.taken ≡ [] → IsPermutation (shelf.began ++ shelf.put) (items ++ shelf.taken)
    → IsPermutation (flat_map f shelf.began ++ flat_map f shelf.put) (flat_map f items)
shelf_stands f shelf items none p =
    let all = IsPermutation-trans _ _ _ p (same (items ++ shelf.taken) items (ap (λ l. items ++ l) none ∙ append-nil items)) in
    subst (λ l. IsPermutation l (flat_map f items)) (flat_map-append f shelf.began shelf.put) (flat_map_permuted f _ _ all)

pub settles : {D : Type 0} (l : Lanes D) (t : TallyView) (frees : List SlotView) (fulls : List FullView) (items : List ShelvedView) → Account l.full l.shelf t → AreKept l.free l.full l.shelf t.out → t.out ≡ []
    → IsPermutation (l.free.began ++ l.free.put) (frees ++ l.free.taken) → IsPermutation (l.full.began ++ l.full.put) (fulls ++ l.full.taken) → IsPermutation (l.shelf.began ++ l.shelf.put) (items ++ l.shelf.taken)
    → IsSettled (handed_in l t.events) (record { free = frees; full = fulls; aside = flat_map aside_of items; broken = flat_map broken_of items })
settles l t frees fulls items a numbers none o p q =
    let asides = shelf_stands aside_of l.shelf items a.shelf_taken q in
    let brokens = from_full_permuted _ _ (shelf_stands broken_of l.shelf items a.shelf_taken q) in
    let put_aside = ap (flat_map aside_of) a.shelf_put ∙ asides_put t.events in
    let put_broken = ap (λ l. from_full (flat_map broken_of l)) a.shelf_put ∙ broken_put t.events a.events_true in record {
      full = full_settled l.full.began fulls l.full l.shelf t a none p;
      slots = numbers_left l.free l.full l.shelf frees fulls items (subst (AreKept l.free l.full l.shelf) none numbers) a.shelf_taken o p q;
      aside = subst (λ k. IsPermutation (flat_map aside_of l.shelf.began ++ k) (flat_map aside_of items)) put_aside asides;
      broken = subst (λ k. IsPermutation k (from_full (flat_map broken_of items)))
          (from_full_both (flat_map broken_of l.shelf.began) (flat_map broken_of l.shelf.put) ∙ ap (λ k. from_full (flat_map broken_of l.shelf.began) ++ k) put_broken) brokens;
    }

-- the three queues, one after the other
pub emptied : {D : Type 0} (l : Lanes D) (t : TallyView) (room : ℕ) (first second third last : StockView) → IsSound l t → t.out ≡ [] → first.queues ≡ no_slots
    → Drains with_free room l.free first second → Drains with_full room l.full second third → Drains with_shelved room l.shelf third last → l.full.parts ≡ 2 ^ 64 → IsSettled (handed_in l t.events) last.queues
emptied l t room first second third last s none bare a b c all =
    let q = ap (λ (k : StockView). k.queues) c.is ∙ shelf_home c.slots third.queues in
    let p = ap (λ (k : StockView). k.queues) b.is ∙ fulls_home b.slots second.queues in
    let o = ap (λ (k : StockView). k.queues) a.is ∙ frees_home a.slots first.queues in
    let one = ap (λ (k : Queues). let r : Queues = record { free = k.free ++ a.slots; full = k.full; aside = k.aside; broken = k.broken } in r) bare in
    let two = ap (λ (k : Queues). let r : Queues = record { free = k.free; full = k.full ++ b.slots; aside = k.aside; broken = k.broken } in r) (o ∙ one) in
    let three = ap (λ (k : Queues). let r : Queues = record { free = k.free; full = k.full; aside = k.aside ++ flat_map aside_of c.slots; broken = k.broken ++ flat_map broken_of c.slots } in r) (p ∙ two) in
    subst (IsSettled (handed_in l t.events)) (sym (q ∙ three)) (settles l t a.slots b.slots c.slots s.account s.kept none (a.all (s.even.free ∙ all)) (b.all all) (c.all (s.even.shelf ∙ all)))

-- the same of a pass that is handed in
pub settled : {D : Type 0} (c : Bool) (l : Lanes D) (t : TallyView) (n : ℕ) (p : PassView) (v : pass_of c l t n ≡ p) (home : List (List ℕ)) (room : ℕ) (first second third last : StockView) → Open c l t home → first.queues ≡ no_slots
    → Drains with_free room l.free first second → Drains with_full room l.full second third → Drains with_shelved room l.shelf third last → p.handed.parts ≡ 2 ^ 64 → IsSettled p.handed last.queues
settled c l t n p v home room first second third last o bare one two three all =
    subst (λ (q : PassView). IsSettled q.handed last.queues) (same_pass c l t n p v o.is_so)
    (emptied l t room first second third last o.sound_so o.none bare one two three (parts_are c l t n p v o.is_so ∙ all))
