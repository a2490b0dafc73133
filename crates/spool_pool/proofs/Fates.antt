-- What became of slots, and how a slot that stands again is struck out.
use Rattle.std.proofs.Common.{◌≡◌, ◌⊎◌, inl, inr, List, [], ◌∷◌, ◌++◌, map, refl, ap, sym, subst, ◌∙◌}
use mathlib.Core.List.{cons≢nil, head-eq_of_cons-eq, tail-eq_of_cons-eq}
use Rattle.std.specs.List.{flat_map, AllByRecursion}
use Rattle.std.specs.List.Sorted.{IsPermutation}
use Rattle.std.proofs.lemmas.List.{append_assoc, map-append}
use Rattle.std.proofs.lemmas.List.Sorted.{IsPermutation-refl, IsPermutation-sym, IsPermutation-trans, IsPermutation-map, IsPermutation-append, IsPermutation-append_left, IsPermutation-append_right, IsPermutation-append_comm, IsPermutation-middle}
use Rattle.slot_bytes.specs.Layout.{Mail}
use Rattle.spool_slots.specs.States.{SlotView, FullView, BrokenView, Keeps}
use Rattle.spool_rack.specs.Store.{Loan}
use Rattle.spool_pool.specs.Ends.{End, stands, released, put_aside, broke, Has, ToldWith, Fate, Became}
use Rattle.spool_pool.specs.Events.{Event, first_of, released_of, set_aside_of, broke_of, full_of, taken_of, told_in}
use Rattle.spool_pool.specs.Events as event
use Rattle.spool_pool.specs.Account.{IsTrue}
use Rattle.spool_pool.proofs.Perms.{same, taken, heads, Crossed}

-- ---- lists, one after the other

module _ {X : Type 0} where
  -- the two in the middle change places
  pub across : (a b c d : List X) → IsPermutation ((a ++ b) ++ (c ++ d)) ((a ++ c) ++ (b ++ d))
  across a b c d =
      let one = same ((a ++ b) ++ (c ++ d)) (a ++ ((b ++ c) ++ d)) (append_assoc a b (c ++ d) ∙ ap (λ l. a ++ l) (sym (append_assoc b c d))) in
      let two = IsPermutation-append_right a _ _ (IsPermutation-append_left d (b ++ c) (c ++ b) (IsPermutation-append_comm b c)) in
      let three = same (a ++ ((c ++ b) ++ d)) ((a ++ c) ++ (b ++ d)) (ap (λ l. a ++ l) (append_assoc c b d) ∙ sym (append_assoc a c (b ++ d))) in
      IsPermutation-trans _ _ _ one (IsPermutation-trans _ _ _ two three)

  -- the first two change places
  pub over : (a b c : List X) → IsPermutation (a ++ (b ++ c)) (b ++ (a ++ c))
  over a b c =
      let one = same (a ++ (b ++ c)) ((a ++ b) ++ c) (sym (append_assoc a b c)) in
      let two = IsPermutation-append_left c (a ++ b) (b ++ a) (IsPermutation-append_comm a b) in
      let three = same ((b ++ a) ++ c) (b ++ (a ++ c)) (append_assoc b a c) in
      IsPermutation-trans _ _ _ one (IsPermutation-trans _ _ _ two three)

-- ---- picking

module _ {X Y : Type 0} (g : X → Y) where
  record Cut (xs : List X) (l r : List Y) (y : Y) : Type 0 where
    pub front : List X
    pub item : X
    pub behind : List X
    pub whole : xs ≡ front ++ item ∷ behind
    pub front_is : map g front ≡ l
    pub item_is : g item ≡ y
    pub behind_is : map g behind ≡ r

  cut : (xs : List X) (l r : List Y) (y : Y) → l ++ y ∷ r ≡ map g xs → Cut xs l r y
  cut [] [] r y e = absurd (cons≢nil e)
  cut [] (u ∷ l) r y e = absurd (cons≢nil e)
  cut (x ∷ xs) [] r y e = record { front = []; item = x; behind = xs; whole = refl; front_is = refl; item_is = sym (head-eq_of_cons-eq e); behind_is = sym (tail-eq_of_cons-eq e) }
  cut (x ∷ xs) (u ∷ l) r y e =
      let c = cut xs l r y (tail-eq_of_cons-eq e) in record {
        front = x ∷ c.front;
        item = c.item;
        behind = c.behind;
        whole = ap (λ k. x ∷ k) c.whole;
        front_is = (λ i. sym (head-eq_of_cons-eq e) i ∷ c.front_is i);
        item_is = c.item_is;
        behind_is = c.behind_is;
      }

  pub record Picked (y : Y) (ys : List Y) (xs : List X) : Type 0 where
    pub item : X
    pub rest : List X
    pub is : g item ≡ y
    pub all : IsPermutation xs (item ∷ rest)
    pub others : IsPermutation ys (map g rest)

  pub pick : (y : Y) (ys : List Y) (xs : List X) → IsPermutation (y ∷ ys) (map g xs) → Picked y ys xs
  pick y ys xs p =
      let t = taken y ys (map g xs) p in
      let c = cut xs t.front t.behind y t.is in record {
        item = c.item;
        rest = c.front ++ c.behind;
        is = c.item_is;
        all = subst (λ l. IsPermutation l (c.item ∷ (c.front ++ c.behind))) (sym c.whole) (IsPermutation-middle c.front c.item c.behind);
        others = subst (IsPermutation ys) ((λ i. sym c.front_is i ++ sym c.behind_is i) ∙ sym (map-append g c.front c.behind)) t.others;
      }

-- ---- what became of slots

abbrev slot_of : Fate → FullView
slot_of fate = fate.slot

abbrev end_of : Fate → End
end_of fate = fate.end

pub permuted : (xs us : List FullView) (ys vs : List End) → IsPermutation us xs → IsPermutation vs ys → Became xs ys → Became us vs
permuted xs us ys vs p q b = record { fates = b.fates; slots_are = IsPermutation-trans _ _ _ p b.slots_are; ends_are = IsPermutation-trans _ _ _ q b.ends_are }

pub both : (xs us : List FullView) (ys vs : List End) → Became xs ys → Became us vs → Became (xs ++ us) (ys ++ vs)
both xs us ys vs b c = record {
  fates = b.fates ++ c.fates;
  slots_are = subst (IsPermutation (xs ++ us)) (sym (map-append slot_of b.fates c.fates)) (IsPermutation-append _ _ _ _ b.slots_are c.slots_are);
  ends_are = subst (IsPermutation (ys ++ vs)) (sym (map-append end_of b.fates c.fates)) (IsPermutation-append _ _ _ _ b.ends_are c.ends_are);
}

pub nothing : Became [] []
nothing = record { fates = []; slots_are = IsPermutation-refl []; ends_are = IsPermutation-refl [] }

pub one : (slot : FullView) (end : End) → ((m : Mail) → Keeps m slot → Has m end) → Became (slot ∷ []) (end ∷ [])
one slot end keeps = record { fates = record { slot = slot; end = end; same = keeps } ∷ []; slots_are = IsPermutation-refl (slot ∷ []); ends_are = IsPermutation-refl (end ∷ []) }

pub stand : (slots : List FullView) → Became slots (map stands slots)
stand [] = nothing
stand (slot ∷ slots) = both (slot ∷ []) slots (stands slot ∷ []) (map stands slots) (one slot (stands slot) (λ m keeps. keeps)) (stand slots)

-- a slot that became one that stands, and which came to be of another, is struck out
cancel : (x : FullView) (xs : List FullView) (ys : List End) → Became (x ∷ xs) (stands x ∷ ys) → Became xs ys
cancel x xs ys b = by_case (heads p.item r.item p.rest r.rest (IsPermutation-trans _ _ _ (IsPermutation-sym _ _ p.all) r.all))
  where
    p : Picked slot_of x xs b.fates
    p = pick slot_of x xs b.fates b.slots_are

    r : Picked end_of (stands x) ys b.fates
    r = pick end_of (stands x) ys b.fates b.ends_are

    by_case : ((p.item ≡ r.item) × IsPermutation p.rest r.rest) ⊎ Crossed p.item r.item p.rest r.rest → Became xs ys
    by_case (inl t) = record {
      fates = r.rest;
      slots_are = IsPermutation-trans _ _ _ p.others (IsPermutation-map slot_of _ _ t.1);
      ends_are = r.others;
    }
    by_case (inr c) =
        let fate : Fate = record { slot = r.item.slot; end = p.item.end; same = λ m keeps. p.item.same m (subst (Keeps m) (sym p.is) (subst (Has m) r.is (r.item.same m keeps))) } in record {
          fates = fate ∷ c.rest;
          slots_are = IsPermutation-trans _ _ _ p.others (IsPermutation-map slot_of _ _ c.here);
          ends_are = IsPermutation-trans _ _ _ r.others (IsPermutation-map end_of _ _ c.there);
        }

pub cancel_all : (zs xs : List FullView) (ys : List End) → Became (zs ++ xs) (map stands zs ++ ys) → Became xs ys
cancel_all [] xs ys b = b
cancel_all (z ∷ zs) xs ys b = cancel_all zs xs ys (cancel z (zs ++ xs) (map stands zs ++ ys) b)

-- ---- events

abbrev pub outs : List Loan → List SlotView → List BrokenView → List End
outs loans aside broken = map released loans ++ (map put_aside aside ++ map broke broken)

abbrev pub ends_of : List Event → List End
ends_of events = outs (flat_map released_of events) (flat_map set_aside_of events) (flat_map broke_of events)

-- what one event took became what it put
abbrev Turned : Event → Type 0
Turned e = Became (first_of e ++ taken_of e) (map stands (full_of e) ++ outs (released_of e) (set_aside_of e) (broke_of e))

turned : (e : Event) → IsTrue e → Turned e
turned (event.kept slot) t = one slot (stands slot) (λ m keeps. keeps)
turned (event.spoilt slot) t = nothing
turned (event.back loan slot) t = subst (λ o. Became (told_in o) (stands slot ∷ [])) (sym t.told) (one t.slot (stands slot) t.keeps)
turned (event.freed loan) t = subst (λ o. Became (told_in o) (released loan ∷ [])) (sym t.told) (one t.slot (released loan) (λ m keeps. subst (ToldWith m) (sym t.told) keeps))
turned (event.shelved loan slot) t = subst (λ o. Became (told_in o) (put_aside slot ∷ [])) (sym t.told) (one t.slot (put_aside slot) t.keeps)
turned (event.broke loan slot) t = subst (λ o. Became (told_in o) (broke slot ∷ [])) (sym t.1.told) (one t.1.slot (broke slot) t.1.keeps)

-- what all events took and what was put first became what they put
pub all_turned : (events : List Event) → AllByRecursion IsTrue events
    → Became (flat_map first_of events ++ flat_map taken_of events) (map stands (flat_map full_of events) ++ ends_of events)
all_turned [] t = nothing
all_turned (e ∷ events) t =
    let b = both _ _ _ _ (turned e t.0) (all_turned events t.1) in
    let s = across (first_of e) (taken_of e) (flat_map first_of events) (flat_map taken_of events) in
    let r = map-append released (released_of e) (flat_map released_of events) in
    let a = map-append put_aside (set_aside_of e) (flat_map set_aside_of events) in
    let k = map-append broke (broke_of e) (flat_map broke_of events) in
    let f = map-append stands (full_of e) (flat_map full_of events) in
    let q = across (map put_aside (set_aside_of e)) (map broke (broke_of e)) (map put_aside (flat_map set_aside_of events)) (map broke (flat_map broke_of events)) in
    let p = across (map released (released_of e)) (map put_aside (set_aside_of e) ++ map broke (broke_of e)) (map released (flat_map released_of events)) (map put_aside (flat_map set_aside_of events) ++ map broke (flat_map broke_of events)) in
    let o = across (map stands (full_of e)) (outs (released_of e) (set_aside_of e) (broke_of e)) (map stands (flat_map full_of events)) (ends_of events) in
    let inner = IsPermutation-trans _ _ _ p (IsPermutation-append_right (map released (released_of e) ++ map released (flat_map released_of events)) _ _ q) in
    let outer = IsPermutation-trans _ _ _ o (IsPermutation-append_right (map stands (full_of e) ++ map stands (flat_map full_of events)) _ _ inner) in
    let names : (map stands (full_of e) ++ map stands (flat_map full_of events)) ++ ((map released (released_of e) ++ map released (flat_map released_of events)) ++ ((map put_aside (set_aside_of e) ++ map put_aside (flat_map set_aside_of events)) ++ (map broke (broke_of e) ++ map broke (flat_map broke_of events))))
    ≡ map stands (full_of e ++ flat_map full_of events) ++ outs (released_of e ++ flat_map released_of events) (set_aside_of e ++ flat_map set_aside_of events) (broke_of e ++ flat_map broke_of events) = λ i. sym f i ++ (sym r i ++ (sym a i ++ sym k i)) in
    let start = (map stands (full_of e) ++ outs (released_of e) (set_aside_of e) (broke_of e)) ++ (map stands (flat_map full_of events) ++ ends_of events) in
    permuted _ _ _ _ (IsPermutation-sym _ _ s) (IsPermutation-sym _ _ (subst (IsPermutation start) names outer)) b
