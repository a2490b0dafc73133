-- Each step keeps the rule.
use Rattle.std.proofs.Common.{◌≡◌, ◌≢◌, ℕ, zero, suc, ◌+◌, ◌%◌, ◌^◌, ◌<◌, ⊎_elim, true, cond, eqb, eq-eqb, ne_eqb, List, [], ◌∷◌, ◌++◌, length, get_or, set, refl, ap, sym, subst, ◌∙◌, arith, length-append}
use Rattle.std.specs.Prelude.{Option, Some, None, IfSome, sum_by}
use Rattle.std.specs.Option.{unwrap_or}
use mathlib.Core.List.{IsPrefix}
use mathlib.Core.Logic.{dite}
use mathlib.Core.Option.{none, some, some-injective, some-ne-none}
use native.Mathlib.Decide.{ℕ_discrete}
use lib.ListN.{get_elem?}
use prog.Atomic.{either}
use Rattle.std.proofs.lemmas.Bool.{cases_lt}
use Rattle.std.proofs.lemmas.List.Sums.{sum_by-append, sum_by_push}
use Rattle.atomic_table.specs.Table.{State, Act, keeps, takes, gives, step, stepped, put_back, carried_after, Valid, Allows, Splits, Joins}
use Rattle.atomic_table.proofs.Lists.{at_longer, exchanged, set_else, set_here}
use Rattle.turn_lock.specs.declared.view.Hold.{Hold}
use Rattle.turn_lock.specs.declared.view.Hold.TheVariants.{Away, Claimed, Loaded, Met}
use Rattle.turn_lock.specs.declared.view.View.{View}
use Rattle.turn_lock.specs.Law.{Turn, free, taken, turn_word, slot_of, AreOf, AreOnce, Holds, Knows, Rests, Kept, IsHeld, has_turn}
use Rattle.turn_lock.specs.Places.{times}
use Rattle.turn_lock.specs.Steps.{Ends, Held, Claims, Loads, Enters, IsAhead, IsBack, Frees, Looks}
use Rattle.turn_lock.specs.Views.{both, copied, entering, lessened, seeing, spent, uses, with_hold}
use Rattle.turn_lock.proofs.Fronts.{front_self, front_same, front_trans, front_length, longer_front, longer_long}
use Rattle.turn_lock.proofs.Parts.{has_all, once_at_most, once_more, once_same, parted_join, parted_split, parted_stays}
use Rattle.turn_lock.proofs.Sums.{each_changed, each_more, sum_changed, sum_has}

free_at : {V : Type 0} (turn : Turn V) → turn_word turn ≡ 0 → (value : V) × (turn ≡ free value)
free_at (free value) is = (value, refl)
free_at (taken _) is = absurd (omega arith)

-- the value that was taken last
abbrev pub value_in : {V : Type 0} → V → List (ℕ × Option V) → V
value_in v [] = v
value_in v (x ∷ xs) = unwrap_or x.1 v

at_within : {A : Type 0} (l : List A) (i : ℕ) (a : A) → get_elem? l i ≡ some a → i < length l
at_within [] i a e = absurd (some-ne-none a (sym e))
at_within (x ∷ xs) zero a e = omega arith
at_within (x ∷ xs) (suc i) a e = let b = at_within xs i a e in omega (arith, b)

words_stay : (ws : List ℕ) (a b i : ℕ) → ws ≡ a ∷ b ∷ [] → set ws i (get_or ws i 0) ≡ a ∷ b ∷ []
words_stay ws a b zero is = ap (λ (us : List ℕ). set us 0 (get_or us 0 0)) is
words_stay ws a b (suc zero) is = ap (λ (us : List ℕ). set us 1 (get_or us 1 0)) is
words_stay ws a b (suc (suc i)) is = ap (λ (us : List ℕ). set us (suc (suc i)) (get_or us (suc (suc i)) 0)) is

module _ {V E O : Type 0} (entries : V → List E) (limit : V → ℕ) (origin : V → O) (about : V) where
  abbrev W : Type 0
  W = View E O

  abbrev St : Type 0
  St = State (Option V) W

  abbrev Rule : St → Type 0
  Rule = Kept entries limit origin about

  abbrev Sure : List E → Turn V → ℕ → W → Type 0
  Sure list turn id v = Knows list (limit about) (origin about) turn id v

  abbrev Goes : St → ℕ → ℕ → Held V E O → (ℕ → Held V E O → Type 0) → ℕ → Type 0
  Goes s i id me told n = (w : W) × (a : Act (Option V)) × Valid s.homes me.1 a × Rule (stepped s i n id me.1 w a) × told (get_or s.words i 0) (w, carried_after me.1 a)

  knows_hold : (list : List E) (turn : Turn V) (id : ℕ) (v : W) (h : Hold E) → v.hold ≡ h → Sure list turn id v → Holds list turn id v.seen h
  knows_hold list turn id v h is k = subst (λ x. Holds list turn id v.seen x) is k.holds

  told_of : (o : Option O) (l : ℕ) (value : V) (b : O) (m : ℕ) → AreOf m b l o → origin value ≡ b → limit value ≡ m → IfSome o (λ x. (origin value ≡ x) × (limit value ≡ l))
  told_of None l value b m k is so = tt
  told_of (Some x) l value b m k is so = (is ∙ sym k.0, so ∙ sym k.1)

  -- the other seats' holds
  others_claim : (list : List E) (value : V) (id j : ℕ) (seen : List E) (h : Hold E) → Holds list (free value) j seen h → Holds {V = V} list (taken id) j seen h
  others_claim list value id j seen Away k = tt
  others_claim list value id j seen (Claimed at) k = absurd (cc k.0)
  others_claim list value id j seen Loaded k = absurd (cc k.0)
  others_claim list value id j seen (Met own other) k = k

  others_free : (list : List E) (value : V) (id j : ℕ) (seen : List E) (h : Hold E) → j ≢ id → Holds {V = V} list (taken id) j seen h → Holds list (free value) j seen h
  others_free list value id j seen Away ne k = tt
  others_free list value id j seen (Claimed at) ne k = absurd (ne (cc k.0))
  others_free list value id j seen Loaded ne k = absurd (ne (cc k.0))
  others_free list value id j seen (Met own other) ne k = k

  others_enter : (list more : List E) (id j : ℕ) (seen : List E) (h : Hold E) → IsPrefix list more → j ≢ id → Holds {V = V} list (taken id) j seen h → Holds {V = V} more (taken id) j seen h
  others_enter list more id j seen Away p ne k = tt
  others_enter list more id j seen (Claimed at) p ne k = absurd (ne (cc k.0))
  others_enter list more id j seen Loaded p ne k = absurd (ne (cc k.0))
  others_enter list more id j seen (Met own other) p ne k = (front_trans own list more k.0 p, front_trans other list more k.1 p)

  -- how often each place stands in these views
  abbrev all_uses : List W → ℕ → ℕ
  all_uses views place = sum_by (uses place) views

  abbrev Once : List E → (ℕ → ℕ) → Type 0
  Once list count = AreOnce (length (entries about)) (length list) count

  -- a view with as many uses of each place keeps the sums
  once_stays : (s : St) (r : Rule s) (id : ℕ) (v w : W) → get_elem? s.views id ≡ some v → ((place : ℕ) → uses place w ≡ uses place v) → Once r.list (all_uses (set s.views id w))
  once_stays s r id v w at same = once_same (length (entries about)) (length r.list) (all_uses s.views) (all_uses (set s.views id w))
      (λ place. let u = sum_changed (uses place) s.views id v w at in omega (arith, u, same place)) r.once

  -- who has the turn still says so
  held_stays : (turn : Turn V) (views : List W) (id : ℕ) (v w : W) → get_elem? views id ≡ some v → has_turn w.hold ≡ has_turn v.hold → IsHeld turn views → IsHeld turn (set views id w)
  held_stays (free value) views id v w at same k = tt
  held_stays (taken j) views id v w at same k = dite (ℕ_discrete j id)
      (λ here. let there : get_elem? (set views id w) j ≡ some w = subst (λ (i : ℕ). get_elem? (set views id w) i ≡ some w) (sym here) (set_here views id w (at_within views id v at)) in
      let u : k.0 ≡ v = some-injective k.0 v (sym k.1 ∙ (subst (λ (i : ℕ). get_elem? views i ≡ some v) (sym here) at)) in
      (w, there, same ∙ (sym (ap (λ (x : W). has_turn x.hold) u) ∙ k.2)))
      (λ other. (k.0, set_else views id j w other ∙ k.1, k.2))

  held_here : (views : List W) (id : ℕ) (v w : W) → get_elem? views id ≡ some v → has_turn w.hold ≡ true → IsHeld {V = V} (taken id) (set views id w)
  held_here views id v w at is = (w, set_here views id w (at_within views id v at), is)

  held_more : (turn : Turn V) (views : List W) (w : W) → IsHeld turn views → IsHeld turn (views ++ w ∷ [])
  held_more (free value) views w k = tt
  held_more (taken j) views w k = (k.0, at_longer views (w ∷ []) j k.0 k.1, k.2)

  -- a step that changes no word and takes no slot
  stays : (s : St) (r : Rule s) (i id : ℕ) (v w : W) → get_elem? s.views id ≡ some v → Sure r.list r.turn id w → ((place : ℕ) → uses place w ≡ uses place v) → w.parts ≡ v.parts → w.origin ≡ v.origin → has_turn w.hold ≡ has_turn v.hold
      → Rule record { words = set s.words i (get_or s.words i 0); homes = s.homes; views = set s.views id w }
  stays s r i id v w at knows same parts of hold = record {
    list = r.list;
    turn = r.turn;
    words = words_stay s.words (turn_word r.turn) (length r.list) i r.words;
    slot = r.slot;
    rests = r.rests;
    held = held_stays r.turn s.views id v w at hold r.held;
    each = each_changed (Sure r.list r.turn) s.views id w knows (λ j u _ there. r.each j u there);
    once = once_stays s r id v w at same;
    parted = parted_stays s.views id v w at parts (λ k. record { origin = of ∙ k.origin; unused = λ place. same place ∙ k.unused place }) r.parted;
  }

  pub claims : (slots id : ℕ) (me : Held V E O) → Allows Rule slots id me 0 (λ n. either (eqb n 0) 1 n) (Claims entries limit origin (step slots 0 0 1 none) me)
  claims slots id me s r wide at small = let n : ℕ = get_or s.words 0 0 in let told = Claims entries limit origin (step slots 0 0 1 none) me in let k = r.each id me.0 at in exchanged n 0 1 (Goes s 0 id me told)
      (λ hit. let f = free_at r.turn (sym (ap (λ (ws : List ℕ). get_or ws 0 0) r.words) ∙ hit) in let value : V = f.0 in
      let stands = subst (Rests entries limit origin about r.list) f.1 r.rests in let w : W = with_hold me.0 (Claimed (entries value)) in (
        w,
        takes 0 (Some value),
        ap (λ hs. get_elem? hs 0) r.slot ∙ ap (λ t. some (slot_of t)) f.1,
        record {
          list = r.list;
          turn = taken id;
          words = ap (λ (ws : List ℕ). set ws 0 1) r.words;
          slot = ap (λ hs. set hs 0 none) r.slot;
          rests = tt;
          held = held_here s.views id me.0 w at refl;
          each = each_changed (Sure r.list (taken id)) s.views id w
              record { begins = k.begins; below = k.below; about = k.about; holds = (refl, stands.list_is) }
              (λ j u _ there. let q = r.each j u there in record {
                begins = q.begins;
                below = q.below;
                about = q.about;
                holds = others_claim r.list value id j u.seen u.hold (subst (λ t. Holds r.list t j u.seen u.hold) f.1 q.holds);
              });
          once = once_stays s r id me.0 w at (λ _. refl);
          parted = parted_stays s.views id me.0 w at refl (λ q. record { origin = q.origin; unused = q.unused }) r.parted;
        },
        ((λ _. record { value = value; view = refl; slot = refl; about = told_of me.0.origin me.0.limit value (origin about) (limit about) k.about stands.origin_is stands.limit_is }), λ miss. absurd (miss hit)),
      ))
      (λ miss. (me.0, keeps, tt, stays s r 0 id me.0 me.0 at k (λ _. refl) refl refl refl, ((λ hit. absurd (miss hit)), λ _. refl)))

  pub loads : (slots id : ℕ) (me : Held V E O) (list : List E) → me.0.hold ≡ Claimed list → Allows Rule slots id me 1 (λ n. n) (λ _ new. Loads me new)
  loads slots id me list is s r wide at small = let k = r.each id me.0 at in let h = knows_hold r.list r.turn id me.0 (Claimed list) is k in let w : W = seeing me.0 list Loaded in
      let long = front_length me.0.seen r.list k.begins in let same = ap length h.1 in (
        w,
        keeps,
        tt,
        stays s r 1 id me.0 w at record { begins = front_same list r.list h.1; below = λ place used. let b = k.below place used in omega (arith, b, long, same); about = k.about; holds = h } (λ _. refl) refl refl (sym (ap has_turn is)),
        λ list' is'. let e : list ≡ list' = cc (is, is') in
            (ap (λ l. (seeing me.0 l Loaded, me.1)) e, subst (IsPrefix me.0.seen) (sym h.1 ∙ e) k.begins),
      )

  taken_words : (s : St) (r : Rule s) (id : ℕ) → r.turn ≡ taken id → s.words ≡ 1 ∷ length r.list ∷ []
  taken_words s r id is = r.words ∙ ap (λ t. turn_word t ∷ length r.list ∷ []) is

  -- one place more, where the list ended
  uses_more : (v : W) (list : List E) (place : ℕ) → uses place (entering v list) ≡ uses place v + cond (eqb (length v.seen) place) 1 0
  uses_more v list place = let m : times place (v.mine ++ length v.seen ∷ []) ≡ times place v.mine + cond (eqb (length v.seen) place) 1 0 = sum_by_push (λ other. cond (eqb other place) 1 0) v.mine (length v.seen) in omega (arith, m)

  once_enters : (s : St) (r : Rule s) (id : ℕ) (v : W) (list : List E) → get_elem? s.views id ≡ some v → v.seen ≡ r.list → length list ≡ length r.list + 1 → Once list (all_uses (set s.views id (entering v list)))
  once_enters s r id v list at is long = let n : length v.seen ≡ length r.list = ap length is in
      once_more (length (entries about)) (length r.list) (length list) (all_uses s.views) (all_uses (set s.views id (entering v list))) long
      (let u = sum_changed (uses (length r.list)) s.views id v (entering v list) at in
      let one = uses_more v list (length r.list) ∙ ap (λ b. uses (length r.list) v + (cond b 1 0)) (eq-eqb (length v.seen) (length r.list) n) in omega (arith, u, one))
      (λ place other. let u = sum_changed (uses place) s.views id v (entering v list) at in
      let one = uses_more v list place ∙ ap (λ b. uses place v + (cond b 1 0)) (ne_eqb (length v.seen) place (λ here. other (sym n ∙ here))) in omega (arith, u, one))
      r.once

  pub enters : (slots id : ℕ) (me : Held V E O) (value : V) (basis : O) → IsAhead entries value me → me.0.origin ≡ Some basis → Allows Rule slots id me 1 (λ n. (n + 1) % 2 ^ 64) (λ _ new. Enters entries me new)
  enters slots id me value basis ahead unspent s r wide at small = let k = r.each id me.0 at in let h = knows_hold r.list r.turn id me.0 Loaded ahead.hold k in let list : List E = entries value in let w : W = entering me.0 list in
      let ws = taken_words s r id h.0 in let n = ap (λ (us : List ℕ). get_or us 1 0) ws in let same = ap length h.1 in let more = ap length ahead.list ∙ length-append me.0.seen (ahead.entry ∷ []) in
      let next : (get_or s.words 1 0 + 1) % 2 ^ 64 ≡ length list = grind (arith, n, same, more, ahead.small) in
      let p : IsPrefix r.list list = (ahead.entry ∷ [], ap (λ l. l ++ ahead.entry ∷ []) (sym h.1) ∙ sym ahead.list) in (
        w,
        keeps,
        tt,
        record {
          list = list;
          turn = taken id;
          words = ap (λ (us : List ℕ). set us 1 ((get_or s.words 1 0 + 1) % 2 ^ 64)) ws ∙ ap (λ (x : ℕ). 1 ∷ x ∷ []) next;
          slot = r.slot ∙ ap (λ t. slot_of t ∷ []) h.0;
          rests = tt;
          held = held_here s.views id me.0 w at refl;
          each = each_changed (Sure list (taken id)) s.views id w
              record {
                begins = front_self list;
                below = λ place used. dite (ℕ_discrete (length me.0.seen) place) (λ here. omega (arith, here, more))
                    (λ other. let m = uses_more me.0 list place ∙ ap (λ b. uses place me.0 + (cond b 1 0)) (ne_eqb (length me.0.seen) place other) in let b = k.below place (omega (arith, m, used)) in omega (arith, b, more));
                about = k.about;
                holds = (refl, refl);
              }
              (λ j u ne there. let q = r.each j u there in record {
                begins = front_trans u.seen r.list list q.begins p;
                below = q.below;
                about = q.about;
                holds = others_enter r.list list id j u.seen u.hold p ne (subst (λ t. Holds r.list t j u.seen u.hold) h.0 q.holds);
              });
          once = once_enters s r id me.0 list at h.1 (omega (arith, more, same));
          parted = parted_stays s.views id me.0 w at refl (λ q. absurd (cc (q.origin, unspent))) r.parted;
        },
        λ value' slot. let e = ap (value_in value) (sym ahead.slot ∙ slot) in ap (λ x. (entering me.0 (entries x), me.1)) e,
      )

  pub frees : (slots id : ℕ) (me : Held V E O) (value : V) → IsBack entries limit origin value me → Allows Rule slots id me 0 (λ _. 0) (λ _ new. Frees me new)
  frees slots id me value back s r wide at small = let k = r.each id me.0 at in let h = knows_hold r.list r.turn id me.0 Loaded back.hold k in let w : W = with_hold me.0 Away in
      let a = subst (AreOf (limit about) (origin about) me.0.limit) back.origin_is k.about in (
        w,
        gives,
        tt,
        record {
          list = r.list;
          turn = free value;
          words = ap (λ (ws : List ℕ). set ws 0 0) r.words;
          slot = subst (λ c. put_back s.homes c ≡ some (Some value) ∷ []) (sym back.slot) (ap (λ hs. set hs 0 (some (Some value))) r.slot);
          rests = record { list_is = back.list ∙ h.1; limit_is = back.limit_is ∙ a.1; origin_is = a.0 };
          held = tt;
          each = each_changed (Sure r.list (free value)) s.views id w
              record { begins = k.begins; below = k.below; about = k.about; holds = tt }
              (λ j u ne there. let q = r.each j u there in record {
                begins = q.begins;
                below = q.below;
                about = q.about;
                holds = others_free r.list value id j u.seen u.hold ne (subst (λ t. Holds r.list t j u.seen u.hold) h.0 q.holds);
              });
          once = once_stays s r id me.0 w at (λ _. refl);
          parted = parted_stays s.views id me.0 w at refl (λ q. record { origin = q.origin; unused = q.unused }) r.parted;
        },
        refl,
      )

  pub looks : (slots id : ℕ) (me : Held V E O) (own other : List E) → me.0.hold ≡ Met own other → Allows Rule slots id me 1 (λ n. n) (λ _ new. Looks me new)
  looks slots id me own other is s r wide at small = let k = r.each id me.0 at in let h = knows_hold r.list r.turn id me.0 (Met own other) is k in let w : W = seeing me.0 r.list Away in
      let long = front_length me.0.seen r.list k.begins in (
        w,
        keeps,
        tt,
        stays s r 1 id me.0 w at record { begins = front_self r.list; below = λ place used. let b = k.below place used in omega (arith, b, long); about = k.about; holds = tt } (λ _. refl) refl refl (sym (ap has_turn is)),
        λ own' other' is'. let e : own ≡ own' = cc (is, is') in let f : other ≡ other' = cc (is, is') in record {
          list = r.list;
          is = refl;
          own_begins = subst (λ l. IsPrefix l r.list) e h.0;
          other_begins = subst (λ l. IsPrefix l r.list) f h.1;
          once = λ place. let o = once_at_most (length (entries about)) (length r.list) (all_uses s.views) r.once place in let m = sum_has (uses place) s.views id me.0 at in omega (arith, o, m);
        },
      )

  pub splits : (id : ℕ) (v : W) → Splits Rule id v (lessened v) (copied v)
  splits id v s r at = let k = r.each id v at in record {
    list = r.list;
    turn = r.turn;
    words = r.words;
    slot = r.slot;
    rests = r.rests;
    held = held_more r.turn (set s.views id (lessened v)) (copied v) (held_stays r.turn s.views id v (lessened v) at refl r.held);
    each = each_more (Sure r.list r.turn) (set s.views id (lessened v)) (copied v) (λ j. record { begins = k.begins; below = λ place used. absurd (omega (arith, used)); about = k.about; holds = tt })
        (each_changed (Sure r.list r.turn) s.views id (lessened v) record { begins = k.begins; below = k.below; about = k.about; holds = k.holds } (λ j u _ there. r.each j u there));
    once = once_same (length (entries about)) (length r.list) (all_uses (set s.views id (lessened v))) (all_uses (set s.views id (lessened v) ++ copied v ∷ []))
        (λ place. let u = sum_by_push (uses place) (set s.views id (lessened v)) (copied v) in omega (arith, u)) (once_stays s r id v (lessened v) at (λ _. refl));
    parted = parted_split s.views id v at r.parted;
  }

  times_append : (place : ℕ) (xs ys : List ℕ) → times place (xs ++ ys) ≡ times place xs + times place ys
  times_append place xs ys = sum_by-append (λ other. cond (eqb other place) 1 0) xs ys

  uses_both : (v w : W) (place : ℕ) → uses place (both v w) ≡ uses place v + uses place w
  uses_both v w place = let all : uses place (both v w) ≡ times place v.mine + times place (v.met ++ (w.mine ++ w.met)) = refl in omega (arith, all, times_append place v.met (w.mine ++ w.met), times_append place w.mine w.met)

  pub joins : (id : ℕ) (v : W) (other : ℕ) (w : W) → v.hold ≡ Away → w.hold ≡ Away → Joins Rule id v other w (both v w) spent
  joins id v other w here away s r at apart there = let k = r.each id v at in let its = sym (set_else s.views id other (both v w) apart) ∙ there in let q = r.each other w its in let l = longer_long v.seen w.seen in record {
    list = r.list;
    turn = r.turn;
    words = r.words;
    slot = r.slot;
    rests = r.rests;
    held = held_stays r.turn (set s.views id (both v w)) other w spent there (sym (ap has_turn away)) (held_stays r.turn s.views id v (both v w) at (sym (ap has_turn here)) r.held);
    each = each_changed (Sure r.list r.turn) (set s.views id (both v w)) other spent
        record { begins = (r.list, refl); below = λ place used. absurd (omega (arith, used)); about = tt; holds = tt }
        (λ j u _ this. each_changed (Sure r.list r.turn) s.views id (both v w)
        record {
          begins = longer_front v.seen w.seen r.list k.begins q.begins;
          below = λ place used. let m = uses_both v w place in dite (ℕ_discrete (uses place v) 0)
              (λ none. let b = q.below place (omega (arith, m, none, used)) in omega (arith, b, l.1))
              (λ some_uses. let b = k.below place (omega (arith, some_uses)) in omega (arith, b, l.0));
          about = k.about;
          holds = (k.begins, q.begins);
        }
        (λ i x _ it. r.each i x it) j u this);
    once = once_same (length (entries about)) (length r.list) (all_uses s.views) (all_uses (set (set s.views id (both v w)) other spent))
        (λ place. let a = sum_changed (uses place) s.views id v (both v w) at in let b = sum_changed (uses place) (set s.views id (both v w)) other w spent there in
        omega (arith, a, b, uses_both v w place)) r.once;
    parted = parted_join s.views id other v w (uses_both v w) at its there r.parted;
  }

  -- what a seat that has the turn is told where the table ends
  pub ends : (s : St) (id : ℕ) (v : W) → Rule s → get_elem? s.views id ≡ some v → v.hold ≡ Loaded → Ends (length (entries about)) v
  ends s id v r at is =
      let k = r.each id v at in
      let h = knows_hold r.list r.turn id v Loaded is k in
      let long : length v.seen ≡ length r.list = ap length h.1 in
      let once = r.once in record {
        within = λ place used.
            let m : uses place v ≡ times place (v.mine ++ v.met) = sym (times_append place v.mine v.met) in
            let below = k.below place (omega (arith, m, used)) in
            (⊎_elim (λ low. let has = sum_has (uses place) s.views id v at in let nothing = once.before place low in absurd (omega (arith, m, used, has, nothing))) (λ high. high) (cases_lt place (length (entries about))), below);
        whole = λ all place high inside.
            let m : uses place v ≡ times place (v.mine ++ v.met) = sym (times_append place v.mine v.met) in
            let sum = has_all s.views id v place at r.parted all in
            let one = once.made place high (omega (arith, inside, long)) in
            omega (arith, m, sum, one);
      }
