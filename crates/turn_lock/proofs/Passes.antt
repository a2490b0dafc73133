-- What the calls of a lock make of what a pass knows.
use Rattle.std.proofs.Common.{◌≡◌, ℕ, zero, suc, ◌+◌, ◌^◌, ◌<◌, ◌≤◌, inl, inr, cond, eqb, List, [], ◌∷◌, ◌++◌, length, get_or, drop, refl, ap, ap₂, sym, subst, ◌∙◌, arith}
use Rattle.std.specs.Prelude.{Option, Some, None, IfSome}
use Rattle.std.proofs.Math.ListN.{get_or-append}
use Rattle.std.proofs.Math.Seq.{get_or-append_seam}
use Rattle.std.proofs.lemmas.Bool.{cases_lt}
use Rattle.std.proofs.lemmas.List.{length_push}
use Rattle.std.proofs.lemmas.List.Sums.{sum_by-append}
use mathlib.Core.List.{IsPrefix}
use mathlib.Core.Option.{some, some-injective, some-ne-none}
use lib.ListN.{get_elem?}
use Rattle.atomic_table.specs.Seated.{TableId}
use Rattle.atomic_table.specs.Table.{opening}
use Rattle.atomic_table.specs.declared.shared.Seat.{Seat}
use Rattle.turn_lock.specs.declared.view.Hold.TheVariants.{Away, Loaded}
use Rattle.turn_lock.specs.declared.view.View.{View}
use Rattle.turn_lock.specs.Entries.{GrowsByOne, MayGrow}
use Rattle.turn_lock.specs.Known.{IsPassOf, Known, Lock, Met, TookTurn, knowing}
use Rattle.turn_lock.specs.Law.{Kept, Knows, free}
use Rattle.turn_lock.specs.Places.{AreWithin, Fill, NoneTwice, Places, times}
use Rattle.turn_lock.specs.Rest.{AtRest, home_of, known}
use Rattle.turn_lock.specs.Steps.{AreTold, Ends, Held, IsOut, Sees}
use Rattle.turn_lock.specs.Views.{both, entering, first, seeing, uses, with_hold}
use Rattle.turn_lock.proofs.Fronts.{front_length, front_self}

-- the numbers of a table are those of no other
pub same_table : (a b : TableId) → home_of a ≡ home_of b → a ≡ b
same_table a b h = λ i. record {
  words = get_or (h i) 0 0;
  slots = get_or (h i) 1 0;
  views_name = get_or (h i) 2 0;
  atom = get_or (h i) 3 0;
  block = get_or (h i) 4 0;
  offset = get_or (h i) 5 0;
  slot_names = drop 6 (h i);
}

last_place : (mine : List ℕ) (place k : ℕ) → length mine ≡ k → get_or (mine ++ place ∷ []) k 0 ≡ place
last_place mine place k is = subst (λ (n : ℕ). get_or (mine ++ place ∷ []) n 0 ≡ place) is (get_or-append_seam mine place [] 0)

is_end : (n k : ℕ) → k < n + 1 → n ≤ k → n ≡ k
is_end n k lt le = omega (arith, lt, le)

times_append : (place : ℕ) (xs ys : List ℕ) → times place (xs ++ ys) ≡ times place xs + times place ys
times_append place xs ys = sum_by-append (λ other. cond (eqb other place) 1 0) xs ys

module _ {E : Type 0} where
  -- places stay where the list grows
  pub places_stay : (seen list : List E) (mine : List ℕ) → IsPrefix seen list → Places seen mine → Places list mine
  places_stay seen list mine p were = let l = front_length seen list p in record { rising = were.rising; within = λ k lt. let here = were.within k lt in omega (arith, here, l) }

  -- one place more, at the end of the list that was found
  pub places_more : (found : List E) (entry : E) (mine : List ℕ) → Places found mine → Places (found ++ entry ∷ []) (mine ++ length found ∷ [])
  places_more found entry mine were = let place : ℕ = length found in let long = length_push mine place in let all = length_push found entry in record {
    rising = λ k lt. elim (cases_lt (k + 1) (length mine)) [
      | inl inside ↦ rw (get_or-append mine (place ∷ []) 0 k (omega (arith, inside)), get_or-append mine (place ∷ []) 0 (k + 1) inside) (were.rising k inside)
      | inr outside ↦
          let end = is_end (length mine) (k + 1) (omega (arith, lt, long)) outside in
          let here = were.within k (omega (arith, end)) in
          rw (get_or-append mine (place ∷ []) 0 k (omega (arith, end)), last_place mine place (k + 1) end) here
    ];
    within = λ k lt. elim (cases_lt k (length mine)) [
      | inl inside ↦ let here = were.within k inside in rw (get_or-append mine (place ∷ []) 0 k inside) (omega (arith, here, all))
      | inr outside ↦ rw (last_place mine place k (is_end (length mine) k (omega (arith, lt, long)) outside)) (omega (arith, all))
    ];
  }

  -- a list with as many entries as before is the same, and one with another number is longer by one
  pub grown_none : (most : ℕ) (before now : List E) → MayGrow most before now → length now ≡ length before → now ≡ before
  grown_none most before now (inl same) n = same
  grown_none most before now (inr more) n = absurd (omega (arith, ap length more.is, length_push before more.entry, n))

  pub grown_one : (most : ℕ) (before now : List E) → MayGrow most before now → ¬ (length now ≡ length before) → GrowsByOne most before now
  grown_one most before now (inl same) n = absurd (n (ap length same))
  grown_one most before now (inr more) n = more

abbrev Sit : Type 0 → Type 0 → Type 0 → Type 0
Sit V E O = Seat (Option V) (View E O)

module _ {E O : Type 0} where
  abbrev knows : List ℕ → View E O → Known E O
  knows home v = record { seen = v.seen; mine = v.mine; met = v.met; parts = v.parts; home = home; limit = v.limit; origin = v.origin }

  pub is_of : (lock : Lock O) (new : Known E O) (parts : ℕ) (seen : List E) (mine met : List ℕ) → new ≡ knowing lock parts seen mine met → IsPassOf lock new
  is_of lock new parts seen mine met is = subst (IsPassOf lock) (sym is) record { home = refl; limit = refl; origin = refl }

  apart : (v w : View E O) → ((place : ℕ) → uses place (both v w) ≤ 1) → NoneTwice ((v.mine ++ v.met) ++ (w.mine ++ w.met))
  apart v w once place = let o : times place v.mine + times place (v.met ++ (w.mine ++ w.met)) ≤ 1 = once place in
      omega (arith, o, times_append place v.met (w.mine ++ w.met), times_append place (v.mine ++ v.met) (w.mine ++ w.met), times_append place v.mine v.met)

module _ {V E O : Type 0} where
  -- a pass that has seen another list, and has other places
  known_now : (lock : Lock O) (a n : Sit V E O) (v : View E O) (parts : ℕ) (seen : List E) (mine met : List ℕ) → IsPassOf lock (known a) → n.table_id ≡ a.table_id → n.me.0 ≡ v
      → v.parts ≡ parts → v.seen ≡ seen → v.mine ≡ mine → v.met ≡ met → v.limit ≡ a.me.0.limit → v.origin ≡ a.me.0.origin → known n ≡ knowing lock parts seen mine met
  known_now lock a n v parts seen mine met of z e p s m t l o =
      ap₂ knows (ap home_of z ∙ of.home) e ∙ (λ i. record { seen = s i; mine = m i; met = t i; parts = p i; home = lock.home; limit = (l ∙ of.limit) i; origin = (o ∙ of.origin) i })

  -- two passes have met
  pub meets : (lock : Lock O) (a b j n : Sit V E O) → IsPassOf lock (known a) → j.table_id ≡ a.table_id → j.me ≡ (both a.me.0 b.me.0, a.me.1) → n.table_id ≡ j.table_id
      → Sees a.me.0.seen b.me.0.seen j.me n.me → Met lock (known a) (known b) (known n)
  meets lock a b j n of z joined y sees = record {
    seen = sees.list;
    own_begins = sees.own_begins;
    other_begins = sees.other_begins;
    apart = apart a.me.0 b.me.0 (λ place. subst (λ (m : Held V E O). uses place m.0 ≤ 1) joined (sees.once place));
    is = known_now lock a n (seeing (both a.me.0 b.me.0) sees.list Away) (a.me.0.parts + b.me.0.parts) sees.list a.me.0.mine (a.me.0.met ++ (b.me.0.mine ++ b.me.0.met)) of (y ∙ z)
        (ap (λ m. m.0) sees.is ∙ ap (λ (m : Held V E O). seeing m.0 sees.list Away) joined) refl refl refl refl refl refl;
  }

  pub meet_of : (lock : Lock O) (old other : Known E O) (a b j n : Sit V E O) → known a ≡ old → known b ≡ other → IsPassOf lock old → j.table_id ≡ a.table_id → j.me ≡ (both a.me.0 b.me.0, a.me.1) → n.table_id ≡ j.table_id
      → Sees a.me.0.seen b.me.0.seen j.me n.me → Met lock old other (known n) × IsPassOf lock (known n)
  meet_of lock old other a b j n view its of z joined y sees = let met = meets lock a b j n (subst (IsPassOf lock) (sym view) of) z joined y sees in
      (subst (λ (k : Known E O × Known E O). Met lock k.0 k.1 (known n)) (λ i. (view i, its i)) met, is_of lock (known n) (a.me.0.parts + b.me.0.parts) met.seen a.me.0.mine (a.me.0.met ++ (b.me.0.mine ++ b.me.0.met)) met.is)

  pub rests_met : (a b j n : Sit V E O) → AtRest a → j.me ≡ (both a.me.0 b.me.0, a.me.1) → Sees a.me.0.seen b.me.0.seen j.me n.me → AtRest n
  rests_met a b j n calm joined sees =
      let e : n.me ≡ (seeing (both a.me.0 b.me.0) sees.list Away, a.me.1) = sees.is ∙ ap (λ (m : Held V E O). (seeing m.0 sees.list Away, m.1)) joined in record {
        away = ap (λ (m : Held V E O). m.0.hold) e;
        empty = ap (λ (m : Held V E O). m.1) e ∙ calm.empty;
        places = subst (λ (m : Held V E O). Places m.0.seen m.0.mine) (sym e) (places_stay a.me.0.seen sees.list a.me.0.mine sees.own_begins calm.places);
      }

  -- the own places of a pass that is met
  pub met_rise : (b : Sit V E O) (other : Known E O) → known b ≡ other → AtRest b → Places other.seen other.mine
  met_rise b other its calm = subst (λ (k : Known E O). Places k.seen k.mine) its calm.places

  module _ (entries : V → List E) (limit : V → ℕ) (origin : V → O) where
    -- the value that is out is that of the lock
    pub out_of : (lock : Lock O) (a : Sit V E O) (value : V) → IsPassOf lock (known a) → AreTold entries limit origin a.me.0 value → (origin value ≡ lock.origin) × (limit value ≡ lock.limit)
    out_of lock a value of told = let t = subst (λ o. IfSome o (λ basis. (origin value ≡ basis) × (limit value ≡ a.me.0.limit))) of.origin told in (t.0, t.1 ∙ of.limit)

    -- the value that is handed out in the end, and the places of the pass
    pub closes : (lock : Lock O) (pass : Known E O) (a m : Sit V E O) (value : V) (begun : ℕ) → known a ≡ pass → begun ≡ lock.begun → IsOut entries limit origin value a.me m.me → Ends begun m.me.0
        → AreWithin lock.begun (length (entries value)) (pass.mine ++ pass.met) × (pass.parts ≡ 2 ^ 64 → Fill lock.begun (length (entries value)) (pass.mine ++ pass.met))
    closes lock pass a m value begun view start out told =
        let last : Ends begun (seeing a.me.0 (entries value) Loaded) = subst (Ends begun) (ap (λ (k : Held V E O). k.0) out.is) told in
        subst (λ (k : ℕ × Known E O). AreWithin k.0 (length (entries value)) (k.1.mine ++ k.1.met) × (k.1.parts ≡ 2 ^ 64 → Fill k.0 (length (entries value)) (k.1.mine ++ k.1.met)))
        (λ i. (start i, view i)) (last.within, last.whole)

    -- what the turn is given back with
    pub record Ready (m : Held V E O) (found left : V) : Type 0 where
      pub empty : m.1 ≡ (0, None) ∷ []
      pub hold : m.0.hold ≡ Loaded
      pub seen : entries found ≡ m.0.seen
      pub limit_is : limit left ≡ m.0.limit
      pub origin_is : m.0.origin ≡ Some (origin left)

    pub ready : (lock : Lock O) (a : Sit V E O) (m : Held V E O) (found left : V) → IsPassOf lock (known a) → AtRest a → IsOut entries limit origin found a.me m → limit left ≡ limit found → origin left ≡ origin found → Ready m found left
    ready lock a m found left of calm out l o = let t = out_of lock a found of out.about in record {
      empty = ap (λ (k : Held V E O). k.1) out.is ∙ ap (λ c. (0, None) ∷ c) calm.empty;
      hold = ap (λ (k : Held V E O). k.0.hold) out.is;
      seen = sym (ap (λ (k : Held V E O). k.0.seen) out.is);
      limit_is = l ∙ (t.1 ∙ (sym of.limit ∙ sym (ap (λ (k : Held V E O). k.0.limit) out.is)));
      origin_is = ap (λ (k : Held V E O). k.0.origin) out.is ∙ (of.origin ∙ ap Some (sym (o ∙ t.0)));
    }

    -- a turn that made no entry
    pub turned_same : (does : List E → ℕ → O → List E → Type 0) (lock : Lock O) (a m n : Sit V E O) (found left : V) → IsPassOf lock (known a) → AtRest a
        → IsOut entries limit origin found a.me m.me → n.table_id ≡ a.table_id → n.me ≡ (with_hold m.me.0 Away, []) → entries left ≡ entries found
        → does (entries found) (limit found) (origin found) (entries left) → TookTurn does lock (known a) (known n) × AtRest n
    turned_same does lock a m n found left of calm out z back same did =
        let t = out_of lock a found of out.about in
        let e : n.me ≡ (seeing a.me.0 (entries found) Away, []) = back ∙ ap (λ (k : Held V E O). (with_hold k.0 Away, [])) out.is in (
          record {
            found = entries found;
            seen = entries found;
            mine = a.me.0.mine;
            begins = out.begins;
            did = subst (λ (k : ℕ × O × List E). does (entries found) k.0 k.1 k.2) (λ i. (t.1 i, t.0 i, same i)) did;
            made = inl (refl, refl);
            is = known_now lock a n (seeing a.me.0 (entries found) Away) a.me.0.parts (entries found) a.me.0.mine a.me.0.met of z (ap (λ (k : Held V E O). k.0) e) refl refl refl refl refl refl;
          },
          record {
            away = ap (λ (k : Held V E O). k.0.hold) e;
            empty = ap (λ (k : Held V E O). k.1) e;
            places = subst (λ (k : Held V E O). Places k.0.seen k.0.mine) (sym e) (places_stay a.me.0.seen (entries found) a.me.0.mine out.begins calm.places);
          },
        )

    -- a turn that made an entry
    pub turned_more : (does : List E → ℕ → O → List E → Type 0) (lock : Lock O) (a m n : Sit V E O) (found left : V) → IsPassOf lock (known a) → AtRest a
        → IsOut entries limit origin found a.me m.me → n.table_id ≡ a.table_id → n.me ≡ (with_hold (entering m.me.0 (entries left)) Away, []) → GrowsByOne (limit found) (entries found) (entries left)
        → does (entries found) (limit found) (origin found) (entries left) → TookTurn does lock (known a) (known n) × AtRest n
    turned_more does lock a m n found left of calm out z back more did =
        let t = out_of lock a found of out.about in
        let w : View E O = with_hold (entering (seeing a.me.0 (entries found) Loaded) (entries left)) Away in
        let e : n.me ≡ (w, []) = back ∙ ap (λ (k : Held V E O). (with_hold (entering k.0 (entries left)) Away, [])) out.is in (
          record {
            found = entries found;
            seen = entries left;
            mine = a.me.0.mine ++ length (entries found) ∷ [];
            begins = out.begins;
            did = subst (λ (k : ℕ × O). does (entries found) k.0 k.1 (entries left)) (λ i. (t.1 i, t.0 i)) did;
            made = inr (subst (λ k. GrowsByOne k (entries found) (entries left)) t.1 more, refl);
            is = known_now lock a n w a.me.0.parts (entries left) (a.me.0.mine ++ length (entries found) ∷ []) a.me.0.met of z (ap (λ (k : Held V E O). k.0) e) refl refl refl refl refl refl;
          },
          record {
            away = ap (λ (k : Held V E O). k.0.hold) e;
            empty = ap (λ (k : Held V E O). k.1) e;
            places = subst (λ (k : Held V E O). Places k.0.seen k.0.mine) (sym e)
                (subst (λ l. Places l (a.me.0.mine ++ length (entries found) ∷ [])) (sym more.is)
                (places_more (entries found) more.entry a.me.0.mine (places_stay a.me.0.seen (entries found) a.me.0.mine out.begins calm.places)));
          },
        )

    pub turn_same : (does : List E → ℕ → O → List E → Type 0) (lock : Lock O) (old : Known E O) (a m n : Sit V E O) (found left : V) → known a ≡ old → IsPassOf lock old → AtRest a
        → IsOut entries limit origin found a.me m.me → n.table_id ≡ a.table_id → n.me ≡ (with_hold m.me.0 Away, []) → entries left ≡ entries found
        → does (entries found) (limit found) (origin found) (entries left) → TookTurn does lock old (known n) × IsPassOf lock (known n) × AtRest n
    turn_same does lock old a m n found left view of calm out z back same did = let r = turned_same does lock a m n found left (subst (IsPassOf lock) (sym view) of) calm out z back same did in
        (subst (λ k. TookTurn does lock k (known n)) view r.0, is_of lock (known n) a.me.0.parts r.0.seen r.0.mine (known a).met r.0.is, r.1)

    pub turn_more : (does : List E → ℕ → O → List E → Type 0) (lock : Lock O) (old : Known E O) (a m n : Sit V E O) (found left : V) → known a ≡ old → IsPassOf lock old → AtRest a
        → IsOut entries limit origin found a.me m.me → n.table_id ≡ a.table_id → n.me ≡ (with_hold (entering m.me.0 (entries left)) Away, []) → GrowsByOne (limit found) (entries found) (entries left)
        → does (entries found) (limit found) (origin found) (entries left) → TookTurn does lock old (known n) × IsPassOf lock (known n) × AtRest n
    turn_more does lock old a m n found left view of calm out z back more did = let r = turned_more does lock a m n found left (subst (IsPassOf lock) (sym view) of) calm out z back more did in
        (subst (λ k. TookTurn does lock k (known n)) view r.0, is_of lock (known n) a.me.0.parts r.0.seen r.0.mine (known a).met r.0.is, r.1)

    only : (value : V) (j : ℕ) (v : View E O) → get_elem? (first (entries value) (limit value) (origin value) ∷ []) j ≡ some v → Knows (entries value) (limit value) (origin value) (free value) j v
    only value zero v at = subst (Knows (entries value) (limit value) (origin value) (free value) 0) (some-injective _ v at)
        record { begins = front_self (entries value); below = λ place used. absurd (omega (arith, used)); about = (refl, refl); holds = tt }
    only value (suc j) v at = absurd (some-ne-none v (sym at))

    all_parts : (value : V) (j : ℕ) (v : View E O) → get_elem? (first (entries value) (limit value) (origin value) ∷ []) j ≡ some v → ¬ (v.parts ≡ 0)
    all_parts value zero v at none = omega (arith, ap (λ (x : View E O). x.parts) (some-injective (first (entries value) (limit value) (origin value)) v at), none)
    all_parts value (suc j) v at none = some-ne-none v (sym at)

    -- the table at the start keeps the rule
    pub opens : (value : V) → Kept entries limit origin value (opening (0 ∷ length (entries value) ∷ []) (Some value ∷ []) (first (entries value) (limit value) (origin value)))
    opens value = record {
      list = entries value;
      turn = free value;
      words = refl;
      slot = refl;
      rests = record { list_is = refl; limit_is = refl; origin_is = refl };
      held = tt;
      each = only value;
      once = record { grown = omega arith; before = λ place _. refl; made = λ place high inside. absurd (omega (arith, high, inside)); after = λ place _. refl };
      parted = record { most = omega arith; part = λ _ j v at none. absurd (all_parts value j v at none) };
    }

    pub opens_with : (value it : V) (n : ℕ) (slots : List (Option V)) → it ≡ value → n ≡ length (entries value) → slots ≡ Some value ∷ []
        → Kept entries limit origin it (opening (0 ∷ n ∷ []) slots (first (entries it) (limit it) (origin it)))
    opens_with value it n slots a b c = subst (λ (k : V × ℕ × List (Option V)). Kept entries limit origin k.0 (opening (0 ∷ k.1 ∷ []) k.2 (first (entries k.0) (limit k.0) (origin k.0)))) (λ i. (sym a i, sym b i, sym c i)) (opens value)
