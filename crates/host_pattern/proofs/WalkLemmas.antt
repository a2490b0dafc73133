-- The walk of a pattern P and a text T with one point to go back to.
use Rattle.std.proofs.Common.{◌≡◌, ◌≢◌, ℕ, zero, suc, ◌+◌, ◌-◌, ◌*◌, ◌<◌, ◌≤◌, List, [], ◌∷◌, length, take, drop, Bool, true, false, ◌||◌, ◌&&◌, ◌==◌, Option, Some, None, refl, sym, ◌∙◌, ap, subst, arith, slice_index, inl, inr}
use Rattle.std.proofs.lemmas.Bool.Decides.{nat_tests}
use Rattle.std.proofs.Math.Nat.{mul-le-mul_right}
use Rattle.std.proofs.Math.ListN.{get_or-map}
use Rattle.std.specs.Char.{to_ascii_lowercase}
use Rattle.std.specs.Str.{str_to_ascii_lowercase}
use Rattle.std.proofs.lemmas.List.{drop_more, drop_all, drop-drop, length-map, drop-map, take_rest}
use Rattle.std.proofs.lemmas.Bool.{or_cases, eq-eqb, eqb-true, eqb-false, ne_eqb, or_right, and_parts, both_ways, cases_lt, cases_eq, cases_Bool}
use Rattle.std.specs.List.{list_all}
use Rattle.host_pattern.specs.Glob.{glob, some_suffix, begins_then}
use Rattle.host_pattern.specs.declared.walk.Back.{Back}

-- whether the rest of the pattern behind the last star globs a later suffix of the text
abbrev pub retry : List ℕ → List ℕ → Option Back → Bool
retry P T None = false
retry P T (Some b) = some_suffix (glob (drop b.pattern P)) (drop b.text T)

-- since the last star the walk passed as many bytes of the pattern, none of them a star, as of the text
pub record Since (P : List ℕ) (p t a x : ℕ) : Type 0 where
  pub begun : a ≤ p
  pub tied : p + x ≡ t + a + 1
  pub plain : (k : ℕ) → a ≤ k → k < p → slice_index P k ≢ 42

abbrev pub SinceStar : List ℕ → ℕ → ℕ → Option Back → Type 0
SinceStar P p t None = Unit {0}
SinceStar P p t (Some b) = Since P p t b.pattern b.text

pub record IsOnTheWay (P T : List ℕ) (p t : ℕ) (back : Option Back) : Type 0 where
  pub place : p ≤ length P
  pub at : t ≤ length T
  pub same : glob P T ≡ (glob (drop p P) (drop t T) || retry P T back)
  pub star : SinceStar P p t back

abbrev pub next_try : Option Back → ℕ
next_try None = 0
next_try (Some b) = b.text

-- what is left: the suffixes to be tried, and then the bytes up to the ends
abbrev pub left_over : List ℕ → List ℕ → ℕ → ℕ → Option Back → ℕ
left_over P T p t back = (length T + 2 - next_try back) * (length P + length T + 2) + (length P - p) + (length T - t)

-- Suffixes

-- the place of a suffix that passes
pub suffix_place : (f : List ℕ → Bool) (T : List ℕ) → some_suffix f T ≡ true → (k : ℕ) × (f (drop k T) ≡ true)
suffix_place f [] h = (0, h)
suffix_place f (c ∷ T) h =
    elim (or_cases (f (c ∷ T)) (some_suffix f T) h) [ inl e ↦ (0, e) | inr e ↦ let r = suffix_place f T e in (suc r.0, r.1) ]

-- a suffix that passes is one of the whole
pub suffix_from : (f : List ℕ → Bool) (T : List ℕ) (k : ℕ) → f (drop k T) ≡ true → some_suffix f T ≡ true
suffix_from f [] zero h = h
suffix_from f [] (suc k) h = h
suffix_from f (c ∷ T) zero h = rw h refl
suffix_from f (c ∷ T) (suc k) h = or_right (f (c ∷ T)) (some_suffix f T) (suffix_from f T k h)

-- the first suffix, and the others
pub suffix_first : (f : List ℕ → Bool) (T : List ℕ) (x : ℕ) → some_suffix f (drop x T) ≡ (f (drop x T) || some_suffix f (drop (x + 1) T))
suffix_first f [] zero = elim (f []) as (λ v. v ≡ (v || v)) [ true ↦ refl | false ↦ refl ]
suffix_first f [] (suc x) =
    let e : suc x + 1 ≡ suc (suc x) = omega arith in
    rw e (elim (f []) as (λ v. v ≡ (v || v)) [ true ↦ refl | false ↦ refl ])
suffix_first f (c ∷ T) zero = refl
suffix_first f (c ∷ T) (suc x) =
    let e : suc x + 1 ≡ suc (x + 1) = omega arith in
    rw e (suffix_first f T x)

-- Steps of glob

pub glob_star : (P : List ℕ) (p : ℕ) (T : List ℕ) → p < length P → slice_index P p ≡ 42 → glob (drop p P) T ≡ some_suffix (glob (drop (p + 1) P)) T
unfolding glob
glob_star P p T lt e = rw (drop_more P p 0 lt, e) refl

pub glob_plain : (P : List ℕ) (p : ℕ) (T : List ℕ) → p < length P → slice_index P p ≢ 42 → glob (drop p P) T ≡ begins_then (slice_index P p) (glob (drop (p + 1) P)) T
unfolding glob
glob_plain P p T lt ne = rw (drop_more P p 0 lt, ne_eqb _ _ ne) refl

-- n bytes of the pattern without a star pass n bytes of the text
pub glob_passes : (P : List ℕ) (n a : ℕ) (S : List ℕ) → a + n ≤ length P → ((k : ℕ) → a ≤ k → k < a + n → slice_index P k ≢ 42) → glob (drop a P) S ≡ true → glob (drop (a + n) P) (drop n S) ≡ true
glob_passes P zero a S fits plain h = rw (let e : a + 0 ≡ a = omega arith in e) h
glob_passes P (suc n) a [] fits plain h =
    let no = sym (glob_plain P a [] (omega arith) (plain a (omega arith) (omega arith))) ∙ h in cc
glob_passes P (suc n) a (d ∷ S) fits plain h =
    let step : (slice_index P a == d && glob (drop (a + 1) P) S) ≡ true = sym (glob_plain P a (d ∷ S) (omega arith) (plain a (omega arith) (omega arith))) ∙ h in
    let e : a + suc n ≡ (a + 1) + n = omega arith in
    rw e (glob_passes P n (a + 1) S (omega arith) (λ k low high. plain k (omega arith) (omega arith)) (and_parts _ _ step).1)

-- A later suffix that the rest behind the last star globs shows that what is left globs one, too: the last star is the only one to try.
pub retry_place : (P T : List ℕ) (p t : ℕ) (back : Option Back) → p ≤ length P → SinceStar P p t back → retry P T back ≡ true → (k : ℕ) × (glob (drop p P) (drop (t + 1 + k) T) ≡ true)
retry_place P T p t None le since h = absurd (both_ways _ refl h)
retry_place P T p t (Some b) le since h =
    let r = suffix_place (glob (drop b.pattern P)) (drop b.text T) h in
    let n : ℕ = p - b.pattern in
    let e : b.pattern + n ≡ p = omega arith in
    let passed = glob_passes P n b.pattern (drop r.0 (drop b.text T)) (omega arith) (λ k low high. since.plain k low (omega arith)) r.1 in
    let at : drop n (drop r.0 (drop b.text T)) ≡ drop (t + 1 + r.0) T =
    rw (drop-drop r.0 b.text T, drop-drop n (b.text + r.0) T) (ap (λ i. drop i T) (omega arith)) in
    (r.0, rw (← e) (subst (λ S. glob (drop (b.pattern + n) P) S ≡ true) at passed))

-- The steps of the walk

since_on : (P : List ℕ) (p t : ℕ) (back : Option Back) → slice_index P p ≢ 42 → SinceStar P p t back → SinceStar P (p + 1) (t + 1) back
since_on P p t None ne since = tt
since_on P p t (Some b) ne since = record {
  begun = omega arith;
  tied = omega arith;
  plain = λ k low high. elim (cases_lt k p) [ inl below ↦ since.plain k low below | inr above ↦ (let e : k ≡ p = omega arith in rw e ne) ];
}

absorbs : (a b : Bool) → (b ≡ true → a ≡ true) → (a || b) ≡ a
absorbs true b h = refl
absorbs false true h = sym (h refl)
absorbs false false h = refl

-- at a star the walk goes on behind it, and may go back there
pub star_taken : (P T : List ℕ) (p t : ℕ) (back : Option Back) → p < length P → t < length T → slice_index P p ≡ 42 → IsOnTheWay P T p t back → IsOnTheWay P T (p + 1) t (Some record { pattern = p + 1; text = t + 1 })
star_taken P T p t back pl tl star way = record {
  place = omega arith;
  at = omega arith;
  same =
      let rest : List ℕ → Bool = glob (drop (p + 1) P) in
      let here : glob (drop p P) (drop t T) ≡ some_suffix rest (drop t T) = glob_star P p (drop t T) pl star in
      let kept : (retry P T back ≡ true) → some_suffix rest (drop t T) ≡ true = λ h.
      let r = retry_place P T p t back (omega arith) way.star h in
      let one : some_suffix rest (drop (t + 1 + r.0) T) ≡ true = sym (glob_star P p (drop (t + 1 + r.0) T) pl star) ∙ r.1 in
      let two = suffix_place rest (drop (t + 1 + r.0) T) one in
      let e : t + 1 + r.0 + two.0 ≡ t + (1 + r.0 + two.0) = omega arith in
      suffix_from rest (drop t T) (1 + r.0 + two.0)
      (rw drop-drop (rw (← e) (rw (← drop-drop two.0 (t + 1 + r.0) T) two.1))) in
      way.same ∙ ap (λ b. b || retry P T back) here ∙ absorbs _ _ kept ∙ suffix_first rest T t;
  star = record { begun = omega arith; tied = omega arith; plain = λ k low high. absurd (omega arith) };
}

-- a byte of both
pub both_on : (P T : List ℕ) (p t : ℕ) (back : Option Back) → p < length P → t < length T → slice_index P p ≢ 42 → slice_index P p ≡ slice_index T t → IsOnTheWay P T p t back → IsOnTheWay P T (p + 1) (t + 1) back
both_on P T p t back pl tl ne e way = record {
  place = omega arith;
  at = omega arith;
  same =
      let here : glob (drop p P) (drop t T) ≡ glob (drop (p + 1) P) (drop (t + 1) T) =
      glob_plain P p (drop t T) pl ne ∙ rw (drop_more T t 0 tl, eq-eqb _ _ e) refl in
      way.same ∙ ap (λ b. b || retry P T back) here;
  star = since_on P p t back ne way.star;
}

-- the pattern's end, or a byte that is no star and not the text's
abbrev pub Differs : (P T : List ℕ) (p t : ℕ) → Type 0
Differs P T p t = p < length P → (slice_index P p ≢ 42) × (slice_index P p ≢ slice_index T t)

fails_here : (P T : List ℕ) (p t : ℕ) → t < length T → Differs P T p t → glob (drop p P) (drop t T) ≡ false
unfolding glob
fails_here P T p t tl differs = elim (cases_lt p (length P)) [
  | inl below ↦ (let d = differs below in glob_plain P p (drop t T) below d.0 ∙ rw (drop_more T t 0 tl, ne_eqb _ _ d.1) refl)
  | inr above ↦ rw (drop_all p P above, drop_more T t 0 tl) refl
]

-- where it fails, the rest behind the last star is tried one byte further on
pub back_again : (P T : List ℕ) (p t : ℕ) (b : Back) → t < length T → Differs P T p t → IsOnTheWay P T p t (Some b) → IsOnTheWay P T b.pattern b.text (Some record { pattern = b.pattern; text = b.text + 1 })
back_again P T p t b tl differs way =
    let since : Since P p t b.pattern b.text = way.star in
    record {
      place = omega arith;
      at = omega arith;
      same = way.same ∙ ap (λ v. v || retry P T (Some b)) (fails_here P T p t tl differs) ∙ suffix_first (glob (drop b.pattern P)) T b.text;
      star = record { begun = omega arith; tied = omega arith; plain = λ k low high. absurd (omega arith) };
    }

-- where it fails and no star was met, the pattern doesn't stand for the text
pub no_way_back : (P T : List ℕ) (p t : ℕ) → t < length T → Differs P T p t → IsOnTheWay P T p t None → false ≡ glob P T
no_way_back P T p t tl differs way = sym (way.same ∙ ap (λ v. v || false) (fails_here P T p t tl differs))

-- at the text's end only stars may be left
pub stars_alone : (P : List ℕ) → list_all (λ c. c == 42) P ≡ glob P []
unfolding glob
stars_alone [] = refl
stars_alone (c ∷ P) = elim (cases_Bool (c == 42)) [ inl e ↦ rw e (stars_alone P) | inr e ↦ rw e refl ]

pub ends_here : (P T : List ℕ) (p t : ℕ) (back : Option Back) → length T ≤ t → IsOnTheWay P T p t back → list_all (λ c. c == 42) (drop p P) ≡ glob P T
ends_here P T p t back le way =
    let kept : (retry P T back ≡ true) → glob (drop p P) (drop t T) ≡ true = λ h.
    let r = retry_place P T p t back way.place way.star h in
    rw (drop_all t T le) (subst (λ S. glob (drop p P) S ≡ true) (drop_all (t + 1 + r.0) T (omega arith)) r.1) in
    stars_alone (drop p P) ∙ ap (glob (drop p P)) (sym (drop_all t T le)) ∙ sym (way.same ∙ absorbs _ _ kept)

pub starts_here : (P T : List ℕ) → IsOnTheWay P T 0 0 None
starts_here P T = record { place = omega arith; at = omega arith; same = elim (glob P T) as (λ v. v ≡ (v || false)) [ true ↦ refl | false ↦ refl ]; star = tt }

-- the measure falls at a star: its rest is tried no earlier than the last one's
no_later : (Q T : List ℕ) (p t : ℕ) (back : Option Back) → SinceStar Q p t back → length T + 2 - (t + 1) ≤ length T + 2 - next_try back
no_later Q T p t None since = omega arith
no_later Q T p t (Some b) since = omega arith

pub star_is_less : (P Q T : List ℕ) (p t : ℕ) (back : Option Back) → p < length P → SinceStar Q p t back → left_over P T (p + 1) t (Some record { pattern = p + 1; text = t + 1 }) < left_over P T p t back
star_is_less P Q T p t back pl since =
    let tries = mul-le-mul_right (length P + length T + 2) (no_later Q T p t back since) in
    omega arith

-- Letters in lower case

pub low_at : (B : List ℕ) (p : ℕ) → slice_index (str_to_ascii_lowercase B) p ≡ to_ascii_lowercase (slice_index B p)
low_at B p = get_or-map to_ascii_lowercase B p 0

low_star : (c : ℕ) → to_ascii_lowercase c ≡ 42 → c ≡ 42
low_star c e = grind (arith, nat_tests)

pub at_star : (B : List ℕ) (p b : ℕ) → b ≡ slice_index B p → b ≡ 42 → slice_index (str_to_ascii_lowercase B) p ≡ 42
at_star B p b here star = low_at B p ∙ ap to_ascii_lowercase (sym here ∙ star)

pub at_other : (B : List ℕ) (p b : ℕ) → b ≡ slice_index B p → b ≢ 42 → slice_index (str_to_ascii_lowercase B) p ≢ 42
at_other B p b here ne e = ne (here ∙ low_star _ (sym (low_at B p) ∙ e))

pub at_same : (B T : List ℕ) (p t b : ℕ) → b ≡ slice_index B p → true ≡ (to_ascii_lowercase b == slice_index T t) → slice_index (str_to_ascii_lowercase B) p ≡ slice_index T t
at_same B T p t b here same = low_at B p ∙ ap to_ascii_lowercase (sym here) ∙ eqb-true _ _ (sym same)

pub in_low : (B : List ℕ) (p : ℕ) → p < length B → p < length (str_to_ascii_lowercase B)
in_low B p h = rw length-map h

pub differs_at : (B T : List ℕ) (p t b : ℕ) → b ≡ slice_index B p → b ≢ 42 → false ≡ (to_ascii_lowercase b == slice_index T t) → Differs (str_to_ascii_lowercase B) T p t
differs_at B T p t b here ne other le = (at_other B p b here ne, λ e. eqb-false _ _ (sym other) (ap to_ascii_lowercase here ∙ sym (low_at B p) ∙ e))

pub differs_past : (B T : List ℕ) (p t : ℕ) → length B ≤ p → Differs (str_to_ascii_lowercase B) T p t
differs_past B T p t past le = absurd (let short : p < length B = rw length-map at le in omega arith)

same_star : (c : ℕ) → (c == 42) ≡ (to_ascii_lowercase c == 42)
same_star c = elim (cases_eq c 42) [
  | inl e ↦ rw e refl
  | inr ne ↦ ne_eqb c 42 ne ∙ sym (ne_eqb (to_ascii_lowercase c) 42 (λ e. ne (low_star c e)))
]

same_stars : (B : List ℕ) → list_all (λ c. c == 42) B ≡ list_all (λ c. c == 42) (str_to_ascii_lowercase B)
same_stars [] = refl
same_stars (c ∷ B) = rw (same_star c, same_stars B) refl

pub ends_at : (B T : List ℕ) (p t : ℕ) (back : Option Back) → length T ≤ t → IsOnTheWay (str_to_ascii_lowercase B) T p t back → list_all (λ c. c == 42) (take (length B - p) (drop p B)) ≡ glob (str_to_ascii_lowercase B) T
ends_at B T p t back le way =
    rw (take_rest B p) (same_stars (drop p B)) ∙ ap (list_all (λ c. c == 42)) (sym (drop-map to_ascii_lowercase p B)) ∙ ends_here (str_to_ascii_lowercase B) T p t back le way
