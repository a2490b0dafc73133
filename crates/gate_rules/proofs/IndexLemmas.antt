-- Where rules stand, one rule further.
use Rattle.std.proofs.Common.{◌≡◌, ℕ, zero, suc, ◌+◌, ◌-◌, ◌<◌, Bool, true, false, ◌||◌, List, [], ◌∷◌, ◌++◌, length, get_or, map, take, refl, sym, ◌∙◌, ap, arith}
use Rattle.std.specs.Prelude.{◌==◌}
use Rattle.std.specs.List.{list_any}
use Rattle.std.proofs.lemmas.Bool.{and_parts, eqb-true, eq-eqb, false_from_ne_true, lt-ltb, ltb-true}
use Rattle.std.proofs.lemmas.List.{length-append}
use Rattle.std.proofs.lemmas.List.Folds.{list_any_more}
use Rattle.host_pattern.specs.declared.bucket.Bucket.TheVariants.{Octet}
use Rattle.host_pattern.specs.Bucket.{buckets, is_every, is_octet}
use Rattle.gate_rules.specs.declared.rule.Rule.{Rule}
use Rattle.gate_rules.specs.Index.{IsIndex, ends_in, is_everywhere, is_own, noted, noted_if, places}

pub place_added : (n : ℕ) (p : Rule → Bool) (rules : List Rule) (rule : Rule) → p rule ≡ true → places n p (rules ++ rule ∷ []) ≡ places n p rules ++ (n + length rules) ∷ []
place_added n p [] rule h = let e : n + 0 ≡ n = omega arith in rw (h, e) refl
place_added n p (r ∷ rules) rule h = by (p r) refl (place_added (n + 1) p rules rule h)
  where
    e : n + suc (length rules) ≡ n + 1 + length rules
    e = omega arith

    by : (v : Bool) → p r ≡ v → places (n + 1) p (rules ++ rule ∷ []) ≡ places (n + 1) p rules ++ (n + 1 + length rules) ∷ [] → places n p ((r ∷ rules) ++ rule ∷ []) ≡ places n p (r ∷ rules) ++ (n + length (r ∷ rules)) ∷ []
    by true is more = rw (is, e) (ap (λ ps. n ∷ ps) more)
    by false is more = rw (is, e) more

pub place_kept : (n : ℕ) (p : Rule → Bool) (rules : List Rule) (rule : Rule) → p rule ≡ false → places n p (rules ++ rule ∷ []) ≡ places n p rules
place_kept n p [] rule h = rw h refl
place_kept n p (r ∷ rules) rule h = by (p r) refl (place_kept (n + 1) p rules rule h)
  where
    by : (v : Bool) → p r ≡ v → places (n + 1) p (rules ++ rule ∷ []) ≡ places (n + 1) p rules → places n p ((r ∷ rules) ++ rule ∷ []) ≡ places n p (r ∷ rules)
    by true is more = rw is (ap (λ ps. n ∷ ps) more)
    by false is more = rw is more

-- no place is that of a rule behind them
below : (n : ℕ) (p : Rule → Bool) (rules : List Rule) (k : ℕ) → k < length (places n p rules) → get_or (places n p rules) k 0 < n + length rules
below n p [] k lt = absurd (omega arith)
below n p (r ∷ rules) k lt = by (p r) k refl lt (below (n + 1) p rules)
  where
    by : (v : Bool) (k : ℕ) → p r ≡ v → k < length (places n p (r ∷ rules)) → ((k : ℕ) → k < length (places (n + 1) p rules) → get_or (places (n + 1) p rules) k 0 < n + 1 + length rules) → get_or (places n p (r ∷ rules)) k 0 < n + length (r ∷ rules)
    by true zero is lt more = rw is (omega arith)
    by true (suc k) is lt more =
        let within = rw is at lt in
        let small = more k (omega arith) in
        rw is (omega arith)
    by false k is lt more =
        let small = more k (rw is at lt) in
        rw is (omega arith)

pub not_last : (at : ℕ) (p : Rule → Bool) (rules : List Rule) → length rules ≡ at → ends_in at (places 0 p rules) ≡ false
not_last at p rules long = false_from_ne_true (ends_in at (places 0 p rules)) (λ h.
    let ps : List ℕ = places 0 p rules in
    let parts = and_parts _ _ h in
    let some : 0 < length ps = ltb-true 0 (length ps) parts.0 in
    let last : get_or ps (length ps - 1) 0 ≡ at = eqb-true (get_or ps (length ps - 1) 0) at parts.1 in
    let small = below 0 p rules (length ps - 1) (omega arith) in
    absurd (omega arith))

at_end : (ps : List ℕ) (at : ℕ) → get_or (ps ++ at ∷ []) (length ps) 0 ≡ at
at_end [] at = refl
at_end (x ∷ ps) at = at_end ps at

last_noted : (at : ℕ) (ps : List ℕ) → ends_in at (ps ++ at ∷ []) ≡ true
last_noted at ps =
    let n : ℕ = length (ps ++ at ∷ []) in
    let long : n ≡ length ps + 1 = length-append ps (at ∷ []) in
    let some = lt-ltb 0 n (omega arith) in
    let place : n - 1 ≡ length ps = omega arith in
    rw (some, place, at_end ps at) (eq-eqb at at refl)

noted_twice : (at : ℕ) (ps : List ℕ) → noted at (noted at ps) ≡ noted at ps
noted_twice at ps = by (ends_in at ps) refl
  where
    by : (v : Bool) → ends_in at ps ≡ v → noted at (noted at ps) ≡ noted at ps
    by true is =
        let same : noted at ps ≡ ps = rw is refl in
        ap (noted at) same
    by false is =
        let more : noted at ps ≡ ps ++ at ∷ [] = rw is refl in
        rw (more, last_noted at ps) refl

note_more : (b c : Bool) (at : ℕ) (ps : List ℕ) → noted_if c at (noted_if b at ps) ≡ noted_if (b || c) at ps
note_more true true at ps = noted_twice at ps
note_more true false at ps = refl
note_more false c at ps = refl

-- one octet further
pub note_further : (octets : List ℕ) (i other at : ℕ) (ps qs rs : List ℕ) → i < length octets → qs ≡ noted_if (list_any (λ octet. octet == other) (take i octets)) at ps
    → rs ≡ noted_if (get_or octets i 0 == other) at qs → rs ≡ noted_if (list_any (λ octet. octet == other) (take (i + 1) octets)) at ps
note_further octets i other at ps qs rs within before here =
    let is_other : ℕ → Bool = λ octet. octet == other in
    here
    ∙ ap (noted_if (get_or octets i 0 == other) at) before
    ∙ note_more (list_any is_other (take i octets)) (get_or octets i 0 == other) at ps
    ∙ ap (λ b. noted_if b at ps) (sym (list_any_more is_other octets i 0 within))

-- an index of no rules
pub more_none : (own : List (List ℕ)) → ((octet : ℕ) → get_or own octet [] ≡ []) → (octet : ℕ) → get_or (own ++ [] ∷ []) octet [] ≡ []
more_none [] h zero = refl
more_none [] h (suc octet) = refl
more_none (x ∷ own) h zero = h zero
more_none (x ∷ own) h (suc octet) = more_none own (λ k. h (suc k)) octet

pub empty_index : (own : List (List ℕ)) → length own ≡ 256 → ((octet : ℕ) → get_or own octet [] ≡ []) → IsIndex [] [] own
empty_index own count none = record { all = refl; count = count; each = λ octet small. none octet }

-- one rule more
pub everywhere_added : (rules : List Rule) (rule : Rule) (every : List ℕ) (own : List (List ℕ)) (at : ℕ) → is_everywhere rule ≡ true → length rules ≡ at
    → IsIndex rules every own → IsIndex (rules ++ rule ∷ []) (every ++ at ∷ []) own
everywhere_added rules rule every own at all long index = record {
  all =
      let place : 0 + length rules ≡ at = omega arith in
      ap (λ ps. ps ++ at ∷ []) index.all ∙ ap (λ n. places 0 is_everywhere rules ++ n ∷ []) (sym place) ∙ sym (place_added 0 is_everywhere rules rule all);
  count = index.count;
  each = λ octet small.
      let other : is_own octet rule ≡ false = rw all refl in
      index.each octet small ∙ sym (place_kept 0 (is_own octet) rules rule other);
}

pub own_added : (rules : List Rule) (rule : Rule) (every : List ℕ) (own new : List (List ℕ)) (at : ℕ) → is_everywhere rule ≡ false → length rules ≡ at → length new ≡ 256
    → ((octet : ℕ) → octet < 256 → get_or new octet [] ≡ noted_if (list_any (is_octet octet) (buckets rule.hosts)) at (get_or own octet []))
    → IsIndex rules every own → IsIndex (rules ++ rule ∷ []) every new
own_added rules rule every own new at none long count noted_each index = record {
  all = index.all ∙ sym (place_kept 0 is_everywhere rules rule none);
  count = count;
  each = λ octet small.
      noted_each octet small
      ∙ ap (noted_if (list_any (is_octet octet) (buckets rule.hosts)) at) (index.each octet small)
      ∙ one octet (list_any (is_octet octet) (buckets rule.hosts)) refl;
}
  where
    one : (octet : ℕ) (v : Bool) → list_any (is_octet octet) (buckets rule.hosts) ≡ v → noted_if v at (places 0 (is_own octet) rules) ≡ places 0 (is_own octet) (rules ++ rule ∷ [])
    one octet true is =
        let p : Rule → Bool = is_own octet in
        let here : p rule ≡ true = rw (none, is) refl in
        let place : 0 + length rules ≡ at = omega arith in
        let new_one : noted at (places 0 p rules) ≡ places 0 p rules ++ at ∷ [] = rw (not_last at p rules long) refl in
        new_one ∙ ap (λ n. places 0 p rules ++ n ∷ []) (sym place) ∙ sym (place_added 0 p rules rule here)
    one octet false is =
        let other : is_own octet rule ≡ false = rw (none, is) refl in
        sym (place_kept 0 (is_own octet) rules rule other)

-- the same, of a list whose patterns belong to these octets

none_every : (octets : List ℕ) → list_any is_every (map Octet octets) ≡ false
none_every [] = refl
none_every (octet ∷ octets) = none_every octets

any_octet : (other : ℕ) (octets : List ℕ) → list_any (is_octet other) (map Octet octets) ≡ list_any (λ octet. octet == other) octets
any_octet other [] = refl
any_octet other (octet ∷ octets) = ap (λ b. (octet == other) || b) (any_octet other octets)

pub octets_added : (rules : List Rule) (rule : Rule) (every : List ℕ) (own new : List (List ℕ)) (at : ℕ) (octets : List ℕ) → map Octet octets ≡ buckets rule.hosts → length rules ≡ at → length new ≡ 256
    → ((other : ℕ) → other < 256 → get_or new other [] ≡ noted_if (list_any (λ octet. octet == other) octets) at (get_or own other []))
    → IsIndex rules every own → IsIndex (rules ++ rule ∷ []) every new
octets_added rules rule every own new at octets are long count noted_each index =
    own_added rules rule every own new at (ap (list_any is_every) (sym are) ∙ none_every octets) long count
    (λ other small.
    noted_each other small
    ∙ ap (λ b. noted_if b at (get_or own other [])) (sym (any_octet other octets) ∙ ap (list_any (is_octet other)) are))
    index
