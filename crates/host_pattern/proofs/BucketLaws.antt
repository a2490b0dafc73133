-- Bodies of an octet: how they begin, and whom they can't match.
use Rattle.std.proofs.Common.{◌≡◌, ◌≢◌, ℕ, zero, suc, cond, ◌+◌, ◌<◌, ◌^◌, Bool, true, false, ◌&&◌, ◌||◌, List, [], ◌∷◌, ◌++◌, length, get_or, take, drop, append_assoc, refl, sym, ◌∙◌, ap, arith, inl, inr}
use Rattle.std.specs.Prelude.{IsTrue, ◌⊎◌, ◌==◌, is_some, nat_lt, Option, Some, None}
use Rattle.std.specs.Char.{is_ascii_digit}
use Rattle.std.specs.Fmt.{decimal}
use Rattle.std.specs.List.{list_all, position}
use Rattle.std.specs.Str.{bytes_eq}
use Rattle.std.specs.Str.Parse.{digits_value}
use Rattle.std.proofs.lemmas.Bool.{and_parts, cases_eq, eq-eqb, eqb-true, false_from_ne_true, lt-ltb, ltb-true, ne_eqb, or_left, or_right}
use Rattle.std.proofs.lemmas.Bool.Decides.{nat_tests}
use Rattle.std.proofs.lemmas.Fmt.{decimal_injective, decimal_is_IsNumeral}
use Rattle.std.proofs.lemmas.List.{drop_more, length-append, take-append-drop}
use Rattle.std.proofs.Math.Seq.{take-append_seam}
use Rattle.std.proofs.lemmas.List.Quantifiers.{position-Some}
use Rattle.std.proofs.lemmas.List.Sums.{position_or_len_is}
use Rattle.std.proofs.lemmas.Option.{cond_some}
use Rattle.std.proofs.lemmas.Slice.Eq.{bytes_eq-Decides}
use Rattle.fw_types.specs.Quad.{dotted, octet_of}
use Rattle.fw_types.specs.declared.peer.Peer.{Peer}
use Rattle.host_pattern.specs.declared.bucket.Bucket.{Bucket}
use Rattle.host_pattern.specs.declared.bucket.Bucket.TheVariants.{Octet, Every}
use Rattle.host_pattern.specs.declared.mask.Masked.{Masked}
use Rattle.host_pattern.specs.Bucket.{bucket_of, bucket_with, list_reaches, octet_before, octet_masked, octet_of_body}
use Rattle.host_pattern.specs.Glob.{glob}
use Rattle.host_pattern.specs.Mask.{masked_of}
use Rattle.host_pattern.specs.Party.{body_matches, is_for_addresses, is_stars}
use Rattle.host_pattern.specs.Pattern.{Written}
use Rattle.host_pattern.specs.PatternList.{list_matches}
use Rattle.host_pattern.proofs.BucketLemmas.{all_digits}
use Rattle.host_pattern.proofs.ListLemmas.{next_decides}
use Rattle.host_pattern.proofs.MaskLaws.{mask_needs_address, mask_needs_octet, masked_has_colon, masked_kind, spelled, two_quads}
use Rattle.host_pattern.proofs.PartyLaws.{addresses, known}

-- a body of an octet: its decimal, a period and a rest
pub record Begins (body : List ℕ) (octet : ℕ) : Type 0 where
  pub small : octet < 256
  pub kind : IsTrue (is_for_addresses body)
  pub rest : List ℕ
  pub is : body ≡ decimal octet ++ 46 ∷ rest

-- an address that begins with an octet, and a mask that begins with 255
pub record BeginsMasked (body : List ℕ) (octet : ℕ) : Type 0 where
  pub masked : Masked
  pub is : masked_of body ≡ Some masked
  pub narrow : get_or masked.mask 0 0 ≡ 255
  pub first : get_or masked.address 0 0 ≡ octet

octet_is : (t : List ℕ) (n : ℕ) → octet_of t ≡ Some n → (n < 256) × (t ≡ decimal n)
octet_is t n h =
    let read = cond_some (nat_lt (digits_value 10 t) 256 && bytes_eq t (decimal (digits_value 10 t))) (digits_value 10 t) n h in
    let tests = and_parts _ _ read.0 in
    let below : digits_value 10 t < 256 = ltb-true (digits_value 10 t) 256 tests.0 in
    let same : t ≡ decimal (digits_value 10 t) = (bytes_eq-Decides t (decimal (digits_value 10 t))).0 tests.1 in
    (rw (sym read.1) below, same ∙ ap decimal read.1)

octet_of-decimal : (n : ℕ) → n < 256 → octet_of (decimal n) ≡ Some n
octet_of-decimal n small =
    let wide : n < 2 ^ 64 = omega arith in
    let value = (decimal_is_IsNumeral n wide).1 in
    let below = lt-ltb n 256 small in
    let same = (bytes_eq-Decides (decimal n) (decimal n)).1 refl in
    rw (value, below, same) refl

abbrev is_dot : ℕ → Bool
is_dot b = b == 46

begins_before : (body : List ℕ) (octet : ℕ) (place : Option ℕ) → IsTrue (is_for_addresses body) → position is_dot body ≡ place → octet_before place body ≡ Some octet → Begins body octet
begins_before body octet None kind at h = absurd (cc)
begins_before body octet (Some i) kind at h =
    let found = position-Some is_dot body i 0 at in
    let read = octet_is (take i body) octet h in
    let dot : get_or body i 0 ≡ 46 = eqb-true (get_or body i 0) 46 found.1 in
    record {
      small = read.0;
      kind = kind;
      rest = drop (i + 1) body;
      is =
          sym (take-append-drop i body)
          ∙ ap (λ front. front ++ drop i body) read.1
          ∙ ap (λ back. decimal octet ++ back) (drop_more body i 0 found.0 ∙ ap (λ b. b ∷ drop (i + 1) body) dot);
    }

begins_masked : (body : List ℕ) (octet : ℕ) (masked : Option Masked) → masked_of body ≡ masked → octet_masked masked ≡ Some octet → BeginsMasked body octet
begins_masked body octet None is h = absurd (cc)
begins_masked body octet (Some masked) is h =
    let read = cond_some (get_or masked.mask 0 0 == 255) (get_or masked.address 0 0) octet h in
    record { masked = masked; is = is; narrow = eqb-true (get_or masked.mask 0 0) 255 read.0; first = read.1 }

pub begins : (body : List ℕ) (octet : ℕ) → bucket_of body ≡ Octet octet → Begins body octet ⊎ BeginsMasked body octet
unfolding bucket_of
begins body octet h = by (is_for_addresses body) refl (some (octet_of_body body) h)
  where
    some : (o : Option ℕ) → bucket_with o ≡ Octet octet → o ≡ Some octet
    some None e = absurd (cc)
    some (Some n) e = cc

    by : (kind : Bool) → is_for_addresses body ≡ kind → cond kind (octet_before (position is_dot body) body) (octet_masked (masked_of body)) ≡ Some octet → Begins body octet ⊎ BeginsMasked body octet
    by false kind e = inr (begins_masked body octet (masked_of body) refl e)
    by true kind e = inl (begins_before body octet (position is_dot body) kind refl e)

-- Which addresses the body can match

no_star : (b : ℕ) → is_ascii_digit b ≡ true → (b == 42) ≡ false
no_star b h = grind (arith, nat_tests)

no_dot : (b : ℕ) → is_ascii_digit b ≡ true → (b == 46) ≡ false
no_dot b h = grind (arith, nat_tests)

dot_is_no : (b : ℕ) → is_ascii_digit b ≡ true → (46 == b) ≡ false
dot_is_no b h = grind (arith, nat_tests)

-- what stands before the first periods is the same
pub same_front : (p q r s : List ℕ) → list_all is_ascii_digit p ≡ true → list_all is_ascii_digit q ≡ true → glob (p ++ 46 ∷ r) (q ++ 46 ∷ s) ≡ true → p ≡ q
unfolding glob
same_front [] [] r s hp hq h = refl
same_front [] (d ∷ q) r s hp hq h = absurd (let clash = rw (dot_is_no d (and_parts _ _ hq).0) at h in (cc))
same_front (c ∷ p) [] r s hp hq h = absurd (let clash = rw (no_star c (and_parts _ _ hp).0, no_dot c (and_parts _ _ hp).0) at h in (cc))
same_front (c ∷ p) (d ∷ q) r s hp hq h =
    let digits = and_parts _ _ hp in
    let others = and_parts _ _ hq in
    let both = and_parts (c == d) _ (rw (no_star c digits.0) at h) in
    let first : c ≡ d = eqb-true c d both.0 in
    let front : p ≡ q = same_front p q r s digits.1 others.1 both.1 in
    ap (λ b. b ∷ p) first ∙ ap (λ more. d ∷ more) front

dot_in : (front rest : List ℕ) → is_stars (front ++ 46 ∷ rest) ≡ false
dot_in [] rest = refl
dot_in (b ∷ front) rest = elim (b == 42) as (λ v. (v && is_stars (front ++ 46 ∷ rest)) ≡ false) [ true ↦ dot_in front rest | false ↦ refl ]

no_stars : (body : List ℕ) (octet : ℕ) → Begins body octet → is_stars body ≡ false
no_stars body octet is = rw is.is (dot_in (decimal octet) is.rest)

pub needs_address : (body : List ℕ) (octet : ℕ) (party : Peer) → bucket_of body ≡ Octet octet → party.addr ≡ None → body_matches body party ≡ false
needs_address body octet party h none = elim (begins body octet h) [
  | inl is ↦ addresses body party is.kind (no_stars body octet is) none
  | inr is ↦ mask_needs_address body party (masked_has_colon body is.masked is.is) none
]

other_front : (octet first : ℕ) (r s : List ℕ) → octet < 256 → first < 256 → first ≢ octet → glob (decimal octet ++ 46 ∷ r) (decimal first ++ 46 ∷ s) ≡ false
other_front octet first r s small wide ne = false_from_ne_true (glob (decimal octet ++ 46 ∷ r) (decimal first ++ 46 ∷ s)) (λ h.
    let same = same_front (decimal octet) (decimal first) r s (all_digits octet (omega arith)) (all_digits first (omega arith)) h in
    ne (sym (decimal_injective octet first (omega arith) (omega arith) same)))

begins_otherwise : (body : List ℕ) (octet : ℕ) (party : Peer) (first second third fourth : ℕ) → Begins body octet
    → party.addr ≡ Some (first ∷ second ∷ third ∷ fourth ∷ []) → first < 256 → first ≢ octet → body_matches body party ≡ false
unfolding body_matches
begins_otherwise body octet party first second third fourth is addr small ne =
    let stars : is_stars body ≡ false = no_stars body octet is in
    let rest : List ℕ = dotted (second ∷ third ∷ fourth ∷ []) in
    let globs : glob body (decimal first ++ 46 ∷ rest) ≡ false = rw is.is (other_front octet first is.rest rest is.small small ne) in
    rw (known body is.kind, stars, is.kind, addr) globs

pub needs_octet : (body : List ℕ) (octet : ℕ) (party : Peer) (first second third fourth : ℕ) → bucket_of body ≡ Octet octet
    → party.addr ≡ Some (first ∷ second ∷ third ∷ fourth ∷ []) → first < 256 → first ≢ octet → body_matches body party ≡ false
needs_octet body octet party first second third fourth h addr small ne = elim (begins body octet h) [
  | inl is ↦ begins_otherwise body octet party first second third fourth is addr small ne
  | inr is ↦ mask_needs_octet body is.masked party first (second ∷ third ∷ fourth ∷ []) is.is is.narrow addr small (λ same. ne (same ∙ is.first))
]

-- Which bodies are of an octet

digits_before : (digits : List ℕ) (i : ℕ) (rest : List ℕ) → list_all is_ascii_digit digits ≡ true → i < length digits → is_dot (get_or (digits ++ 46 ∷ rest) i 0) ≡ false
digits_before [] i rest h lt = absurd (omega arith)
digits_before (d ∷ digits) zero rest h lt = no_dot d (and_parts _ _ h).0
digits_before (d ∷ digits) (suc i) rest h lt = digits_before digits i rest (and_parts _ _ h).1 (omega arith)

dot_at : (digits rest : List ℕ) → is_dot (get_or (digits ++ 46 ∷ rest) (length digits) 0) ≡ true
dot_at [] rest = refl
dot_at (d ∷ digits) rest = dot_at digits rest

place_of_dot : (digits rest : List ℕ) → list_all is_ascii_digit digits ≡ true → position is_dot (digits ++ 46 ∷ rest) ≡ Some (length digits)
place_of_dot digits rest h =
    let text : List ℕ = digits ++ 46 ∷ rest in
    let within : length digits < length text = omega (arith, length-append digits (46 ∷ rest)) in
    let at = position_or_len_is is_dot text (length digits) 0 (omega arith) (λ k below. digits_before digits k rest h below) (λ _. dot_at digits rest) in
    rw (at, lt-ltb (length digits) (length text) within) refl

pub bodies : (octet : ℕ) (rest : List ℕ) → octet < 256 → IsTrue (is_for_addresses (decimal octet ++ 46 ∷ rest)) → bucket_of (decimal octet ++ 46 ∷ rest) ≡ Octet octet
unfolding bucket_of
bodies octet rest small kind =
    let digits : List ℕ = decimal octet in
    let place : position is_dot (digits ++ 46 ∷ rest) ≡ Some (length digits) = place_of_dot digits rest (all_digits octet (omega arith)) in
    let front : take (length digits) (digits ++ 46 ∷ rest) ≡ digits = take-append_seam digits (46 ∷ rest) in
    let octet_there : octet_of (take (length digits) (digits ++ 46 ∷ rest)) ≡ Some octet = ap octet_of front ∙ octet_of-decimal octet small in
    rw (kind, place, octet_there) refl

pub masked_bodies : (body : List ℕ) (masked : Masked) → masked_of body ≡ Some masked → get_or masked.mask 0 0 ≡ 255 → bucket_of body ≡ Octet (get_or masked.address 0 0)
unfolding bucket_of
masked_bodies body masked is narrow =
    let kind = masked_kind body (masked_has_colon body masked is) in
    rw (kind.2, is, narrow) refl

abbrev OfOctet : List ℕ → ℕ → Type 0
OfOctet body octet = (octet < 256) × IsTrue (is_for_addresses body || is_some (octet_masked (masked_of body))) × ((rest : List ℕ) × (body ≡ decimal octet ++ 46 ∷ rest))

of_masked : (body : List ℕ) (octet : ℕ) → BeginsMasked body octet → OfOctet body octet
of_masked body octet is =
    let quads = two_quads body is.masked is.is in
    let first : quads.address.a ≡ octet = sym (ap (λ addr. get_or addr 0 0) quads.address.value) ∙ is.first in
    let later : List ℕ = dotted (quads.address.b ∷ quads.address.c ∷ quads.address.d ∷ []) in
    let front : quads.front ≡ decimal octet ++ 46 ∷ later = rw (← first) (spelled quads.front is.masked.address quads.address ∙ ap dotted quads.address.value) in
    let narrow : is_some (octet_masked (masked_of body)) ≡ true = rw (is.is, is.narrow) refl in (
      rw (← first) quads.address.fit.0,
      or_right (is_for_addresses body) (is_some (octet_masked (masked_of body))) narrow,
      (later ++ 58 ∷ quads.back, quads.is ∙ ap (λ text. text ++ 58 ∷ quads.back) front ∙ append_assoc (decimal octet) (46 ∷ later) (58 ∷ quads.back)),
    )

pub octets : (body : List ℕ) (octet : ℕ) → bucket_of body ≡ Octet octet → (octet < 256) × IsTrue (is_for_addresses body || is_some (octet_masked (masked_of body))) × ((rest : List ℕ) × (body ≡ decimal octet ++ 46 ∷ rest))
octets body octet h = elim (begins body octet h) [
  | inl is ↦ (is.small, or_left (is_for_addresses body) (is_some (octet_masked (masked_of body))) is.kind, (is.rest, is.is))
  | inr is ↦ of_masked body octet is
]

-- Lists

pub lists : (patterns : List Written) (party : Peer) (first second third fourth : ℕ) → party.addr ≡ Some (first ∷ second ∷ third ∷ fourth ∷ []) → first < 256
    → IsTrue (list_matches patterns party) → IsTrue (list_reaches first patterns)
unfolding list_matches
lists [] party first second third fourth addr small h = absurd (cc)
lists (p ∷ patterns) party first second third fourth addr small h = by (bucket_of p.body) refl (lists patterns party first second third fourth addr small)
  where
    by : (bucket : Bucket) → bucket_of p.body ≡ bucket → (IsTrue (list_matches patterns party) → IsTrue (list_reaches first patterns)) → IsTrue (list_reaches first (p ∷ patterns))
    by Every e more = rw e refl
    by (Octet octet) e more = elim (cases_eq first octet) [
      | inl same ↦ rw (e, eq-eqb octet first (sym same)) refl
      | inr ne ↦ (
          let no = needs_octet p.body octet party first second third fourth e addr small ne in
          let others = more (sym (next_decides p patterns party no) ∙ h) in
          rw (e, ne_eqb octet first (λ same. ne (sym same))) others)
    ]
