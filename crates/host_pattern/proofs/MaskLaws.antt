-- Bodies that are an address and a mask: how they are written, and whom they match.
use Rattle.std.proofs.Common.{◌≡◌, ◌≢◌, ℕ, ◌+◌, ◌<◌, true, false, ◌||◌, List, [], ◌∷◌, ◌++◌, get_or, take, drop, min, refl, sym, ◌∙◌, ap, arith, inl, inr}
use Rattle.std.specs.Prelude.{IsTrue, ◌↔◌, ◌==◌, Option, Some, None, bit_and}
use Rattle.std.specs.Int.{bit_at}
use Rattle.std.specs.Char.{to_ascii_lowercase}
use Rattle.std.specs.List.{position}
use Rattle.std.specs.Str.{str_to_ascii_lowercase}
use Rattle.std.specs.Net.Grammar.{IsDotted}
use Rattle.std.proofs.lemmas.Bool.{and_parts, both_ways, cases_eq, eq-eqb, eqb-true, false_from_ne_true, ne_eqb, or_right}
use Rattle.std.proofs.lemmas.Bool.Decides.{nat_tests}
use Rattle.std.proofs.lemmas.List.{drop_more, take-append-drop}
use Rattle.std.proofs.lemmas.List.Quantifiers.{position-Some}
use Rattle.std.proofs.lemmas.Nat.{and_mask}
use Rattle.std.proofs.lemmas.Nat.Bits.{bit_at-lt, bit_at_and, same_from_bits}
use Rattle.std.proofs.lemmas.Slice.Eq.{bytes_eq-Decides}
use Rattle.std.specs.Prelude.{codes}
use Rattle.fw_types.specs.HostName.{is_address_byte}
use Rattle.fw_types.specs.Quad.{dotted, quad_of}
use Rattle.fw_types.specs.declared.peer.Peer.{Peer}
use Rattle.fw_types.proofs.QuadLemmas.{dotted_joined, quad_is}
use Rattle.host_pattern.specs.declared.mask.Masked.{Masked}
use Rattle.host_pattern.specs.Mask.{agree, fits_masked, has_colon, is_colon, joined, masked_at, masked_of, octets_agree}
use Rattle.host_pattern.specs.Party.{body_matches, is_for_addresses, is_stars, is_unknown}
use Rattle.host_pattern.proofs.PartyLaws.{stars_for_addresses}

-- an address, a colon and a mask
pub record TwoQuads (body : List ℕ) (masked : Masked) : Type 0 where
  pub front : List ℕ
  pub back : List ℕ
  pub is : body ≡ front ++ 58 ∷ back
  pub address : IsDotted front masked.address
  pub mask : IsDotted back masked.mask

both_quads : (body front back : List ℕ) (address mask : Option (List ℕ)) (masked : Masked) → body ≡ front ++ 58 ∷ back → quad_of front ≡ address → quad_of back ≡ mask
    → joined address mask ≡ Some masked → TwoQuads body masked
both_quads body front back (Some address) (Some mask) masked is before after h =
    let same : record { address = address; mask = mask } ≡ masked = cc in
    record {
      front = front;
      back = back;
      is = is;
      address = quad_is front masked.address (before ∙ ap (λ (m : Masked). Some m.address) same);
      mask = quad_is back masked.mask (after ∙ ap (λ (m : Masked). Some m.mask) same);
    }
both_quads body front back None mask masked is before after h = absurd (cc)
both_quads body front back (Some address) None masked is before after h = absurd (cc)

quads_at : (body : List ℕ) (place : Option ℕ) (masked : Masked) → position is_colon body ≡ place → masked_at place body ≡ Some masked → TwoQuads body masked
quads_at body None masked at h = absurd (cc)
quads_at body (Some i) masked at h =
    let found = position-Some is_colon body i 0 at in
    let colon : get_or body i 0 ≡ 58 = eqb-true (get_or body i 0) 58 found.1 in
    let is : body ≡ take i body ++ 58 ∷ drop (i + 1) body =
    sym (take-append-drop i body)
    ∙ ap (λ rest. take i body ++ rest) (drop_more body i 0 found.0 ∙ ap (λ b. b ∷ drop (i + 1) body) colon) in
    both_quads body (take i body) (drop (i + 1) body) (quad_of (take i body)) (quad_of (drop (i + 1) body)) masked is refl refl h

pub two_quads : (body : List ℕ) (masked : Masked) → masked_of body ≡ Some masked → TwoQuads body masked
unfolding masked_of
two_quads body masked h = quads_at body (position is_colon body) masked refl h

pub spelled : (text addr : List ℕ) → IsDotted text addr → text ≡ dotted addr
spelled text addr is = is.spelled ∙ dotted_joined is.a is.b is.c is.d ∙ ap dotted (sym is.value)

pub written_so : (body : List ℕ) (masked : Masked) → masked_of body ≡ Some masked → body ≡ dotted masked.address ++ 58 ∷ dotted masked.mask
written_so body masked h =
    let quads = two_quads body masked h in
    rw (← spelled quads.front masked.address quads.address, ← spelled quads.back masked.mask quads.mask) quads.is

-- a body with a colon is of no other kind

colon_within : (front back : List ℕ) → has_colon (front ++ 58 ∷ back) ≡ true
colon_within [] back = refl
colon_within (b ∷ front) back = or_right (is_colon b) (has_colon (front ++ 58 ∷ back)) (colon_within front back)

pub masked_has_colon : (body : List ℕ) (masked : Masked) → masked_of body ≡ Some masked → has_colon body ≡ true
masked_has_colon body masked h = let quads = two_quads body masked h in rw quads.is (colon_within quads.front quads.back)

no_colon : (b : ℕ) → (is_address_byte b || b == 42) ≡ true → is_colon b ≡ false
no_colon b h = grind (arith, nat_tests)

none_for_addresses : (body : List ℕ) → is_for_addresses body ≡ true → has_colon body ≡ false
none_for_addresses [] h = refl
none_for_addresses (b ∷ body) h =
    let parts = and_parts _ _ h in
    rw (no_colon b parts.0, none_for_addresses body parts.1) refl

same_colon : (b : ℕ) → is_colon (to_ascii_lowercase b) ≡ is_colon b
same_colon b = grind (arith, nat_tests)

same_colons : (body : List ℕ) → has_colon (str_to_ascii_lowercase body) ≡ has_colon body
same_colons [] = refl
same_colons (b ∷ body) = rw (same_colon b, same_colons body) refl

none_unknown : (body : List ℕ) → is_unknown body ≡ true → has_colon body ≡ false
none_unknown body h =
    let same : str_to_ascii_lowercase body ≡ codes "unknown" = (bytes_eq-Decides (str_to_ascii_lowercase body) (codes "unknown")).0 h in
    sym (same_colons body) ∙ ap has_colon same

pub masked_kind : (body : List ℕ) → has_colon body ≡ true → (is_unknown body ≡ false) × (is_stars body ≡ false) × (is_for_addresses body ≡ false)
masked_kind body h =
    let addresses : is_for_addresses body ≡ false = false_from_ne_true (is_for_addresses body) (λ e. both_ways _ (none_for_addresses body e) h) in (
      false_from_ne_true (is_unknown body) (λ e. both_ways _ (none_unknown body e) h),
      false_from_ne_true (is_stars body) (λ e. both_ways _ addresses (stars_for_addresses body e)),
      addresses,
    )

-- whom it matches

by_mask : (body : List ℕ) (party : Peer) → has_colon body ≡ true → body_matches body party ≡ fits_masked (masked_of body) party.addr
unfolding body_matches
by_mask body party h = let kind = masked_kind body h in rw (kind.0, kind.1, kind.2, h) refl

nobody : (masked : Option Masked) → fits_masked masked None ≡ false
nobody None = refl
nobody (Some masked) = refl

pub mask_needs_address : (body : List ℕ) (party : Peer) → IsTrue (has_colon body) → party.addr ≡ None → body_matches body party ≡ false
mask_needs_address body party h none = by_mask body party h ∙ ap (fits_masked (masked_of body)) none ∙ nobody (masked_of body)

pub mask_compares : (body : List ℕ) (masked : Masked) (party : Peer) (addr : List ℕ) → masked_of body ≡ Some masked → party.addr ≡ Some addr
    → body_matches body party ≡ agree masked.mask masked.address addr
mask_compares body masked party addr h there =
    by_mask body party (masked_has_colon body masked h) ∙ ap (fits_masked (masked_of body)) there ∙ ap (λ m. fits_masked m (Some addr)) h

-- octets are equal in the bits of a mask exactly if they are so bit by bit

bits_agree : (mask one other : ℕ) → octets_agree mask one other ≡ true → (i : ℕ) → bit_at mask i ≡ 1 → bit_at one i ≡ bit_at other i
bits_agree mask one other h i set =
    let same : bit_and one mask ≡ bit_and other mask = eqb-true _ _ h in
    let bits : min (bit_at one i) (bit_at mask i) ≡ min (bit_at other i) (bit_at mask i) = sym (bit_at_and one mask i) ∙ ap (λ n. bit_at n i) same ∙ bit_at_and other mask i in
    let few : bit_at one i < 2 = bit_at-lt one i in
    let others : bit_at other i < 2 = bit_at-lt other i in
    omega arith

masked_bit : (mask one other i : ℕ) → (bit_at mask i ≡ 1 → bit_at one i ≡ bit_at other i) → min (bit_at one i) (bit_at mask i) ≡ min (bit_at other i) (bit_at mask i)
masked_bit mask one other i h = elim (cases_eq (bit_at mask i) 1) [
  | inl set ↦ ap (λ n. min n (bit_at mask i)) (h set)
  | inr clear ↦ (let few : bit_at mask i < 2 = bit_at-lt mask i in omega arith)
]

agree_by_bits : (mask one other : ℕ) → ((i : ℕ) → bit_at mask i ≡ 1 → bit_at one i ≡ bit_at other i) → octets_agree mask one other ≡ true
agree_by_bits mask one other h =
    eq-eqb (bit_and one mask) (bit_and other mask) (same_from_bits (bit_and one mask) (bit_and other mask) (λ i. bit_at_and one mask i ∙ masked_bit mask one other i (h i) ∙ sym (bit_at_and other mask i)))

pub bit_by_bit : (mask one other : ℕ) → IsTrue (octets_agree mask one other) ↔ ((i : ℕ) → bit_at mask i ≡ 1 → bit_at one i ≡ bit_at other i)
bit_by_bit mask one other = (bits_agree mask one other, agree_by_bits mask one other)

-- a mask's octet 255 has every bit

whole_octet : (n : ℕ) → n < 256 → bit_and n 255 ≡ n
whole_octet n small = and_mask n 8 ∙ omega arith

others_differ : (one other : ℕ) → one < 256 → other < 256 → other ≢ one → octets_agree 255 one other ≡ false
others_differ one other small wide ne = rw (whole_octet one small, whole_octet other wide) (ne_eqb one other (λ same. ne (sym same)))

first_differs : (mask address : List ℕ) (front back : List ℕ) (first : ℕ) (rest : List ℕ) → IsDotted front address → IsDotted back mask → get_or mask 0 0 ≡ 255
    → first < 256 → first ≢ get_or address 0 0 → agree mask address (first ∷ rest) ≡ false
first_differs mask address front back first rest is whole narrow small ne =
    let narrow : whole.a ≡ 255 = rw whole.value at narrow in
    let other : first ≢ is.a = rw is.value at ne in
    rw (whole.value, is.value, narrow, others_differ is.a first is.fit.0 small other) refl

pub mask_needs_octet : (body : List ℕ) (masked : Masked) (party : Peer) (first : ℕ) (rest : List ℕ) → masked_of body ≡ Some masked → get_or masked.mask 0 0 ≡ 255
    → party.addr ≡ Some (first ∷ rest) → first < 256 → first ≢ get_or masked.address 0 0 → body_matches body party ≡ false
mask_needs_octet body masked party first rest h narrow addr small ne =
    let quads = two_quads body masked h in
    mask_compares body masked party (first ∷ rest) h addr
    ∙ first_differs masked.mask masked.address quads.front quads.back first rest quads.address quads.mask narrow small ne
