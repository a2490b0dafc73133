-- Where six numbers stand in a text: at its front, and at the leftmost place (RFC 959, 4.1.2).
use Rattle.std.proofs.Common.{◌≡◌, ℕ, zero, suc, ◌<◌, Bool, true, false, cond, List, [], ◌∷◌, ◌++◌, length, drop, refl, sym, ap, ◌∙◌, subst, arith, append_assoc, append-nil}
use Rattle.std.specs.Prelude.{slice_index, Option, Some, None}
use Rattle.std.specs.Char.{is_ascii_digit}
use Rattle.std.specs.List.{join_with_byte, list_all, onto_first, slice_split}
use Rattle.std.proofs.lemmas.List.Splits.{join_with_byte-slice_split, slice_split_at, slice_split_none}
use Rattle.std.proofs.lemmas.List.Sums.{take_while-cons}
use Rattle.ftp_lines.specs.Six.{IsBeyond, IsLeadingSix, IsLeftmostSix, find_of, is_comma, octet_in, or_else, run_of, six_at, six_first_parts, six_octets, six_of, six_parts}
use Rattle.ftp_lines.proofs.PartLemmas.{split_parts}
use Rattle.ftp_lines.proofs.SixLemmas.{begins, digits_no_comma, octet_in-other, run_of-digits, six_of_six}

-- all six are numbers
record AreSome (x y z w v u : Option ℕ) : Type 0 where
  first : x ≡ None → ⊥
  second : y ≡ None → ⊥
  third : z ≡ None → ⊥
  fourth : w ≡ None → ⊥
  fifth : v ≡ None → ⊥
  sixth : u ≡ None → ⊥

is_some : (n : ℕ) → Some n ≡ None → ⊥
is_some n h = cc (h)

are_some : (x y z w v u : Option ℕ) (six : List ℕ × ℕ) → six_octets x y z w v u ≡ Some six → AreSome x y z w v u
are_some (Some a) (Some b) (Some c) (Some d) (Some e) (Some f) six is = record {
  first = is_some a;
  second = is_some b;
  third = is_some c;
  fourth = is_some d;
  fifth = is_some e;
  sixth = is_some f;
}
are_some None y z w v u six is = absurd (cc (is))
are_some (Some a) None z w v u six is = absurd (cc (is))
are_some (Some a) (Some b) None w v u six is = absurd (cc (is))
are_some (Some a) (Some b) (Some c) None v u six is = absurd (cc (is))
are_some (Some a) (Some b) (Some c) (Some d) None u six is = absurd (cc (is))
are_some (Some a) (Some b) (Some c) (Some d) (Some e) None six is = absurd (cc (is))

digits_by : (text : List ℕ) (digits : Bool) → list_all is_ascii_digit text ≡ digits → (octet_in text ≡ None → ⊥) → digits ≡ true
digits_by text true is some = refl
digits_by text false is some = absurd (some (octet_in-other text is))

digits_of : (text : List ℕ) → (octet_in text ≡ None → ⊥) → list_all is_ascii_digit text ≡ true
digits_of text some = digits_by text (list_all is_ascii_digit text) refl some

-- the digits at the beginning of a part, and what stands behind them

record Run (part tail : List ℕ) : Type 0 where
  rest : List ℕ
  whole : part ++ tail ≡ run_of part ++ rest
  beyond : IsBeyond rest

run_by : (digit : Bool) (b : ℕ) (part tail : List ℕ) → is_ascii_digit b ≡ digit → Run part tail → Run (b ∷ part) tail
run_by true b part tail is more =
    let here : run_of (b ∷ part) ≡ b ∷ run_of part =
    take_while-cons is_ascii_digit b part ∙ ap (λ test. cond test (b ∷ run_of part) []) is in
    record {
      rest = more.rest;
      whole = ap (λ t. b ∷ t) more.whole ∙ ap (λ t. t ++ more.rest) (sym here);
      beyond = more.beyond;
    }
run_by false b part tail is more =
    let here : run_of (b ∷ part) ≡ [] =
    take_while-cons is_ascii_digit b part ∙ ap (λ test. cond test (b ∷ run_of part) []) is in
    record {
      rest = b ∷ (part ++ tail);
      whole = ap (λ t. t ++ b ∷ (part ++ tail)) (sym here);
      beyond = is;
    }

run_split : (part tail : List ℕ) → IsBeyond tail → Run part tail
run_split [] tail beyond = record { rest = tail; whole = refl; beyond = beyond }
run_split (b ∷ part) tail beyond = run_by (is_ascii_digit b) b part tail refl (run_split part tail beyond)

-- the parts behind one, each behind its comma

abbrev behind : List (List ℕ) → List ℕ
behind [] = []
behind (part ∷ more) = 44 ∷ join_with_byte 44 (part ∷ more)

behind_beyond : (more : List (List ℕ)) → IsBeyond (behind more)
behind_beyond [] = refl
behind_beyond (part ∷ more) = refl

join_behind : (part : List ℕ) (more : List (List ℕ)) → join_with_byte 44 (part ∷ more) ≡ part ++ behind more
join_behind part [] = sym (append-nil part)
join_behind part (next ∷ more) = refl

abbrev joined : List ℕ → List ℕ → List ℕ → List ℕ → List ℕ → List ℕ → List ℕ
joined a b c d e f = a ++ 44 ∷ (b ++ 44 ∷ (c ++ 44 ∷ (d ++ 44 ∷ (e ++ 44 ∷ f))))

joined_and : (a b c d e f rest : List ℕ) → joined a b c d e f ++ rest ≡ joined a b c d e (f ++ rest)
joined_and a b c d e f rest = simp append_assoc

cut_part : (part rest : List ℕ) → list_all is_ascii_digit part ≡ true
    → slice_split is_comma (part ++ 44 ∷ rest) ≡ part ∷ slice_split is_comma rest
cut_part part rest digits = slice_split_at is_comma part 44 rest (digits_no_comma part digits) refl

joined_parts : (a b c d e f : List ℕ) → list_all is_ascii_digit a ≡ true → list_all is_ascii_digit b ≡ true
    → list_all is_ascii_digit c ≡ true → list_all is_ascii_digit d ≡ true → list_all is_ascii_digit e ≡ true
    → list_all is_ascii_digit f ≡ true
    → slice_split is_comma (joined a b c d e f) ≡ a ∷ b ∷ c ∷ d ∷ e ∷ f ∷ []
joined_parts a b c d e f da db dc dd de df =
    let first = cut_part a (b ++ 44 ∷ (c ++ 44 ∷ (d ++ 44 ∷ (e ++ 44 ∷ f)))) da in
    let second = cut_part b (c ++ 44 ∷ (d ++ 44 ∷ (e ++ 44 ∷ f))) db in
    let third = cut_part c (d ++ 44 ∷ (e ++ 44 ∷ f)) dc in
    let fourth = cut_part d (e ++ 44 ∷ f) dd in
    let fifth = cut_part e f de in
    let sixth = slice_split_none is_comma f (digits_no_comma f df) in
    first ∙ ap (λ ps. a ∷ ps) (second ∙ ap (λ ps. b ∷ ps) (third ∙ ap (λ ps. c ∷ ps) (fourth
    ∙ ap (λ ps. d ∷ ps) (fifth ∙ ap (λ ps. e ∷ ps) sixth))))

-- at the front

lead_of : (a b c d e f : List ℕ) (more : List (List ℕ)) (six : List ℕ × ℕ)
    → six_octets (octet_in a) (octet_in b) (octet_in c) (octet_in d) (octet_in e) (octet_in (run_of f)) ≡ Some six
    → IsLeadingSix (join_with_byte 44 (a ∷ b ∷ c ∷ d ∷ e ∷ f ∷ more)) six
lead_of a b c d e f more six is =
    let all =
    are_some (octet_in a) (octet_in b) (octet_in c) (octet_in d) (octet_in e) (octet_in (run_of f)) six is in
    let run = run_split f (behind more) (behind_beyond more) in
    let parts =
    joined_parts a b c d e (run_of f) (digits_of a all.first) (digits_of b all.second) (digits_of c all.third)
    (digits_of d all.fourth) (digits_of e all.fifth) (digits_of (run_of f) all.sixth) in
    record {
      numbers = joined a b c d e (run_of f);
      rest = run.rest;
      whole = ap (joined a b c d e) (join_behind f more ∙ run.whole)
          ∙ sym (joined_and a b c d e (run_of f) run.rest);
      is = six_of_six (joined a b c d e (run_of f)) a b c d e (run_of f) (run_of f ∷ []) parts refl ∙ is;
      beyond = run.beyond;
    }

leads_parts : (parts : List (List ℕ)) (six : List ℕ × ℕ) → six_first_parts parts ≡ Some six
    → IsLeadingSix (join_with_byte 44 parts) six
leads_parts [] six is = absurd (cc (is))
leads_parts (a ∷ []) six is = absurd (cc (is))
leads_parts (a ∷ b ∷ []) six is = absurd (cc (is))
leads_parts (a ∷ b ∷ c ∷ []) six is = absurd (cc (is))
leads_parts (a ∷ b ∷ c ∷ d ∷ []) six is = absurd (cc (is))
leads_parts (a ∷ b ∷ c ∷ d ∷ e ∷ []) six is = absurd (cc (is))
leads_parts (a ∷ b ∷ c ∷ d ∷ e ∷ f ∷ more) six is = lead_of a b c d e f more six is

pub leading_is : (text : List ℕ) (six : List ℕ × ℕ) → six_at text ≡ Some six → IsLeadingSix text six
unfolding six_at
leading_is text six is =
    let P : List ℕ → Type 0 = λ t. IsLeadingSix t six in
    let whole : join_with_byte 44 (slice_split is_comma text) ≡ text = join_with_byte-slice_split 44 text in
    subst P whole (leads_parts (slice_split is_comma text) six is)

-- parts, of which the last one goes on with the first of others
abbrev onto_parts : List (List ℕ) → List ℕ → List (List ℕ) → List (List ℕ)
onto_parts [] first rest = first ∷ rest
onto_parts (last ∷ []) first rest = (last ++ first) ∷ rest
onto_parts (part ∷ next ∷ more) first rest = part ∷ onto_parts (next ∷ more) first rest

onto_by : (comma : Bool) (b : ℕ) (part : List ℕ) (more : List (List ℕ)) (first : List ℕ) (rest : List (List ℕ))
    → cond comma ([] ∷ onto_parts (part ∷ more) first rest) (onto_first b (onto_parts (part ∷ more) first rest))
    ≡ onto_parts (cond comma ([] ∷ part ∷ more) (onto_first b (part ∷ more))) first rest
onto_by true b part more first rest = refl
onto_by false b part [] first rest = refl
onto_by false b part (next ∷ more) first rest = refl

split_onto : (front back first : List ℕ) (rest : List (List ℕ)) → slice_split is_comma back ≡ first ∷ rest
    → slice_split is_comma (front ++ back) ≡ onto_parts (slice_split is_comma front) first rest
split_onto [] back first rest is = is
split_onto (b ∷ front) back first rest is =
    let more = split_onto front back first rest is in
    let parts = split_parts is_comma front in
    rw (more, parts.is) (onto_by (is_comma b) b parts.first parts.rest first rest)

begins_six : (parts : List (List ℕ)) (first : List ℕ) (rest : List (List ℕ)) (six : List ℕ × ℕ)
    → six_parts parts ≡ Some six → is_ascii_digit (slice_index first 0) ≡ false
    → six_first_parts (onto_parts parts first rest) ≡ Some six
begins_six [] first rest six is beyond = absurd (cc (is))
begins_six (a ∷ []) first rest six is beyond = absurd (cc (is))
begins_six (a ∷ b ∷ []) first rest six is beyond = absurd (cc (is))
begins_six (a ∷ b ∷ c ∷ []) first rest six is beyond = absurd (cc (is))
begins_six (a ∷ b ∷ c ∷ d ∷ []) first rest six is beyond = absurd (cc (is))
begins_six (a ∷ b ∷ c ∷ d ∷ e ∷ []) first rest six is beyond = absurd (cc (is))
begins_six (a ∷ b ∷ c ∷ d ∷ e ∷ f ∷ g ∷ more) first rest six is beyond = absurd (cc (is))
begins_six (a ∷ b ∷ c ∷ d ∷ e ∷ f ∷ []) first rest six is beyond =
    let all = are_some (octet_in a) (octet_in b) (octet_in c) (octet_in d) (octet_in e) (octet_in f) six is in
    let run = run_of-digits f first (digits_of f all.sixth) beyond in
    ap (λ t. six_octets (octet_in a) (octet_in b) (octet_in c) (octet_in d) (octet_in e) (octet_in t)) run ∙ is

pub is_leading : (text : List ℕ) (six : List ℕ × ℕ) → IsLeadingSix text six → six_at text ≡ Some six
unfolding six_at six_of
is_leading text six leads =
    let last = begins [] leads.rest refl leads.beyond in
    ap (λ t. six_first_parts (slice_split is_comma t)) leads.whole
    ∙ ap six_first_parts (split_onto leads.numbers leads.rest last.first last.rest last.is)
    ∙ begins_six (slice_split is_comma leads.numbers) last.first last.rest six leads.is last.beyond

-- at the leftmost place

none_on : (b : ℕ) (bs : List ℕ) (at : ℕ) → six_at (b ∷ bs) ≡ None
    → ((place : ℕ) → place < at → six_at (drop place bs) ≡ None)
    → (place : ℕ) → place < suc at → six_at (drop place (b ∷ bs)) ≡ None
none_on b bs at none before zero less = none
none_on b bs at none before (suc place) less = before place (omega (arith, less))

leftmost_by : (b : ℕ) (bs : List ℕ) (six : List ℕ × ℕ) (found : Option (List ℕ × ℕ)) → six_at (b ∷ bs) ≡ found
    → or_else found (find_of bs) ≡ Some six → (find_of bs ≡ Some six → IsLeftmostSix bs six)
    → IsLeftmostSix (b ∷ bs) six
leftmost_by b bs six (Some other) here is more = record {
  at = 0;
  within = omega arith;
  here = here ∙ is;
  none_before = λ place less. absurd (omega (arith, less));
}
leftmost_by b bs six None here is more =
    let later = more is in
    record {
      at = suc later.at;
      within = omega (arith, later.within);
      here = later.here;
      none_before = none_on b bs later.at here later.none_before;
    }

pub leftmost_is : (text : List ℕ) (six : List ℕ × ℕ) → find_of text ≡ Some six → IsLeftmostSix text six
leftmost_is [] six is = absurd (cc (is))
leftmost_is (b ∷ bs) six is = leftmost_by b bs six (six_at (b ∷ bs)) refl is (leftmost_is bs six)

find_at : (text : List ℕ) (at : ℕ) (six : List ℕ × ℕ) → at < length text → six_at (drop at text) ≡ Some six
    → ((place : ℕ) → place < at → six_at (drop place text) ≡ None) → find_of text ≡ Some six
find_at [] at six within here before = absurd (omega (arith, within))
find_at (b ∷ bs) zero six within here before = ap (λ found. or_else found (find_of bs)) here
find_at (b ∷ bs) (suc at) six within here before =
    let first : six_at (b ∷ bs) ≡ None = before 0 (omega arith) in
    ap (λ found. or_else found (find_of bs)) first
    ∙ find_at bs at six (omega (arith, within)) here (λ place less. before (suc place) (omega (arith, less)))

pub is_leftmost : (text : List ℕ) (six : List ℕ × ℕ) → IsLeftmostSix text six → find_of text ≡ Some six
is_leftmost text six place = find_at text place.at six place.within place.here place.none_before
