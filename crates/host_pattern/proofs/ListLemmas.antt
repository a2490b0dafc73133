-- Lists of patterns, one pattern or word further.
use Rattle.std.proofs.Common.{◌≡◌, ◌≢◌, ℕ, ◌+◌, ◌≤◌, ◌<◌, List, [], ◌∷◌, length, map, drop, Bool, true, false, cond, not, ◌==◌, ◌⊎◌, refl, sym, ◌∙◌, ap, arith, get_or, inl, inr, position, nat_lt, Option, Some, None, Result, Ok, Err}
use Rattle.std.specs.List.{enumerate_from, filter_map}
use Rattle.std.proofs.lemmas.Bool.{cases_eq, cases_lt, le-ltb, lt-ltb, ne_eqb}
use Rattle.std.proofs.lemmas.List.{drop_more, drop_all, drop-map, length-map}
use Rattle.fw_types.specs.declared.peer.Peer.{Peer}
use Rattle.host_pattern.specs.declared.fault.PatternFault.{PatternFault}
use Rattle.host_pattern.specs.declared.fault.PatternFault.TheVariants.{Empty, TooLong, BadMask}
use Rattle.host_pattern.specs.Mask.{is_well_masked}
use Rattle.host_pattern.specs.declared.word.Word.{Word}
use Rattle.host_pattern.specs.Pattern.{Written, read_as, begins_negated, body_of, is_body_byte, parsed, unless_bad, written}
use Rattle.host_pattern.specs.PatternList.{bad, good, matches, list_matches, list_parsed, patterns_tested, unless_any_bad}

pub first_decides : (p : Written) (ps : List Written) (party : Peer) → matches party p ≡ true → list_matches (p ∷ ps) party ≡ not p.negated
unfolding list_matches
first_decides p ps party e = rw e refl

pub next_decides : (p : Written) (ps : List Written) (party : Peer) → matches party p ≡ false → list_matches (p ∷ ps) party ≡ list_matches ps party
unfolding list_matches
next_decides p ps party e = rw e refl

pub first_ends : (p : Written) (ps : List Written) (party : Peer) → matches party p ≡ true → patterns_tested (p ∷ ps) party ≡ 1
unfolding patterns_tested
first_ends p ps party e = rw e (omega arith)

pub next_counts : (p : Written) (ps : List Written) (party : Peer) → matches party p ≡ false → patterns_tested (p ∷ ps) party ≡ 1 + patterns_tested ps party
unfolding patterns_tested
next_counts p ps party e = rw e (omega arith)

pub tested_few : (ps : List Written) (party : Peer) → patterns_tested ps party ≤ length ps
unfolding patterns_tested
tested_few ps party = omega arith

-- The loop over the texts of a list self, at the place i, where the steps were start at first.

here : (texts : List (List ℕ)) (i : ℕ) (t : List ℕ) → i < length texts → t ≡ get_or texts i t → drop i (map read_as texts) ≡ read_as t ∷ drop (i + 1) (map read_as texts)
here texts i t lt e =
    let first : drop i texts ≡ t ∷ drop (i + 1) texts = drop_more texts i t lt ∙ ap (λ x. x ∷ drop (i + 1) texts) (sym e) in
    drop-map read_as i texts ∙ ap (λ xs. map read_as xs) first ∙ ap (λ xs. read_as t ∷ xs) (sym (drop-map read_as (i + 1) texts))

pub record IsThrough (self : List Written) (texts : List (List ℕ)) (party : Peer) (i start steps : ℕ) : Type 0 where
  pub items : map read_as texts ≡ self
  pub same : list_matches (drop i (map read_as texts)) party ≡ list_matches (map read_as texts) party
  pub count : steps + patterns_tested (drop i (map read_as texts)) party ≡ start + patterns_tested (map read_as texts) party

pub answer_at : (self : List Written) (texts : List (List ℕ)) (party : Peer) (i start steps : ℕ) (t : List ℕ) (negated : Bool) → IsThrough self texts party i start steps → i < length texts → t ≡ get_or texts i t → matches party (read_as t) ≡ true → negated ≡ begins_negated t → not negated ≡ list_matches self party
answer_at self texts party i start steps t negated done lt at e n =
    ap not n ∙ sym (first_decides (read_as t) (drop (i + 1) (map read_as texts)) party e) ∙ ap (λ xs. list_matches xs party) (sym (here texts i t lt at)) ∙ done.same ∙ ap (λ xs. list_matches xs party) done.items

pub steps_at : (self : List Written) (texts : List (List ℕ)) (party : Peer) (i start steps : ℕ) (t : List ℕ) → IsThrough self texts party i start steps → i < length texts → t ≡ get_or texts i t → matches party (read_as t) ≡ true → steps + 1 ≡ start + patterns_tested self party
steps_at self texts party i start steps t done lt at e =
    let one : patterns_tested (drop i (map read_as texts)) party ≡ 1 = rw (here texts i t lt at) (first_ends (read_as t) (drop (i + 1) (map read_as texts)) party e) in
    let all : patterns_tested (map read_as texts) party ≡ patterns_tested self party = ap (λ xs. patterns_tested xs party) done.items in
    omega (arith, done.count)

pub further_at : (self : List Written) (texts : List (List ℕ)) (party : Peer) (i start steps : ℕ) (t : List ℕ) → IsThrough self texts party i start steps → i < length texts → t ≡ get_or texts i t → matches party (read_as t) ≡ false → IsThrough self texts party (i + 1) start (steps + 1)
further_at self texts party i start steps t done lt at e = record {
  items = done.items;
  same = sym (next_decides (read_as t) (drop (i + 1) (map read_as texts)) party e) ∙ ap (λ xs. list_matches xs party) (sym (here texts i t lt at)) ∙ done.same;
  count =
      let one : patterns_tested (drop i (map read_as texts)) party ≡ 1 + patterns_tested (drop (i + 1) (map read_as texts)) party = rw (here texts i t lt at) (next_counts (read_as t) (drop (i + 1) (map read_as texts)) party e) in
      omega (arith, done.count);
}

at_end : (texts : List (List ℕ)) (i : ℕ) → length texts ≤ i → drop i (map read_as texts) ≡ []
at_end texts i le = drop_all i (map read_as texts) (omega (arith, length-map texts read_as))

pub no_answer : (self : List Written) (texts : List (List ℕ)) (party : Peer) (i start steps : ℕ) → IsThrough self texts party i start steps → length texts ≤ i → false ≡ list_matches self party
unfolding list_matches
no_answer self texts party i start steps done le = (rw (at_end texts i le) at done.same) ∙ ap (λ xs. list_matches xs party) done.items

pub all_steps : (self : List Written) (texts : List (List ℕ)) (party : Peer) (i start steps : ℕ) → IsThrough self texts party i start steps → length texts ≤ i → steps ≡ start + patterns_tested self party
unfolding patterns_tested
all_steps self texts party i start steps done le =
    let count = rw (at_end texts i le, done.items) at done.count in
    omega arith

pub starts_through : (self : List Written) (texts : List (List ℕ)) (party : Peer) (start : ℕ) → map read_as texts ≡ self → IsThrough self texts party 0 start start
starts_through self texts party start e = record { items = e; same = refl; count = refl }

-- a text is written as it was read
pub read_written : (t : List ℕ) → written (read_as t) ≡ t
read_written [] = refl
read_written (b ∷ t) = elim (cases_eq b 33) [
  | inl e ↦ rw e refl
  | inr ne ↦ rw (ne_eqb b 33 ne) refl
]

pub texts_written : (texts : List (List ℕ)) → texts ≡ map written (map read_as texts)
texts_written [] = refl
texts_written (t ∷ texts) = ap (λ x. x ∷ texts) (sym (read_written t)) ∙ ap (λ xs. written (read_as t) ∷ xs) (texts_written texts)

-- Words that were checked.

is_read_as : (t : List ℕ) (p : Written) → parsed t ≡ Ok p → read_as t ≡ p
unfolding parsed
is_read_as t p e = by (length (body_of t) == 0) e
  where
    well : (v : Bool) → cond v (Ok (read_as t)) (Err BadMask) ≡ Ok p → read_as t ≡ p
    well true e = cc
    well false e = absurd (cc)

    last : (at : Option ℕ) → unless_bad at (read_as t) ≡ Ok p → read_as t ≡ p
    last None e = well (is_well_masked (body_of t)) e
    last (Some at) e = absurd (cc)

    long : (v : Bool) → cond v (Err TooLong) (unless_bad (position (λ b. not (is_body_byte b)) (body_of t)) (read_as t)) ≡ Ok p → read_as t ≡ p
    long true e = absurd (cc)
    long false e = last (position (λ b. not (is_body_byte b)) (body_of t)) e

    by : (v : Bool) → cond v (Err Empty) (cond (nat_lt 255 (length (body_of t))) (Err TooLong) (unless_bad (position (λ b. not (is_body_byte b)) (body_of t)) (read_as t))) ≡ Ok p → read_as t ≡ p
    by true e = absurd (cc)
    by false e = long (nat_lt 255 (length (body_of t))) e

-- where no word is bad, the patterns are those that the texts of all words are read as
all_read : (n : ℕ) (words : List Word) → filter_map bad (enumerate_from n words) ≡ [] → map read_as (map (λ (w : Word). w.text) words) ≡ filter_map good words
all_read n [] h = refl
all_read n (w ∷ words) h = by (parsed w.text) refl (λ more. all_read (n + 1) words more)
  where
    by : (r : Result Written PatternFault) → parsed w.text ≡ r → (filter_map bad (enumerate_from (n + 1) words) ≡ [] → map read_as (map (λ (w : Word). w.text) words) ≡ filter_map good words) → map read_as (map (λ (w : Word). w.text) (w ∷ words)) ≡ filter_map good (w ∷ words)
    by (Ok p) e more = rw (e, is_read_as w.text p e) (ap (λ ps. p ∷ ps) (more (rw e at h)))
    by (Err why) e more = absurd (let h = rw e at h in (cc))

record Checked (words : List Word) : Type 0 where
  some : 0 < length words
  few : length words ≤ 64
  none : filter_map bad (enumerate_from 0 words) ≡ []

checked : (words : List Word) (patterns : List Written) → list_parsed words ≡ Ok patterns → Checked words
unfolding list_parsed
checked words patterns e = by (cases_eq (length words) 0) (cases_lt 64 (length words))
  where
    clean : (bads : List (ℕ × PatternFault)) → unless_any_bad bads (filter_map good words) ≡ Ok patterns → bads ≡ []
    clean [] e = refl
    clean (first ∷ others) e = absurd (cc)

    by : (length words ≡ 0) ⊎ (length words ≢ 0) → (64 < length words) ⊎ (length words ≤ 64) → Checked words
    by (inl zero) more = absurd (let e = rw zero at e in (cc))
    by (inr ne) (inl over) = absurd (let e = rw (ne_eqb (length words) 0 ne, lt-ltb 64 (length words) over) at e in (cc))
    by (inr ne) (inr within) =
        let read = rw (ne_eqb (length words) 0 ne, le-ltb 64 (length words) within) at e in
        record { some = omega arith; few = within; none = clean (filter_map bad (enumerate_from 0 words)) read }

pub copies : (words : List Word) (texts : List (List ℕ)) → texts ≡ map (λ (w : Word). w.text) words → list_parsed words ≡ Ok (filter_map good words) → map read_as texts ≡ filter_map good words
copies words texts e read = rw e (all_read 0 words (checked words (filter_map good words) read).none)

pub some : (words : List Word) (texts : List (List ℕ)) → texts ≡ map (λ (w : Word). w.text) words → list_parsed words ≡ Ok (filter_map good words) → 0 < length texts
some words texts e read = let is = checked words (filter_map good words) read in rw e (omega (arith, is.some, length-map words (λ (w : Word). w.text)))

pub few : (words : List Word) (texts : List (List ℕ)) → texts ≡ map (λ (w : Word). w.text) words → list_parsed words ≡ Ok (filter_map good words) → length texts ≤ 64
few words texts e read = let is = checked words (filter_map good words) read in rw e (omega (arith, is.few, length-map words (λ (w : Word). w.text)))
