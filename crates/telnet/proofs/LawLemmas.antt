-- What the laws on items and lines stand on.
use Rattle.std.proofs.Common.{◌≡◌, ◌≢◌, ℕ, ◌<◌, ◌≤◌, ◌==◌, Bool, true, false, ◌&&◌, not, List, [], ◌∷◌, ◌++◌, None, map, append-nil, append_assoc, refl, sym, ap, ◌∙◌, inl, inr, arith}
use Rattle.std.specs.Prelude.{IsTrue, flat_map}
use Rattle.std.specs.List.{list_all}
use Rattle.std.proofs.lemmas.Bool.{and_from, and_parts, cases_eq, eqb-false, lt-leb, le-leb, ne_eqb, not-true}
use Rattle.telnet.specs.Cutting.{is_line_byte}
use Rattle.telnet.specs.Items.{behind_begin, data_of, doubled, is_choice, is_inside, item_data}
use Rattle.telnet.specs.Lines.{before, heard, lines_heard, lines_of}
use Rattle.telnet.proofs.ItemLemmas.{begin_byte, begin_pair, data_of-byte, data_of-doubled_text, data_of-is}
use Rattle.telnet.proofs.LineLemmas.{lines_of-end, lines_of-plain, lines_of-return, lines_of-return_line, lines_of-return_null, lines_of-kept}

pub is_choice_at : (c : ℕ) → 251 ≤ c → c ≤ 254 → is_choice c ≡ true
is_choice_at c low high = and_from _ _ (le-leb 251 c low) (le-leb c 254 high)

pub no_choice : (c : ℕ) → c < 250 → is_choice c ≡ false
no_choice c low = rw (lt-leb 251 c (omega (arith, low))) refl

-- where a front of a subnegotiation is what may stand inside, what follows it is read as if it stood alone
pub begin_inside : (body rest : List ℕ) → IsTrue (is_inside body) → behind_begin (body ++ 255 ∷ rest) ≡ behind_begin (255 ∷ rest)
begin_inside [] rest is = refl
begin_inside (b ∷ []) rest is = begin_byte b (255 ∷ rest) (eqb-false b 255 (not-true _ is))
begin_inside (b ∷ c ∷ body) rest is = elim (cases_eq b 255) [
  | inl e ↦ (
      let parts : IsTrue (not (c == 240) && is_inside body) = rw e at is in
      let both = and_parts (not (c == 240)) (is_inside body) parts in
      rw e (begin_pair c (body ++ 255 ∷ rest) (eqb-false c 240 (not-true _ both.0)) ∙ begin_inside body rest both.1))
  | inr ne ↦ (
      let more : IsTrue (is_inside (c ∷ body)) = rw (ne_eqb b 255 ne) at is in
      begin_byte b (c ∷ body ++ 255 ∷ rest) ne ∙ begin_inside (c ∷ body) rest more)
]

begin_only : (body : List ℕ) → IsTrue (is_inside body) → behind_begin body ≡ None
begin_only [] is = refl
begin_only (b ∷ []) is = refl
begin_only (b ∷ c ∷ body) is = elim (cases_eq b 255) [
  | inl e ↦ (
      let parts : IsTrue (not (c == 240) && is_inside body) = rw e at is in
      let both = and_parts (not (c == 240)) (is_inside body) parts in
      rw e (begin_pair c body (eqb-false c 240 (not-true _ both.0)) ∙ begin_only body both.1))
  | inr ne ↦ (
      let more : IsTrue (is_inside (c ∷ body)) = rw (ne_eqb b 255 ne) at is in
      begin_byte b (c ∷ body) ne ∙ begin_only (c ∷ body) more)
]

pub inside_law : (body rest : List ℕ) → IsTrue (is_inside body) → data_of (255 ∷ 250 ∷ body ++ 255 ∷ 240 ∷ rest) ≡ data_of rest
inside_law body rest is = data_of-is (255 ∷ 250 ∷ body ++ 255 ∷ 240 ∷ rest) ∙ ap (item_data data_of) (begin_inside body (240 ∷ rest) is)

pub choice_unfinished : (c : ℕ) → 251 ≤ c → c ≤ 254 → data_of (255 ∷ c ∷ []) ≡ []
choice_unfinished c low high = data_of-is (255 ∷ c ∷ []) ∙ rw (ne_eqb c 255 (λ e. omega (arith, e, high)), ne_eqb c 250 (λ e. omega (arith, e, low)), is_choice_at c low high) refl

pub inside_unfinished : (body : List ℕ) → IsTrue (is_inside body) → data_of (255 ∷ 250 ∷ body) ≡ []
inside_unfinished body is = data_of-is (255 ∷ 250 ∷ body) ∙ ap (item_data data_of) (begin_only body is)

pub pair_unfinished : (body : List ℕ) → IsTrue (is_inside body) → data_of (255 ∷ 250 ∷ body ++ 255 ∷ []) ≡ []
pair_unfinished body is = data_of-is (255 ∷ 250 ∷ body ++ 255 ∷ []) ∙ ap (item_data data_of) (begin_inside body [] is)

pub doubling : (text : List ℕ) → data_of (doubled text) ≡ text
doubling text = ap data_of (sym (append-nil (doubled text))) ∙ data_of-doubled_text text [] ∙ ap (λ t. text ++ t) (data_of-is []) ∙ append-nil text

lines_at : (line t rest : List ℕ) → IsTrue (list_all is_line_byte line) → lines_of t ≡ [] ∷ lines_of rest → lines_of (line ++ t) ≡ line ∷ lines_of rest
lines_at line t rest plain ends = lines_of-plain line t plain ∙ ap (before line) ends ∙ ap (λ l. l ∷ lines_of rest) (append-nil line)

pub ends_lf : (line rest : List ℕ) → IsTrue (list_all is_line_byte line) → lines_of (line ++ 10 ∷ rest) ≡ line ∷ lines_of rest
ends_lf line rest plain = lines_at line (10 ∷ rest) rest plain (lines_of-end rest)

pub ends_cr_lf : (line rest : List ℕ) → IsTrue (list_all is_line_byte line) → lines_of (line ++ 13 ∷ 10 ∷ rest) ≡ line ∷ lines_of rest
ends_cr_lf line rest plain = lines_at line (13 ∷ 10 ∷ rest) rest plain (lines_of-return_line rest)

pub ends_cr_nul : (line rest : List ℕ) → IsTrue (list_all is_line_byte line) → lines_of (line ++ 13 ∷ 0 ∷ rest) ≡ line ∷ lines_of rest
ends_cr_nul line rest plain = lines_at line (13 ∷ 0 ∷ rest) rest plain (lines_of-return_null rest)

pub dropped_cr : (line rest : List ℕ) (b : ℕ) → IsTrue (list_all is_line_byte line) → b ≢ 10 → b ≢ 0 → lines_of (line ++ 13 ∷ b ∷ rest) ≡ lines_of (line ++ b ∷ rest)
dropped_cr line rest b plain ne other = lines_of-plain line (13 ∷ b ∷ rest) plain ∙ ap (before line) (lines_of-return b rest ne other) ∙ sym (lines_of-plain line (b ∷ rest) plain)

pub rest_alone : (line : List ℕ) → IsTrue (list_all is_line_byte line) → lines_of line ≡ []
rest_alone line plain = ap lines_of (sym (append-nil line)) ∙ lines_of-kept line false plain

abbrev without_iac : List ℕ → Bool
without_iac text = list_all (λ b. not (b == 255)) text

abbrev is_simple : List ℕ → Bool
is_simple line = list_all (λ b. is_line_byte b && not (b == 255)) line

pub plain_data : (text : List ℕ) → IsTrue (without_iac text) → data_of text ≡ text
plain_data [] plain = data_of-is []
plain_data (b ∷ text) plain =
    let parts = and_parts (not (b == 255)) (without_iac text) plain in
    data_of-byte b text (eqb-false b 255 (not-true _ parts.0)) ∙ ap (λ t. b ∷ t) (plain_data text parts.1)

simple_before : (line text : List ℕ) → IsTrue (is_simple line) → data_of (line ++ text) ≡ line ++ data_of text
simple_before [] text simple = refl
simple_before (b ∷ line) text simple =
    let parts = and_parts (is_line_byte b && not (b == 255)) (is_simple line) simple in
    let one = and_parts (is_line_byte b) (not (b == 255)) parts.0 in
    data_of-byte b (line ++ text) (eqb-false b 255 (not-true _ one.1)) ∙ ap (λ t. b ∷ t) (simple_before line text parts.1)

simple_plain : (line : List ℕ) → IsTrue (is_simple line) → IsTrue (list_all is_line_byte line)
simple_plain [] simple = refl
simple_plain (b ∷ line) simple =
    let parts = and_parts (is_line_byte b && not (b == 255)) (is_simple line) simple in
    let one = and_parts (is_line_byte b) (not (b == 255)) parts.0 in
    and_from _ _ one.0 (simple_plain line parts.1)

simple_lines : (lines : List (List ℕ)) (rest : List ℕ) → IsTrue (is_simple rest) → IsTrue (list_all is_simple lines) →
    lines_of (data_of (flat_map (λ line. line ++ 10 ∷ []) lines ++ rest)) ≡ lines
simple_lines [] rest simple all =
    ap (λ t. lines_of (data_of t)) (sym (append-nil rest)) ∙ ap lines_of (simple_before rest [] simple ∙ ap (λ t. rest ++ t) (data_of-is []))
    ∙ lines_of-kept rest false (simple_plain rest simple)
simple_lines (line ∷ lines) rest simple all =
    let parts = and_parts (is_simple line) (list_all is_simple lines) all in
    let more = flat_map (λ l. l ++ 10 ∷ []) lines ++ rest in
    let cut : flat_map (λ l. l ++ 10 ∷ []) (line ∷ lines) ++ rest ≡ line ++ 10 ∷ more = append_assoc (line ++ 10 ∷ []) (flat_map (λ l. l ++ 10 ∷ []) lines) rest ∙ append_assoc line (10 ∷ []) more in
    ap (λ t. lines_of (data_of t)) cut
    ∙ ap lines_of (simple_before line (10 ∷ more) parts.0 ∙ ap (λ t. line ++ t) (data_of-byte 10 more (λ e. omega (arith, e))))
    ∙ ends_lf line (data_of more) (simple_plain line parts.0)
    ∙ ap (λ t. line ∷ t) (simple_lines lines rest simple parts.1)

pub plain_lines : (lines : List (List ℕ)) (rest : List ℕ) → IsTrue (list_all is_simple (rest ∷ lines)) → lines_heard (flat_map (λ line. line ++ 10 ∷ []) lines ++ rest) ≡ map heard lines
plain_lines lines rest all =
    let parts = and_parts (is_simple rest) (list_all is_simple lines) all in
    ap (map heard) (simple_lines lines rest parts.0 parts.1)
