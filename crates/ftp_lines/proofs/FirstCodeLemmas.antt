-- The code that the first line of a text tells (RFC 959, 4.2).
use Rattle.std.proofs.Common.{◌≡◌, ℕ, Bool, true, false, cond, All, List, [], ◌∷◌, ◌++◌, length, take, refl, sym, ap, ◌∙◌, arith, append_assoc, append-nil, IsTrue}
use Rattle.std.specs.Prelude.{◌==◌, nat_le, not, slice_index, Option, Some, None}
use Rattle.std.specs.List.{find, list_all, slice_split, take_while}
use Rattle.std.proofs.lemmas.Bool.{eqb-true, le-leb}
use Rattle.std.proofs.lemmas.List.Splits.{slice_split_at}
use Rattle.std.proofs.lemmas.List.Sums.{AllPass-from_list_all}
use Rattle.fw_outside.specs.Lines.{is_lf}
use Rattle.ftp_lines.specs.ReplyLineView.{ReplyLineView, going, most_kept}
use Rattle.ftp_lines.specs.Opening.{first_code_by, opening_by, opening_of}
use Rattle.ftp_lines.specs.ReaderState.{IsReaderState}
use Rattle.ftp_lines.specs.Reply.{code_of, ended, ended_parts, ends_reply, first_code, first_code_in, first_reply, front_code, is_closing, measured, opening_code, reply_in, size, told_code, unended, unended_part, without_end, has_code}
use Rattle.ftp_lines.specs.declared.opening.Opening.{Opening}
use Rattle.ftp_lines.proofs.LineLemmas.{SameCode, front_line, same_front}
use Rattle.ftp_lines.proofs.PartLemmas.{ended_parts-lf, ended_parts-other, split_parts, unended_part-lf, unended_part-other}
use Rattle.ftp_lines.proofs.ReplyLemmas.{both, ends_itself, measured_none}
use Rattle.ftp_lines.proofs.FirstLemmas.{found_in}

none_given : (code : ℕ) (P : Type 0) → Some code ≡ None → P
none_given code P h = absurd (cc (h))

pub told_same : (line other : List ℕ) → SameCode line other → told_code line ≡ told_code other
told_same line other same =
    ap (λ (b : Bool). let o : Option ℕ = cond b (Some (code_of line)) (opening_code line) in o) same.closing
    ∙ ap (λ (n : ℕ). let o : Option ℕ = cond (is_closing other) (Some n) (opening_code line) in o) same.code
    ∙ ap (λ (opens : Option ℕ). let o : Option ℕ = cond (is_closing other) (Some (code_of other)) opens in o) same.opens

-- four bytes tell the code
pub front_long : (a b c d : ℕ) (more : List ℕ) → front_code (a ∷ b ∷ c ∷ d ∷ more) ≡ told_code (a ∷ b ∷ c ∷ d ∷ more)
front_long a b c d more =
    let long : nat_le 4 (length (a ∷ b ∷ c ∷ d ∷ more)) ≡ true = le-leb 4 _ (omega arith) in
    rw long refl

front_stays : (front more : List ℕ) (code : ℕ) → front_code front ≡ Some code → front_code (front ++ more) ≡ Some code
front_stays [] more code is = none_given code _ (sym is)
front_stays (a ∷ []) more code is = none_given code _ (sym is)
front_stays (a ∷ b ∷ []) more code is = none_given code _ (sym is)
front_stays (a ∷ b ∷ c ∷ []) more code is = none_given code _ (sym is)
front_stays (a ∷ b ∷ c ∷ d ∷ front) more code is =
    front_long a b c d (front ++ more)
    ∙ told_same (a ∷ b ∷ c ∷ d ∷ front ++ more) (a ∷ b ∷ c ∷ d ∷ front)
    (same_front (a ∷ b ∷ c ∷ d ∷ front ++ more) (a ∷ b ∷ c ∷ d ∷ front) refl)
    ∙ sym (front_long a b c d front) ∙ is

told_by : (line : List ℕ) (digits : Bool) → has_code line ≡ digits → (length line == 3) ≡ false
    → (slice_index line 3 == 32) ≡ false
    → (slice_index line 3 == 45) ≡ false → told_code line ≡ None
told_by line true is long space hyphen = rw (is, long, space, hyphen) refl
told_by line false is long space hyphen = rw is refl

-- a CR behind three digits tells nothing yet
four_by : (a b c d code : ℕ) (cr : Bool) → (d == 13) ≡ cr → told_code (a ∷ b ∷ c ∷ d ∷ []) ≡ Some code
    → told_code (cond cr (a ∷ b ∷ c ∷ []) (a ∷ b ∷ c ∷ d ∷ [])) ≡ Some code
four_by a b c d code false cr is = is
four_by a b c d code true cr is =
    let thirteen : d ≡ 13 = eqb-true d 13 cr in
    let none = told_by (a ∷ b ∷ c ∷ 13 ∷ []) (has_code (a ∷ b ∷ c ∷ 13 ∷ [])) refl refl refl refl in
    none_given code _ (sym (sym none ∙ ap (λ x. told_code (a ∷ b ∷ c ∷ x ∷ [])) (sym thirteen) ∙ is))

-- what the first bytes of a line tell, the line tells
front_told : (front : List ℕ) (code : ℕ) → front_code front ≡ Some code → told_code (without_end front) ≡ Some code
front_told [] code is = none_given code _ (sym is)
front_told (a ∷ []) code is = none_given code _ (sym is)
front_told (a ∷ b ∷ []) code is = none_given code _ (sym is)
front_told (a ∷ b ∷ c ∷ []) code is = none_given code _ (sym is)
front_told (a ∷ b ∷ c ∷ d ∷ []) code is = four_by a b c d code (d == 13) refl is
front_told (a ∷ b ∷ c ∷ d ∷ e ∷ more) code is =
    let text = a ∷ b ∷ c ∷ d ∷ e ∷ more in
    told_same (without_end text) text (same_front (without_end text) text (front_line text (omega arith)))
    ∙ sym (front_long a b c d (e ∷ more)) ∙ is

in_other : (parts : List (List ℕ)) (front : List ℕ) (b code : ℕ) → first_code_in parts front ≡ Some code
    → first_code_in parts (front ++ b ∷ []) ≡ Some code
in_other [] front b code is = front_stays front (b ∷ []) code is
in_other (first ∷ more) front b code is = is

in_lf : (parts : List (List ℕ)) (front : List ℕ) (code : ℕ) → first_code_in parts front ≡ Some code
    → first_code_in (parts ++ front ∷ []) [] ≡ Some code
in_lf [] front code is = front_told front code is
in_lf (first ∷ more) front code is = is

byte_by : (text : List ℕ) (b code : ℕ) (lf : Bool) → is_lf b ≡ lf → first_code text ≡ Some code
    → first_code (text ++ b ∷ []) ≡ Some code
unfolding first_code
byte_by text b code true lf is =
    let ten : b ≡ 10 = eqb-true b 10 lf in
    rw ten (ap (λ ps. first_code_in ps (unended_part (text ++ 10 ∷ []))) (ended_parts-lf text)
    ∙ ap (first_code_in (ended_parts text ++ unended_part text ∷ [])) (unended_part-lf text)
    ∙ in_lf (ended_parts text) (unended_part text) code is)
byte_by text b code false lf is =
    ap (λ ps. first_code_in ps (unended_part (text ++ b ∷ []))) (ended_parts-other text b lf)
    ∙ ap (first_code_in (ended_parts text)) (unended_part-other text b lf)
    ∙ in_other (ended_parts text) (unended_part text) b code is

kept : (more text : List ℕ) (code : ℕ) → first_code text ≡ Some code → first_code (text ++ more) ≡ Some code
kept [] text code is = ap first_code (append-nil text) ∙ is
kept (b ∷ bs) text code is =
    ap first_code (sym (append_assoc text (b ∷ []) bs))
    ∙ kept bs (text ++ b ∷ []) code (byte_by text b code (is_lf b) refl is)

-- what follows doesn't change the code that the first line tells
pub code_stays : (text more : List ℕ) (code : ℕ) → first_code text ≡ Some code → first_code (text ++ more) ≡ Some code
code_stays text more code is = kept more text code is

passes_by : (b : Bool) (first last : List ℕ) (o : Option (List ℕ)) (P : List ℕ → Bool) → P first ≡ b
    → cond b (Some first) o ≡ Some last → (o ≡ Some last → P last ≡ true) → P last ≡ true
passes_by true first last o P here is more = let same : first ≡ last = cc (is) in ap P (sym same) ∙ here
passes_by false first last o P here is more = more is

passes : (ends : List ℕ → Bool) (parts : List (List ℕ)) (last : List ℕ) → find ends parts ≡ Some last → ends last ≡ true
passes ends [] last is = absurd (cc (is))
passes ends (first ∷ parts) last is =
    passes_by (ends first) first last (find ends parts) ends refl is (λ later. passes ends parts last later)

measured_code : (before : List (List ℕ)) (o : Option (List ℕ)) (part : List ℕ) (count last : ℕ) → o ≡ Some part
    → measured before o ≡ Some (count, last)
    → last ≡ code_of (without_end part)
measured_code before None part count last is reply = absurd (cc (is))
measured_code before (Some other) part count last is reply =
    let same : other ≡ part = cc (is) in
    let pair : (size (before ++ other ∷ []), code_of (without_end other)) ≡ (count, last) = cc (reply) in
    sym (ap (λ (r : ℕ × ℕ). r.1) pair) ∙ ap (λ p. code_of (without_end p)) same

first_found : (b : Bool) (first part : List ℕ) (o : Option (List ℕ)) → b ≡ true → cond b (Some first) o ≡ Some part
    → part ≡ first
first_found true first part o passing is = cc (is)
first_found false first part o passing is = absurd (cc (passing))

-- the last line has the code that the first one tells
last_by : (line last : List ℕ) (code : ℕ) (closing : Bool) → is_closing line ≡ closing → told_code line ≡ Some code
    → ends_reply (opening_code line) last ≡ true
    → (is_closing line ≡ true → last ≡ line) → code_of last ≡ code
last_by line last code true closes is ends same =
    let told : told_code line ≡ Some (code_of line) = rw closes refl in
    let equal : code_of line ≡ code = cc (told, is) in
    ap code_of (same closes) ∙ equal
last_by line last code false goes_on is ends same =
    let told : told_code line ≡ opening_code line = rw goes_on refl in
    let opens : opening_code line ≡ Some code = sym told ∙ is in
    let ended_by : ends_reply (Some code) last ≡ true = ap (λ o. ends_reply o last) (sym opens) ∙ ends in
    let p = both (is_closing last) (code_of last == code) ended_by in
    eqb-true (code_of last) code p.1

answer : (parts : List (List ℕ)) (front : List ℕ) (code count last : ℕ) → first_code_in parts front ≡ Some code
    → reply_in parts ≡ Some (count, last) → last ≡ code
answer [] front code count last is reply = absurd (cc (reply))
answer (first ∷ more) front code count last is reply =
    let line = without_end first in
    let ends : List ℕ → Bool = λ p. ends_reply (opening_code line) (without_end p) in
    let before = take_while (λ p. not (ends p)) (first ∷ more) in
    let found = found_in before (find ends (first ∷ more)) (count, last) reply in
    let code_is = measured_code before (find ends (first ∷ more)) found.part count last found.is reply in
    code_is
    ∙ last_by line (without_end found.part) code (is_closing line) refl is
    (passes ends (first ∷ more) found.part found.is)
    (λ closes. ap without_end
    (first_found (ends first) first found.part (find ends more) (ends_itself line ∙ closes) found.is))

answered : (text : List ℕ) (code count last : ℕ) → first_code text ≡ Some code → first_reply text ≡ Some (count, last)
    → last ≡ code
unfolding first_code first_reply
answered text code count last is reply = answer (ended_parts text) (unended_part text) code count last is reply

-- the reply that ends has the code that its first line tells
pub code_is_last : (text more : List ℕ) (code count last : ℕ) → first_code text ≡ Some code
    → first_reply (text ++ more) ≡ Some (count, last) → last ≡ code
code_is_last text more code count last is reply =
    answered (text ++ more) code count last (code_stays text more code is) reply

not_lf : (b : ℕ) (lf : Bool) → is_lf b ≡ lf → not lf ≡ true → is_lf b ≡ false
not_lf b true is h = absurd (cc (h))
not_lf b false is h = is

no_lf : (line : List ℕ) → IsTrue (list_all (λ b. not (b == 10)) line) → All (λ b. is_lf b ≡ false) line
no_lf line h k d less = not_lf _ _ refl (AllPass-from_list_all (λ b. not (b == 10)) line h k d less)

-- the first line, behind its end, tells what it tells as a whole
pub code_of_line : (line rest : List ℕ) → IsTrue (list_all (λ b. not (b == 10)) line)
    → first_code (line ++ 10 ∷ rest) ≡ told_code (without_end line)
unfolding first_code
code_of_line line rest h =
    let parts = split_parts is_lf rest in
    let cutting : slice_split is_lf (line ++ 10 ∷ rest) ≡ line ∷ parts.first ∷ parts.rest =
    slice_split_at is_lf line 10 rest (no_lf line h) refl ∙ ap (λ ps. line ∷ ps) parts.is in
    ap (λ ps. first_code_in (ended ps) (unended ps)) cutting

-- what is kept of a line tells its code
kept_front : (front : List ℕ) → front_code (take most_kept front) ≡ front_code front
kept_front [] = refl
kept_front (a ∷ []) = refl
kept_front (a ∷ b ∷ []) = refl
kept_front (a ∷ b ∷ c ∷ []) = refl
kept_front (a ∷ b ∷ c ∷ d ∷ more) =
    front_long a b c d (take 510 more)
    ∙ told_same (a ∷ b ∷ c ∷ d ∷ take 510 more) (a ∷ b ∷ c ∷ d ∷ more)
    (same_front (a ∷ b ∷ c ∷ d ∷ take 510 more) (a ∷ b ∷ c ∷ d ∷ more) refl)
    ∙ sym (front_long a b c d more)

coded : (code : Option ℕ) (front : List ℕ) → first_code_by (opening_by code) front ≡ code
coded None front = refl
coded (Some code) front = refl

told_open : (line : List ℕ) → is_closing line ≡ false → told_code line ≡ opening_code line
told_open line goes_on = rw goes_on refl

first_fails : (b : Bool) (first : List ℕ) (o : Option (List ℕ)) → cond b (Some first) o ≡ None → b ≡ false
first_fails true first o none = absurd (cc (none))
first_fails false first o none = refl

opening_front : (parts : List (List ℕ)) (front : List ℕ) → reply_in parts ≡ None
    → first_code_by (opening_of parts) (take most_kept front) ≡ first_code_in parts front
opening_front [] front none = kept_front front
opening_front (first ∷ more) front none =
    let line = without_end first in
    let ends : List ℕ → Bool = λ p. ends_reply (opening_code line) (without_end p) in
    let unfound = measured_none (take_while (λ p. not (ends p)) (first ∷ more)) (find ends (first ∷ more)) none in
    let goes_on = first_fails (ends first) first (find ends more) unfound in
    coded (opening_code line) (take most_kept front) ∙ sym (told_open line (sym (ends_itself line) ∙ goes_on))

reader_opening : (fed : List ℕ) (front : List ℕ) → first_reply fed ≡ None → front ≡ take most_kept (unended_part fed)
    → first_code_by (opening_of (ended_parts fed)) front ≡ first_code fed
unfolding first_code first_reply
reader_opening fed front none is =
    ap (first_code_by (opening_of (ended_parts fed))) is ∙ opening_front (ended_parts fed) (unended_part fed) none

-- a reader knows the code that the first line tells
pub reader_code : (fed : List ℕ) (opening : Opening) (line : ReplyLineView) → IsReaderState fed opening line
    → first_code_by opening (going line.kept line.ended) ≡ first_code fed
reader_code fed opening line stands =
    ap (λ (o : Opening). first_code_by o (going line.kept line.ended)) stands.opens
    ∙ reader_opening fed (going line.kept line.ended) stands.going_on stands.tail
