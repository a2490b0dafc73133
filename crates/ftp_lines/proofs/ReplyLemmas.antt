-- The first reply of a text, as the text grows byte by byte (RFC 959, 4.2).
use Rattle.std.proofs.Common.{◌≡◌, ℕ, ◌+◌, Bool, true, false, ◌&&◌, cond, List, [], ◌∷◌, ◌++◌, length, refl, sym, ap, ◌∙◌, arith}
use Rattle.std.specs.Prelude.{◌==◌, ◌||◌, not, slice_index, Option, Some, None}
use Rattle.std.specs.List.{find, take_while}
use Rattle.std.proofs.lemmas.Bool.{eqb-true, ne_eqb}
use Rattle.std.proofs.lemmas.List.Folds.{find-append}
use Rattle.std.proofs.lemmas.List.Sums.{sum_by-append, sum_by-cons, take_while-cons}
use Rattle.fw_outside.specs.Lines.{is_lf}
use Rattle.ftp_lines.specs.Opening.{awaited, closing_code, opening_behind, opening_by, opening_of}
use Rattle.ftp_lines.specs.Reply.{code_of, ended_parts, ends_reply, first_reply, has_code, is_closing, without_end, measured, opening_code, reply_in, first_of_lines, size, unended_part}
use Rattle.ftp_lines.proofs.PartLemmas.{ended_parts-lf, ended_parts-other, size_is}

pub measured_none : (before : List (List ℕ)) (last : Option (List ℕ)) → measured before last ≡ None → last ≡ None
measured_none before None h = refl
measured_none before (Some last) h = absurd (cc)

-- where no part passes, none of them but the next can be the first that does
find_next : (ends : List ℕ → Bool) (parts : List (List ℕ)) (part : List ℕ) → find ends parts ≡ None → find ends (parts ++ part ∷ []) ≡ cond (ends part) (Some part) None
find_next ends parts part none = find-append ends parts (part ∷ []) ∙ rw none refl

while_by : (ends : List ℕ → Bool) (first part : List ℕ) (parts : List (List ℕ)) (b : Bool) → cond b (Some first) (find ends parts) ≡ None
    → (find ends parts ≡ None → take_while (λ p. not (ends p)) (parts ++ part ∷ []) ≡ parts)
    → cond (not b) (first ∷ take_while (λ p. not (ends p)) (parts ++ part ∷ [])) [] ≡ first ∷ parts
while_by ends first part parts true none more = absurd (cc)
while_by ends first part parts false none more = ap (λ ps. first ∷ ps) (more none)

while_next : (ends : List ℕ → Bool) (parts : List (List ℕ)) (part : List ℕ) → find ends parts ≡ None → ends part ≡ true → take_while (λ p. not (ends p)) (parts ++ part ∷ []) ≡ parts
while_next ends [] part none last = take_while-cons (λ p. not (ends p)) part [] ∙ rw last refl
while_next ends (first ∷ parts) part none last =
    take_while-cons (λ p. not (ends p)) first (parts ++ part ∷ []) ∙ while_by ends first part parts (ends first) none (λ rest. while_next ends parts part rest last)

reply_by : (ends : List ℕ → Bool) (parts : List (List ℕ)) (part : List ℕ) (b : Bool) → ends part ≡ b → find ends parts ≡ None
    → first_of_lines ends (parts ++ part ∷ []) ≡ cond b (Some (size (parts ++ part ∷ []), code_of (without_end part))) None
reply_by ends parts part true is none = rw (find_next ends parts part none, is, while_next ends parts part none is) refl
reply_by ends parts part false is none = rw (find_next ends parts part none, is) refl

reply_next : (ends : List ℕ → Bool) (parts : List (List ℕ)) (part : List ℕ) → first_of_lines ends parts ≡ None
    → first_of_lines ends (parts ++ part ∷ []) ≡ cond (ends part) (Some (size (parts ++ part ∷ []), code_of (without_end part))) None
reply_next ends parts part none = reply_by ends parts part (ends part) refl (measured_none (take_while (λ p. not (ends p)) parts) (find ends parts) none)

-- a line that closes a reply opens none
pub both : (a b : Bool) → (a && b) ≡ true → (a ≡ true) × (b ≡ true)
both true b h = (refl, h)
both false b h = absurd (cc)

third_none : (line : List ℕ) → slice_index line 3 ≡ 45 → ((length line == 3) || (slice_index line 3 == 32)) ≡ false
third_none [] h = absurd (omega arith)
third_none (a ∷ []) h = absurd (omega arith)
third_none (a ∷ b ∷ []) h = absurd (omega arith)
third_none (a ∷ b ∷ c ∷ []) h = absurd (omega arith)
third_none (a ∷ b ∷ c ∷ d ∷ more) h =
    let longer : ((length (a ∷ b ∷ c ∷ d ∷ more)) == 3) ≡ false = ne_eqb _ 3 (λ (e : length (a ∷ b ∷ c ∷ d ∷ more) ≡ 3). omega arith) in
    rw (longer, h) refl

self_by : (line : List ℕ) (b : Bool) → (has_code line && (slice_index line 3 == 45)) ≡ b → ends_reply (cond b (Some (code_of line)) None) line ≡ is_closing line
self_by line false is = refl
self_by line true is =
    let p = both (has_code line) (slice_index line 3 == 45) is in
    let none = third_none line (eqb-true (slice_index line 3) 45 p.1) in
    rw (p.0, none) refl

-- the first line is the last one where it closes the reply
pub ends_itself : (line : List ℕ) → ends_reply (opening_code line) line ≡ is_closing line
ends_itself line = self_by line (has_code line && (slice_index line 3 == 45)) refl

awaited_by : (code : Option ℕ) → awaited (opening_by code) ≡ code
awaited_by None = refl
awaited_by (Some code) = refl

pub reply_more : (parts : List (List ℕ)) (part : List ℕ) → reply_in parts ≡ None
    → reply_in (parts ++ part ∷ []) ≡ cond (ends_reply (awaited (opening_of parts)) (without_end part)) (Some (size (parts ++ part ∷ []), code_of (without_end part))) None
reply_more [] part none =
    reply_next (λ p. ends_reply (opening_code (without_end part)) (without_end p)) [] part refl
    ∙ ap (λ (b : Bool). let r : Option (ℕ × ℕ) = cond b (Some (size (part ∷ []), code_of (without_end part))) None in r) (ends_itself (without_end part))
reply_more (first ∷ parts) part none =
    reply_next (λ p. ends_reply (opening_code (without_end first)) (without_end p)) (first ∷ parts) part none
    ∙ ap (λ (o : Option ℕ). let r : Option (ℕ × ℕ) = cond (ends_reply o (without_end part)) (Some (size ((first ∷ parts) ++ part ∷ []), code_of (without_end part))) None in r) (sym (awaited_by (opening_code (without_end first))))

behind_by : (code : Option ℕ) (line : List ℕ) → opening_behind (opening_by code) line ≡ opening_by code
behind_by None line = refl
behind_by (Some code) line = refl

pub opening_more : (parts : List (List ℕ)) (part : List ℕ) → opening_of (parts ++ part ∷ []) ≡ opening_behind (opening_of parts) (without_end part)
opening_more [] part = refl
opening_more (first ∷ parts) part = sym (behind_by (opening_code (without_end first)) (without_end part))

-- so many bytes, and this code
abbrev pub answered : ℕ → Option ℕ → Option (ℕ × ℕ)
answered count None = None
answered count (Some code) = Some (count, code)

answered_by : (b : Bool) (count code n : ℕ) → n ≡ count → cond b (Some (n, code)) None ≡ answered count (cond b (Some code) None)
answered_by true count code n e = rw e refl
answered_by false count code n e = refl

-- an LF ends the reply where it ends a line that does
pub first_reply-lf : (text : List ℕ) → first_reply text ≡ None
    → first_reply (text ++ 10 ∷ []) ≡ answered (length text + 1) (closing_code (awaited (opening_of (ended_parts text))) (without_end (unended_part text)))
unfolding first_reply
first_reply-lf text none =
    let parts = ended_parts text in
    let part = unended_part text in
    let long : size (parts ++ part ∷ []) ≡ length text + 1 =
    let whole = size_is text in
    let more = sum_by-append (λ p. length p + 1) parts (part ∷ []) in
    let one = sum_by-cons (λ p. length p + 1) part [] in
    omega (arith, whole, more, one) in
    ap reply_in (ended_parts-lf text) ∙ reply_more parts part none ∙ answered_by _ (length text + 1) (code_of (without_end part)) _ long

-- another byte ends nothing
pub first_reply-other : (text : List ℕ) (b : ℕ) → is_lf b ≡ false → first_reply (text ++ b ∷ []) ≡ first_reply text
unfolding first_reply
first_reply-other text b other = ap reply_in (ended_parts-other text b other)

pub first_reply-empty : first_reply [] ≡ None
unfolding first_reply
first_reply-empty = refl
