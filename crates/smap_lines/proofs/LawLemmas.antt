-- What the laws on bodies stand on.
use Rattle.std.proofs.Common.{◌≡◌, ℕ, ◌==◌, Bool, true, false, ◌&&◌, not, List, [], ◌∷◌, ◌++◌, Some, append_assoc, refl, ap, ◌∙◌}
use Rattle.std.specs.Prelude.{IsTrue, flat_map, if◌then◌else◌}
use Rattle.std.specs.List.{list_all}
use Rattle.std.proofs.lemmas.Bool.{and_parts, and_right, not-true, or_parts}
use Rattle.smap_lines.specs.Body.{body_after, body_in, mail_body_of, cut, has_end, sent, with_end, sent_body}
use Rattle.smap_lines.proofs.BodyLemmas.{body, cut-end, cut-front, cut-nothing, cut-one, front, last_end}

-- a line without CR LF is cut off where it ends
cut-line : (line rest : List ℕ) → has_end line ≡ false → cut (line ++ 13 ∷ 10 ∷ rest) ≡ record { lines = line ∷ (cut rest).lines; rest = (cut rest).rest }
cut-line [] rest none = cut-end rest
cut-line (b ∷ []) rest none = cut-front b 13 (10 ∷ rest) (and_right (b == 13) false refl) ∙ ap (front b) (cut-end rest)
cut-line (b ∷ c ∷ line) rest none =
    let parts = or_parts (b == 13 && c == 10) (has_end (c ∷ line)) none in
    cut-front b c (line ++ 13 ∷ 10 ∷ rest) parts.0 ∙ ap (front b) (cut-line (c ∷ line) rest parts.1)

cut-rest : (rest : List ℕ) → has_end rest ≡ false → cut rest ≡ record { lines = []; rest = rest }
cut-rest [] none = cut-nothing
cut-rest (b ∷ []) none = cut-one b
cut-rest (b ∷ c ∷ rest) none =
    let parts = or_parts (b == 13 && c == 10) (has_end (c ∷ rest)) none in
    cut-front b c rest parts.0 ∙ ap (front b) (cut-rest (c ∷ rest) parts.1)

ended_line : (line more : List ℕ) → with_end line ++ more ≡ line ++ 13 ∷ 10 ∷ more
ended_line line more = append_assoc line (13 ∷ 10 ∷ []) more

abbrev no_ends : List (List ℕ) → Bool
no_ends lines = list_all (λ line. not (has_end line)) lines

-- lines are cut out of their text
pub cut-lines : (lines : List (List ℕ)) (rest : List ℕ) → IsTrue (no_ends lines) → has_end rest ≡ false → cut (flat_map with_end lines ++ rest) ≡ record { lines = lines; rest = rest }
cut-lines [] rest all none = cut-rest rest none
cut-lines (line ∷ lines) rest all none =
    let parts = and_parts (not (has_end line)) (no_ends lines) all in
    let more = flat_map with_end lines ++ rest in
    let same = cut-lines lines rest parts.1 none in
    ap cut (append_assoc (with_end line) (flat_map with_end lines) rest ∙ ended_line line more)
    ∙ cut-line line more (not-true _ parts.0)
    ∙ ap (λ k. record { lines = line ∷ k.lines; rest = k.rest }) same

either_end : (test : Bool) (b : ℕ) (line : List ℕ) → has_end (b ∷ line) ≡ false → has_end (if test then 46 ∷ b ∷ line else b ∷ line) ≡ false
either_end true b line none = none
either_end false b line none = none

sent-end : (line : List ℕ) → has_end line ≡ false → has_end (sent line) ≡ false
sent-end [] none = refl
sent-end (b ∷ line) none = either_end (b == 46) b line none

either_read : (test : Bool) (b : ℕ) (line : List ℕ) (lines : List (List ℕ)) (rest : List ℕ) → (b == 46) ≡ test →
    body_in ((if test then 46 ∷ b ∷ line else b ∷ line) ∷ lines) rest ≡ body_after (with_end (b ∷ line)) (body_in lines rest)
either_read true b line lines rest e = refl
either_read false b line lines rest e = rw e refl

sent_read : (line : List ℕ) (lines : List (List ℕ)) (rest : List ℕ) → body_in (sent line ∷ lines) rest ≡ body_after (with_end line) (body_in lines rest)
sent_read [] lines rest = refl
sent_read (b ∷ line) lines rest = either_read (b == 46) b line lines rest refl

abbrev sent_lines : List (List ℕ) → List ℕ
sent_lines lines = flat_map (λ line. with_end (sent line)) lines

reads : (lines : List (List ℕ)) (rest : List ℕ) → IsTrue (no_ends lines) → mail_body_of (sent_lines lines ++ 46 ∷ 13 ∷ 10 ∷ rest) ≡ Some record { bytes = flat_map with_end lines; rest = rest }
reads [] rest all = last_end rest
reads (line ∷ lines) rest all =
    let parts = and_parts (not (has_end line)) (no_ends lines) all in
    let more = sent_lines lines ++ 46 ∷ 13 ∷ 10 ∷ rest in
    ap mail_body_of (append_assoc (with_end (sent line)) (sent_lines lines) (46 ∷ 13 ∷ 10 ∷ rest) ∙ ended_line (sent line) more)
    ∙ ap body (cut-line (sent line) more (sent-end line (not-true _ parts.0)))
    ∙ sent_read line (cut more).lines (cut more).rest
    ∙ ap (body_after (with_end line)) (reads lines rest parts.1)

pub written_read : (lines : List (List ℕ)) (rest : List ℕ) → IsTrue (no_ends lines) → mail_body_of (sent_body lines ++ rest) ≡ Some record { bytes = flat_map with_end lines; rest = rest }
written_read lines rest all = ap mail_body_of (append_assoc (sent_lines lines) (46 ∷ 13 ∷ 10 ∷ []) rest) ∙ reads lines rest all
