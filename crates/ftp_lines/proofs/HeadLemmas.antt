-- The first four bytes of a line tell its code, and no later ones do.
use Rattle.std.proofs.Common.{◌≡◌, ℕ, ◌+◌, ◌<◌, ◌≤◌, Bool, true, false, cond, ◌&&◌, List, [], ◌∷◌, ◌++◌, length, take, refl, sym, ap, ◌∙◌, arith}
use Rattle.std.specs.Prelude.{nat_le, Option, Some, None, if◌then◌else◌}
use Rattle.std.proofs.lemmas.Bool.{le-leb}
use Rattle.fw_outside.specs.Lines.{is_lf}
use Rattle.ftp_lines.specs.Opening.{awaited, closing_code, opening_of}
use Rattle.ftp_lines.specs.Reply.{code_of, ended_parts, ending_code, ends_reply, first_code, first_code_in, first_reply, front_code, is_closing, unended_part, without_end}
use Rattle.ftp_lines.proofs.FirstCodeLemmas.{front_long, told_same}
use Rattle.ftp_lines.proofs.LineLemmas.{SameCode, front_line, same_front}
use Rattle.ftp_lines.proofs.PartLemmas.{ended_parts-other, unended_part-other}
use Rattle.ftp_lines.proofs.ReplyLemmas.{answered, both, first_reply-lf}

front_more : (front : List ℕ) (x : ℕ) → 4 ≤ length front → front_code (front ++ x ∷ []) ≡ front_code front
front_more [] x few = absurd (omega (arith, few))
front_more (a ∷ []) x few = absurd (omega (arith, few))
front_more (a ∷ b ∷ []) x few = absurd (omega (arith, few))
front_more (a ∷ b ∷ c ∷ []) x few = absurd (omega (arith, few))
front_more (a ∷ b ∷ c ∷ d ∷ more) x few =
    front_long a b c d (more ++ x ∷ [])
    ∙ told_same (a ∷ b ∷ c ∷ d ∷ more ++ x ∷ []) (a ∷ b ∷ c ∷ d ∷ more) (same_front (a ∷ b ∷ c ∷ d ∷ more ++ x ∷ []) (a ∷ b ∷ c ∷ d ∷ more) refl)
    ∙ sym (front_long a b c d more)

-- four bytes tell whether the line ends a reply
ending_long : (a b c d : ℕ) (more : List ℕ) → ending_code (a ∷ b ∷ c ∷ d ∷ more) ≡ cond (is_closing (a ∷ b ∷ c ∷ d ∷ more)) (Some (code_of (a ∷ b ∷ c ∷ d ∷ more))) None
ending_long a b c d more =
    let long : nat_le 4 (length (a ∷ b ∷ c ∷ d ∷ more)) ≡ true = le-leb 4 _ (omega arith) in
    rw long refl

ending_same : (line other : List ℕ) → SameCode line other → cond (is_closing line) (Some (code_of line)) None ≡ cond (is_closing other) (Some (code_of other)) None
ending_same line other same =
    ap (λ (b : Bool). let o : Option ℕ = cond b (Some (code_of line)) None in o) same.closing
    ∙ ap (λ (n : ℕ). let o : Option ℕ = cond (is_closing other) (Some n) None in o) same.code

pub ending_more : (front : List ℕ) (x : ℕ) → 4 ≤ length front → ending_code (front ++ x ∷ []) ≡ ending_code front
ending_more [] x few = absurd (omega (arith, few))
ending_more (a ∷ []) x few = absurd (omega (arith, few))
ending_more (a ∷ b ∷ []) x few = absurd (omega (arith, few))
ending_more (a ∷ b ∷ c ∷ []) x few = absurd (omega (arith, few))
ending_more (a ∷ b ∷ c ∷ d ∷ more) x few =
    ending_long a b c d (more ++ x ∷ [])
    ∙ ending_same (a ∷ b ∷ c ∷ d ∷ more ++ x ∷ []) (a ∷ b ∷ c ∷ d ∷ more) (same_front (a ∷ b ∷ c ∷ d ∷ more ++ x ∷ []) (a ∷ b ∷ c ∷ d ∷ more) refl)
    ∙ sym (ending_long a b c d more)

-- so do five
pub ending_front : (line : List ℕ) → ending_code (take 5 line) ≡ ending_code line
ending_front [] = refl
ending_front (a ∷ []) = refl
ending_front (a ∷ b ∷ []) = refl
ending_front (a ∷ b ∷ c ∷ []) = refl
ending_front (a ∷ b ∷ c ∷ d ∷ []) = refl
ending_front (a ∷ b ∷ c ∷ d ∷ e ∷ more) =
    ending_long a b c d (e ∷ [])
    ∙ ending_same (a ∷ b ∷ c ∷ d ∷ e ∷ []) (a ∷ b ∷ c ∷ d ∷ e ∷ more) (same_front (a ∷ b ∷ c ∷ d ∷ e ∷ []) (a ∷ b ∷ c ∷ d ∷ e ∷ more) refl)
    ∙ sym (ending_long a b c d (e ∷ more))

in_same : (parts : List (List ℕ)) (front : List ℕ) (x : ℕ) → 4 ≤ length front → first_code_in parts (front ++ x ∷ []) ≡ first_code_in parts front
in_same [] front x few = front_more front x few
in_same (first ∷ more) front x few = refl

pub first_more : (text : List ℕ) (x : ℕ) → is_lf x ≡ false → 4 ≤ length (unended_part text) → first_code (text ++ x ∷ []) ≡ first_code text
unfolding first_code
first_more text x other few =
    ap (λ ps. first_code_in ps (unended_part (text ++ x ∷ []))) (ended_parts-other text x other)
    ∙ ap (first_code_in (ended_parts text)) (unended_part-other text x other)
    ∙ in_same (ended_parts text) (unended_part text) x few

-- ---- a line that ends a reply

ends_true : (b : Bool) (count c n code : ℕ) → answered count (if b then Some c else None) ≡ Some (n, code) → b ≡ true
ends_true true count c n code is = refl
ends_true false count c n code is = absurd (cc)

closes_by : (opened : Option ℕ) (line : List ℕ) → ends_reply opened line ≡ true → is_closing line ≡ true
closes_by None line is = is
closes_by (Some code) line is = (both _ _ is).0

told_ending : (long closing : Bool) (code : ℕ) → long ≡ true → closing ≡ true → (if long && closing then Some code else None) ≡ None → ⊥
told_ending true true code one two none = absurd (cc)
told_ending true false code one two none = absurd (cc)
told_ending false true code one two none = absurd (cc)
told_ending false false code one two none = absurd (cc)

-- such a line is short, or its first bytes tell it
pub long_line : (text : List ℕ) (n code : ℕ) → first_reply text ≡ None → first_reply (text ++ 10 ∷ []) ≡ Some (n, code) → ending_code (unended_part text) ≡ None → 4 < length (unended_part text) → ⊥
long_line text n code none ends untold long =
    let line = unended_part text in
    let opened = awaited (opening_of (ended_parts text)) in
    let closes : is_closing (without_end line) ≡ true = closes_by opened (without_end line) (ends_true (ends_reply opened (without_end line)) (length text + 1) (code_of (without_end line)) n code (sym (first_reply-lf text none) ∙ ends)) in
    let same = same_front (without_end line) line (front_line line long) in
    told_ending (nat_le 4 (length line)) (is_closing line) (code_of line) (le-leb 4 (length line) (omega (arith, long))) (sym same.closing ∙ closes) untold
