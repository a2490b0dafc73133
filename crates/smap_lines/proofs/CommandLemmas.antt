-- Verbs and keywords in any case, and what follows them.
use Rattle.std.proofs.Common.{◌≡◌, ℕ, ◌+◌, ◌<◌, ◌≤◌, Bool, true, false, ◌&&◌, not, List, [], ◌∷◌, ◌++◌, length, take, drop, map, Option, Some, None, refl, sym, ap, ◌∙◌, ◌⊎◌, inl, inr, arith}
use Rattle.std.specs.Prelude.{IsTrue, codes, cond, nat_lt, if◌then◌else◌}
use Rattle.std.specs.Char.{to_ascii_lowercase}
use Rattle.std.specs.List.{list_all, prefix_len}
use Rattle.std.proofs.lemmas.Bool.{and_parts, cases_lt, le-ltb, lt-ltb, ltb-false, ne_eqb}
use Rattle.std.proofs.lemmas.List.{drop_at, length-map, take-append-drop, take_at}
use Rattle.std.proofs.lemmas.Slice.Eq.{bytes_eq-Decides}
use Rattle.smap_lines.specs.Blank.{is_blank}
use Rattle.smap_lines.specs.Command.{AsksWith, Command, bare, behind_keyword, command_with, ends_word, helo, mail, mail_command_of, rcpt}
use Rattle.smap_lines.specs.Verb.{asks_for_more, is, mail_verb_of}
use Rattle.smap_lines.specs.declared.verb.Verb.{Verb}
use Rattle.smap_lines.specs.declared.verb.Verb.TheVariants.{Data, Helo, Help, Mail, Noop, NotImplemented, Quit, Rcpt, Rset, Unknown}

abbrev lower : List ℕ → List ℕ
lower text = map to_ascii_lowercase text

lower_same : (word other : List ℕ) → is word other ≡ true → lower word ≡ lower other
lower_same word other same = (bytes_eq-Decides (lower word) (lower other)).0 same

pub verb_same : (word other : List ℕ) → is word other ≡ true → mail_verb_of word ≡ mail_verb_of other
unfolding mail_verb_of asks_for_more
verb_same word other same = rw (lower_same word other same) refl

-- a change of case makes no blank, and none is lost by it

no_blank : (b : ℕ) → 32 < b → is_blank b ≡ false
no_blank b more = rw (ne_eqb b 32 (λ e. omega (arith, more, e)), ne_eqb b 9 (λ e. omega (arith, more, e))) refl

blank_by : (b : ℕ) → (b < 65) ⊎ (65 ≤ b) → (b < 91) ⊎ (91 ≤ b) → is_blank (to_ascii_lowercase b) ≡ is_blank b
blank_by b (inl low) high = ap (λ test. is_blank (cond test b (cond (nat_lt b 91) (b + 32) b))) (lt-ltb b 65 low)
blank_by b (inr from) (inl low) =
    ap (λ test. is_blank (cond test b (cond (nat_lt b 91) (b + 32) b))) (le-ltb b 65 from) ∙ ap (λ test. is_blank (cond test (b + 32) b)) (lt-ltb b 91 low)
    ∙ no_blank (b + 32) (omega (arith, from)) ∙ sym (no_blank b (omega (arith, from)))
blank_by b (inr from) (inr high) =
    ap (λ test. is_blank (cond test b (cond (nat_lt b 91) (b + 32) b))) (le-ltb b 65 from) ∙ ap (λ test. is_blank (cond test (b + 32) b)) (le-ltb b 91 high)

blank_lower : (b : ℕ) → is_blank (to_ascii_lowercase b) ≡ is_blank b
blank_lower b = blank_by b (cases_lt b 65) (cases_lt b 91)

abbrev is_word : List ℕ → Bool
is_word text = list_all (λ b. not (is_blank b)) text

word_lower : (text : List ℕ) → is_word (lower text) ≡ is_word text
word_lower [] = refl
word_lower (b ∷ text) =
    ap (λ test. not test && is_word (lower text)) (blank_lower b) ∙ ap (λ test. not (is_blank b) && test) (word_lower text)

word_of : (word verb : List ℕ) → is word verb ≡ true → IsTrue (is_word verb) → IsTrue (is_word word)
word_of word verb same plain = sym (word_lower word) ∙ ap is_word (lower_same word verb same) ∙ word_lower verb ∙ plain

-- a word is cut off where it ends

end_of_word : (word rest : List ℕ) → IsTrue (is_word word) → IsTrue (ends_word rest) → prefix_len (λ b. not (is_blank b)) (word ++ rest) ≡ length word
end_of_word [] [] plain ends = refl
end_of_word [] (b ∷ rest) plain ends = ap (λ test. cond (not test) (1 + prefix_len (λ c. not (is_blank c)) rest) 0) ends
end_of_word (b ∷ word) rest plain ends =
    let parts = and_parts (not (is_blank b)) (is_word word) plain in
    ap (λ test. cond test (1 + prefix_len (λ c. not (is_blank c)) (word ++ rest)) 0) parts.0 ∙ omega (arith, end_of_word word rest parts.1 ends)

abbrev cut_by : Bool → ℕ → List ℕ → Command
cut_by long n line = if long then bare Unknown else command_with (mail_verb_of (take n line)) (drop n line)

pub word_and_rest : (word rest : List ℕ) → IsTrue (is_word word) → IsTrue (ends_word rest) → length (word ++ rest) ≤ 512 → mail_command_of (word ++ rest) ≡ command_with (mail_verb_of word) rest
word_and_rest word rest plain ends short =
    let line = word ++ rest in
    let n = length word in
    ap (λ long. cut_by long (prefix_len (λ b. not (is_blank b)) line) line) (le-ltb 512 (length line) short)
    ∙ ap (λ k. cut_by false k line) (end_of_word word rest plain ends)
    ∙ ap (λ t. command_with (mail_verb_of t) (drop n line)) (take_at word rest n refl)
    ∙ ap (command_with (mail_verb_of word)) (drop_at word rest n refl)

pub too_long : (line : List ℕ) → 512 < length line → mail_command_of line ≡ bare Unknown
too_long line long = ap (λ test. cut_by test (prefix_len (λ b. not (is_blank b)) line) line) (lt-ltb 512 (length line) long)

-- keywords

keyword_read : (keyword front text : List ℕ) → is front keyword ≡ true → behind_keyword keyword (front ++ text) ≡ Some text
keyword_read keyword front text same =
    let n = length keyword in
    let len : length front ≡ n = sym (length-map front to_ascii_lowercase) ∙ ap length (lower_same front keyword same) ∙ length-map keyword to_ascii_lowercase in
    ap (λ t. if is t keyword then Some (drop n (front ++ text)) else None) (take_at front text n len)
    ∙ ap (λ test. if test then Some (drop n (front ++ text)) else None) same
    ∙ ap Some (drop_at front text n len)

abbrev first_or_none : List ℕ → ℕ
first_or_none [] = 0
first_or_none (b ∷ text) = b

keyword_ends : (keyword front text : List ℕ) → is front (32 ∷ keyword) ≡ true → IsTrue (ends_word (front ++ text))
keyword_ends keyword [] text same = absurd (cc)
keyword_ends keyword (b ∷ front) text same =
    sym (blank_lower b) ∙ ap is_blank (ap first_or_none (lower_same (b ∷ front) (32 ∷ keyword) same))

mail_is : mail_verb_of (codes "MAIL") ≡ Mail
unfolding mail_verb_of
mail_is = refl

rcpt_is : mail_verb_of (codes "RCPT") ≡ Rcpt
unfolding mail_verb_of
rcpt_is = refl

-- the text behind a verb and a keyword is read

asked_rest : (verb keyword line text : List ℕ) → IsTrue (is_word verb) → (asks : AsksWith verb (32 ∷ keyword) line text) →
    mail_command_of line ≡ command_with (mail_verb_of verb) (asks.front ++ text)
asked_rest verb keyword line text plain asks =
    ap mail_command_of asks.whole
    ∙ word_and_rest asks.word (asks.front ++ text) (word_of asks.word verb asks.is_verb plain) (keyword_ends keyword asks.front text asks.is_keyword)
    (omega (arith, asks.short, ap length asks.whole))
    ∙ ap (λ v. command_with v (asks.front ++ text)) (verb_same asks.word verb asks.is_verb)

pub mail_read : (line text : List ℕ) → AsksWith (codes "MAIL") (codes " FROM:") line text → mail_command_of line ≡ mail (Some text)
mail_read line text asks =
    asked_rest (codes "MAIL") (codes "FROM:") line text refl asks
    ∙ ap (λ v. command_with v (asks.front ++ text)) mail_is ∙ ap mail (keyword_read (codes " FROM:") asks.front text asks.is_keyword)

pub rcpt_read : (line text : List ℕ) → AsksWith (codes "RCPT") (codes " TO:") line text → mail_command_of line ≡ rcpt (Some text)
rcpt_read line text asks =
    asked_rest (codes "RCPT") (codes "TO:") line text refl asks
    ∙ ap (λ v. command_with v (asks.front ++ text)) rcpt_is ∙ ap rcpt (keyword_read (codes " TO:") asks.front text asks.is_keyword)

-- no other line has one

peel : (test : Bool) (v later w : Verb) → (v ≡ w → ⊥) → (if test then v else later) ≡ w → later ≡ w
peel true v later w ne is = absurd (ne is)
peel false v later w ne is = is

held : (test : Bool) (v later w : Verb) → (later ≡ w → ⊥) → (if test then v else later) ≡ w → test ≡ true
held true v later w never is = refl
held false v later w never is = absurd (never is)

verb_mail : (word : List ℕ) → mail_verb_of word ≡ Mail → is word (codes "MAIL") ≡ true
unfolding mail_verb_of
verb_mail word asked =
    held (is word (codes "MAIL")) Mail _ Mail
    (λ r. let d = peel (is word (codes "RCPT")) Rcpt _ Mail (λ e. cc) r in
    let s = peel (is word (codes "DATA")) Data _ Mail (λ e. cc) d in
    let n = peel (is word (codes "RSET")) Rset _ Mail (λ e. cc) s in
    let q = peel (is word (codes "NOOP")) Noop _ Mail (λ e. cc) n in
    let h = peel (is word (codes "QUIT")) Quit _ Mail (λ e. cc) q in
    let m = peel (is word (codes "HELP")) Help _ Mail (λ e. cc) h in
    let u : Unknown ≡ Mail = peel (asks_for_more word) NotImplemented Unknown Mail (λ e. cc) m in cc)
    (peel (is word (codes "HELO")) Helo _ Mail (λ e. cc) asked)

verb_rcpt : (word : List ℕ) → mail_verb_of word ≡ Rcpt → is word (codes "RCPT") ≡ true
unfolding mail_verb_of
verb_rcpt word asked =
    held (is word (codes "RCPT")) Rcpt _ Rcpt
    (λ d. let s = peel (is word (codes "DATA")) Data _ Rcpt (λ e. cc) d in
    let n = peel (is word (codes "RSET")) Rset _ Rcpt (λ e. cc) s in
    let q = peel (is word (codes "NOOP")) Noop _ Rcpt (λ e. cc) n in
    let h = peel (is word (codes "QUIT")) Quit _ Rcpt (λ e. cc) q in
    let m = peel (is word (codes "HELP")) Help _ Rcpt (λ e. cc) h in
    let u : Unknown ≡ Rcpt = peel (asks_for_more word) NotImplemented Unknown Rcpt (λ e. cc) m in cc)
    (peel (is word (codes "MAIL")) Mail _ Rcpt (λ e. cc) (peel (is word (codes "HELO")) Helo _ Rcpt (λ e. cc) asked))

abbrev mail_text : Command → Option (List ℕ)
mail_text (helo rest) = None
mail_text (mail text) = text
mail_text (rcpt text) = None
mail_text (bare verb) = None

abbrev rcpt_text : Command → Option (List ℕ)
rcpt_text (helo rest) = None
rcpt_text (mail text) = None
rcpt_text (rcpt text) = text
rcpt_text (bare verb) = None

with_mail : (v : Verb) (rest text : List ℕ) → command_with v rest ≡ mail (Some text) → (v ≡ Mail) × (behind_keyword (codes " FROM:") rest ≡ Some text)
with_mail Mail rest text same = (refl, ap mail_text same)
with_mail Helo rest text same = absurd (cc)
with_mail Rcpt rest text same = absurd (cc)
with_mail Data rest text same = absurd (cc)
with_mail Rset rest text same = absurd (cc)
with_mail Noop rest text same = absurd (cc)
with_mail Quit rest text same = absurd (cc)
with_mail Help rest text same = absurd (cc)
with_mail NotImplemented rest text same = absurd (cc)
with_mail Unknown rest text same = absurd (cc)

with_rcpt : (v : Verb) (rest text : List ℕ) → command_with v rest ≡ rcpt (Some text) → (v ≡ Rcpt) × (behind_keyword (codes " TO:") rest ≡ Some text)
with_rcpt Rcpt rest text same = (refl, ap rcpt_text same)
with_rcpt Helo rest text same = absurd (cc)
with_rcpt Mail rest text same = absurd (cc)
with_rcpt Data rest text same = absurd (cc)
with_rcpt Rset rest text same = absurd (cc)
with_rcpt Noop rest text same = absurd (cc)
with_rcpt Quit rest text same = absurd (cc)
with_rcpt Help rest text same = absurd (cc)
with_rcpt NotImplemented rest text same = absurd (cc)
with_rcpt Unknown rest text same = absurd (cc)

abbrev text_in : Option (List ℕ) → List ℕ
text_in None = []
text_in (Some text) = text

some_by : (test : Bool) (rest text : List ℕ) → (if test then Some rest else None) ≡ Some text → (test ≡ true) × (rest ≡ text)
some_by true rest text same = (refl, ap text_in same)
some_by false rest text same = absurd (cc)

keyword_asks : (verb keyword line : List ℕ) (n : ℕ) (text : List ℕ) → length line ≤ 512 → is (take n line) verb ≡ true → behind_keyword keyword (drop n line) ≡ Some text → AsksWith verb keyword line text
keyword_asks verb keyword line n text short is_verb same =
    let k = length keyword in
    let rest = drop n line in
    let parts = some_by (is (take k rest) keyword) (drop k rest) text same in
    record {
      word = take n line;
      front = take k rest;
      whole = sym (take-append-drop n line) ∙ ap (λ t. take n line ++ t) (sym (take-append-drop k rest) ∙ ap (λ t. take k rest ++ t) parts.1);
      is_verb = is_verb;
      is_keyword = parts.0;
      short = short;
    }

mail_by : (long : Bool) (n : ℕ) (line text : List ℕ) → nat_lt 512 (length line) ≡ long → cut_by long n line ≡ mail (Some text) → AsksWith (codes "MAIL") (codes " FROM:") line text
mail_by true n line text long same = absurd (cc)
mail_by false n line text long same =
    let parts = with_mail (mail_verb_of (take n line)) (drop n line) text same in
    keyword_asks (codes "MAIL") (codes " FROM:") line n text (ltb-false 512 (length line) long) (verb_mail (take n line) parts.0) parts.1

rcpt_by : (long : Bool) (n : ℕ) (line text : List ℕ) → nat_lt 512 (length line) ≡ long → cut_by long n line ≡ rcpt (Some text) → AsksWith (codes "RCPT") (codes " TO:") line text
rcpt_by true n line text long same = absurd (cc)
rcpt_by false n line text long same =
    let parts = with_rcpt (mail_verb_of (take n line)) (drop n line) text same in
    keyword_asks (codes "RCPT") (codes " TO:") line n text (ltb-false 512 (length line) long) (verb_rcpt (take n line) parts.0) parts.1

pub mail_asks : (line text : List ℕ) → mail_command_of line ≡ mail (Some text) → AsksWith (codes "MAIL") (codes " FROM:") line text
mail_asks line text same = mail_by (nat_lt 512 (length line)) (prefix_len (λ b. not (is_blank b)) line) line text refl same

pub rcpt_asks : (line text : List ℕ) → mail_command_of line ≡ rcpt (Some text) → AsksWith (codes "RCPT") (codes " TO:") line text
rcpt_asks line text same = rcpt_by (nat_lt 512 (length line)) (prefix_len (λ b. not (is_blank b)) line) line text refl same
