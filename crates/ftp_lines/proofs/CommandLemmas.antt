-- Commands that are written as a verb, a space and an argument are read back (RFC 959, 4.1 and 5.3).
use Rattle.std.proofs.Common.{◌≡◌, ℕ, ◌+◌, ◌<◌, ◌≤◌, Bool, true, false, cond, All, List, [], ◌∷◌, ◌++◌, length, take, drop, get_or, refl, sym, ap, ◌∙◌, ◌⊎◌, inl, inr, subst, arith, append_assoc, length-append, IsTrue}
use Rattle.std.specs.Prelude.{◌&&◌, ◌||◌, nat_le, nat_lt, not, Option, Some, None}
use Rattle.std.specs.Char.{is_ascii_alphabetic, to_ascii_uppercase}
use Rattle.std.specs.List.{after_first, before_first, list_all, list_any, position_or_len}
use Rattle.std.specs.Str.{str_to_ascii_uppercase}
use Rattle.std.proofs.lemmas.Bool.{cases_lt, eqb-true, le-leb, leb-true, lt-ltb, ltb-true, or_from}
use Rattle.std.proofs.lemmas.Bool.Decides.{nat_tests}
use Rattle.std.proofs.lemmas.List.{drop_all, drop_at, get_or_append_left, length-drop, length-map, length-take, length_push, take-append-drop, take_all, take_at}
use Rattle.std.proofs.lemmas.List.Folds.{list_any-append, list_any_none}
use Rattle.std.proofs.lemmas.List.Sums.{AllPass-from_list_all, passes_at_first, position_or_len_is, split_at_first}
use Rattle.std.proofs.lemmas.Option.{cond_some}
use Rattle.std.proofs.Math.Seq.{get_or-append_seam}
use Rattle.fw_types.specs.Verb.{is_verb, verb_of}
use Rattle.fw_types.proofs.VerbLemmas.{upper_is_verb, upper_twice}
use Rattle.ftp_lines.specs.Command.{IsCommand, ftp_command_of, is_barred, is_command_text, is_space, with_argument}

chosen : {A : Type 0} → (b : Bool) (x y : A) → b ≡ true → cond b x y ≡ x
chosen true x y h = refl
chosen false x y h = absurd (cc (h))

third_of : (a b c : Bool) → (a && b && c) ≡ true → c ≡ true
third_of true true c h = h
third_of true false c h = absurd (cc (h))
third_of false b c h = absurd (cc (h))

second_of : (a b c : Bool) → (a && b && c) ≡ true → b ≡ true
second_of true true c h = refl
second_of true false c h = absurd (cc (h))
second_of false b c h = absurd (cc (h))

letters_of : (verb : List ℕ) → is_verb verb ≡ true → All (λ b. is_ascii_alphabetic b ≡ true) verb
letters_of verb h =
    AllPass-from_list_all is_ascii_alphabetic verb
    (third_of (nat_lt 0 (length verb)) (nat_le (length verb) 16) (list_all is_ascii_alphabetic verb) h)

letter_no_space : (b : ℕ) → is_ascii_alphabetic b ≡ true → is_space b ≡ false
letter_no_space b h = grind (arith, nat_tests)

letter_not_barred : (b : ℕ) → is_ascii_alphabetic b ≡ true → is_barred b ≡ false
letter_not_barred b h = grind (arith, nat_tests)

space_place : (verb arg : List ℕ) → is_verb verb ≡ true → position_or_len is_space (verb ++ 32 ∷ arg) ≡ length verb
space_place verb arg h =
    let long = length-append verb (32 ∷ arg) in
    position_or_len_is is_space (verb ++ 32 ∷ arg) (length verb) 0 (omega (arith, long))
    (λ k less. ap is_space (get_or_append_left verb (32 ∷ arg) 0 k less)
    ∙ letter_no_space (get_or verb k 0) (letters_of verb h k 0 less))
    (λ less. ap is_space (get_or-append_seam verb 32 arg 0))

before_space : (verb arg : List ℕ) → is_verb verb ≡ true → before_first is_space (verb ++ 32 ∷ arg) ≡ verb
before_space verb arg h =
    ap (λ n. take n (verb ++ 32 ∷ arg)) (space_place verb arg h) ∙ take_at verb (32 ∷ arg) (length verb) refl

after_space : (verb arg : List ℕ) → is_verb verb ≡ true → after_first is_space (verb ++ 32 ∷ arg) ≡ arg
after_space verb arg h =
    ap (λ n. drop (n + 1) (verb ++ 32 ∷ arg)) (space_place verb arg h)
    ∙ ap (drop (length verb + 1)) (sym (append_assoc verb (32 ∷ []) arg))
    ∙ drop_at (verb ++ 32 ∷ []) arg (length verb + 1) (length_push verb 32)

-- a verb, a space and an argument are read back
pub written : (verb arg : List ℕ) → verb_of verb ≡ Some verb → IsTrue (is_command_text (verb ++ 32 ∷ arg))
    → ftp_command_of (verb ++ 32 ∷ arg) ≡ Some (verb, arg)
written verb arg is fits =
    let text = verb ++ 32 ∷ arg in
    let good = cond_some (is_verb verb) (str_to_ascii_uppercase verb) verb is in
    chosen (is_command_text text)
    (with_argument (verb_of (before_first is_space text)) (after_first is_space text)) None fits
    ∙ ap (λ w. with_argument (verb_of w) (after_first is_space text)) (before_space verb arg good.0)
    ∙ ap (with_argument (verb_of verb)) (after_space verb arg good.0)
    ∙ ap (λ v. with_argument v arg) is

-- what stands before and behind the first space of a command
record Parted (line verb arg : List ℕ) : Type 0 where
  fits : is_command_text line ≡ true
  good : is_verb (before_first is_space line) ≡ true
  upper : str_to_ascii_uppercase (before_first is_space line) ≡ verb
  behind : after_first is_space line ≡ arg

verb_given : (v : Option (List ℕ)) (after verb arg : List ℕ) → with_argument v after ≡ Some (verb, arg)
    → (v ≡ Some verb) × (after ≡ arg)
verb_given None after verb arg is = absurd (cc (is))
verb_given (Some v) after verb arg is =
    let same : (v, after) ≡ (verb, arg) = cc (is) in
    (ap (λ (p : List ℕ × List ℕ). Some p.0) same, ap (λ (p : List ℕ × List ℕ). p.1) same)

text_given : (b : Bool) (o : Option (List ℕ × List ℕ)) (c : List ℕ × List ℕ) → cond b o None ≡ Some c
    → (b ≡ true) × (o ≡ Some c)
text_given true o c is = (refl, is)
text_given false o c is = absurd (cc (is))

parted : (line verb arg : List ℕ) → ftp_command_of line ≡ Some (verb, arg) → Parted line verb arg
parted line verb arg is =
    let text =
    text_given (is_command_text line)
    (with_argument (verb_of (before_first is_space line)) (after_first is_space line)) (verb, arg) is in
    let given = verb_given (verb_of (before_first is_space line)) (after_first is_space line) verb arg text.1 in
    let good =
    cond_some (is_verb (before_first is_space line))
    (str_to_ascii_uppercase (before_first is_space line)) verb given.0 in
    record { fits = text.0; good = good.0; upper = good.1; behind = given.1 }

upper_verb : (line verb arg : List ℕ) → Parted line verb arg → verb_of verb ≡ Some verb
upper_verb line verb arg p =
    let word = before_first is_space line in
    let Again : List ℕ → Type 0 = λ v. verb_of v ≡ Some v in
    let again : verb_of (str_to_ascii_uppercase word) ≡ Some (str_to_ascii_uppercase word) =
    chosen (is_verb (str_to_ascii_uppercase word)) (Some (str_to_ascii_uppercase (str_to_ascii_uppercase word))) None
    (upper_is_verb word p.good) ∙ ap Some (upper_twice word) in
    subst Again p.upper again

or_none : (a b : Bool) → (a || b) ≡ false → b ≡ false
or_none true b h = absurd (cc (h))
or_none false b h = h

barred_behind : (line : List ℕ) (n : ℕ) → list_any is_barred line ≡ false → list_any is_barred (drop n line) ≡ false
barred_behind line n none =
    or_none (list_any is_barred (take n line)) (list_any is_barred (drop n line))
    (sym (list_any-append is_barred (take n line) (drop n line)) ∙ ap (list_any is_barred) (take-append-drop n line)
    ∙ none)

text_parts : (short barred : Bool) → (short && not barred) ≡ true → (short ≡ true) × (barred ≡ false)
text_parts true false h = (refl, refl)
text_parts true true h = absurd (cc (h))
text_parts false barred h = absurd (cc (h))

pub text_from : (short barred : Bool) → short ≡ true → barred ≡ false → (short && not barred) ≡ true
text_from true false a b = refl
text_from true true a b = absurd (cc (b))
text_from false barred a b = absurd (cc (a))

again_long : (line verb arg : List ℕ) → Parted line verb arg → length (verb ++ 32 ∷ arg) ≤ 512
again_long line verb arg p =
    let n = position_or_len is_space line in
    let text = text_parts (nat_le (length line) 512) (list_any is_barred line) p.fits in
    let whole = leb-true (length line) 512 text.0 in
    let few =
    leb-true (length (take n line)) 16
    (second_of (nat_lt 0 (length (take n line))) (nat_le (length (take n line)) 16)
    (list_all is_ascii_alphabetic (take n line)) p.good) in
    let word = length-take n line in
    let rest = length-drop (n + 1) line in
    let upper = length-map (take n line) to_ascii_uppercase in
    let verb_long : length verb ≡ length (take n line) = sym (ap length p.upper) ∙ upper in
    let arg_long : length arg ≡ length (drop (n + 1) line) = sym (ap length p.behind) in
    let long = length-append verb (32 ∷ arg) in
    omega (arith, whole, few, word, rest, verb_long, arg_long, long)

again_barred : (line verb arg : List ℕ) → Parted line verb arg → list_any is_barred (verb ++ 32 ∷ arg) ≡ false
again_barred line verb arg p =
    let text = text_parts (nat_le (length line) 512) (list_any is_barred line) p.fits in
    let good = cond_some (is_verb verb) (str_to_ascii_uppercase verb) verb (upper_verb line verb arg p) in
    let letters =
    list_any_none is_barred verb (λ k d less. letter_not_barred (get_or verb k d) (letters_of verb good.0 k d less)) in
    let behind : list_any is_barred arg ≡ false =
    ap (list_any is_barred) (sym p.behind) ∙ barred_behind line (position_or_len is_space line + 1) text.1 in
    list_any-append is_barred verb (32 ∷ arg)
    ∙ or_from (list_any is_barred verb) (list_any is_barred (32 ∷ arg)) letters behind

-- what is read of a line, written so, is read as the same
pub again : (line verb arg : List ℕ) → ftp_command_of line ≡ Some (verb, arg)
    → ftp_command_of (verb ++ 32 ∷ arg) ≡ Some (verb, arg)
again line verb arg is =
    let p = parted line verb arg is in
    let text = verb ++ 32 ∷ arg in
    written verb arg (upper_verb line verb arg p)
    (text_from (nat_le (length text) 512) (list_any is_barred text)
    (le-leb (length text) 512 (again_long line verb arg p)) (again_barred line verb arg p))

-- a line is a command exactly where it is a word alone, or a word, a space and an argument

first_of_three : (a b c : Bool) → (a && b && c) ≡ true → a ≡ true
first_of_three true b c h = refl
first_of_three false b c h = absurd (cc (h))

three_from : (a b c : Bool) → a ≡ true → b ≡ true → c ≡ true → (a && b && c) ≡ true
three_from true true true h k l = refl
three_from true true false h k l = absurd (cc (l))
three_from true false c h k l = absurd (cc (k))
three_from false b c h k l = absurd (cc (h))

whole_by : (line verb arg : List ℕ) → Parted line verb arg
    → (position_or_len is_space line < length line) ⊎ (length line ≤ position_or_len is_space line)
    → ((line ≡ before_first is_space line) × (arg ≡ [])) ⊎ (line ≡ before_first is_space line ++ 32 ∷ arg)
whole_by line verb arg p (inl inside) =
    let word = before_first is_space line in
    inr (split_at_first is_space line 0 inside
    ∙ ap (λ b. word ++ b ∷ after_first is_space line)
    (eqb-true (get_or line (position_or_len is_space line) 0) 32 (passes_at_first is_space line 0 inside))
    ∙ ap (λ rest. word ++ 32 ∷ rest) p.behind)
whole_by line verb arg p (inr past) =
    inl (
      sym (take_all (position_or_len is_space line) line past),
      sym p.behind ∙ drop_all (position_or_len is_space line + 1) line (omega (arith, past)),
    )

pub command_is : (line verb arg : List ℕ) → ftp_command_of line ≡ Some (verb, arg) → IsCommand line verb arg
command_is line verb arg is =
    let p = parted line verb arg is in
    let word = before_first is_space line in
    let text = text_parts (nat_le (length line) 512) (list_any is_barred line) p.fits in
    let long_enough = first_of_three (nat_lt 0 (length word)) (nat_le (length word) 16) (list_all is_ascii_alphabetic word) p.good in
    let short_enough = second_of (nat_lt 0 (length word)) (nat_le (length word) 16) (list_all is_ascii_alphabetic word) p.good in
    let all_letters = third_of (nat_lt 0 (length word)) (nat_le (length word) 16) (list_all is_ascii_alphabetic word) p.good in
    record {
      word = word;
      whole = whole_by line verb arg p (cases_lt (position_or_len is_space line) (length line));
      some = ltb-true 0 (length word) long_enough;
      few = leb-true (length word) 16 short_enough;
      letters = all_letters;
      upper = p.upper;
      short = leb-true (length line) 512 text.0;
      plain = text.1;
    }

read_parts : (line word verb arg : List ℕ) → is_command_text line ≡ true → verb_of word ≡ Some verb
    → before_first is_space line ≡ word → after_first is_space line ≡ arg → ftp_command_of line ≡ Some (verb, arg)
read_parts line word verb arg fits is before behind =
    chosen (is_command_text line)
    (with_argument (verb_of (before_first is_space line)) (after_first is_space line)) None fits
    ∙ ap (λ w. with_argument (verb_of w) (after_first is_space line)) before
    ∙ ap (λ rest. with_argument (verb_of word) rest) behind
    ∙ ap (λ v. with_argument v arg) is

no_space : (word : List ℕ) → is_verb word ≡ true → position_or_len is_space word ≡ length word
no_space word h =
    position_or_len_is is_space word (length word) 0 (omega arith)
    (λ k less. letter_no_space (get_or word k 0) (letters_of word h k 0 less))
    (λ less. absurd (omega (arith, less)))

before_alone : (word : List ℕ) → is_verb word ≡ true → before_first is_space word ≡ word
before_alone word h = ap (λ n. take n word) (no_space word h) ∙ take_all (length word) word (omega arith)

after_alone : (word : List ℕ) → is_verb word ≡ true → after_first is_space word ≡ []
after_alone word h = ap (λ n. drop (n + 1) word) (no_space word h) ∙ drop_all (length word + 1) word (omega arith)

read_by : (line verb arg word : List ℕ) → is_verb word ≡ true → verb_of word ≡ Some verb → is_command_text line ≡ true
    → ((line ≡ word) × (arg ≡ [])) ⊎ (line ≡ word ++ 32 ∷ arg) → ftp_command_of line ≡ Some (verb, arg)
read_by line verb arg word good is fits (inl alone) =
    read_parts line word verb arg fits is (ap (before_first is_space) alone.0 ∙ before_alone word good)
    (ap (after_first is_space) alone.0 ∙ after_alone word good ∙ sym alone.1)
read_by line verb arg word good is fits (inr whole) =
    read_parts line word verb arg fits is (ap (before_first is_space) whole ∙ before_space word arg good)
    (ap (after_first is_space) whole ∙ after_space word arg good)

pub is_command : (line verb arg : List ℕ) → IsCommand line verb arg → ftp_command_of line ≡ Some (verb, arg)
is_command line verb arg c =
    let good : is_verb c.word ≡ true =
    three_from (nat_lt 0 (length c.word)) (nat_le (length c.word) 16) (list_all is_ascii_alphabetic c.word)
    (lt-ltb 0 (length c.word) c.some) (le-leb (length c.word) 16 c.few) c.letters in
    let is : verb_of c.word ≡ Some verb =
    chosen (is_verb c.word) (Some (str_to_ascii_uppercase c.word)) None good ∙ ap Some c.upper in
    let fits =
    text_from (nat_le (length line) 512) (list_any is_barred line) (le-leb (length line) 512 c.short) c.plain in
    read_by line verb arg c.word good is fits c.whole
