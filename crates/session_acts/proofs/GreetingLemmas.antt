-- A greeting, byte by byte.
use Rattle.std.proofs.Common.{arith, ◌≡◌, ◌≢◌, refl, sym, ap, subst, ◌∙◌, ℕ, ◌+◌, ◌<◌, ◌≤◌, ◌⊎◌, inl, inr, Bool, true, false, List, [], ◌∷◌, ◌++◌, length, take, Option, Some, None, Result, Ok, Err, append_assoc, append-nil}
use Rattle.std.specs.Prelude.{◌==◌, if◌then◌else◌}
use Rattle.std.proofs.lemmas.List.{length-append}
use Rattle.ftp_lines.proofs.HeadLemmas.{ending_front, ending_more, first_more, long_line}
use Rattle.ftp_lines.proofs.PartLemmas.{unended_part-lf, unended_part-other}
use Rattle.ftp_lines.specs.Reply.{ending_code, first_code, first_reply, unended_part}
use Rattle.fw_outside.specs.LineReaderView.{LineReaderView, ReadsByte, rest_of}
use Rattle.fw_outside.specs.SinkView.{Cut, SinkView}
use Rattle.fw_outside.specs.SourceView.{SourceView}
use Rattle.fw_outside.specs.ToldList.{grown, preceded}
use Rattle.fw_outside.specs.declared.heard.Stop.{Stop}
use Rattle.fw_outside.specs.declared.heard.Stop.TheVariants as stops
use Rattle.session_acts.specs.Greeting.{GivesHead, PassesBy, code_told, head_after}
use Rattle.session_acts.specs.Replying.{code_with, greeting_said, is_welcome, or_code, reply_code, said_behind, said_once, unless_welcome}

nothing_behind : said_behind [] [] ≡ []
nothing_behind = refl

-- nothing of a greeting that didn't begin is said
pub nothing_greets : greeting_said [] ≡ []
unfolding greeting_said
nothing_greets = refl

-- ---- the line that is held back

-- at most five bytes of a line are kept
kept_front : (line : List ℕ) (byte : ℕ) → take 5 (take 5 line ++ byte ∷ []) ≡ take 5 (line ++ byte ∷ [])
kept_front [] byte = refl
kept_front (a ∷ []) byte = refl
kept_front (a ∷ b ∷ []) byte = refl
kept_front (a ∷ b ∷ c ∷ []) byte = refl
kept_front (a ∷ b ∷ c ∷ d ∷ []) byte = refl
kept_front (a ∷ b ∷ c ∷ d ∷ e ∷ more) byte = refl

few_or_many : (line : List ℕ) → (length line ≤ 4) ⊎ (4 < length line)
few_or_many [] = inl (omega (arith))
few_or_many (a ∷ []) = inl (omega (arith))
few_or_many (a ∷ b ∷ []) = inl (omega (arith))
few_or_many (a ∷ b ∷ c ∷ []) = inl (omega (arith))
few_or_many (a ∷ b ∷ c ∷ d ∷ []) = inl (omega (arith))
few_or_many (a ∷ b ∷ c ∷ d ∷ e ∷ more) = inr (omega (arith))

-- and all of a short one
take_few : (line : List ℕ) (byte : ℕ) → length line ≤ 4 → take 5 (line ++ byte ∷ []) ≡ line ++ byte ∷ []
take_few [] byte few = refl
take_few (a ∷ []) byte few = refl
take_few (a ∷ b ∷ []) byte few = refl
take_few (a ∷ b ∷ c ∷ []) byte few = refl
take_few (a ∷ b ∷ c ∷ d ∷ []) byte few = refl
take_few (a ∷ b ∷ c ∷ d ∷ e ∷ more) byte few = absurd (omega (arith, few))

-- of the line that goes on these bytes are kept, and it tells no code
pub record Heading (fed head : List ℕ) : Type 0 where
  pub head_is : head ≡ take 5 (unended_part fed)
  pub leads : (rest : List ℕ) → greeting_said (fed ++ rest) ≡ said_behind fed rest
  pub untold : 4 ≤ length (unended_part fed) → (first_code fed ≡ None) × (ending_code (unended_part fed) ≡ None)

empty_line : unended_part [] ≡ []
empty_line = refl

leads_first : (rest : List ℕ) → greeting_said rest ≡ said_behind [] rest
unfolding greeting_said
leads_first rest = refl

pub heading_none : Heading [] []
heading_none = record { head_is = refl; leads = leads_first; untold = λ many. absurd (omega (arith, many)) }

-- what is said once a byte came
next_leads : (fed : List ℕ) (byte : ℕ) (code : Option ℕ) → code_with fed byte ≡ code → ((rest : List ℕ) → greeting_said (fed ++ rest) ≡ said_behind fed rest) → (rest : List ℕ)
    → greeting_said ((fed ++ byte ∷ []) ++ rest) ≡ said_once code (unended_part fed ++ byte ∷ rest) (said_behind (fed ++ byte ∷ []) rest)
next_leads fed byte code told leads rest =
    ap greeting_said (append_assoc fed (byte ∷ []) rest) ∙ leads (byte ∷ rest) ∙ ap (λ (c : Option ℕ). said_once c (unended_part fed ++ byte ∷ rest) (said_behind (fed ++ byte ∷ []) rest)) told

head_next : (fed head : List ℕ) (byte : ℕ) → (byte == 10) ≡ false → Heading fed head → head_after head byte ≡ take 5 (unended_part (fed ++ byte ∷ []))
head_next fed head byte other h =
    ap (λ (l : List ℕ). take 5 (l ++ byte ∷ [])) h.head_is ∙ kept_front (unended_part fed) byte ∙ ap (take 5) (sym (unended_part-other fed byte other))

-- the code that is told is that of the greeting
if_other : {A : Type 0} (b : Bool) (one other : A) → b ≡ false → (if b then one else other) ≡ other
if_other true one other is = absurd (cc)
if_other false one other is = refl

if_lf : {A : Type 0} (b : Bool) (one other : A) → b ≡ true → (if b then one else other) ≡ one
if_lf true one other is = refl
if_lf false one other is = absurd (cc)

told_with : (fed head : List ℕ) (byte : ℕ) → (byte == 10) ≡ false → Heading fed head → code_told (fed ++ byte ∷ []) (head_after head byte) ≡ code_with fed byte
told_with fed head byte other h =
    let all = fed ++ byte ∷ [] in
    ap (λ (l : List ℕ). or_code (first_code all) (ending_code l)) (head_next fed head byte other h)
    ∙ ap (λ (o : Option ℕ). or_code (first_code all) o) (ending_front (unended_part all))
    ∙ sym (if_other (byte == 10) (reply_code (first_reply all)) (or_code (first_code all) (ending_code (unended_part all))) other)

neither : (one other : Option ℕ) → or_code one other ≡ None → (one ≡ None) × (other ≡ None)
neither None other none = (refl, none)
neither (Some code) other none = absurd (cc)

-- a byte more, with which none is told
pub heading_more : (fed head : List ℕ) (byte : ℕ) → (byte == 10) ≡ false → Heading fed head → code_told (fed ++ byte ∷ []) (head_after head byte) ≡ None → Heading (fed ++ byte ∷ []) (head_after head byte)
heading_more fed head byte other h none =
    let all = fed ++ byte ∷ [] in
    let none_with : code_with fed byte ≡ None = sym (told_with fed head byte other h) ∙ none in
    let both = neither (first_code all) (ending_code (unended_part all)) (sym (if_other (byte == 10) (reply_code (first_reply all)) (or_code (first_code all) (ending_code (unended_part all))) other) ∙ none_with) in
    record {
      head_is = head_next fed head byte other h;
      leads = next_leads fed byte None none_with h.leads;
      untold = λ many. both;
    }

-- the end of a line that doesn't end the greeting
pub heading_line : (fed head : List ℕ) (byte : ℕ) → (byte == 10) ≡ true → byte ≡ 10 → Heading fed head → first_reply (fed ++ byte ∷ []) ≡ None → Heading (fed ++ byte ∷ []) []
heading_line fed head byte lf ten h none =
    let all = fed ++ byte ∷ [] in
    let none_with : code_with fed byte ≡ None = if_lf (byte == 10) (reply_code (first_reply all)) (or_code (first_code all) (ending_code (unended_part all))) lf ∙ ap reply_code none in
    let no_line : unended_part all ≡ [] = ap (λ (b : ℕ). unended_part (fed ++ b ∷ [])) ten ∙ unended_part-lf fed in
    record {
      head_is = sym (ap (take 5) no_line);
      leads = next_leads fed byte None none_with h.leads;
      untold = λ many. (let few : 4 ≤ 0 = subst (λ (l : List ℕ). 4 ≤ length l) no_line many in absurd (omega (arith, few)));
    }

-- ---- where a code is told

-- then the line is short, and all of it is kept
short_by : (fed head : List ℕ) (byte code : ℕ) → (byte == 10) ≡ false → Heading fed head → code_with fed byte ≡ Some code → (length (unended_part fed) ≤ 4) ⊎ (4 < length (unended_part fed)) → length (unended_part fed) ≤ 4
short_by fed head byte code other h told (inl few) = few
short_by fed head byte code other h told (inr many) =
    let all = fed ++ byte ∷ [] in
    let enough : 4 ≤ length (unended_part fed) = omega (arith, many) in
    let none = h.untold enough in
    let first : first_code all ≡ None = first_more fed byte other enough ∙ none.0 in
    let ending : ending_code (unended_part all) ≡ None = ap ending_code (unended_part-other fed byte other) ∙ ending_more (unended_part fed) byte enough ∙ none.1 in
    let untold : code_with fed byte ≡ None =
    if_other (byte == 10) (reply_code (first_reply all)) (or_code (first_code all) (ending_code (unended_part all))) other ∙ ap (λ (o : Option ℕ). or_code o (ending_code (unended_part all))) first ∙ ending in
    let clash : None ≡ Some code = sym untold ∙ told in
    absurd (cc)

pub all_kept : (fed head : List ℕ) (byte : ℕ) → Heading fed head → length (unended_part fed) ≤ 4 → head_after head byte ≡ unended_part fed ++ byte ∷ []
all_kept fed head byte h few = ap (λ (l : List ℕ). take 5 (l ++ byte ∷ [])) h.head_is ∙ kept_front (unended_part fed) byte ∙ take_few (unended_part fed) byte few

-- what is said of a greeting from the byte on with which its code is told
pub record ToldAt (fed head : List ℕ) (byte code : ℕ) : Type 0 where
  pub kept : List ℕ
  pub is_kept : head_after head byte ≡ kept
  pub said : (rest : List ℕ) → greeting_said ((fed ++ byte ∷ []) ++ rest) ≡ unless_welcome code (kept ++ rest)

line_and : (fed : List ℕ) (byte code : ℕ) (rest : List ℕ) → unless_welcome code (unended_part fed ++ byte ∷ rest) ≡ unless_welcome code ((unended_part fed ++ byte ∷ []) ++ rest)
line_and fed byte code rest = ap (unless_welcome code) (sym (append_assoc (unended_part fed) (byte ∷ []) rest))

pub told_at : (fed head : List ℕ) (byte code : ℕ) → (byte == 10) ≡ false → Heading fed head → code_told (fed ++ byte ∷ []) (head_after head byte) ≡ Some code → ToldAt fed head byte code
told_at fed head byte code other h told =
    let with_code : code_with fed byte ≡ Some code = sym (told_with fed head byte other h) ∙ told in
    let few = short_by fed head byte code other h with_code (few_or_many (unended_part fed)) in
    record {
      kept = unended_part fed ++ byte ∷ [];
      is_kept = all_kept fed head byte h few;
      said = λ rest. next_leads fed byte (Some code) with_code h.leads rest ∙ line_and fed byte code rest;
    }

short_line : (fed head : List ℕ) (n code : ℕ) → Heading fed head → first_reply fed ≡ None → first_reply (fed ++ 10 ∷ []) ≡ Some (n, code) → (length (unended_part fed) ≤ 4) ⊎ (4 < length (unended_part fed)) → length (unended_part fed) ≤ 4
short_line fed head n code h unended ends (inl few) = few
short_line fed head n code h unended ends (inr many) = absurd (long_line fed n code unended ends (h.untold (omega (arith, many))).1 many)

-- or of one that ends there
pub told_last : (fed head : List ℕ) (byte n code : ℕ) → byte ≡ 10 → Heading fed head → first_reply fed ≡ None → first_reply (fed ++ byte ∷ []) ≡ Some (n, code) → greeting_said (fed ++ byte ∷ []) ≡ unless_welcome code (head_after head byte)
told_last fed head byte n code ten h unended ends =
    let all = fed ++ byte ∷ [] in
    let lf : (byte == 10) ≡ true = ap (λ (b : ℕ). b == 10) ten in
    let with_code : code_with fed byte ≡ Some code = if_lf (byte == 10) (reply_code (first_reply all)) (or_code (first_code all) (ending_code (unended_part all))) lf ∙ ap reply_code ends in
    let here : first_reply (fed ++ 10 ∷ []) ≡ Some (n, code) = ap (λ (b : ℕ). first_reply (fed ++ b ∷ [])) (sym ten) ∙ ends in
    let few = short_line fed head n code h unended here (few_or_many (unended_part fed)) in
    ap greeting_said (sym (append-nil all)) ∙ next_leads fed byte (Some code) with_code h.leads [] ∙ ap (unless_welcome code) (sym (all_kept fed head byte h few))

-- where none was told, nothing is said
pub none_said : (fed head : List ℕ) → Heading fed head → greeting_said fed ≡ []
none_said fed head h = ap greeting_said (sym (append-nil fed)) ∙ h.leads []
