-- The first reply of a text is that of its first bytes, whatever follows them (RFC 959, 4.2).
use Rattle.std.proofs.Common.{◌≡◌, ℕ, ◌+◌, ◌<◌, ◌≤◌, Bool, true, false, cond, List, [], ◌∷◌, ◌++◌, length, take, drop, refl, sym, ap, ◌∙◌, subst, arith, append_assoc, append-nil, length-append}
use Rattle.std.specs.Prelude.{not, Option, Some, None}
use Rattle.std.specs.List.{find, take_while}
use Rattle.std.proofs.lemmas.Bool.{eqb-true}
use Rattle.std.proofs.lemmas.List.{length-take, take-append-drop, take_at}
use Rattle.std.proofs.lemmas.List.Folds.{find-append}
use Rattle.std.proofs.lemmas.List.Sums.{take_while-cons}
use Rattle.fw_outside.specs.Lines.{is_lf}
use Rattle.ftp_lines.specs.Opening.{awaited, closing_code, opening_of}
use Rattle.ftp_lines.specs.Reply.{IsFirst, ended_parts, ends_reply, first_reply, without_end, measured, opening_code, reply_in, first_of_lines, unended_part}
use Rattle.ftp_lines.proofs.PartLemmas.{ended_parts-lf, ended_parts-other}
use Rattle.ftp_lines.proofs.ReplyLemmas.{answered, first_reply-empty, first_reply-lf, first_reply-other}

-- the part that ends a reply
pub record Found (last : Option (List ℕ)) : Type 0 where
  pub part : List ℕ
  pub is : last ≡ Some part

pub found_in : (before : List (List ℕ)) (last : Option (List ℕ)) (reply : ℕ × ℕ) → measured before last ≡ Some reply → Found last
found_in before None reply h = absurd (cc)
found_in before (Some part) reply h = record { part = part; is = refl }

find_kept : (ends : List ℕ → Bool) (parts : List (List ℕ)) (part last : List ℕ) → find ends parts ≡ Some last → find ends (parts ++ part ∷ []) ≡ Some last
find_kept ends parts part last is = find-append ends parts (part ∷ []) ∙ rw is refl

while_kept_by : (b : Bool) (first last : List ℕ) (o : Option (List ℕ)) (front back : List (List ℕ)) → cond b (Some first) o ≡ Some last → (o ≡ Some last → front ≡ back)
    → cond (not b) (first ∷ front) [] ≡ cond (not b) (first ∷ back) []
while_kept_by true first last o front back is more = refl
while_kept_by false first last o front back is more = ap (λ ps. first ∷ ps) (more is)

while_kept : (ends : List ℕ → Bool) (parts : List (List ℕ)) (part last : List ℕ) → find ends parts ≡ Some last
    → take_while (λ p. not (ends p)) (parts ++ part ∷ []) ≡ take_while (λ p. not (ends p)) parts
while_kept ends [] part last is = absurd (cc)
while_kept ends (first ∷ parts) part last is =
    take_while-cons (λ p. not (ends p)) first (parts ++ part ∷ [])
    ∙ while_kept_by (ends first) first last (find ends parts) _ _ is (λ rest. while_kept ends parts part last rest)
    ∙ sym (take_while-cons (λ p. not (ends p)) first parts)

reply_of_kept : (ends : List ℕ → Bool) (parts : List (List ℕ)) (part : List ℕ) (reply : ℕ × ℕ) → first_of_lines ends parts ≡ Some reply → first_of_lines ends (parts ++ part ∷ []) ≡ Some reply
reply_of_kept ends parts part reply is =
    let last = found_in (take_while (λ p. not (ends p)) parts) (find ends parts) reply is in
    rw (find_kept ends parts part last.part last.is, while_kept ends parts part last.part last.is) (rw last.is at is)

reply_in_kept : (parts : List (List ℕ)) (part : List ℕ) (reply : ℕ × ℕ) → reply_in parts ≡ Some reply → reply_in (parts ++ part ∷ []) ≡ Some reply
reply_in_kept [] part reply is = absurd (cc (is))
reply_in_kept (first ∷ parts) part reply is = reply_of_kept (λ p. ends_reply (opening_code (without_end first)) (without_end p)) (first ∷ parts) part reply is

byte_kept_by : (text : List ℕ) (b : ℕ) (reply : ℕ × ℕ) (lf : Bool) → is_lf b ≡ lf → first_reply text ≡ Some reply → first_reply (text ++ b ∷ []) ≡ Some reply
unfolding first_reply
byte_kept_by text b reply true lf is =
    let ten : b ≡ 10 = eqb-true b 10 lf in
    rw ten (ap reply_in (ended_parts-lf text) ∙ reply_in_kept (ended_parts text) (unended_part text) reply is)
byte_kept_by text b reply false lf is = ap reply_in (ended_parts-other text b lf) ∙ is

byte_kept : (text : List ℕ) (b : ℕ) (reply : ℕ × ℕ) → first_reply text ≡ Some reply → first_reply (text ++ b ∷ []) ≡ Some reply
byte_kept text b reply is = byte_kept_by text b reply (is_lf b) refl is

kept : (more text : List ℕ) (reply : ℕ × ℕ) → first_reply text ≡ Some reply → first_reply (text ++ more) ≡ Some reply
kept [] text reply is = ap first_reply (append-nil text) ∙ is
kept (b ∷ bs) text reply is = ap first_reply (sym (append_assoc text (b ∷ []) bs)) ∙ kept bs (text ++ b ∷ []) reply (byte_kept text b reply is)

-- what follows a reply doesn't change it
pub stays : (text more : List ℕ) (count code : ℕ) → first_reply text ≡ Some (count, code) → first_reply (text ++ more) ≡ Some (count, code)
stays text more count code is = kept more text (count, code) is

answered_count : (n : ℕ) (o : Option ℕ) (reply : ℕ × ℕ) → answered n o ≡ Some reply → reply.0 ≡ n
answered_count n None reply h = absurd (cc)
answered_count n (Some code) reply h =
    let same : (n, code) ≡ reply = cc in
    sym (ap (λ (r : ℕ × ℕ). r.0) same)

-- the byte that ends the first reply is its last one
count_by : (text : List ℕ) (b : ℕ) (reply : ℕ × ℕ) (lf : Bool) → is_lf b ≡ lf → first_reply text ≡ None → first_reply (text ++ b ∷ []) ≡ Some reply → reply.0 ≡ length text + 1
count_by text b reply true lf none is =
    let ten : b ≡ 10 = eqb-true b 10 lf in
    let lf_is : first_reply (text ++ 10 ∷ []) ≡ Some reply = ap (λ x. first_reply (text ++ x ∷ [])) (sym ten) ∙ is in
    answered_count (length text + 1) (closing_code (awaited (opening_of (ended_parts text))) (without_end (unended_part text))) reply (sym (first_reply-lf text none) ∙ lf_is)
count_by text b reply false lf none is = let other = first_reply-other text b lf in absurd (cc (other, none, is))

-- the beginning of a text that is its first reply
record Cut (text : List ℕ) (reply : ℕ × ℕ) : Type 0 where
  front : List ℕ
  back : List ℕ
  whole : text ≡ front ++ back
  count : reply.0 ≡ length front
  is : first_reply front ≡ Some reply

cut_at : (front back : List ℕ) (b : ℕ) (reply : ℕ × ℕ) (o : Option (ℕ × ℕ)) → first_reply front ≡ None → first_reply (front ++ b ∷ []) ≡ o
    → first_reply (front ++ b ∷ back) ≡ Some reply → (o ≡ None → Cut ((front ++ b ∷ []) ++ back) reply) → Cut (front ++ b ∷ back) reply
cut_at front back b reply None none is whole more =
    let P : List ℕ → Type 0 = λ t. Cut t reply in
    subst P (append_assoc front (b ∷ []) back) (more refl)
cut_at front back b reply (Some other) none is whole more =
    let later = kept back (front ++ b ∷ []) other is in
    let joined : first_reply (front ++ b ∷ back) ≡ Some other = ap first_reply (sym (append_assoc front (b ∷ []) back)) ∙ later in
    let same : other ≡ reply = cc (joined, whole) in
    let count = count_by front b other (is_lf b) refl none is in
    let long = length-append front (b ∷ []) in
    let Q : ℕ × ℕ → Type 0 = λ r. first_reply (front ++ b ∷ []) ≡ Some r in
    record {
      front = front ++ b ∷ [];
      back = back;
      whole = sym (append_assoc front (b ∷ []) back);
      count = sym (ap (λ (r : ℕ × ℕ). r.0) same) ∙ count ∙ sym long;
      is = subst Q same is;
    }

cut_from : (back front : List ℕ) (reply : ℕ × ℕ) → first_reply front ≡ None → first_reply (front ++ back) ≡ Some reply → Cut (front ++ back) reply
cut_from [] front reply none is = let same = ap first_reply (append-nil front) in absurd (cc (same, none, is))
cut_from (b ∷ back) front reply none is =
    cut_at front back b reply (first_reply (front ++ b ∷ [])) none refl is
    (λ next. cut_from back (front ++ b ∷ []) reply next (ap first_reply (append_assoc front (b ∷ []) back) ∙ is))

cut : (text : List ℕ) (reply : ℕ × ℕ) → first_reply text ≡ Some reply → Cut text reply
cut text reply is = cut_from text [] reply first_reply-empty is

alone : (text : List ℕ) (reply : ℕ × ℕ) → Cut text reply → first_reply (take reply.0 text) ≡ Some reply
alone text reply c =
    let front : take reply.0 text ≡ c.front = ap (take reply.0) c.whole ∙ take_at c.front c.back reply.0 (sym c.count) in
    ap first_reply front ∙ c.is

within : (text : List ℕ) (reply : ℕ × ℕ) → Cut text reply → reply.0 ≤ length text
within text reply c =
    let whole = ap length c.whole in
    let long = length-append c.front c.back in
    omega (arith, whole, long, c.count)

-- nothing shorter than the first reply has one
least_by : (text : List ℕ) (reply : ℕ × ℕ) (at : ℕ) (o : Option (ℕ × ℕ)) → first_reply text ≡ Some reply → at < reply.0 → first_reply (take at text) ≡ o → o ≡ None
least_by text reply at None is less early = refl
least_by text reply at (Some other) is less early =
    let joined : first_reply text ≡ Some other = ap first_reply (sym (take-append-drop at text)) ∙ kept (drop at text) (take at text) other early in
    let same : other ≡ reply = cc (joined, is) in
    let fits = within (take at text) other (cut (take at text) other early) in
    let short = length-take at text in
    let equal = ap (λ (r : ℕ × ℕ). r.0) same in
    absurd (omega (arith, fits, short, equal, less))

pub is_first : (text : List ℕ) (count code : ℕ) → first_reply text ≡ Some (count, code) → IsFirst text count code
is_first text count code is =
    let found = cut text (count, code) is in
    record {
      within = within text (count, code) found;
      alone = alone text (count, code) found;
      least = λ at less. least_by text (count, code) at (first_reply (take at text)) is less refl;
    }
