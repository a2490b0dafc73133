-- From the lines that were heard to the text that was left.
use Rattle.std.proofs.Common.{◌≡◌, ℕ, ◌+◌, ◌<◌, ◌≤◌, ◌^◌, Bool, true, false, cond, nat_le, List, [], ◌∷◌, ◌++◌, ◌⊎◌, inl, inr, length, refl, sym, ap, subst, ◌∙◌, arith, append_assoc, length-append}
use Rattle.std.specs.Prelude.{Option, Some, None, Result, Ok, Err}
use Rattle.std.specs.List.{list_any}
use Rattle.std.specs.Str.Lines.{strip_carriage_return}
use Rattle.std.proofs.lemmas.Bool.{le-leb, eqb-true}
use Rattle.std.proofs.lemmas.Bool.Decides.{nat_tests}
use Rattle.std.proofs.lemmas.List.{append-nil}
use Rattle.std.proofs.lemmas.List.Folds.{list_any-append}
use Rattle.fw_outside.specs.LineReaderView.{LineReaderView, Listens, TookBytes, rest_of}
use Rattle.fw_outside.specs.Lines.{first_line, is_lf}
use Rattle.fw_outside.specs.SourceView.{SourceView}
use Rattle.fw_outside.specs.ToldList.{preceded, IsOver}
use Rattle.arrayvec.specs.ArrayVec.{ArrayVec}
use Rattle.std.specs.Option.{ok_or}
use Rattle.fw_outside.specs.declared.heard.Heard.{Heard}
use Rattle.fw_outside.specs.declared.heard.Heard.TheVariants.{Line, TooLong, Stopped}
use Rattle.fw_outside.specs.declared.heard.Stop.TheVariants as stops
use Rattle.fw_outside.proofs.LineLemmas.{first_line_is, no_first_line, none_in}
use Rattle.fw_outside.proofs.ListenLemmas.{pulled_on}
use Rattle.otp_md5.specs.Passwords.{password}
use Rattle.otp_words.specs.declared.task.TaskFault.{TaskFault}
use Rattle.otp_words.specs.declared.task.TaskFault.TheVariants.{Challenge, Failed}
use Rattle.otp_words.specs.Challenge.{challenge_of}
use Rattle.otp_words.specs.Hearing.{HearsAs, HearsTask, IsAnswerOf, StopsWith, challenge_said, phrase_said}
use Rattle.otp_words.specs.Task.{is_phrase, password_after, password_asked, password_for}
use Rattle.otp_words.proofs.LineLemmas.{Cut, Front, ended, front_of, stripped_least, unended}

-- ---- first lines

cut_line : (text : List ℕ) (cut : Cut text) → first_line text ≡ Some (strip_carriage_return cut.line, cut.rest)
cut_line text cut = ap first_line cut.is ∙ first_line_is cut.line cut.rest (none_in cut.line cut.one)

-- the line of these bytes is that of a text that begins with them
pub record LineOf (bytes rest line : List ℕ) : Type 0 where
  pub is : first_line (bytes ++ rest) ≡ Some (line, rest)
  pub few : length bytes ≤ length line + 2

abbrev line_in : Option (List ℕ × List ℕ) → List ℕ
line_in None = []
line_in (Some line) = line.0

abbrev more_in : Option (List ℕ × List ℕ) → List ℕ
more_in None = []
more_in (Some line) = line.1

firsts : (a b c d : List ℕ) → ◌≡◌ {A = Option (List ℕ × List ℕ)} (Some (a, b)) (Some (c, d)) → a ≡ c
firsts a b c d h = ap line_in h

seconds : (a b c d : List ℕ) → ◌≡◌ {A = Option (List ℕ × List ℕ)} (Some (a, b)) (Some (c, d)) → b ≡ d
seconds a b c d h = ap more_in h

line_by : (bytes rest line : List ℕ) → Front bytes → first_line bytes ≡ Some (line, []) → LineOf bytes rest line
line_by bytes rest line (unended one) is = absurd (let no : None ≡ Some (line, []) = sym (no_first_line bytes (none_in bytes one)) ∙ is in cc)
line_by bytes rest line (ended cut) is =
    let both : ◌≡◌ {A = Option (List ℕ × List ℕ)} (Some (strip_carriage_return cut.line, cut.rest)) (Some (line, [])) = sym (cut_line bytes cut) ∙ is in
    let stripped : strip_carriage_return cut.line ≡ line = firsts (strip_carriage_return cut.line) cut.rest line [] both in
    let none : cut.rest ≡ [] = seconds (strip_carriage_return cut.line) cut.rest line [] both in
    let whole : bytes ++ rest ≡ cut.line ++ 10 ∷ rest = ap (λ b. b ++ rest) (cut.is ∙ ap (λ r. cut.line ++ 10 ∷ r) none) ∙ append_assoc cut.line (10 ∷ []) rest in
    let long : length bytes ≡ length cut.line + length (10 ∷ cut.rest) = ap length cut.is ∙ length-append cut.line (10 ∷ cut.rest) in
    let least = stripped_least cut.line in
    let empty : length cut.rest ≡ 0 = ap length none in
    let same : length (strip_carriage_return cut.line) ≡ length line = ap length stripped in
    record {
      is = ap first_line whole ∙ first_line_is cut.line rest (none_in cut.line cut.one) ∙ ap (λ l. Some (l, rest)) stripped;
      few = omega (arith, long, least, empty, same);
    }

line_of : (bytes rest line : List ℕ) → first_line bytes ≡ Some (line, []) → LineOf bytes rest line
line_of bytes rest line is = line_by bytes rest line (front_of bytes) is

-- no line, or one that is too long
abbrev pub NoLine : Option (List ℕ × List ℕ) → Type 0
NoLine None = Unit {0}
NoLine (Some line) = 512 < length line.0

lacks_by : (bytes : List ℕ) → Front bytes → first_line bytes ≡ None → list_any is_lf bytes ≡ false
lacks_by bytes (unended one) is = none_in bytes one
lacks_by bytes (ended cut) is = absurd (let no : Some (strip_carriage_return cut.line, cut.rest) ≡ None = sym (cut_line bytes cut) ∙ is in cc)

long_by : (bytes rest : List ℕ) → list_any is_lf bytes ≡ false → 514 < length bytes → Front rest → NoLine (first_line (bytes ++ rest))
long_by bytes rest none long (unended one) =
    rw (no_first_line (bytes ++ rest) (list_any-append is_lf bytes rest ∙ rw (none, none_in rest one) refl)) tt
long_by bytes rest none long (ended cut) =
    let whole : bytes ++ rest ≡ (bytes ++ cut.line) ++ 10 ∷ cut.rest = ap (λ r. bytes ++ r) cut.is ∙ sym (append_assoc bytes cut.line (10 ∷ cut.rest)) in
    let lacks : list_any is_lf (bytes ++ cut.line) ≡ false = list_any-append is_lf bytes cut.line ∙ rw (none, none_in cut.line cut.one) refl in
    let least = stripped_least (bytes ++ cut.line) in
    rw (whole, first_line_is (bytes ++ cut.line) cut.rest lacks) (omega (arith, least, length-append bytes cut.line, long))

no_line : (bytes rest : List ℕ) → first_line bytes ≡ None → (rest ≡ []) ⊎ (514 < length bytes) → NoLine (first_line (bytes ++ rest))
no_line bytes rest none (inl over) = rw (over, append-nil bytes, none) tt
no_line bytes rest none (inr long) = long_by bytes rest (lacks_by bytes (front_of bytes) none) long (front_of rest)

-- ---- what they say

too_long : (n : ℕ) → 512 < n → nat_le n 512 ≡ false
too_long n long = grind (arith, nat_tests)

no_phrase : (line : List ℕ) → 512 < length line → is_phrase line ≡ false
no_phrase line long = grind (arith, nat_tests)

none_first : (first : Option (List ℕ × List ℕ)) → NoLine first → password_after first ≡ None
none_first None h = refl
none_first (Some line) h = rw (too_long (length line.0) h) refl

none_second : (asked : Option (ℕ × List ℕ)) (second : Option (List ℕ × List ℕ)) → NoLine second → password_for asked second ≡ None
none_second None second h = refl
none_second (Some asked) None h = refl
none_second (Some asked) (Some line) h = rw (no_phrase line.0 h) refl

none_asked : (second : Option (List ℕ × List ℕ)) → password_for None second ≡ None
none_asked second = refl

-- ---- what was heard

-- a reader that may take nearly all bytes
abbrev pub Wide : LineReaderView → Type 0
Wide reader = 2 ^ 40 ≤ length reader.pending + reader.room + 600

abbrev IsMissed : Heard → Type 0
IsMissed (Line line) = ⊥
IsMissed TooLong = Unit {0}
IsMissed (Stopped stops.End) = Unit {0}
IsMissed (Stopped stops.Spent) = Unit {0}
IsMissed (Stopped stops.Idle) = ⊥
IsMissed (Stopped stops.Failed) = ⊥

over_rest : (left : Option (List ℕ)) (pending rest : List ℕ) → pending ≡ [] → IsOver left → preceded pending left ≡ Some rest → rest ≡ []
over_rest None pending rest empty over is = absurd (cc)
over_rest (Some more) pending rest empty over is =
    let whole : pending ++ more ≡ rest = cc in
    sym whole ∙ rw (empty, over) refl

missed : (heard : Heard) (old new : LineReaderView) (before after : SourceView) (l : Listens heard old new before after) → length new.pending ≤ 4096 → Wide old → IsMissed heard
    → (rest : List ℕ) → rest_of new after ≡ Some rest → NoLine (first_line (l.bytes ++ rest))
missed (Line line) old new before after l near wide due rest is = absurd due
missed TooLong old new before after l near wide due rest is = rw ((line_of l.bytes rest l.is_heard.line l.is_heard.is).is) l.is_heard.long
missed (Stopped stops.End) old new before after l near wide due rest is =
    no_line l.bytes rest l.is_heard (inl (over_rest after.left new.pending rest l.closes.0 (rw l.closes.1.is l.closes.1.over) is))
missed (Stopped stops.Spent) old new before after l near wide due rest is =
    let spent : new.room ≡ 0 = eqb-true new.room 0 (sym l.spent) in
    let whole = ap length l.reads.reader in
    let first = length-append old.pending l.reads.taken_now in
    let then_ = length-append l.bytes new.pending in
    no_line l.bytes rest l.is_heard (inr (omega (arith, spent, whole, first, then_, l.reads.room, near, wide)))
missed (Stopped stops.Idle) old new before after l near wide due rest is = absurd due
missed (Stopped stops.Failed) old new before after l near wide due rest is = absurd due

-- ---- what is told

record Split (bytes : List ℕ) (after : Option (List ℕ)) (text : List ℕ) : Type 0 where
  rest : List ℕ
  after_is : after ≡ Some rest
  is : text ≡ bytes ++ rest

split : (bytes text : List ℕ) (after : Option (List ℕ)) → preceded bytes after ≡ Some text → Split bytes after text
split bytes text None h = absurd (cc)
split bytes text (Some rest) h = record { rest = rest; after_is = refl; is = (let same : bytes ++ rest ≡ text = cc in sym same) }

told_by : (left after : Option (List ℕ)) (bytes : List ℕ) (answer : Result ℕ TaskFault) → left ≡ preceded bytes after → ((rest : List ℕ) → after ≡ Some rest → IsAnswerOf (Some (bytes ++ rest)) answer) → IsAnswerOf left answer
told_by None after bytes answer h says = tt
told_by (Some text) after bytes answer h says =
    let s = split bytes text after (sym h) in
    rw s.is (says s.rest s.after_is)

unasked : (text : List ℕ) → NoLine (first_line text) → IsAnswerOf (Some text) (Err Challenge)
unfolding password_asked
unasked text h = none_first (first_line text) h

-- the first line
asked_by : (text line rest : List ℕ) → first_line text ≡ Some (line, rest) → length line ≤ 512 → password_asked text ≡ password_for (challenge_of line) (first_line rest)
unfolding password_asked
asked_by text line rest is fits = rw (is, le-leb (length line) 512 fits) refl

-- ---- one line

nil_left : (left : Option (List ℕ)) → left ≡ preceded [] left
nil_left None = refl
nil_left (Some left) = refl

-- a reader that holds nothing
start_left : (reader : LineReaderView) (source : SourceView) → reader.pending ≡ [] → source.left ≡ rest_of reader source
start_left reader source empty = rw empty (nil_left source.left)

abbrev pub first_reader : LineReaderView
first_reader = record { pending = []; room = 2 ^ 40 }

first_wide : Wide first_reader
first_wide = omega arith

failed_says : (left : Option (List ℕ)) → IsAnswerOf left (Err Failed)
failed_says None = tt
failed_says (Some text) = tt

-- ---- the first line

one_heard : (heard : Heard) (answer : Result ℕ TaskFault) (new : LineReaderView) (before after : SourceView) (l : Listens heard first_reader new before after) → IsAnswerOf before.left answer → StopsWith answer l.middle after
    → HearsTask answer before after
one_heard heard answer new before after l is stops = record {
  is = is;
  bytes = l.reads.taken_now;
  middle = l.middle;
  took = l.reads.takes;
  few = omega (arith, l.reads.room);
  stops = stops;
}

first_missed : (heard : Heard) (new : LineReaderView) (before after : SourceView) (l : Listens heard first_reader new before after) → length new.pending ≤ 4096 → IsMissed heard → IsAnswerOf before.left (Err Challenge)
first_missed heard new before after l near due =
    told_by before.left (rest_of new after) l.bytes (Err Challenge) (start_left first_reader before refl ∙ l.rest)
    (λ rest is. unasked (l.bytes ++ rest) (missed heard first_reader new before after l near first_wide due rest is))

none_by : (o : Option (ℕ × List ℕ)) (e : TaskFault) → ok_or o Challenge ≡ Err e → (Challenge ≡ e) × (o ≡ None)
none_by None e h = (cc, refl)
none_by (Some asked) e h = absurd (cc)

first_unread : (line : ArrayVec ℕ) (new : LineReaderView) (before after : SourceView) (l : Listens (Line line) first_reader new before after) → challenge_of line.items ≡ None → IsAnswerOf before.left (Err Challenge)
first_unread line new before after l none =
    told_by before.left (rest_of new after) l.bytes (Err Challenge) (start_left first_reader before refl ∙ l.rest)
    (λ rest is.
    let first = line_of l.bytes rest line.items l.is_heard.is in
    asked_by (l.bytes ++ rest) line.items rest first.is l.is_heard.fits ∙ ap (λ o. password_for o (first_line rest)) none)

same_fault : (a e : TaskFault) → ◌≡◌ {A = Result (ℕ × List ℕ) TaskFault} (Err a) (Err e) → a ≡ e
same_fault a e h = cc

first_by : (heard : Heard) (e : TaskFault) (new : LineReaderView) (before after : SourceView) (l : Listens heard first_reader new before after) → length new.pending ≤ 4096 → challenge_said heard ≡ Err e → HearsTask (Err e) before after
first_by (Line line) e new before after l near is =
    let why = none_by (challenge_of line.items) e is in
    let P : TaskFault → Type 0 = λ f. HearsTask (Err f) before after in
    subst P why.0 (one_heard (Line line) (Err Challenge) new before after l (first_unread line new before after l why.1) l.closes)
first_by TooLong e new before after l near is =
    let P : TaskFault → Type 0 = λ f. HearsTask (Err f) before after in
    subst P (same_fault Challenge e is) (one_heard TooLong (Err Challenge) new before after l (first_missed TooLong new before after l near tt) l.closes)
first_by (Stopped stops.End) e new before after l near is =
    let P : TaskFault → Type 0 = λ f. HearsTask (Err f) before after in
    subst P (same_fault Challenge e is) (one_heard (Stopped stops.End) (Err Challenge) new before after l (first_missed (Stopped stops.End) new before after l near tt) l.closes.1.is)
first_by (Stopped stops.Spent) e new before after l near is =
    let P : TaskFault → Type 0 = λ f. HearsTask (Err f) before after in
    subst P (same_fault Challenge e is) (one_heard (Stopped stops.Spent) (Err Challenge) new before after l (first_missed (Stopped stops.Spent) new before after l near tt) l.closes)
first_by (Stopped stops.Idle) e new before after l near is =
    let P : TaskFault → Type 0 = λ f. HearsTask (Err f) before after in
    subst P (same_fault Failed e is) (one_heard (Stopped stops.Idle) (Err Failed) new before after l (failed_says before.left) (inr l.closes.1))
first_by (Stopped stops.Failed) e new before after l near is =
    let P : TaskFault → Type 0 = λ f. HearsTask (Err f) before after in
    subst P (same_fault Failed e is) (one_heard (Stopped stops.Failed) (Err Failed) new before after l (failed_says before.left) (inl l.closes.1))

pub first_fault : (e : TaskFault) (new : LineReaderView) (before after : SourceView) → HearsAs challenge_said (Err e) first_reader new before after → HearsTask (Err e) before after
first_fault e new before after h = first_by h.heard e new before after h.listens h.near h.is

-- ---- both lines

-- the answer, by what is said of the pass phrase
abbrev pub after_phrase : ℕ × List ℕ → Result (List ℕ) TaskFault → Result ℕ TaskFault
after_phrase asked (Ok phrase) = Ok (password asked.1 phrase asked.0)
after_phrase asked (Err e) = Err e

wide_after : (line : ArrayVec ℕ) (new : LineReaderView) (before after : SourceView) → Listens (Line line) first_reader new before after → Wide new
wide_after line new before after l =
    let few = (line_of l.bytes [] line.items l.is_heard.is).few in
    let whole = ap length l.reads.reader in
    let parts = length-append l.bytes new.pending in
    omega (arith, few, whole, parts, l.reads.room, l.is_heard.fits)

phrase_by : (v : Bool) (asked : ℕ × List ℕ) (line more : List ℕ) (text : List ℕ) → is_phrase line ≡ v → password_asked text ≡ password_for (Some asked) (Some (line, more)) → IsAnswerOf (Some text) (after_phrase asked (cond v (Ok line) (Err Challenge)))
phrase_by true asked line more text is h = h ∙ rw is refl
phrase_by false asked line more text is h = h ∙ rw is refl

second_missed : (asked : ℕ × List ℕ) (text : List ℕ) (second : Option (List ℕ × List ℕ)) → password_asked text ≡ password_for (Some asked) second → NoLine second → IsAnswerOf (Some text) (Err Challenge)
second_missed asked text second is h = is ∙ none_second (Some asked) second h

second_says : (asked : ℕ × List ℕ) (heard : Heard) (old new : LineReaderView) (before after : SourceView) (l : Listens heard old new before after) → length new.pending ≤ 4096 → Wide old
    → (text rest : List ℕ) → rest_of new after ≡ Some rest → password_asked text ≡ password_for (Some asked) (first_line (l.bytes ++ rest)) → IsAnswerOf (Some text) (after_phrase asked (phrase_said heard))
second_says asked (Line line) old new before after l near wide text rest is h =
    let second = line_of l.bytes rest line.items l.is_heard.is in
    phrase_by (is_phrase line.items) asked line.items rest text refl (h ∙ ap (password_for (Some asked)) second.is)
second_says asked TooLong old new before after l near wide text rest is h =
    second_missed asked text (first_line (l.bytes ++ rest)) h (missed TooLong old new before after l near wide tt rest is)
second_says asked (Stopped stops.End) old new before after l near wide text rest is h =
    second_missed asked text (first_line (l.bytes ++ rest)) h (missed (Stopped stops.End) old new before after l near wide tt rest is)
second_says asked (Stopped stops.Spent) old new before after l near wide text rest is h =
    second_missed asked text (first_line (l.bytes ++ rest)) h (missed (Stopped stops.Spent) old new before after l near wide tt rest is)
second_says asked (Stopped stops.Idle) old new before after l near wide text rest is h = tt
second_says asked (Stopped stops.Failed) old new before after l near wide text rest is h = tt

phrase_stops : (v : Bool) (asked : ℕ × List ℕ) (line : List ℕ) (middle after : SourceView) → after ≡ middle → StopsWith (after_phrase asked (cond v (Ok line) (Err Challenge))) middle after
phrase_stops true asked line middle after is = is
phrase_stops false asked line middle after is = is

second_stops : (asked : ℕ × List ℕ) (heard : Heard) (old new : LineReaderView) (before after : SourceView) (l : Listens heard old new before after) → StopsWith (after_phrase asked (phrase_said heard)) l.middle after
second_stops asked (Line line) old new before after l = phrase_stops (is_phrase line.items) asked line.items l.middle after l.closes
second_stops asked TooLong old new before after l = l.closes
second_stops asked (Stopped stops.End) old new before after l = l.closes.1.is
second_stops asked (Stopped stops.Spent) old new before after l = l.closes
second_stops asked (Stopped stops.Idle) old new before after l = inr l.closes.1
second_stops asked (Stopped stops.Failed) old new before after l = inl l.closes.1

both_say : (asked : ℕ × List ℕ) (line : ArrayVec ℕ) (heard : Heard) (mid new : LineReaderView) (before between after : SourceView) (one : Listens (Line line) first_reader mid before between) (two : Listens heard mid new between after)
    → challenge_of line.items ≡ Some asked → length new.pending ≤ 4096 → (rest : List ℕ) → rest_of mid between ≡ Some rest → IsAnswerOf (Some (one.bytes ++ rest)) (after_phrase asked (phrase_said heard))
both_say asked line heard mid new before between after one two challenge near rest is =
    let first = line_of one.bytes rest line.items one.is_heard.is in
    let here : password_asked (one.bytes ++ rest) ≡ password_for (Some asked) (first_line rest) = asked_by (one.bytes ++ rest) line.items rest first.is one.is_heard.fits ∙ ap (λ o. password_for o (first_line rest)) challenge in
    let s = split two.bytes rest (rest_of new after) (sym two.rest ∙ is) in
    second_says asked heard mid new between after two near (wide_after line mid before between one) (one.bytes ++ rest) s.rest s.after_is (here ∙ ap (λ t. password_for (Some asked) (first_line t)) s.is)

both_by : (asked : ℕ × List ℕ) (line : ArrayVec ℕ) (heard : Heard) (mid new : LineReaderView) (before between after : SourceView) → Listens (Line line) first_reader mid before between → Listens heard mid new between after
    → challenge_of line.items ≡ Some asked → length new.pending ≤ 4096 → HearsTask (after_phrase asked (phrase_said heard)) before after
both_by asked line heard mid new before between after one two challenge near =
    let P : SourceView → Type 0 = λ s. TookBytes one.reads.taken_now before s in
    record {
      is = told_by before.left (rest_of mid between) one.bytes (after_phrase asked (phrase_said heard)) (start_left first_reader before refl ∙ one.rest) (both_say asked line heard mid new before between after one two challenge near);
      bytes = one.reads.taken_now ++ two.reads.taken_now;
      middle = two.middle;
      took = pulled_on one.reads.taken_now two.reads.taken_now before between two.middle (subst P (sym one.closes) one.reads.takes) two.reads.takes;
      few = omega (arith, length-append one.reads.taken_now two.reads.taken_now, one.reads.room, two.reads.room);
      stops = second_stops asked heard mid new between after two;
    }

some_by : (o : Option (ℕ × List ℕ)) (asked : ℕ × List ℕ) → ok_or o Challenge ≡ Ok asked → o ≡ Some asked
some_by None asked h = absurd (cc)
some_by (Some other) asked h = cc

then_by : (asked : ℕ × List ℕ) (first heard : Heard) (mid new : LineReaderView) (before between after : SourceView) → Listens first first_reader mid before between → challenge_said first ≡ Ok asked → Listens heard mid new between after
    → length new.pending ≤ 4096 → HearsTask (after_phrase asked (phrase_said heard)) before after
then_by asked (Line line) heard mid new before between after one is two near = both_by asked line heard mid new before between after one two (some_by (challenge_of line.items) asked is) near
then_by asked TooLong heard mid new before between after one is two near = absurd (cc)
then_by asked (Stopped stop) heard mid new before between after one is two near = absurd (cc)

pub both_heard : (asked : ℕ × List ℕ) (said : Result (List ℕ) TaskFault) (mid new : LineReaderView) (before between after : SourceView) → HearsAs challenge_said (Ok asked) first_reader mid before between → HearsAs phrase_said said mid new between after
    → HearsTask (after_phrase asked said) before after
both_heard asked said mid new before between after one two =
    let P : Result (List ℕ) TaskFault → Type 0 = λ r. HearsTask (after_phrase asked r) before after in
    subst P two.is (then_by asked one.heard two.heard mid new before between after one.listens one.is two.listens two.near)
