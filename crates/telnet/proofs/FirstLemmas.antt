-- What is heard first of a text.
use Rattle.std.proofs.Common.{◌≡◌, ℕ, ◌<◌, ◌≤◌, List, [], ◌∷◌, ◌++◌, length, map, Option, Some, None, append-nil, append_assoc, length-append, refl, sym, ap, ◌∙◌, arith}
use Rattle.telnet.specs.First.{FirstHeard, first_from, first_heard, first_or}
use Rattle.telnet.specs.Lines.{lines_heard}
use Rattle.telnet.proofs.ReadingLemmas.{nothing_heard}
use Rattle.telnet.specs.TelnetView.{AllFed, IsFed, TelnetFed, TelnetView, all_told, told}
use Rattle.telnet.specs.declared.step.TelnetStep.{TelnetStep}
use Rattle.telnet.specs.declared.step.TelnetStep.TheVariants.{More, Line, TooLong}

-- the same is heard of both, however they go on
abbrev pub Alike : List ℕ → List ℕ → Type 0
Alike front other = (rest : List ℕ) → lines_heard (front ++ rest) ≡ lines_heard (other ++ rest)

alike_now : (front other : List ℕ) → Alike front other → lines_heard front ≡ lines_heard other
alike_now front other same = ap lines_heard (sym (append-nil front)) ∙ same [] ∙ ap lines_heard (append-nil other)

alike_more : (front other : List ℕ) (b : ℕ) → Alike front other → Alike (front ++ b ∷ []) (other ++ b ∷ [])
alike_more front other b same = λ rest. ap lines_heard (append_assoc front (b ∷ []) rest) ∙ same (b ∷ rest) ∙ sym (ap lines_heard (append_assoc other (b ∷ []) rest))

pub from_alike : (front other rest : List ℕ) → Alike front other → first_from front rest ≡ first_from other rest
from_alike front other [] same = ap (λ lines. first_or lines [] None) (alike_now front other same)
from_alike front other (b ∷ rest) same =
    ap (λ lines. first_or lines (b ∷ rest) (first_from (front ++ b ∷ []) rest)) (alike_now front other same)
    ∙ ap (first_or (lines_heard other) (b ∷ rest)) (from_alike (front ++ b ∷ []) (other ++ b ∷ []) rest (alike_more front other b same))

pub from_end : (front : List ℕ) → lines_heard front ≡ [] → first_from front [] ≡ None
from_end front none = ap (λ lines. first_or lines [] None) none

pub from_none : (front : List ℕ) (b : ℕ) (rest : List ℕ) → lines_heard front ≡ [] → first_from front (b ∷ rest) ≡ first_from (front ++ b ∷ []) rest
from_none front b rest none = ap (λ lines. first_or lines (b ∷ rest) (first_from (front ++ b ∷ []) rest)) none

pub from_some : (front : List ℕ) (line : Option (List ℕ)) (lines : List (Option (List ℕ))) (rest : List ℕ) → lines_heard front ≡ line ∷ lines →
    first_from front rest ≡ Some record { line = line; rest = rest }
from_some front line lines [] is = ap (λ l. first_or l [] None) is
from_some front line lines (b ∷ rest) is = ap (λ l. first_or l (b ∷ rest) (first_from (front ++ b ∷ []) rest)) is

-- the two kinds of a step, over all that follows it

pub from_more : (front next : List ℕ) (b : ℕ) (rest : List ℕ) → lines_heard front ≡ [] → ((r : List ℕ) → lines_heard (front ++ b ∷ r) ≡ lines_heard (next ++ r)) →
    first_from front (b ∷ rest) ≡ first_from next rest
from_more front next b rest none leads =
    from_none front b rest none ∙ from_alike (front ++ b ∷ []) next rest (λ r. ap lines_heard (append_assoc front (b ∷ []) r) ∙ leads r)

pub from_last : (front : List ℕ) (line : Option (List ℕ)) (b : ℕ) (rest : List ℕ) → lines_heard front ≡ [] → lines_heard (front ++ b ∷ []) ≡ line ∷ [] →
    first_from front (b ∷ rest) ≡ Some record { line = line; rest = rest }
from_last front line b rest none is = from_none front b rest none ∙ from_some (front ++ b ∷ []) line [] rest is

-- a step that tells nothing leaves what is heard first, and a step that tells a line is where that ends

pub fed_more : (old new : TelnetView) (byte : ℕ) (rest : List ℕ) → lines_heard old.pending ≡ [] → IsFed More old new byte →
    first_from old.pending (byte ∷ rest) ≡ first_from new.pending rest
fed_more old new byte rest none fed = from_more old.pending new.pending byte rest none fed.hears.leads

pub fed_told : (answer : TelnetStep) (line : Option (List ℕ)) (old new : TelnetView) (byte : ℕ) (rest : List ℕ) → lines_heard old.pending ≡ [] → told answer new.line ≡ line ∷ [] →
    IsFed answer old new byte → first_from old.pending (byte ∷ rest) ≡ Some record { line = line; rest = rest }
fed_told answer line old new byte rest none is fed =
    from_last old.pending line byte rest none
    (fed.hears.leads [] ∙ ap (λ t. t ++ lines_heard (new.pending ++ [])) is ∙ ap (λ t. line ∷ t) (ap lines_heard (append-nil new.pending) ∙ fed.prompt))

quiet_by : (answer : TelnetStep) (old new : TelnetView) (byte : ℕ) (rest : List ℕ) (later : List (Option (List ℕ))) → lines_heard old.pending ≡ [] →
    told answer new.line ++ later ≡ [] → IsFed answer old new byte → (first_from old.pending (byte ∷ rest) ≡ first_from new.pending rest) × (later ≡ [])
quiet_by More old new byte rest later none quiet fed = (fed_more old new byte rest none fed, quiet)
quiet_by Line old new byte rest later none quiet fed = absurd (cc)
quiet_by TooLong old new byte rest later none quiet fed = absurd (cc)

abbrev bytes_of : List TelnetFed → List ℕ
bytes_of steps = map (λ step. step.byte) steps

-- steps of which the last alone tells a line have taken a text up to its first line's end
steps_first : (old : TelnetView) (steps : List TelnetFed) (last : TelnetFed) (line : Option (List ℕ)) (rest : List ℕ) → lines_heard old.pending ≡ [] →
    AllFed old (steps ++ last ∷ []) → all_told steps ≡ [] → told last.answer last.after.line ≡ line ∷ [] →
    first_from old.pending (bytes_of steps ++ last.byte ∷ rest) ≡ Some record { line = line; rest = rest }
steps_first old [] last line rest none h quiet is = fed_told last.answer line old last.after last.byte rest none is h.0
steps_first old (step ∷ steps) last line rest none h quiet is =
    let first = quiet_by step.answer old step.after step.byte (bytes_of steps ++ last.byte ∷ rest) (all_told steps) none quiet h.0 in
    first.0 ∙ steps_first step.after steps last line rest h.0.prompt h.1 first.1 is

-- what follows a line is no longer than what follows its front

abbrev pub rest_in : Option FirstHeard → List ℕ
rest_in None = []
rest_in (Some first) = first.rest

abbrev pub line_in : Option FirstHeard → List (Option (List ℕ))
line_in None = []
line_in (Some first) = first.line ∷ []

within_by : (lines : List (Option (List ℕ))) (rest : List ℕ) (longer : Option FirstHeard) (first : FirstHeard) → (longer ≡ Some first → length first.rest ≤ length rest) →
    first_or lines rest longer ≡ Some first → length first.rest ≤ length rest
within_by [] rest longer first shorter is = shorter is
within_by (line ∷ lines) rest longer first shorter is = omega (arith, ap (λ o. length (rest_in o)) is)

within : (front rest : List ℕ) (first : FirstHeard) → first_from front rest ≡ Some first → length first.rest ≤ length rest
within front [] first is = within_by (lines_heard front) [] None first (λ never. absurd (cc)) is
within front (b ∷ rest) first is = within_by (lines_heard front) (b ∷ rest) (first_from (front ++ b ∷ []) rest) first (λ e. omega (arith, within (front ++ b ∷ []) rest first e)) is

-- a front without a line isn't the one that is looked for
no_line_yet : (front rest : List ℕ) (line : Option (List ℕ)) → lines_heard front ≡ [] → first_from front rest ≡ Some record { line = line; rest = rest } → ⊥
no_line_yet front [] line none is = let never : None ≡ Some record { line = line; rest = [] } = sym (from_end front none) ∙ is in cc
no_line_yet front (b ∷ rest) line none is =
    let longer = within (front ++ b ∷ []) rest record { line = line; rest = b ∷ rest } (sym (from_none front b rest none) ∙ is) in
    omega (arith, longer)

last_by : (answer : TelnetStep) (old new : TelnetView) (byte : ℕ) (line : Option (List ℕ)) (rest : List ℕ) → lines_heard old.pending ≡ [] → IsFed answer old new byte →
    first_from old.pending (byte ∷ rest) ≡ Some record { line = line; rest = rest } → told answer new.line ≡ line ∷ []
last_by More old new byte line rest none fed is = absurd (no_line_yet new.pending rest line fed.prompt (sym (fed_more old new byte rest none fed) ∙ is))
last_by Line old new byte line rest none fed is = ap line_in (sym (fed_told Line (Some new.line) old new byte rest none refl fed) ∙ is)
last_by TooLong old new byte line rest none fed is = ap line_in (sym (fed_told TooLong None old new byte rest none refl fed) ∙ is)

-- a step after which more follows than what is left told nothing
too_early : (first last : FirstHeard) → length last.rest < length first.rest → Some first ≡ Some last → ⊥
too_early first last short is = omega (arith, short, ap (λ o. length (rest_in o)) is)

early_by : (answer : TelnetStep) (old new : TelnetView) (byte : ℕ) (line : Option (List ℕ)) (rest left : List ℕ) → length left < length rest → lines_heard old.pending ≡ [] → IsFed answer old new byte →
    first_from old.pending (byte ∷ rest) ≡ Some record { line = line; rest = left } → (told answer new.line ≡ []) × (first_from new.pending rest ≡ Some record { line = line; rest = left })
early_by More old new byte line rest left short none fed is = (refl, sym (fed_more old new byte rest none fed) ∙ is)
early_by Line old new byte line rest left short none fed is = absurd (too_early record { line = Some new.line; rest = rest } record { line = line; rest = left } short (sym (fed_told Line (Some new.line) old new byte rest none refl fed) ∙ is))
early_by TooLong old new byte line rest left short none fed is = absurd (too_early record { line = None; rest = rest } record { line = line; rest = left } short (sym (fed_told TooLong None old new byte rest none refl fed) ∙ is))

-- steps that have taken a text up to its first line's end have told that line, with the last of them
first_steps : (old : TelnetView) (steps : List TelnetFed) (last : TelnetFed) (line : Option (List ℕ)) (rest : List ℕ) → lines_heard old.pending ≡ [] →
    AllFed old (steps ++ last ∷ []) → first_from old.pending (bytes_of steps ++ last.byte ∷ rest) ≡ Some record { line = line; rest = rest } →
    (all_told steps ≡ []) × (told last.answer last.after.line ≡ line ∷ [])
first_steps old [] last line rest none h is = (refl, last_by last.answer old last.after last.byte line rest none h.0 is)
first_steps old (step ∷ steps) last line rest none h is =
    let more = bytes_of steps ++ last.byte ∷ rest in
    let short : length rest < length more = omega (arith, length-append (bytes_of steps) (last.byte ∷ rest)) in
    let first = early_by step.answer old step.after step.byte line more rest short none h.0 is in
    let later = first_steps step.after steps last line rest h.0.prompt h.1 first.1 in
    (ap (λ t. t ++ all_told steps) first.0 ∙ later.0, later.1)

-- the same of a reading that has nothing pending

pub told_is_first : (old : TelnetView) (steps : List TelnetFed) (last : TelnetFed) (line : Option (List ℕ)) (rest : List ℕ) → old.pending ≡ [] →
    AllFed old (steps ++ last ∷ []) → (all_told steps ≡ []) × (told last.answer last.after.line ≡ line ∷ []) →
    first_heard (bytes_of steps ++ last.byte ∷ rest) ≡ Some record { line = line; rest = rest }
told_is_first old steps last line rest empty h is =
    ap (λ t. first_from t (bytes_of steps ++ last.byte ∷ rest)) (sym empty)
    ∙ steps_first old steps last line rest (ap lines_heard empty ∙ nothing_heard) h is.0 is.1

pub first_is_told : (old : TelnetView) (steps : List TelnetFed) (last : TelnetFed) (line : Option (List ℕ)) (rest : List ℕ) → old.pending ≡ [] →
    AllFed old (steps ++ last ∷ []) → first_heard (bytes_of steps ++ last.byte ∷ rest) ≡ Some record { line = line; rest = rest } →
    (all_told steps ≡ []) × (told last.answer last.after.line ≡ line ∷ [])
first_is_told old steps last line rest empty h is =
    first_steps old steps last line rest (ap lines_heard empty ∙ nothing_heard) h
    (ap (λ t. first_from t (bytes_of steps ++ last.byte ∷ rest)) empty ∙ is)
