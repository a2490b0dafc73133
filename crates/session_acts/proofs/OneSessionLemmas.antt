-- The entries of a session whose rows keep the course are all its own.
use Rattle.std.proofs.Common.{◌≡◌, refl, ap, subst, ◌∙◌, ℕ, zero, suc, Bool, true, false, not, cond, List, [], ◌∷◌, ◌++◌, drop, filter, get_or, length, map, Option, Some, None}
use Rattle.std.specs.Prelude.{if◌then◌else◌}
use Rattle.std.specs.List.{AllByRecursion}
use Rattle.auth_events.specs.Fits.{Fits}
use Rattle.auth_events.specs.Port.{places, session_at}
use Rattle.auth_events.specs.declared.entry.Entry.{Entry}
use Rattle.auth_events.specs.declared.reply.Reply.{Reply}
use Rattle.auth_events.specs.declared.reply.Reply.TheVariants as replies
use Rattle.auth_events.specs.declared.request.Request.{Request}
use Rattle.auth_events.specs.declared.request.Request.TheVariants as requests
use Rattle.fw_acts.specs.Acts.{Row, PlaceTable}
use Rattle.fw_types.specs.declared.ending.Ending.{Ending}
use Rattle.session_acts.specs.Course.{AreBetween, AreOfOne, Course, CourseState, Follows, KeepsCourse, is_between}
use Rattle.session_acts.specs.Deeds.{gives}
use Rattle.session_acts.specs.Met.{acts, number_told}
use Rattle.session_acts.specs.Session.{Held, deeds_of}
use Rattle.session_acts.specs.Talk.{AreOf, Entered, answered, asked, if_entered, is_entered, numbers_told, of_entered, said_of, says_full}
use Rattle.session_acts.specs.World.{World}
use Rattle.session_acts.proofs.CourseLemmas.{held_course, stays_open}
use Rattle.session_acts.proofs.DeedLemmas.{all_gain, held_deeds}
use Rattle.session_acts.proofs.EntryLemmas.{whole_entries}
use Rattle.session_acts.proofs.TalkLemmas.{entered_gains}

-- ---- the first place

first_place : (n : ℕ) → (rest : List ℕ) × (places (suc n) ≡ 0 ∷ rest)
first_place zero = ([], refl)
first_place (suc n) = let before = first_place n in (before.0 ++ suc n ∷ [], ap (λ z. z ++ suc n ∷ []) before.1)

first_of_one : (seen : List Entry) → AreOfOne (places (length seen)) seen → AllByRecursion (λ entry. entry.sid ≡ 0) seen
first_of_one [] one = tt
first_of_one (entry ∷ seen) one = subst (λ z. AreOfOne z (entry ∷ seen)) (first_place (length seen)).1 one

-- ---- one request, and what follows it

abbrev IsOf : ℕ → Entry → Type 0
IsOf sid entry = entry.sid ≡ sid

own_number : (request : Request) (place sid : ℕ) → is_between request ≡ true → session_at request place sid ≡ sid
own_number (requests.Open console) place sid is = absurd (cc)
own_number request place sid is = refl

head_asked : (request : Request) (reply : Reply) (entry : Entry) (entries : List Entry) (more : List (Request × Reply)) → map said_of (entry ∷ entries) ≡ (request, reply) ∷ more → (entry.request ≡ request) × (entry.reply ≡ reply)
head_asked request reply entry entries more said =
    (ap (λ (z : List (Request × Reply)). (get_or z 0 (request, reply)).0) said, ap (λ (z : List (Request × Reply)). (get_or z 0 (request, reply)).1) said)

module _ (sid : ℕ) (request : Request) (own : (place : ℕ) → session_at request place sid ≡ sid) (numbers : List ℕ) (asks : List (Request × Option Reply))
    (rest : (their : List ℕ) (entries : List Entry) → AreOf numbers their entries → map said_of entries ≡ filter is_entered (answered asks) → AllByRecursion (IsOf sid) entries) where
  reply_of_one : (reply : Reply) (full : Bool) (their : List ℕ) (entries : List Entry) → AreOf ((if full then [] else sid ∷ []) ++ numbers) their entries
      → map said_of entries ≡ cond (not full) ((request, reply) ∷ filter is_entered (answered asks)) (filter is_entered (answered asks)) → AllByRecursion (IsOf sid) entries
  reply_of_one reply true their entries are said = rest their entries are said
  reply_of_one reply false [] entries are said = absurd are
  reply_of_one reply false (place ∷ their) [] are said = absurd are
  reply_of_one reply false (place ∷ their) (entry ∷ entries) are said =
      let same = (head_asked request reply entry entries (filter is_entered (answered asks)) said).0 in
      (are.0 ∙ ap (λ r. session_at r place sid) same ∙ own place, rest their entries are.2 (ap (λ z. drop 1 z) said))

  ask_of_one : (reply : Option Reply) (their : List ℕ) (entries : List Entry) → AreOf (if_entered reply sid ++ numbers) their entries → map said_of entries ≡ filter is_entered (answered ((request, reply) ∷ asks))
      → AllByRecursion (IsOf sid) entries
  ask_of_one None their entries are said = rest their entries are said
  ask_of_one (Some reply) their entries are said = reply_of_one reply (says_full reply) their entries are said

nothing_of_one : (sid : ℕ) (their : List ℕ) (entries : List Entry) → AreOf [] their entries → map said_of entries ≡ [] → AllByRecursion (IsOf sid) entries
nothing_of_one sid [] [] are said = tt
nothing_of_one sid [] (entry ∷ entries) are said = absurd are
nothing_of_one sid (place ∷ their) entries are said = absurd are

-- all that was asked in a session that is open, up to its close
closed_of_one : (sid : ℕ) (between : List (Request × Option Reply)) (last : Option Reply) (their : List ℕ) (entries : List Entry) → AreBetween between
    → AreOf (of_entered (numbers_told (Some sid) (between ++ (requests.Close, last) ∷ [])) (between ++ (requests.Close, last) ∷ [])) their entries
    → map said_of entries ≡ filter is_entered (answered (between ++ (requests.Close, last) ∷ [])) → AllByRecursion (IsOf sid) entries
closed_of_one sid [] last their entries all are said =
    ask_of_one sid requests.Close (λ place. refl) [] [] (nothing_of_one sid) last their entries are said
closed_of_one sid (ask ∷ between) last their entries all are said =
    let asks = between ++ (requests.Close, last) ∷ [] in
    let stays = stays_open ask.0 ask.1 (Some sid) all.0 in
    ask_of_one sid ask.0 (λ place. own_number ask.0 place sid all.0) (of_entered (numbers_told (Some sid) asks) asks) asks (λ more others a s. closed_of_one sid between last more others all.1 a s) ask.1 their entries
    (subst (λ (opened : Option ℕ). AreOf (if_entered ask.1 sid ++ of_entered (numbers_told opened asks) asks) their entries) stays are) said

-- ---- the opening, with this number told

module _ (console : Bool) (told : ℕ) where
  only_of_one : (reply : Reply) (full : Bool) (their : List ℕ) (entries : List Entry) → AreOf ((if full then [] else told ∷ []) ++ []) their entries
      → map said_of entries ≡ cond (not full) ((requests.Open console, reply) ∷ []) [] → AreOfOne their entries
  only_of_one reply true [] [] are said = refl
  only_of_one reply true [] (entry ∷ entries) are said = absurd are
  only_of_one reply true (place ∷ their) entries are said = absurd are
  only_of_one reply false [] entries are said = absurd are
  only_of_one reply false (place ∷ their) [] are said = absurd are
  only_of_one reply false (place ∷ their) (entry ∷ entries) are said =
      let same = (head_asked (requests.Open console) reply entry entries [] said).0 in
      (are.0 ∙ ap (λ r. session_at r place told) same, nothing_of_one place their entries are.2 (ap (λ z. drop 1 z) said))

  only_asked : (first : Option Reply) (their : List ℕ) (entries : List Entry) → AreOf (if_entered first told ++ []) their entries → map said_of entries ≡ filter is_entered (answered ((requests.Open console, first) ∷ []))
      → AreOfOne their entries
  only_asked None their entries are said = only_of_one replies.Ok true their entries are said
  only_asked (Some reply) their entries are said = only_of_one reply (says_full reply) their entries are said

module _ (console : Bool) where
  -- nothing was asked but to open
  opening_of_one : (reply : Option Reply) (rest : List (Request × Option Reply)) (their : List ℕ) (entries : List Entry) → rest ≡ []
      → AreOf (of_entered (numbers_told None ((requests.Open console, reply) ∷ rest)) ((requests.Open console, reply) ∷ rest)) their entries
      → map said_of entries ≡ filter is_entered (answered ((requests.Open console, reply) ∷ rest)) → AreOfOne their entries
  opening_of_one reply rest their entries none are said =
      only_asked console (number_told None) reply their entries
      (subst (λ (z : List (Request × Option Reply)). AreOf (of_entered (numbers_told None ((requests.Open console, reply) ∷ z)) ((requests.Open console, reply) ∷ z)) their entries) none are)
      (subst (λ (z : List (Request × Option Reply)). map said_of entries ≡ filter is_entered (answered ((requests.Open console, reply) ∷ z))) none said)

  opened_of_one : (first : Option Reply) (rest : List (Request × Option Reply)) (their : List ℕ) (entries : List Entry) → Follows first rest
      → AreOf (of_entered (numbers_told None ((requests.Open console, first) ∷ rest)) ((requests.Open console, first) ∷ rest)) their entries
      → map said_of entries ≡ filter is_entered (answered ((requests.Open console, first) ∷ rest)) → AreOfOne their entries
  opened_of_one None rest their entries follows are said = opening_of_one None rest their entries follows are said
  opened_of_one (Some (replies.Opened sid)) rest [] entries follows are said = absurd are
  opened_of_one (Some (replies.Opened sid)) rest (place ∷ their) [] follows are said = absurd are
  opened_of_one (Some (replies.Opened sid)) rest (place ∷ their) (entry ∷ entries) follows are said =
      let head = head_asked (requests.Open console) (replies.Opened sid) entry entries (filter is_entered (answered rest)) said in
      let fits : Fits (requests.Open console) place (replies.Opened sid) = subst (λ r. Fits r place (replies.Opened sid)) head.0 (subst (λ r. Fits entry.request place r) head.1 are.1) in
      let later = closed_of_one sid follows.between follows.last their entries follows.are_between
      (subst (λ (z : List (Request × Option Reply)). AreOf (of_entered (numbers_told (Some sid) z) z) their entries) follows.is are.2)
      (subst (λ (z : List (Request × Option Reply)). map said_of entries ≡ filter is_entered (answered z)) follows.is (ap (λ z. drop 1 z) said)) in
      (are.0 ∙ ap (λ r. session_at r place (number_told None)) head.0, subst (λ n. AllByRecursion (IsOf n) entries) fits later)
  opened_of_one (Some replies.Password) rest their entries follows are said = opening_of_one (Some replies.Password) rest their entries follows are said
  opened_of_one (Some (replies.Challenge number word_seed)) rest their entries follows are said = opening_of_one (Some (replies.Challenge number word_seed)) rest their entries follows are said
  opened_of_one (Some replies.Ok) rest their entries follows are said = opening_of_one (Some replies.Ok) rest their entries follows are said
  opened_of_one (Some (replies.Shown summary)) rest their entries follows are said = opening_of_one (Some (replies.Shown summary)) rest their entries follows are said
  opened_of_one (Some (replies.Denied denial)) rest their entries follows are said = opening_of_one (Some (replies.Denied denial)) rest their entries follows are said

  course_of_one : (asks : List (Request × Option Reply)) (their : List ℕ) (entries : List Entry) → Course console asks → AreOf (of_entered (numbers_told None asks) asks) their entries
      → map said_of entries ≡ filter is_entered (answered asks) → AreOfOne their entries
  course_of_one [] [] [] course are said = refl
  course_of_one [] [] (entry ∷ entries) course are said = absurd are
  course_of_one [] (place ∷ their) entries course are said = absurd are
  course_of_one (ask ∷ asks) their entries course are said =
      opened_of_one ask.1 asks their entries course.1
      (subst (λ (r : Request). AreOf (of_entered (numbers_told None ((r, ask.1) ∷ asks)) ((r, ask.1) ∷ asks)) their entries) course.0 are)
      (subst (λ (r : Request). map said_of entries ≡ filter is_entered (answered ((r, ask.1) ∷ asks))) course.0 said)

-- ---- the session

module _ {Origin P : Type 0} (console : Bool) (may_be : P → CourseState → Bool) (rows : PlaceTable (acts Origin) P) (first : Row (acts Origin) P) (old new : World Origin) (ending : Ending) (held : Held rows first old new ending)
    (keeps : KeepsCourse console may_be rows first) (none : old.office.opened ≡ None) where
  -- all entries of a session are its own
  pub held_one : (entered : Entered (gives asked (deeds_of held)) old.office new.office) → AreOfOne entered.port.places entered.port.entries
  held_one entered =
      let asks = gives asked (deeds_of held) in
      course_of_one console asks entered.port.places entered.port.entries (held_course console may_be rows first old new ending held keeps none)
      (subst (λ (opened : Option ℕ). AreOf (of_entered (numbers_told opened asks) asks) entered.port.places entered.port.entries) none entered.port.numbered) entered.port.said

  -- so where they are the whole history, its number is 0
  pub held_one_whole : old.office.port.mine ≡ [] → new.office.port.mine ≡ places (length new.office.port.seen) → AllByRecursion (λ entry. entry.sid ≡ 0) new.office.port.seen
  held_one_whole empty all =
      let asks = gives asked (deeds_of held) in
      let entered = all_gain entered_gains (deeds_of held) old new (held_deeds held) in
      let whole = whole_entries (numbers_told old.office.opened asks) entered.moments asks old.office.port new.office.port empty all entered.port in
      first_of_one new.office.port.seen (subst (λ z. AreOfOne (places (length new.office.port.seen)) z) whole.1 (subst (λ z. AreOfOne z entered.port.entries) whole.0 (held_one entered)))
