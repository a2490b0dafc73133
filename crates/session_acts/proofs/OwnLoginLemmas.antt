-- The login of a session stands in the history of its port, for the number that its opening was given.
use Rattle.std.proofs.Common.{◌≡◌, refl, sym, ap, subst, ◌∙◌, ℕ, Bool, true, false, not, ◌&&◌, ◌||◌, ◌==◌, List, [], ◌∷◌, ◌++◌, drop, get_or, length, map, filter, Option, Some, None, Result, Ok, Err}
use mathlib.Core.Bool.{true≢false}
use Rattle.std.specs.Prelude.{cond, if◌then◌else◌}
use Rattle.std.specs.List.{AllByRecursion}
use Rattle.std.proofs.lemmas.Bool.{eq-eqb}
use Rattle.std.proofs.lemmas.List.Elements.{filter-append, filter_map-append}
use Rattle.auth_events.specs.Login.{ends_login, gives_login, is_end, is_response, lasts, login_in, login_stands, said_by}
use Rattle.auth_events.specs.Port.{places, session_at}
use Rattle.auth_events.specs.declared.denial.Denial.{Denial}
use Rattle.auth_events.specs.declared.denial.Denial.TheVariants as denials
use Rattle.auth_events.specs.declared.entry.Entry.{Entry}
use Rattle.auth_events.specs.declared.reply.Reply.{Reply}
use Rattle.auth_events.specs.declared.reply.Reply.TheVariants as replies
use Rattle.auth_events.specs.declared.request.Request.{Request}
use Rattle.auth_events.specs.declared.request.Request.TheVariants as requests
use Rattle.fw_acts.specs.Acts.{Row, PlaceTable}
use Rattle.fw_types.specs.declared.ending.Ending.{Ending}
use Rattle.session_acts.specs.Course.{AreBetween, Course, Follows, is_between}
use Rattle.session_acts.specs.Deeds.{Deed, gives}
use Rattle.session_acts.specs.Met.{acts, number_told, opened_then}
use Rattle.session_acts.specs.Once.{IsTry, OpensOnce, is_opened}
use Rattle.session_acts.specs.OwnLogin.{LoginStandsIn, number_by, number_opened}
use Rattle.session_acts.specs.Session.{Held, deeds_of}
use Rattle.session_acts.specs.Talk.{AreOf, Entered, answered, asked, if_entered, is_entered, numbers_told, of_entered, replied, said_of, says_full}
use Rattle.session_acts.specs.World.{World}
use Rattle.session_acts.proofs.CourseLemmas.{asked_both, stays_open}
use Rattle.session_acts.proofs.DeedLemmas.{all_gain, held_deeds}
use Rattle.session_acts.proofs.EntryLemmas.{whole_entries}
use Rattle.session_acts.proofs.OnceLemmas.{try_opens}
use Rattle.session_acts.proofs.TalkLemmas.{entered_gains}

abbrev Asks : Type 0
Asks = List (Request × Option Reply)

-- ---- what neither gives a login nor ends one

record IsNeutral (said : Request × Reply) : Type 0 where
  gives_none : gives_login said ≡ false
  ends_none : ends_login said ≡ false

-- what isn't kept counts for nothing
abbrev Counts : {A : Type 0} → (A → Request × Reply) → (A → Bool) → A → Type 0
Counts said keeps one = keeps one ≡ false → IsNeutral (said one)

module _ {A : Type 0} (said : A → Request × Reply) (keeps : A → Bool) where
  lasts_pick : (one : A) (all : List A) (b : Bool) → (b ≡ false → IsNeutral (said one)) → lasts (map said (filter keeps all)) ≡ lasts (map said all)
      → lasts (map said (cond b (one ∷ filter keeps all) (filter keeps all))) ≡ lasts (map said (one ∷ all))
  lasts_pick one all true neutral rest = ap (λ (z : Bool). not (ends_login (said one)) && z) rest
  lasts_pick one all false neutral rest = rest ∙ sym (ap (λ (e : Bool). not e && lasts (map said all)) (neutral refl).ends_none)

  lasts_kept : (all : List A) → AllByRecursion (Counts said keeps) all → lasts (map said (filter keeps all)) ≡ lasts (map said all)
  lasts_kept [] counts = refl
  lasts_kept (one ∷ all) counts = lasts_pick one all (keeps one) counts.0 (lasts_kept all counts.1)

  login_pick : (one : A) (all : List A) (b : Bool) → (b ≡ false → IsNeutral (said one)) → lasts (map said (filter keeps all)) ≡ lasts (map said all) → login_in (map said (filter keeps all)) ≡ login_in (map said all)
      → login_in (map said (cond b (one ∷ filter keeps all) (filter keeps all))) ≡ login_in (map said (one ∷ all))
  login_pick one all true neutral stays rest =
      ap (λ (z : Bool). (gives_login (said one) && z) || login_in (map said (filter keeps all))) stays ∙ ap (λ (z : Bool). (gives_login (said one) && lasts (map said all)) || z) rest
  login_pick one all false neutral stays rest = rest ∙ sym (ap (λ (e : Bool). (e && lasts (map said all)) || login_in (map said all)) (neutral refl).gives_none)

  login_kept : (all : List A) → AllByRecursion (Counts said keeps) all → login_in (map said (filter keeps all)) ≡ login_in (map said all)
  login_kept [] counts = refl
  login_kept (one ∷ all) counts = login_pick one all (keeps one) counts.0 (lasts_kept all counts.1) (login_kept all counts.1)

-- ---- what was refused since no more entries fit

and_false : (b : Bool) → (b && false) ≡ false
and_false true = refl
and_false false = refl

neutral_full : (request : Request) (limit : ℕ) → IsNeutral (request, replies.Denied (denials.Full limit))
neutral_full request limit = record { gives_none = and_false (is_response request); ends_none = and_false (is_end request) }

full_denial : (request : Request) (denial : Denial) → is_entered (request, replies.Denied denial) ≡ false → IsNeutral (request, replies.Denied denial)
full_denial request (denials.Full limit) is = neutral_full request limit
full_denial request denial is = absurd (true≢false is)

full_neutral : (request : Request) (reply : Reply) → is_entered (request, reply) ≡ false → IsNeutral (request, reply)
full_neutral request (replies.Denied denial) is = full_denial request denial is
full_neutral request reply is = absurd (true≢false is)

abbrev Talk : Type 0
Talk = List (Request × Reply)

abbrev itself : Request × Reply → Request × Reply
itself said = said

map_itself : (talk : Talk) → map itself talk ≡ talk
map_itself [] = refl
map_itself (said ∷ talk) = ap (λ (z : Talk). said ∷ z) (map_itself talk)

all_count : (talk : Talk) → AllByRecursion (Counts itself is_entered) talk
all_count [] = tt
all_count (said ∷ talk) = (λ is. full_neutral said.0 said.1 is, all_count talk)

entered_login : (talk : Talk) → login_in (filter is_entered talk) ≡ login_in talk
entered_login talk = sym (ap login_in (map_itself (filter is_entered talk))) ∙ login_kept itself is_entered talk (all_count talk) ∙ ap login_in (map_itself talk)

-- ---- entries of the session, or neutral ones

abbrev is_of : ℕ → Entry → Bool
is_of sid entry = entry.sid == sid

abbrev Own : ℕ → Entry → Type 0
Own sid entry = Counts said_by (is_of sid) entry

own_if : (sid : ℕ) (entry : Entry) → entry.sid ≡ sid → Own sid entry
own_if sid entry same = λ is. absurd (true≢false (sym (eq-eqb entry.sid sid same) ∙ is))

opening_own : (sid : ℕ) (entry : Entry) → entry.request ≡ requests.Open false → Own sid entry
opening_own sid entry opens = λ is. record {
  gives_none = ap (λ (r : Request). gives_login (r, entry.reply)) opens;
  ends_none = ap (λ (r : Request). ends_login (r, entry.reply)) opens;
}

own_number : (request : Request) (place sid : ℕ) → is_between request ≡ true → session_at request place sid ≡ sid
own_number (requests.Open console) place sid is = absurd (true≢false (sym is))
own_number request place sid is = refl

head_request : (request : Request) (reply : Reply) (entry : Entry) (entries : List Entry) (more : Talk) → map said_of (entry ∷ entries) ≡ (request, reply) ∷ more → entry.request ≡ request
head_request request reply entry entries more said = ap (λ (z : Talk). (get_or z 0 (request, reply)).0) said

-- one request, and what follows it
module _ (P : Entry → Type 0) (request : Request) (n : ℕ) (one : (place : ℕ) (entry : Entry) → entry.sid ≡ session_at entry.request place n → entry.request ≡ request → P entry) (numbers : List ℕ) (asks : Asks)
    (rest : (their : List ℕ) (entries : List Entry) → AreOf numbers their entries → map said_of entries ≡ filter is_entered (answered asks) → AllByRecursion P entries) where
  reply_step : (reply : Reply) (full : Bool) (their : List ℕ) (entries : List Entry) → AreOf ((if full then [] else n ∷ []) ++ numbers) their entries
      → map said_of entries ≡ cond (not full) ((request, reply) ∷ filter is_entered (answered asks)) (filter is_entered (answered asks)) → AllByRecursion P entries
  reply_step reply true their entries are said = rest their entries are said
  reply_step reply false [] entries are said = absurd are
  reply_step reply false (place ∷ their) [] are said = absurd are
  reply_step reply false (place ∷ their) (entry ∷ entries) are said =
      (one place entry are.0 (head_request request reply entry entries (filter is_entered (answered asks)) said), rest their entries are.2 (ap (λ z. drop 1 z) said))

  ask_step : (reply : Option Reply) (their : List ℕ) (entries : List Entry) → AreOf (if_entered reply n ++ numbers) their entries → map said_of entries ≡ filter is_entered (answered ((request, reply) ∷ asks)) → AllByRecursion P entries
  ask_step None their entries are said = rest their entries are said
  ask_step (Some reply) their entries are said = reply_step reply (says_full reply) their entries are said

none_left : (P : Entry → Type 0) (their : List ℕ) (entries : List Entry) → AreOf [] their entries → map said_of entries ≡ [] → AllByRecursion P entries
none_left P [] [] are said = tt
none_left P [] (entry ∷ entries) are said = absurd are
none_left P (place ∷ their) entries are said = absurd are

-- in a session that is open, up to its close
between_own : (sid : ℕ) (between : Asks) (last : Option Reply) (their : List ℕ) (entries : List Entry) → AreBetween between
    → AreOf (of_entered (numbers_told (Some sid) (between ++ (requests.Close, last) ∷ [])) (between ++ (requests.Close, last) ∷ [])) their entries
    → map said_of entries ≡ filter is_entered (answered (between ++ (requests.Close, last) ∷ [])) → AllByRecursion (Own sid) entries
between_own sid [] last their entries all are said =
    ask_step (Own sid) requests.Close sid (λ place entry is request. own_if sid entry (is ∙ ap (λ (r : Request). session_at r place sid) request)) [] [] (none_left (Own sid)) last their entries are said
between_own sid (ask ∷ between) last their entries all are said =
    let asks : Asks = between ++ (requests.Close, last) ∷ [] in
    ask_step (Own sid) ask.0 sid (λ place entry is request. own_if sid entry (is ∙ ap (λ (r : Request). session_at r place sid) request ∙ own_number ask.0 place sid all.0)) (of_entered (numbers_told (Some sid) asks) asks) asks
    (λ more others a s. between_own sid between last more others all.1 a s) ask.1 their entries
    (subst (λ (opened : Option ℕ). AreOf (if_entered ask.1 sid ++ of_entered (numbers_told opened asks) asks) their entries) (stays_open ask.0 ask.1 (Some sid) all.0) are) said

-- the first request opens it, or none
module _ (n : ℕ) (their : List ℕ) (entries : List Entry) where
  abbrev OfFirst : Option Reply → Asks → Type 0
  OfFirst first rest = AreOf (of_entered (numbers_told None ((requests.Open false, first) ∷ rest)) ((requests.Open false, first) ∷ rest)) their entries

  abbrev SaidFirst : Option Reply → Asks → Type 0
  SaidFirst first rest = map said_of entries ≡ filter is_entered (answered ((requests.Open false, first) ∷ rest))

  alone_own : (first : Option Reply) → opened_then (requests.Open false) first None ≡ None → OfFirst first [] → SaidFirst first [] → AllByRecursion (Own n) entries
  alone_own first none are said =
      ask_step (Own n) (requests.Open false) (number_told None) (λ place entry is request. opening_own n entry request) [] [] (none_left (Own n)) first their entries are said

  lone_own : (first : Option Reply) (rest : Asks) → rest ≡ [] → opened_then (requests.Open false) first None ≡ None → OfFirst first rest → SaidFirst first rest → AllByRecursion (Own n) entries
  lone_own first rest empty none are said = alone_own first none (subst (λ (z : Asks). OfFirst first z) empty are) (subst (λ (z : Asks). SaidFirst first z) empty said)

first_own : (first : Option Reply) (rest : Asks) (other : ℕ) (their : List ℕ) (entries : List Entry) → Follows first rest → OfFirst other their entries first rest → SaidFirst other their entries first rest → AllByRecursion (Own (number_by first other)) entries
first_own None rest other their entries follows are said = lone_own other their entries None rest follows refl are said
first_own (Some (replies.Opened sid)) rest other their entries follows are said =
    ask_step (Own sid) (requests.Open false) (number_told None) (λ place entry is request. opening_own sid entry request) (of_entered (numbers_told (Some sid) rest) rest) rest
    (λ more others a s. between_own sid follows.between follows.last more others follows.are_between
    (subst (λ (z : Asks). AreOf (of_entered (numbers_told (Some sid) z) z) more others) follows.is a) (subst (λ (z : Asks). map said_of others ≡ filter is_entered (answered z)) follows.is s))
    (Some (replies.Opened sid)) their entries are said
first_own (Some replies.Password) rest other their entries follows are said = lone_own other their entries (Some replies.Password) rest follows refl are said
first_own (Some (replies.Challenge number word_seed)) rest other their entries follows are said = lone_own other their entries (Some (replies.Challenge number word_seed)) rest follows refl are said
first_own (Some replies.Ok) rest other their entries follows are said = lone_own other their entries (Some replies.Ok) rest follows refl are said
first_own (Some (replies.Shown summary)) rest other their entries follows are said = lone_own other their entries (Some (replies.Shown summary)) rest follows refl are said
first_own (Some (replies.Denied denial)) rest other their entries follows are said = lone_own other their entries (Some (replies.Denied denial)) rest follows refl are said

course_own : (asks : Asks) (their : List ℕ) (entries : List Entry) → Course false asks → AreOf (of_entered (numbers_told None asks) asks) their entries → map said_of entries ≡ filter is_entered (answered asks)
    → AllByRecursion (Own (number_opened asks)) entries
course_own [] their entries course are said = none_left (Own 0) their entries are said
course_own (ask ∷ asks) their entries course are said =
    first_own ask.1 asks (number_opened asks) their entries course.1
    (subst (λ (r : Request). AreOf (of_entered (numbers_told None ((r, ask.1) ∷ asks)) ((r, ask.1) ∷ asks)) their entries) course.0 are)
    (subst (λ (r : Request). map said_of entries ≡ filter is_entered (answered ((r, ask.1) ∷ asks))) course.0 said)

-- the openings in vain before it
number_tried : (reply : Option Reply) (other : ℕ) → is_opened reply ≡ false → number_by reply other ≡ other
number_tried None other vain = refl
number_tried (Some (replies.Opened sid)) other vain = absurd (true≢false vain)
number_tried (Some replies.Password) other vain = refl
number_tried (Some (replies.Challenge number word_seed)) other vain = refl
number_tried (Some replies.Ok) other vain = refl
number_tried (Some (replies.Shown summary)) other vain = refl
number_tried (Some (replies.Denied denial)) other vain = refl

tries_own : (tries rest : Asks) (their : List ℕ) (entries : List Entry) → AllByRecursion IsTry tries → Course false rest → AreOf (of_entered (numbers_told None (tries ++ rest)) (tries ++ rest)) their entries
    → map said_of entries ≡ filter is_entered (answered (tries ++ rest)) → AllByRecursion (Own (number_opened (tries ++ rest))) entries
tries_own [] rest their entries all course are said = course_own rest their entries course are said
tries_own (ask ∷ tries) rest their entries all course are said =
    let more : Asks = tries ++ rest in
    let n : ℕ = number_opened more in
    let none : opened_then ask.0 ask.1 None ≡ None = ap (λ (r : Request). opened_then r ask.1 None) all.0.0 ∙ try_opens ask.1 all.0.1 in
    let own : AllByRecursion (Own n) entries =
    ask_step (Own n) ask.0 (number_told None) (λ place entry is request. opening_own n entry (request ∙ all.0.0)) (of_entered (numbers_told None more) more) more
    (λ others them a s. tries_own tries rest others them all.1 course a s) ask.1 their entries
    (subst (λ (opened : Option ℕ). AreOf (if_entered ask.1 (number_told None) ++ of_entered (numbers_told opened more) more) their entries) none are) said in
    subst (λ (sid : ℕ). AllByRecursion (Own sid) entries) (sym (number_tried ask.1 n all.0.1)) own

once_own : (asks : Asks) (their : List ℕ) (entries : List Entry) → OpensOnce asks → AreOf (of_entered (numbers_told None asks) asks) their entries → map said_of entries ≡ filter is_entered (answered asks)
    → AllByRecursion (Own (number_opened asks)) entries
once_own asks their entries once are said =
    subst (λ (z : Asks). AllByRecursion (Own (number_opened z)) entries) (sym once.is)
    (tries_own once.tries once.rest their entries once.are_tries once.course (subst (λ (z : Asks). AreOf (of_entered (numbers_told None z) z) their entries) once.is are) (subst (λ (z : Asks). map said_of entries ≡ filter is_entered (answered z)) once.is said))

-- ---- a front of the history

record Parts (entries : List Entry) (first : Talk) : Type 0 where
  front : List Entry
  more : List Entry
  is : entries ≡ front ++ more
  said : map said_of front ≡ first

parts : (entries : List Entry) (first later : Talk) → map said_of entries ≡ first ++ later → Parts entries first
parts entries [] later is = record { front = []; more = entries; is = refl; said = refl }
parts [] (said ∷ first) later is = absurd (cc)
parts (entry ∷ entries) (said ∷ first) later is =
    let rest = parts entries first later (ap (λ z. drop 1 z) is) in
    record {
      front = entry ∷ rest.front;
      more = rest.more;
      is = ap (λ (z : List Entry). entry ∷ z) rest.is;
      said = ap (λ (z : Talk). get_or z 0 said ∷ map said_of rest.front) is ∙ ap (λ (z : Talk). said ∷ z) rest.said;
    }

all_front : (P : Entry → Type 0) (front more : List Entry) → AllByRecursion P (front ++ more) → AllByRecursion P front
all_front P [] more all = tt
all_front P (entry ∷ front) more all = (all.0, all_front P front more all.1)

stands_in : (sid : ℕ) (asks later : Asks) (history : List Entry) → AllByRecursion (Own sid) history → map said_of history ≡ filter is_entered (answered (asks ++ later)) → login_in (answered asks) ≡ true → LoginStandsIn sid asks history
stands_in sid asks later history own said login =
    let both : answered (asks ++ later) ≡ answered asks ++ answered later = filter_map-append (λ (ask : Request × Option Reply). replied ask.0 ask.1) asks later in
    let p = parts history (filter is_entered (answered asks)) (filter is_entered (answered later)) (said ∙ ap (λ (z : Talk). filter is_entered z) both ∙ filter-append is_entered (answered asks) (answered later)) in
    let fronts = all_front (Own sid) p.front p.more (subst (λ (z : List Entry). AllByRecursion (Own sid) z) p.is own) in
    record {
      front = p.front;
      more = p.more;
      is = p.is;
      said = p.said;
      stands = login_kept said_by (is_of sid) p.front fronts ∙ ap login_in p.said ∙ entered_login (answered asks) ∙ login;
    }

-- ---- the session

module _ {Origin P : Type 0} (rows : PlaceTable (acts Origin) P) (first : Row (acts Origin) P) (old new : World Origin) (ending : Ending) (held : Held rows first old new ending) (once : OpensOnce (gives asked (deeds_of held))) where
  -- in what the session entered
  pub held_login : old.office.opened ≡ None → (entered : Entered (gives asked (deeds_of held)) old.office new.office) → (before after : List Deed) → deeds_of held ≡ before ++ after → login_in (answered (gives asked before)) ≡ true
      → LoginStandsIn (number_opened (gives asked (deeds_of held))) (gives asked before) entered.port.entries
  held_login none entered before after is login =
      let every = gives asked (deeds_of held) in
      let numbered = subst (λ (opened : Option ℕ). AreOf (of_entered (numbers_told opened every) every) entered.port.places entered.port.entries) none entered.port.numbered in
      let own = once_own every entered.port.places entered.port.entries once numbered entered.port.said in
      let split : every ≡ gives asked before ++ gives asked after = ap (λ (d : List Deed). gives asked d) is ∙ asked_both before after in
      stands_in (number_opened every) (gives asked before) (gives asked after) entered.port.entries own (entered.port.said ∙ ap (λ (z : Asks). filter is_entered (answered z)) split) login

  -- where the port's own entries are the whole history
  pub whole_login : old.office.opened ≡ None → old.office.port.mine ≡ [] → new.office.port.mine ≡ places (length new.office.port.seen) → (before after : List Deed) → deeds_of held ≡ before ++ after → login_in (answered (gives asked before)) ≡ true
      → LoginStandsIn (number_opened (gives asked (deeds_of held))) (gives asked before) new.office.port.seen
  whole_login none empty all before after is login =
      let every = gives asked (deeds_of held) in
      let entered = all_gain entered_gains (deeds_of held) old new (held_deeds held) in
      let whole = whole_entries (numbers_told old.office.opened every) entered.moments every old.office.port new.office.port empty all entered.port in
      subst (λ (z : List Entry). LoginStandsIn (number_opened every) (gives asked before) z) whole.1 (held_login none entered before after is login)
