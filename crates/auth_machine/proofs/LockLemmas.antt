-- A lock holds.
use Rattle.std.proofs.Common.{◌≡◌, ◌≢◌, ℕ, suc, ◌+◌, ◌≤◌, ◌<◌, max, Bool, true, false, cond, not, ◌&&◌, ◌||◌, List, [], ◌∷◌, ◌++◌, length, Option, Some, None, option_map, nat_eq, nat_le, nat_lt, refl, sym, ap, subst, ◌∙◌, arith, eq-eqb}
use Rattle.std.proofs.lemmas.Bool.{eqb-false, leb-true}
use Rattle.std.proofs.lemmas.Bool.Decides.{nat_tests}
use Rattle.std.proofs.lemmas.List.{append_assoc}
use Rattle.std.proofs.lemmas.Slice.Eq.{bytes_eq-Decides}
use Rattle.auth_records.specs.Spelling.{Fields}
use Rattle.auth_events.specs.Port.{session_at}
use Rattle.auth_events.specs.declared.denial.Denial.{Denial}
use Rattle.auth_events.specs.declared.denial.Denial.TheVariants.{Disabled, Expired, NotKept, Sleeping}
use Rattle.auth_events.specs.declared.entry.Entry.{Entry}
use Rattle.auth_events.specs.declared.reply.Reply.{Reply}
use Rattle.auth_events.specs.declared.reply.Reply.TheVariants as replies
use Rattle.auth_events.specs.declared.request.Request.{Request}
use Rattle.auth_events.specs.declared.request.Request.TheVariants as requests
use Rattle.auth_machine.specs.Answer.{answer_of}
use Rattle.auth_machine.specs.Answer.Answer.{Denied}
use Rattle.auth_machine.specs.History.{AreSteps, IsLegal, IsStep, Origin, after, after_entries, after_entry}
use Rattle.auth_machine.specs.Logins.{FreesNone, HasLockOf, IsDenied, IsLockDenial, IsLocked, LocksAt, is_freeing, is_ok, phase_of, tries}
use Rattle.auth_machine.specs.Login.{asleep, authenticate, drops, has_expired, has_password, is_disabled, later, refusal, respond, respond_in}
use Rattle.auth_machine.specs.Policy.{PolicyView}
use Rattle.auth_machine.specs.State.{Change, State, at_moment, changed, record_at, session_of, first_state}
use Rattle.auth_machine.specs.Step.{change_of, in_session, is_record_change, proposed}
use Rattle.auth_machine.specs.declared.session.Phase.{Phase}
use Rattle.auth_machine.specs.declared.session.Phase.TheVariants.{Bogus, Idle, In, Waiting}
use Rattle.auth_machine.specs.declared.session.Session.{Session}
use Rattle.auth_machine.proofs.ActLemmas.{altered, target}
use Rattle.auth_machine.proofs.EntriesLemmas.{after_joined, parts_before, parts_behind}
use Rattle.auth_machine.proofs.PhaseLemmas.{edits}
use Rattle.auth_machine.proofs.RecordLemmas.{Awaited, RecordMoves, record_moves}
use Rattle.auth_machine.proofs.RecordLemmas.RecordMoves.{becomes, enters, fails, made, removed, same, uses}
use Rattle.auth_machine.proofs.StepLemmas.{last_step, proposed_at, refused_at}

-- ---- the refusal

-- a refusal for a lock
record Refused (policy : PolicyView) (moment : ℕ) (f : Fields) (refusal : Option Denial) : Type 0 where
  denial : Denial
  is : refusal ≡ Some denial
  fits : IsLockDenial policy.bad_sleep f.since moment denial

-- without a line `badsleep`
disabled_locked : (f : Fields) → f.fails ≡ 5 → is_disabled None f ≡ true
disabled_locked f five = choose (not f.enabled) (not (has_password f.proto f)) (nat_eq f.fails 5) (eq-eqb f.fails 5 five)
  where
    choose : (a b c : Bool) → c ≡ true → (a || b) || (c && true) ≡ true
    choose true b c e = refl
    choose false true c e = refl
    choose false false true e = refl
    choose false false false e = absurd (cc)

-- what has expired has an expiry that has come
come : (moment : ℕ) (f : Fields) → has_expired moment f ≡ true → (0 < f.expires) × (f.expires ≤ moment)
come moment f is = choose (nat_eq f.expires 0) refl (nat_le f.expires moment) refl is
  where
    choose : (a : Bool) → nat_eq f.expires 0 ≡ a → (b : Bool) → nat_le f.expires moment ≡ b → not a && b ≡ true → (0 < f.expires) × (f.expires ≤ moment)
    choose false ea true eb h = let some : f.expires ≢ 0 = eqb-false f.expires 0 ea in (omega (arith, some), leb-true f.expires moment eb)
    choose false ea false eb h = absurd (cc)
    choose true ea b eb h = absurd (cc)

asleep_locked : (seconds moment : ℕ) (f : Fields) → f.fails ≡ 5 → LocksAt (Some seconds) f.since moment → asleep (Some seconds) moment f ≡ Some (Sleeping (later f.since seconds))
asleep_locked seconds moment f five locks =
    choose (nat_eq f.fails 5) (nat_lt 0 seconds) (nat_lt moment (later f.since seconds)) (eq-eqb f.fails 5 five) (grind (arith, nat_tests)) (below (nat_lt moment (later f.since seconds)) refl locks.1)
  where
    below : (b : Bool) → nat_lt moment (later f.since seconds) ≡ b → moment < later f.since seconds → nat_lt moment (later f.since seconds) ≡ true
    below true e h = e
    below false e h = absurd (grind (arith, nat_tests))

    choose : (a b c : Bool) → a ≡ true → b ≡ true → c ≡ true → cond (a && (b && c)) (Some (Sleeping (later f.since seconds))) None ≡ Some (Sleeping (later f.since seconds))
    choose true true true ea eb ec = refl
    choose true true false ea eb ec = absurd (cc)
    choose true false c ea eb ec = absurd (cc)
    choose false b c ea eb ec = absurd (cc)

refused_locked : (policy : PolicyView) (moment : ℕ) (f : Fields) → IsLocked policy moment f → Refused policy moment f (refusal policy moment f)
refused_locked policy moment f locked = by_line policy.bad_sleep refl locked.locks
  where
    choose : (a b : Bool) (late : Option Denial) → (b ≡ true → IsLockDenial policy.bad_sleep f.since moment (Expired f.expires)) → Refused policy moment f late
        → Refused policy moment f (cond a (Some Disabled) (cond b (Some (Expired f.expires)) late))
    choose true b late expired out = record { denial = Disabled; is = refl; fits = tt }
    choose false true late expired out = record { denial = Expired f.expires; is = refl; fits = expired refl }
    choose false false late expired out = out

    by_line : (bad_sleep : Option ℕ) → policy.bad_sleep ≡ bad_sleep → LocksAt bad_sleep f.since moment → Refused policy moment f (refusal policy moment f)
    by_line None is locks =
        let out : is_disabled policy.bad_sleep f ≡ true = ap (λ (line : Option ℕ). is_disabled line f) is ∙ disabled_locked f locked.five in
        record { denial = Disabled; is = ap (λ (b : Bool). cond b (Some Disabled) (cond (has_expired moment f) (Some (Expired f.expires)) (asleep policy.bad_sleep moment f))) out; fits = tt }
    by_line (Some seconds) is locks =
        let late : asleep policy.bad_sleep moment f ≡ Some (Sleeping (later f.since seconds)) = ap (λ (line : Option ℕ). asleep line moment f) is ∙ asleep_locked seconds moment f locked.five locks in
        choose (is_disabled policy.bad_sleep f) (has_expired moment f) (asleep policy.bad_sleep moment f)
        (λ e. subst (λ (line : Option ℕ). IsLockDenial line f.since moment (Expired f.expires)) (sym is) (come moment f e))
        (record { denial = Sleeping (later f.since seconds); is = late; fits = subst (λ (line : Option ℕ). IsLockDenial line f.since moment (Sleeping (later f.since seconds))) (sym is) refl })

-- ---- tries

abbrev Drops : PolicyView → State → ℕ → ℕ → Request → Denial → Type 0
Drops policy s place sid request d = (session : Session) × (change_of policy s place sid request ≡ drops session (Denied d) Idle)

module _ (policy : PolicyView) (s : State) (place sid : ℕ) (name : List ℕ) (f : Fields) (d : Denial) (there : record_at name s.records ≡ Some f) (refused : refusal policy s.moment f ≡ Some d) where
  of_named : (session : Session) (one : List ℕ) → one ≡ name → authenticate policy s session one ≡ drops session (Denied d) Idle
  unfolding authenticate
  of_named session one is = rw (is, there, refused) refl

  of_waiting : (session : Session) (hash : List ℕ) (word : Option ℕ) (one : List ℕ) → one ≡ name → respond_in policy s session hash word (Waiting one) ≡ drops session (Denied d) Idle
  of_waiting session hash word one is = rw (is, there, refused) refl

  tries_response : (hash : List ℕ) (word : Option ℕ) (session : Session) (phase : Phase) → session.phase ≡ phase → tries name (Some phase) (requests.Response hash word) ≡ true
      → respond policy s session hash word ≡ drops session (Denied d) Idle
  unfolding respond
  tries_response hash word session (Waiting one) is tried =
      ap (respond_in policy s session hash word) is ∙ of_waiting session hash word one ((bytes_eq-Decides one name).0 tried)
  tries_response hash word session Idle is tried = absurd (cc)
  tries_response hash word session Bogus is tried = absurd (cc)
  tries_response hash word session (In one) is tried = absurd (cc)

  try_drops : (request : Request) (found : Option Session) → session_of sid s.sessions ≡ found → tries name (option_map (λ x. x.phase) found) request ≡ true → Drops policy s place sid request d
  try_drops (requests.Authenticate one) None is tried = absurd (cc)
  try_drops (requests.Authenticate one) (Some session) is tried =
      (session, ap (λ found. in_session found (λ x. authenticate policy s x one)) is ∙ of_named session one ((bytes_eq-Decides one name).0 tried))
  try_drops (requests.Response hash word) None is tried = absurd (cc)
  try_drops (requests.Response hash word) (Some session) is tried =
      (session, ap (λ found. in_session found (λ x. respond policy s x hash word)) is ∙ tries_response hash word session session.phase refl tried)
  try_drops _ None is tried = absurd (cc)
  try_drops _ (Some session) is tried = absurd (cc)

refused_answer : (refused : Bool) (reply : Reply) (d : Denial) → (refused ≡ true → false ≡ true) → answer_of reply ≡ cond refused (Denied NotKept) (Denied d) → reply ≡ replies.Denied d
refused_answer true reply d edit is = let e = edit refl in absurd (cc)
refused_answer false reply d edit is = choose reply is
  where
    choose : (reply : Reply) → answer_of reply ≡ Denied d → reply ≡ replies.Denied d
    choose (replies.Denied other) is = cc
    choose (replies.Opened sid) is = absurd (cc)
    choose replies.Password is = absurd (cc)
    choose (replies.Challenge number word_seed) is = absurd (cc)
    choose replies.Ok is = absurd (cc)
    choose (replies.Shown summary) is = absurd (cc)

dropped_denies : (policy : PolicyView) (s : State) (place : ℕ) (entry : Entry) (session : Session) (d : Denial) → IsStep policy s place entry
    → proposed_at policy s place entry ≡ drops session (Denied d) Idle → entry.reply ≡ replies.Denied d
dropped_denies policy s place entry session d step is =
    refused_answer (refused_at policy s place entry) entry.reply d
    (λ e. sym (ap (λ change. is_record_change change.records s.records) is) ∙ edits policy s place entry step e)
    (step.reply ∙ ap (λ change. cond (refused_at policy s place entry) (Denied NotKept) change.answer) is)

-- a try at a record that is refused is denied by the refusal
pub refused_denies : (policy : PolicyView) (s : State) (place : ℕ) (entry : Entry) (name : List ℕ) (f : Fields) (d : Denial) → IsStep policy s place entry → record_at name s.records ≡ Some f
    → refusal policy (max s.moment entry.at) f ≡ Some d → tries name (phase_of entry.sid s) entry.request ≡ true → entry.reply ≡ replies.Denied d
unfolding proposed
refused_denies policy s place entry name f d step there out tried =
    let drop = try_drops policy (at_moment entry.at s) place entry.sid name f d there out entry.request (session_of entry.sid s.sessions) refl tried in
    dropped_denies policy s place entry drop.0 d step drop.1

step_denies : (policy : PolicyView) (s : State) (place : ℕ) (entry : Entry) (name : List ℕ) (f : Fields) → IsStep policy s place entry → record_at name s.records ≡ Some f
    → IsLocked policy (max s.moment entry.at) f → tries name (phase_of entry.sid s) entry.request ≡ true → IsDenied (IsLockDenial policy.bad_sleep f.since (max s.moment entry.at)) entry.reply
step_denies policy s place entry name f step there locked tried =
    let out = refused_locked policy (max s.moment entry.at) f locked in
    subst (IsDenied (IsLockDenial policy.bad_sleep f.since (max s.moment entry.at))) (sym (refused_denies policy s place entry name f out.denial step there out.is tried)) out.fits

-- ---- while nobody frees the record

earlier_lock : (bad_sleep : Option ℕ) (since m n : ℕ) → m ≤ n → LocksAt bad_sleep since n → LocksAt bad_sleep since m
earlier_lock None since m n most locks = tt
earlier_lock (Some seconds) since m n most locks =
    let below : n < later since seconds = locks.1 in
    (locks.0, omega arith)

target_alters : (request : Request) (k : List ℕ) (f : Fields) → target request ≡ Some k → is_freeing k request ≡ false → ((altered request f).fails ≡ f.fails) × ((altered request f).since ≡ f.since)
target_alters (requests.Enable name) k f to none =
    let one : name ≡ k = cc in
    let e = (bytes_eq-Decides name k).1 one in
    absurd (cc)
target_alters (requests.Disable name) k f to none = (refl, refl)
target_alters (requests.Group name group) k f to none = (refl, refl)
target_alters (requests.Proto name proto) k f to none = (refl, refl)
target_alters (requests.Password name salt hash) k f to none = (refl, refl)
target_alters (requests.Otp name number word_seed kept) k f to none = (refl, refl)
target_alters (requests.Wiz name) k f to none = (refl, refl)
target_alters (requests.Unwiz name) k f to none = (refl, refl)
target_alters (requests.Superwiz name) k f to none = (refl, refl)
target_alters (requests.Expire name until) k f to none = (refl, refl)
target_alters _ k f to none = (refl, refl)

step_moment : (refused : Bool) (change : Change) (j : ℕ) (s : State) → (cond refused s (changed j change s)).moment ≡ s.moment
step_moment true change j s = refl
step_moment false change j s = refl

entry_moment : (policy : PolicyView) (s : State) (place : ℕ) (entry : Entry) → (after_entry policy s place entry).moment ≡ max s.moment entry.at
entry_moment policy s place entry = step_moment (refused_at policy s place entry) (proposed_at policy s place entry) (session_at entry.request place entry.sid) (at_moment entry.at s)

moments_rise : (policy : PolicyView) (entries : List Entry) (place : ℕ) (s : State) → s.moment ≤ (after_entries policy s place entries).moment
moments_rise policy [] place s = omega arith
moments_rise policy (entry ∷ entries) place s =
    let a : (after_entry policy s place entry).moment ≡ max s.moment entry.at = entry_moment policy s place entry in
    let b : (after_entry policy s place entry).moment ≤ (after_entries policy (after_entry policy s place entry) (suc place) entries).moment = moments_rise policy entries (suc place) (after_entry policy s place entry) in
    omega arith

-- the record is there and has this lock
record Kept (f : Fields) (found : Option Fields) : Type 0 where
  g : Fields
  there : found ≡ Some g
  fails : g.fails ≡ f.fails
  since : g.since ≡ f.since

module _ (policy : PolicyView) (f : Fields) (name : List ℕ) (m : ℕ) (locked : IsLocked policy m f) where
  unusable : (g : Fields) (s : State) → g.fails ≡ f.fails → g.since ≡ f.since → s.moment ≤ m → refusal policy s.moment g ≡ None → ⊥
  unusable g s five_too since most usable =
      let there : IsLocked policy s.moment g = record {
        five = five_too ∙ locked.five;
        locks = subst (λ (n : ℕ). LocksAt policy.bad_sleep n s.moment) (sym since) (earlier_lock policy.bad_sleep f.since s.moment m most locked.locks);
      } in
      let out = refused_locked policy s.moment g there in
      let e = out.is in
      cc

  usable_not : (g : Fields) (s : State) (entry : Entry) → Kept f (Some g) → s.moment ≤ m → Awaited policy s name entry g → ⊥
  usable_not g s entry kept most awaited =
      let e = kept.there in
      let one : kept.g ≡ g = cc in
      unusable g s (ap (λ (h : Fields). h.fails) (sym one) ∙ kept.fails) (ap (λ (h : Fields). h.since) (sym one) ∙ kept.since) most awaited.usable

  kept_by : (s : State) (entry : Entry) (old new : Option Fields) → RecordMoves policy s name entry old new → s.moment ≤ m → is_ok entry.reply && is_freeing name entry.request ≡ false
      → Kept f old → Kept f new
  kept_by s entry old new (same _ out) most none kept = kept
  kept_by s entry old new (made long group session is there to) most none kept = let e = kept.there in absurd (cc)
  kept_by s entry old new (removed g session is reply there power) most none kept =
      let freeing : is_freeing name entry.request ≡ true = ap (is_freeing name) is ∙ (bytes_eq-Decides name name).1 refl in
      let none2 : is_freeing name entry.request ≡ false = ap (λ r. is_ok r && is_freeing name entry.request) (sym reply) ∙ none in
      absurd (cc)
  kept_by s entry old new (becomes g session to reply there power) most none kept =
      let none2 : is_freeing name entry.request ≡ false = ap (λ r. is_ok r && is_freeing name entry.request) (sym reply) ∙ none in
      let alters = target_alters entry.request name g to none2 in
      let e = kept.there in
      let one : kept.g ≡ g = cc in
      record { g = altered entry.request g; there = refl; fails = alters.0 ∙ ap (λ (h : Fields). h.fails) (sym one) ∙ kept.fails; since = alters.1 ∙ ap (λ (h : Fields). h.since) (sym one) ∙ kept.since }
  kept_by s entry old new (fails g awaited out) most none kept = absurd (usable_not g s entry kept most awaited)
  kept_by s entry old new (enters g awaited reply proto) most none kept = absurd (usable_not g s entry kept most awaited)
  kept_by s entry old new (uses g otp w awaited reply word chain) most none kept = absurd (usable_not g s entry kept most awaited)

  kept_after : (entries : List Entry) (place : ℕ) (s : State) → AreSteps policy s place entries → (after_entries policy s place entries).moment ≤ m → FreesNone name entries
      → Kept f (record_at name s.records) → Kept f (record_at name (after_entries policy s place entries).records)
  kept_after [] place s steps most none kept = kept
  kept_after (entry ∷ entries) place s steps most none kept =
      let a : (after_entry policy s place entry).moment ≡ max s.moment entry.at = entry_moment policy s place entry in
      let b : (after_entry policy s place entry).moment ≤ (after_entries policy (after_entry policy s place entry) (suc place) entries).moment = moments_rise policy entries (suc place) (after_entry policy s place entry) in
      let most_now : max s.moment entry.at ≤ m = omega arith in
      kept_after entries (suc place) (after_entry policy s place entry) steps.1 most none.1
      (kept_by (at_moment entry.at s) entry (record_at name s.records) (record_at name (after_entry policy s place entry).records) (record_moves policy s place entry steps.0 name) most_now none.0 kept)

at_first : (f : Fields) (found : Option Fields) → found ≡ Some f → Kept f found
at_first f found is = record { g = f; there = is; fails = refl; since = refl }

kept_through : (origin : Origin) (before during : List Entry) (name : List ℕ) (f : Fields) (m : ℕ) → IsLegal origin (before ++ during) → record_at name (after origin before).records ≡ Some f
    → IsLocked origin.policy m f → (after origin (before ++ during)).moment ≤ m → FreesNone name during → Kept f (record_at name (after origin (before ++ during)).records)
kept_through origin before during name f m legal there locked most none =
    let joined = after_joined origin.policy (first_state origin.records) 0 before during in
    let most2 : (after_entries origin.policy (after origin before) (0 + length before) during).moment ≤ m = subst (λ (s : State). s.moment ≤ m) joined most in
    subst (λ (s : State). Kept f (record_at name s.records)) (sym joined)
    (kept_after origin.policy f name m locked during (0 + length before) (after origin before) (parts_behind origin.policy (first_state origin.records) 0 before during legal) most2 none
    (at_first f (record_at name (after origin before).records) there))

pub lock_stays : (origin : Origin) (before during : List Entry) (name : List ℕ) (f : Fields) → IsLegal origin (before ++ during) → record_at name (after origin before).records ≡ Some f
    → IsLocked origin.policy (after origin (before ++ during)).moment f → FreesNone name during → HasLockOf f name (after origin (before ++ during)).records
lock_stays origin before during name f legal there locked none =
    let kept = kept_through origin before during name f (after origin (before ++ during)).moment legal there locked (omega arith) none in
    record { g = kept.g; there = kept.there; fails = kept.fails; since = kept.since }

pub lock_denies : (origin : Origin) (before during : List Entry) (entry : Entry) (name : List ℕ) (f : Fields) → IsLegal origin (before ++ (during ++ entry ∷ []))
    → record_at name (after origin before).records ≡ Some f → IsLocked origin.policy (max (after origin (before ++ during)).moment entry.at) f → FreesNone name during
    → tries name (phase_of entry.sid (after origin (before ++ during))) entry.request ≡ true → IsDenied (IsLockDenial origin.policy.bad_sleep f.since (max (after origin (before ++ during)).moment entry.at)) entry.reply
lock_denies origin before during entry name f legal there locked none tried =
    let all : IsLegal origin ((before ++ during) ++ entry ∷ []) = subst (IsLegal origin) (sym (append_assoc before during (entry ∷ []))) legal in
    let first : IsLegal origin (before ++ during) = parts_before origin.policy (first_state origin.records) 0 (before ++ during) (entry ∷ []) all in
    let m = max (after origin (before ++ during)).moment entry.at in
    let most : (after origin (before ++ during)).moment ≤ m = omega arith in
    let kept = kept_through origin before during name f m first there locked most none in
    let same_lock : IsLocked origin.policy m kept.g = record { five = kept.fails ∙ locked.five; locks = subst (λ (n : ℕ). LocksAt origin.policy.bad_sleep n m) (sym kept.since) locked.locks } in
    subst (λ (n : ℕ). IsDenied (IsLockDenial origin.policy.bad_sleep n m) entry.reply) kept.since
    (step_denies origin.policy (after origin (before ++ during)) (0 + length (before ++ during)) entry name kept.g (last_step origin (before ++ during) entry all) kept.there same_lock tried)
