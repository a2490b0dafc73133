-- A book with one entry more.
use Rattle.std.proofs.Common.{arith, ◌≡◌, refl, sym, ap, subst, ◌∙◌, ℕ, ◌<◌, ◌≤◌, ◌+◌, ◌-◌, ◌^◌, min, Bool, true, false, not, ◌&&◌, cond, List, [], ◌∷◌, ◌++◌, length, Option, None, IfSome, Ok}
use Rattle.std.proofs.lemmas.List.{length_push}
use Rattle.fw_outside.specs.Counts.{Grew, Rose}
use Rattle.fw_outside.specs.KeeperView.{KeeperView, NamedBytes}
use Rattle.auth_records.specs.Spelling.{Fields}
use Rattle.auth_events.specs.Fits.{Fits}
use Rattle.auth_events.specs.Port.{session_at}
use Rattle.auth_events.specs.declared.entry.Entry.{Entry}
use Rattle.auth_events.specs.declared.reply.Reply.{Reply}
use Rattle.auth_events.specs.declared.reply.Reply.TheVariants as replies
use Rattle.auth_events.specs.declared.request.Request.{Request}
use Rattle.auth_events.specs.declared.request.Request.TheVariants as requests
use Rattle.auth_machine.proofs.FitLemmas.{IsOwn, own_answer}
use Rattle.auth_machine.proofs.HistoryLemmas.{after_one_more, edits_one_more, legal_one_more, unkept_one_more}
use Rattle.auth_machine.proofs.TableLemmas.{called_if, calls_grew, lacking_calls, lacking_faults, lacking_table, clash, count_after, kept_unless, table_after, unkept_rose}
use Rattle.auth_machine.specs.Answer.{Answer, answer_of}
use Rattle.auth_machine.specs.Answers.{full_answer, full_of, is_unkept, is_unkept_answer}
use Rattle.auth_machine.specs.Book.{Asked, AddsEntry, CalledByReply, EntersReply, KeeperAfterReply, Stands, edits_records}
use Rattle.auth_machine.specs.History.{CountsCalls, CountsUnkept, DecodesTo, HasRecords, IsStep, Origin, after, edits, unkept}
use Rattle.auth_machine.specs.Policy.{PolicyView}
use Rattle.auth_machine.specs.State.{State, Change, at_moment, changed, records_after}
use Rattle.auth_machine.specs.Step.{answer, is_refused, keeps, proposed}
use Rattle.auth_machine.specs.Keeping.{IsCalledIf, MayBeCalled}
use Rattle.auth_machine.specs.Stepping.{Steps}

-- ---- a session's number is told once

pub same_session : (request : Request) (place sid : ℕ) → session_at request place (session_at request place sid) ≡ session_at request place sid
same_session (requests.Open console) place sid = refl
same_session (requests.Authenticate name) place sid = refl
same_session (requests.Response hash word) place sid = refl
same_session (requests.Operation service host) place sid = refl
same_session (requests.Adduser name long) place sid = refl
same_session (requests.Deluser name) place sid = refl
same_session (requests.Enable name) place sid = refl
same_session (requests.Disable name) place sid = refl
same_session (requests.Group name group) place sid = refl
same_session (requests.Proto name proto) place sid = refl
same_session (requests.Password name salt hash) place sid = refl
same_session (requests.Otp name number word_seed kept) place sid = refl
same_session (requests.Wiz name) place sid = refl
same_session (requests.Unwiz name) place sid = refl
same_session (requests.Superwiz name) place sid = refl
same_session (requests.Expire name until) place sid = refl
same_session (requests.Display name) place sid = refl
same_session (requests.List after) place sid = refl
same_session requests.Close place sid = refl

-- ---- a step's reply

full_as_answer : (reply : Reply) → full_of reply ≡ full_answer (answer_of reply)
full_as_answer (replies.Opened sid) = refl
full_as_answer replies.Password = refl
full_as_answer (replies.Challenge number word_seed) = refl
full_as_answer replies.Ok = refl
full_as_answer (replies.Shown summary) = refl
full_as_answer (replies.Denied denial) = refl

unkept_as_answer : (reply : Reply) → is_unkept reply ≡ is_unkept_answer (answer_of reply)
unkept_as_answer (replies.Opened sid) = refl
unkept_as_answer replies.Password = refl
unkept_as_answer (replies.Challenge number word_seed) = refl
unkept_as_answer replies.Ok = refl
unkept_as_answer (replies.Shown summary) = refl
unkept_as_answer (replies.Denied denial) = refl

-- what is proposed may be answered by the rules themselves
pub own_proposal : (policy : PolicyView) (s : State) (place sid at : ℕ) (request : Request) → IsOwn request place (proposed policy s place sid at request).answer
unfolding proposed
own_proposal policy s place sid at request = own_answer policy (at_moment at s) place sid request

never_full : (b : Bool) (a not_kept : Answer) → full_answer a ≡ None → full_answer not_kept ≡ None → full_answer (cond b not_kept a) ≡ None
never_full true a not_kept own denied = denied
never_full false a not_kept own denied = own

-- no step is answered that the history is full
pub step_not_full : (policy : PolicyView) (s : State) (place sid at : ℕ) (request : Request) (kept : Bool) (reply : Reply)
    → answer_of reply ≡ answer policy s place sid at request kept → full_of reply ≡ None
step_not_full policy s place sid at request kept reply is =
    full_as_answer reply ∙ ap full_answer is
    ∙ never_full (is_refused policy s place sid at request kept) (proposed policy s place sid at request).answer _ (own_proposal policy s place sid at request).full refl

both : (b c : Bool) → b && c ≡ true → c ≡ true
both true c h = h
both false c h = clash h

unkept_by : (b : Bool) (a not_kept : Answer) → is_unkept_answer a ≡ false → is_unkept_answer (cond b not_kept a) ≡ true → b ≡ true
unkept_by true a not_kept own h = refl
unkept_by false a not_kept own h = clash (sym own ∙ h)

negated : (b : Bool) → not b ≡ true → b ≡ false
negated false h = refl
negated true h = clash h

-- a step that is answered so wasn't kept
unkept_step : (policy : PolicyView) (s : State) (place sid at : ℕ) (request : Request) (kept : Bool) (reply : Reply)
    → answer_of reply ≡ answer policy s place sid at request kept → is_unkept reply ≡ true → kept ≡ false
unkept_step policy s place sid at request kept reply is unkept =
    negated kept (both (keeps policy s place sid at request) (not kept)
    (unkept_by (is_refused policy s place sid at request kept) (proposed policy s place sid at request).answer _ (own_proposal policy s place sid at request).kept
    (sym (ap is_unkept_answer is) ∙ sym (unkept_as_answer reply) ∙ unkept)))

pub step_rose : (policy : PolicyView) (s new : State) (place sid at : ℕ) (request : Request) (kept : Bool) (reply : Reply) (before now : KeeperView)
    → Steps policy place sid at request reply kept s new before now → is_unkept reply ≡ true → Rose before.faults now.faults
step_rose policy s new place sid at request kept reply before now step unkept =
    unkept_rose (keeps policy s place sid at request) (proposed policy s place sid at request).records kept before now step.keeping
    (unkept_step policy s place sid at request kept reply step.reply_is unkept)

pub either_fits : (request : Request) (place : ℕ) (b : Bool) (a not_kept : Answer) (reply : Reply) → ((r : Reply) → answer_of r ≡ a → Fits request place r)
    → ((r : Reply) → answer_of r ≡ not_kept → Fits request place r) → answer_of reply ≡ cond b not_kept a → Fits request place reply
either_fits request place true a not_kept reply own denied is = denied reply is
either_fits request place false a not_kept reply own denied is = own reply is

-- ---- the state after a step

records_of : (b : Bool) (s : State) (sid at : ℕ) (change : Change)
    → (cond b (at_moment at s) (changed sid change (at_moment at s))).records ≡ cond b s.records (records_after change.records s.records)
records_of true s sid at change = refl
records_of false s sid at change = refl

-- ---- the book

abbrev entry_of : ℕ → ℕ → Request → Bool → Reply → Entry
entry_of sid at request kept reply = record { sid = sid; at = at; request = request; kept = kept; reply = reply }

-- the step of the request that is entered next, for its session
abbrev Next : Origin → List Entry → ℕ → ℕ → Request → Reply → Bool → State → KeeperView → KeeperView → Type 0
Next origin h sid at request reply kept new before now = Steps origin.policy (length h) sid at request reply kept (after origin h) new before now

next_state : (origin : Origin) (h : List Entry) (sid at : ℕ) (request : Request) (reply : Reply) (kept : Bool) (new : State) (before now : KeeperView)
    → Next origin h sid at request reply kept new before now → new ≡ after origin (h ++ entry_of sid at request kept reply ∷ [])
next_state origin h sid at request reply kept new before now step =
    step.state_is ∙ sym (after_one_more origin h (entry_of sid at request kept reply))

next_is_step : (origin : Origin) (h : List Entry) (sid at : ℕ) (request : Request) (reply : Reply) (kept : Bool) (new : State) (before now : KeeperView)
    → session_at request (length h) sid ≡ sid → Next origin h sid at request reply kept new before now
    → IsStep origin.policy (after origin h) (length h) (entry_of sid at request kept reply)
next_is_step origin h sid at request reply kept new before now own step = record {
  reply = step.reply_is;
  kept = kept_unless (keeps origin.policy (after origin h) (length h) sid at request) (proposed origin.policy (after origin h) (length h) sid at request).records kept before now step.keeping;
  sid = own;
}

next_records : (origin : Origin) (h : List Entry) (sid at : ℕ) (request : Request) (reply : Reply) (kept : Bool) (new : State) (before now : KeeperView)
    → Next origin h sid at request reply kept new before now → HasRecords origin h before → HasRecords origin (h ++ entry_of sid at request kept reply ∷ []) now
next_records origin h sid at request reply kept new before now step has =
    let change : Change = proposed origin.policy (after origin h) (length h) sid at request in
    let is : (after origin (h ++ entry_of sid at request kept reply ∷ [])).records
    ≡ cond (is_refused origin.policy (after origin h) (length h) sid at request kept) (after origin h).records (records_after change.records (after origin h).records) =
    ap (λ (s : State). s.records) (after_one_more origin h (entry_of sid at request kept reply))
    ∙ records_of (is_refused origin.policy (after origin h) (length h) sid at request kept) (after origin h) (session_at request (length h) sid) at change in
    subst (λ (records : List Fields). IfSome now.table (DecodesTo records)) (sym is)
    (table_after change.records kept before now (after origin h).records step.readable step.keeping has)

next_faults : (origin : Origin) (failed : ℕ) (h : List Entry) (sid at : ℕ) (request : Request) (reply : Reply) (kept : Bool) (new : State) (before now : KeeperView)
    → Next origin h sid at request reply kept new before now → CountsUnkept failed h before → CountsUnkept failed (h ++ entry_of sid at request kept reply ∷ []) now
next_faults origin failed h sid at request reply kept new before now step most =
    let more : unkept (h ++ entry_of sid at request kept reply ∷ []) ≡ unkept h + cond kept 0 1 = unkept_one_more h (entry_of sid at request kept reply) in
    count_after (keeps origin.policy (after origin h) (length h) sid at request) (proposed origin.policy (after origin h) (length h) sid at request).records kept before now
    (failed + unkept h) _ (omega (arith, more)) step.keeping most

one_grown : (n : ℕ) → Grew 1 n (n + 1)
one_grown n = record { least = omega (arith); most = omega (arith); later = omega (arith) }

calls_more : (before edits more n asks also old new : ℕ) → min (before + edits) (2 ^ 64 - 1) ≤ old → Grew more old new → min (before + (edits + more)) (2 ^ 64 - 1) ≤ new
calls_more before edits more n asks also old new least grew =
    let a = grew.least in
    omega (arith, least, a)

few_calls : (before edits more n asks also old new : ℕ) → (asks < 2 ^ 64 - 1 → old + n ≤ before + edits + asks) → Grew more old new → Grew 1 asks also
    → also < 2 ^ 64 - 1 → new + (n + 1) ≤ before + (edits + more) + also
few_calls before edits more n asks also old new few grew counted below =
    let later = counted.later in
    let one = counted.least in
    let most = grew.most in
    let was : old + n ≤ before + edits + asks = few (omega (arith, later, below)) in
    omega (arith, was, one, most, below)

next_calls : (origin : Origin) (called : ℕ) (h : List Entry) (sid at : ℕ) (request : Request) (reply : Reply) (kept : Bool) (new : State) (asks also : ℕ) (before now : KeeperView)
    → Next origin h sid at request reply kept new before now → Grew 1 asks also → CountsCalls called origin h asks before
    → CountsCalls called origin (h ++ entry_of sid at request kept reply ∷ []) also now
next_calls origin called h sid at request reply kept new asks also before now step counted calls =
    let one : ℕ = cond (keeps origin.policy (after origin h) (length h) sid at request) 1 0 in
    let more : edits origin (h ++ entry_of sid at request kept reply ∷ []) ≡ edits origin h + one = edits_one_more origin h (entry_of sid at request kept reply) in
    let long : length (h ++ entry_of sid at request kept reply ∷ []) ≡ length h + 1 = omega (arith, length_push h (entry_of sid at request kept reply)) in
    let grew : Grew one before.calls now.calls =
    calls_grew (keeps origin.policy (after origin h) (length h) sid at request) (proposed origin.policy (after origin h) (length h) sid at request).records kept before now step.keeping in
    record {
      least = rw more (calls_more called (edits origin h) one (length h) asks also before.calls now.calls calls.least grew);
      most = λ below. rw (more, long) (few_calls called (edits origin h) one (length h) asks also before.calls now.calls calls.most grew counted below);
    }

-- what is called without an entry is called for the request
pub lacking_counted : (called : ℕ) (origin : Origin) (h : List Entry) (asks also : ℕ) (before now : KeeperView) → (before.calls ≤ now.calls) × (now.calls ≤ before.calls + 1) → Grew 1 asks also
    → CountsCalls called origin h asks before → CountsCalls called origin h also now
lacking_counted called origin h asks also before now lacks counted calls =
    let later = lacks.0 in
    let most = lacks.1 in
    let least = calls.least in
    let one = counted.least in
    let asked = counted.later in
    record {
      least = omega (arith, least, later);
      most = λ below. let was = calls.most (omega (arith, asked, below)) in omega (arith, was, one, most, below);
    }

one_longer : (h : List Entry) (entry : Entry) (limit : ℕ) → length h < limit → length (h ++ entry ∷ []) ≤ limit
one_longer h entry limit fits = omega (arith, length_push h entry, fits)

-- the step of a book's policy and state is that of its origin and history
rebased : (origin : Origin) (h : List Entry) (limit : ℕ) (refused : Bool) (asks : ℕ) (first : KeeperView) (policy : PolicyView) (s new : State) (place sid at : ℕ) (request : Request) (reply : Reply) (kept : Bool) (before now : KeeperView)
    → Stands h limit refused asks origin first before policy s → place ≡ length h
    → Steps policy place sid at request reply kept s new before now → Next origin h sid at request reply kept new before now
rebased origin h limit refused asks first policy s new place sid at request reply kept before now book is step =
    subst (λ (n : ℕ). Steps origin.policy n sid at request reply kept (after origin h) new before now) is
    (subst (λ (p : PolicyView). Steps p place sid at request reply kept (after origin h) new before now) book.policy_is
    (subst (λ (z : State). Steps policy place sid at request reply kept z new before now) book.state_is step))

-- the book stands with the entry
pub stands_with : (origin : Origin) (h : List Entry) (limit : ℕ) (refused : Bool) (asks also : ℕ) (first : KeeperView) (policy : PolicyView) (s new : State) (place sid at : ℕ) (request : Request) (reply : Reply) (kept : Bool) (before now : KeeperView)
    → Grew 1 asks also → Stands h limit refused asks origin first before policy s → place ≡ length h → length h < limit → session_at request place sid ≡ sid
    → Steps policy place sid at request reply kept s new before now
    → Stands (h ++ entry_of sid at request kept reply ∷ []) limit refused also origin first now policy new
stands_with origin h limit refused asks also first policy s new place sid at request reply kept before now counted book is fits own step =
    let next : Next origin h sid at request reply kept new before now = rebased origin h limit refused asks first policy s new place sid at request reply kept before now book is step in
    record {
      sound = book.sound;
      policy_is = book.policy_is;
      state_is = next_state origin h sid at request reply kept new before now next;
      legal = legal_one_more origin h (entry_of sid at request kept reply) book.legal
          (next_is_step origin h sid at request reply kept new before now (subst (λ (n : ℕ). session_at request n sid ≡ sid) is own) next);
      within = one_longer h (entry_of sid at request kept reply) limit fits;
      full = λ was. let full = book.full was in absurd (omega (arith, full, fits));
      records = next_records origin h sid at request reply kept new before now next book.records;
      faults = next_faults origin first.faults h sid at request reply kept new before now next book.faults;
      calls = next_calls origin first.calls h sid at request reply kept new asks also before now next counted book.calls;
    }

-- what asking does, where an entry is made
pub asked_with : (origin : Origin) (h : List Entry) (limit : ℕ) (refused : Bool) (asks : ℕ) (first : KeeperView) (policy : PolicyView) (s new : State) (place told sid at : ℕ) (request : Request) (reply : Reply) (kept : Bool) (before now : KeeperView)
    → Stands h limit refused asks origin first before policy s → place ≡ length h → length h < limit → sid ≡ session_at request place told
    → Steps policy place sid at request reply kept s new before now
    → Asked told at request limit origin h (Ok reply) (h ++ entry_of sid at request kept reply ∷ [])
asked_with origin h limit refused asks first policy s new place told sid at request reply kept before now book is fits sid_is step =
    let own : session_at request place sid ≡ sid = ap (session_at request place) sid_is ∙ same_session request place told ∙ sym sid_is in
    let stands : Stands (h ++ entry_of sid at request kept reply ∷ []) limit refused (asks + 1) origin first now policy new =
    stands_with origin h limit refused asks (asks + 1) first policy s new place sid at request reply kept before now (one_grown asks) book is fits own step in
    let entered : AddsEntry told at request reply limit h (h ++ entry_of sid at request kept reply ∷ []) = record {
      kept = kept;
      fits = fits;
      is = ap (λ (n : ℕ). h ++ entry_of n at request kept reply ∷ []) (sid_is ∙ ap (λ (n : ℕ). session_at request n told) is);
    } in
    record {
      answers = subst (λ (full : Option ℕ). EntersReply full told at request reply limit h (h ++ entry_of sid at request kept reply ∷ []))
          (sym (step_not_full policy s place sid at request kept reply step.reply_is)) entered;
      full = λ all. absurd (omega (arith, all, fits));
      sound = book.sound;
      legal = stands.legal;
      within = stands.within;
    }

-- and what it does to the keeper
pub kept_with : (origin : Origin) (h : List Entry) (limit : ℕ) (refused : Bool) (asks : ℕ) (first : KeeperView) (policy : PolicyView) (s new : State) (place sid at : ℕ) (request : Request) (reply : Reply) (kept : Bool) (before now : KeeperView)
    → Stands h limit refused asks origin first before policy s → place ≡ length h
    → Steps policy place sid at request reply kept s new before now
    → KeeperAfterReply (full_of reply) origin h (h ++ entry_of sid at request kept reply ∷ []) before now
kept_with origin h limit refused asks first policy s new place sid at request reply kept before now book is step =
    subst (λ (full : Option ℕ). KeeperAfterReply full origin h (h ++ entry_of sid at request kept reply ∷ []) before now)
    (sym (step_not_full policy s place sid at request kept reply step.reply_is))
    (record {
      entry = entry_of sid at request kept reply;
      is = refl;
      keeping = (rebased origin h limit refused asks first policy s new place sid at request reply kept before now book is step).keeping;
    })

-- and how often it calls it
pub called_with : (origin : Origin) (h : List Entry) (limit : ℕ) (refused : Bool) (asks : ℕ) (first : KeeperView) (policy : PolicyView) (s new : State) (place told sid at : ℕ) (request : Request) (reply : Reply) (kept : Bool) (before now : KeeperView)
    → Stands h limit refused asks origin first before policy s → place ≡ length h → sid ≡ session_at request place told
    → Steps policy place sid at request reply kept s new before now
    → CalledByReply (full_of reply) (edits_records told at request origin h) before now
called_with origin h limit refused asks first policy s new place told sid at request reply kept before now book is sid_is step =
    let next : Next origin h sid at request reply kept new before now = rebased origin h limit refused asks first policy s new place sid at request reply kept before now book is step in
    let called : IsCalledIf (keeps origin.policy (after origin h) (length h) sid at request) before now =
    called_if (keeps origin.policy (after origin h) (length h) sid at request) (proposed origin.policy (after origin h) (length h) sid at request).records kept before now next.keeping in
    let own : sid ≡ session_at request (length h) told = sid_is ∙ ap (λ (n : ℕ). session_at request n told) is in
    subst (λ (full : Option ℕ). CalledByReply full (edits_records told at request origin h) before now)
    (sym (step_not_full policy s place sid at request kept reply step.reply_is))
    (subst (λ (n : ℕ). IsCalledIf (keeps origin.policy (after origin h) (length h) n at request) before now) own called)

-- a book stands where there was no memory
pub stands_lacking : (h : List Entry) (limit : ℕ) (refused : Bool) (asks also : ℕ) (origin : Origin) (first : KeeperView) (policy : PolicyView) (s : State) (b : Bool) (before now : KeeperView)
    → Grew 1 asks also → Stands h limit refused asks origin first before policy s → MayBeCalled b before now → Stands h limit refused also origin first now policy s
stands_lacking h limit refused asks also origin first policy s b before now counted book lacks = record {
  sound = book.sound;
  policy_is = book.policy_is;
  state_is = book.state_is;
  legal = book.legal;
  within = book.within;
  full = book.full;
  records = subst (λ (table : Option NamedBytes). IfSome table (DecodesTo (after origin h).records)) (sym (lacking_table b before now lacks)) book.records;
  faults = let same = lacking_faults b before now lacks in rw same book.faults;
  calls = lacking_counted first.calls origin h asks also before now (lacking_calls b before now lacks) counted book.calls;
}

-- a book stands where a request was refused since it is full
pub stands_full : (h : List Entry) (limit : ℕ) (refused : Bool) (asks also : ℕ) (origin : Origin) (first keeper : KeeperView) (policy : PolicyView) (s : State)
    → Grew 1 asks also → length h ≡ limit → Stands h limit refused asks origin first keeper policy s → Stands h limit true also origin first keeper policy s
stands_full h limit refused asks also origin first keeper policy s counted full book = record {
  sound = book.sound;
  policy_is = book.policy_is;
  state_is = book.state_is;
  legal = book.legal;
  within = book.within;
  full = λ was. full;
  records = book.records;
  faults = book.faults;
  calls = lacking_counted first.calls origin h asks also keeper keeper (omega (arith), omega (arith)) counted book.calls;
}
