-- What asking a book does to it as a port.
use Rattle.std.proofs.Common.{rules, arith, ◌≡◌, refl, sym, ap, subst, ◌∙◌, ℕ, suc, ◌<◌, ◌==◌, Bool, true, false, cond, List, [], ◌∷◌, ◌++◌, length, Option, Some, None, Ok}
use Rattle.std.proofs.lemmas.List.{length_push}
use Rattle.fw_outside.specs.Counts.{Grew}
use Rattle.auth_events.specs.Fits.{Fits}
use Rattle.auth_events.specs.Port.{Port, places, session_at, Stays}
use Rattle.auth_events.specs.Port as ports
use Rattle.auth_events.specs.declared.denial.Denial.TheVariants as denials
use Rattle.auth_events.specs.declared.entry.Entry.{Entry}
use Rattle.auth_events.specs.declared.reply.Reply.{Reply}
use Rattle.auth_events.specs.declared.reply.Reply.TheVariants as replies
use Rattle.auth_events.specs.declared.request.Request.{Request}
use Rattle.auth_machine.proofs.BookLemmas.{either_fits, own_proposal}
use Rattle.auth_machine.proofs.FitLemmas.{fits_denied}
use Rattle.auth_machine.proofs.HistoryLemmas.{last_step}
use Rattle.auth_machine.proofs.TableLemmas.{clash}
use Rattle.auth_machine.specs.Answer.{answer_of}
use Rattle.auth_machine.specs.Answers.{full_of}
use Rattle.auth_machine.specs.Book.{Asked, BookView, AddsEntry, IsFullAt, EntersReply, refused_after, refused_by}
use Rattle.auth_machine.specs.History.{IsLegal, Origin, after}
use Rattle.auth_machine.specs.Policy.{PolicyView}
use Rattle.auth_machine.specs.Port.{BookOrigin, book_origin, full_at, book_port}
use Rattle.auth_machine.specs.State.{State}
use Rattle.auth_machine.specs.Step.{answer, is_refused, proposed}

-- ---- which replies are entered

pub some_clash : {A : Type 0} {n : ℕ} → Some n ≡ None → A
some_clash {A} {n} same = clash (sym (ap is_there same))
  where
    is_there : Option ℕ → Bool
    is_there None = false
    is_there (Some m) = true

pub entered : {Origin : Type 0} {sid at : ℕ} {request : Request} {old new : Port Origin} (reply : Reply) → full_of reply ≡ None → ports.Enters sid at request reply old new → ports.Replies sid at request reply old new
entered (replies.Opened sid) not_full h = h
entered replies.Password not_full h = h
entered (replies.Challenge n word_seed) not_full h = h
entered replies.Ok not_full h = h
entered (replies.Shown summary) not_full h = h
entered (replies.Denied denials.Unknown) not_full h = h
entered (replies.Denied denials.Wrong) not_full h = h
entered (replies.Denied denials.Disabled) not_full h = h
entered (replies.Denied (denials.Expired moment)) not_full h = h
entered (replies.Denied (denials.Sleeping until)) not_full h = h
entered (replies.Denied (denials.Busy sid until)) not_full h = h
entered (replies.Denied denials.Exhausted) not_full h = h
entered (replies.Denied denials.NoChallenge) not_full h = h
entered (replies.Denied denials.NotIn) not_full h = h
entered (replies.Denied denials.NotWizard) not_full h = h
entered (replies.Denied denials.Exists) not_full h = h
entered (replies.Denied denials.NoSuch) not_full h = h
entered (replies.Denied (denials.NoRule line)) not_full h = h
entered (replies.Denied (denials.Full limit)) not_full h = some_clash not_full
entered (replies.Denied denials.Closed) not_full h = h
entered (replies.Denied denials.NotKept) not_full h = h

abbrev pub told_of : Option ℕ → ℕ
told_of None = 0
told_of (Some n) = n

refused : (sid at : ℕ) (request : Request) {told : ℕ} {old new : Port BookOrigin} (reply : Reply) → full_of reply ≡ Some told → ports.IsFull told old new → ports.Replies sid at request reply old new
refused sid at request (replies.Opened number) full h = some_clash (sym full)
refused sid at request replies.Password full h = some_clash (sym full)
refused sid at request (replies.Challenge n word_seed) full h = some_clash (sym full)
refused sid at request replies.Ok full h = some_clash (sym full)
refused sid at request (replies.Shown summary) full h = some_clash (sym full)
refused sid at request (replies.Denied denials.Unknown) full h = some_clash (sym full)
refused sid at request (replies.Denied denials.Wrong) full h = some_clash (sym full)
refused sid at request (replies.Denied denials.Disabled) full h = some_clash (sym full)
refused sid at request (replies.Denied (denials.Expired moment)) full h = some_clash (sym full)
refused sid at request (replies.Denied (denials.Sleeping until)) full h = some_clash (sym full)
refused sid at request (replies.Denied (denials.Busy other until)) full h = some_clash (sym full)
refused sid at request (replies.Denied denials.Exhausted) full h = some_clash (sym full)
refused sid at request (replies.Denied denials.NoChallenge) full h = some_clash (sym full)
refused sid at request (replies.Denied denials.NotIn) full h = some_clash (sym full)
refused sid at request (replies.Denied denials.NotWizard) full h = some_clash (sym full)
refused sid at request (replies.Denied denials.Exists) full h = some_clash (sym full)
refused sid at request (replies.Denied denials.NoSuch) full h = some_clash (sym full)
refused sid at request (replies.Denied (denials.NoRule line)) full h = some_clash (sym full)
refused sid at request {told} {old} {new} (replies.Denied (denials.Full limit)) full h = subst (λ (n : ℕ). ports.IsFull n old new) (sym (ap told_of full)) h
refused sid at request (replies.Denied denials.Closed) full h = some_clash (sym full)
refused sid at request (replies.Denied denials.NotKept) full h = some_clash (sym full)

-- ---- the last reply fits

fits_answer : (policy : PolicyView) (s : State) (place sid at : ℕ) (request : Request) (kept : Bool) (reply : Reply) → answer_of reply ≡ answer policy s place sid at request kept → Fits request place reply
fits_answer policy s place sid at request kept reply is =
    either_fits request place (is_refused policy s place sid at request kept) (proposed policy s place sid at request).answer _ reply
    (own_proposal policy s place sid at request).fits (fits_denied request place denials.NotKept) is

pub fits_last : (origin : Origin) (h : List Entry) (entry : Entry) → IsLegal origin (h ++ entry ∷ []) → Fits entry.request (length h) entry.reply
fits_last origin h entry legal =
    fits_answer origin.policy (after origin h) (length h) entry.sid entry.at entry.request entry.kept entry.reply (last_step origin h entry legal).reply

-- ---- the port

abbrev made : List Entry → List ℕ → Option ℕ → Bool → ℕ → BookOrigin → Port BookOrigin
made seen mine full refused asks origin = record { seen = seen; mine = mine; full = full; refused = refused; asks = asks; faults = 0; odd = 0; origin = origin; home = [] }

same_port : (seen more : List Entry) (mine others : List ℕ) (full told : Option ℕ) (refused known : Bool) (asks : ℕ) (origin other : BookOrigin) → seen ≡ more → mine ≡ others → full ≡ told → refused ≡ known → origin ≡ other
    → made seen mine full refused asks origin ≡ made more others told known asks other
same_port seen more mine others full told refused known asks origin other a b c d e =
    ap (λ (x : List Entry). made x mine full refused asks origin) a ∙ ap (λ (x : List ℕ). made more x full refused asks origin) b ∙ ap (λ (x : Option ℕ). made more others x refused asks origin) c
    ∙ ap (λ (x : Bool). made more others told x asks origin) d ∙ ap (λ (x : BookOrigin). made more others told known asks x) e

same_book_origin : (new old : BookView) → new.limit ≡ old.limit → new.origin ≡ old.origin → new.failed_before ≡ old.failed_before → new.called_before ≡ old.called_before → book_origin new ≡ book_origin old
same_book_origin new old limit origin failed called = cc

nothing_more : (h : List Entry) → h ++ [] ≡ h
nothing_more h = search rules

pub not_yet : (limit : ℕ) (h : List Entry) → length h < limit → full_at limit h ≡ None
not_yet limit h fits = choose (length h == limit) refl
  where
    choose : (b : Bool) → length h == limit ≡ b → cond b (Some limit) None ≡ None
    choose true same = let is : length h ≡ limit = search rules in absurd (omega (arith, is, fits))
    choose false other = refl

pub is_full : (limit : ℕ) (h : List Entry) → length h ≡ limit → full_at limit h ≡ Some limit
is_full limit h is = ap (λ (b : Bool). cond b (Some limit) None) same
  where
    same : length h == limit ≡ true
    same = search rules

stays : (full : Option ℕ) → Stays full full
stays None = tt
stays (Some limit) = refl

stays_at : (limit : ℕ) (full : Option ℕ) → full ≡ Some limit → Stays full (Some limit)
stays_at limit full is = subst (λ (f : Option ℕ). Stays f (Some limit)) (sym is) refl

next_place : (h : List Entry) (entry : Entry) → places (length (h ++ entry ∷ [])) ≡ places (length h) ++ length h ∷ []
next_place h entry =
    let more : length (h ++ entry ∷ []) ≡ suc (length h) = omega (arith, length_push h entry) in
    ap places more

port_entered : (sid at : ℕ) (request : Request) (reply : Reply) (old new : BookView) → new.limit ≡ old.limit → new.origin ≡ old.origin → new.failed_before ≡ old.failed_before → new.called_before ≡ old.called_before → Grew 1 old.asks new.asks → new.refused ≡ old.refused
    → AddsEntry sid at request reply old.limit old.history new.history → IsLegal old.origin new.history → ports.Enters sid at request reply (book_port old) (book_port new)
port_entered sid at request reply old new limit origin failed called counted refused enters legal =
    let entry : Entry = record { sid = session_at request (length old.history) sid; at = at; request = request; kept = enters.kept; reply = reply } in
    let same : old.history ++ [] ≡ old.history = nothing_more old.history in
    record {
      others = [];
      place = length old.history;
      kept = enters.kept;
      full = full_at new.limit new.history;
      asks = new.asks;
      counts = counted;
      open_before = not_yet old.limit old.history enters.fits;
      is_place = ap length (sym same);
      fits = fits_last old.origin old.history entry (subst (IsLegal old.origin) enters.is legal);
      is = same_port _ _ _ _ _ _ _ _ _ _ _
          (enters.is ∙ ap (λ (h : List Entry). h ++ entry ∷ []) (sym same))
          (ap (λ (h : List Entry). places (length h)) enters.is ∙ next_place old.history entry)
          refl refused (same_book_origin new old limit origin failed called);
    }

port_full : (told : ℕ) (old new : BookView) → new.limit ≡ old.limit → new.origin ≡ old.origin → new.failed_before ≡ old.failed_before → new.called_before ≡ old.called_before → Grew 1 old.asks new.asks → new.refused ≡ true → IsFullAt told old.limit old.history new.history → ports.IsFull told (book_port old) (book_port new)
port_full told old new limit origin failed called counted refused full =
    let at_limit : full_at old.limit old.history ≡ Some told = is_full old.limit old.history full.full ∙ ap (λ (n : ℕ). Some n) (sym full.limit_is) in
    record {
      others = [];
      asks = new.asks;
      counts = counted;
      stays = stays_at told (full_at old.limit old.history) at_limit;
      is = same_port _ _ _ _ _ _ _ _ _ _ _
          (full.is ∙ sym (nothing_more old.history))
          (ap (λ (h : List Entry). places (length h)) full.is)
          (ap (λ (n : ℕ). full_at n new.history) limit ∙ ap (full_at old.limit) full.is ∙ at_limit) refused (same_book_origin new old limit origin failed called);
    }

pub port_lacks : (old new : BookView) → new.limit ≡ old.limit → new.origin ≡ old.origin → new.failed_before ≡ old.failed_before → new.called_before ≡ old.called_before → Grew 1 old.asks new.asks → new.refused ≡ old.refused → new.history ≡ old.history → ports.RanOutOfMemory (book_port old) (book_port new)
port_lacks old new limit origin failed called counted refused same = record {
  others = [];
  full = full_at old.limit old.history;
  asks = new.asks;
  counts = counted;
  stays = stays (full_at old.limit old.history);
  is = same_port _ _ _ _ _ _ _ _ _ _ _
      (same ∙ sym (nothing_more old.history))
      (ap (λ (h : List Entry). places (length h)) same)
      (ap (λ (n : ℕ). full_at n new.history) limit ∙ ap (full_at old.limit) same) refused (same_book_origin new old limit origin failed called);
}

replied : (sid at : ℕ) (request : Request) (reply : Reply) (full : Option ℕ) (old new : BookView) → full_of reply ≡ full → new.limit ≡ old.limit → new.origin ≡ old.origin → new.failed_before ≡ old.failed_before → new.called_before ≡ old.called_before → Grew 1 old.asks new.asks → new.refused ≡ refused_after full old.refused
    → EntersReply full sid at request reply old.limit old.history new.history → IsLegal old.origin new.history → ports.Replies sid at request reply (book_port old) (book_port new)
replied sid at request reply None old new is limit origin failed called counted same enters legal = entered reply is (port_entered sid at request reply old new limit origin failed called counted same enters legal)
replied sid at request reply (Some told) old new is limit origin failed called counted noted full legal = refused sid at request reply is (port_full told old new limit origin failed called counted noted full)

pub port_replies : (sid at : ℕ) (request : Request) (reply : Reply) (old new : BookView) → new.limit ≡ old.limit → new.origin ≡ old.origin → new.failed_before ≡ old.failed_before → new.called_before ≡ old.called_before → Grew 1 old.asks new.asks → new.refused ≡ refused_by (Ok reply) old.refused
    → Asked sid at request old.limit old.origin old.history (Ok reply) new.history → ports.Replies sid at request reply (book_port old) (book_port new)
port_replies sid at request reply old new limit origin failed called counted refused asked = replied sid at request reply (full_of reply) old new refl limit origin failed called counted refused asked.answers asked.legal
