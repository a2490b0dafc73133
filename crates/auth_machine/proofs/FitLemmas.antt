-- The machine's answers fit the requests, and none says of itself that the history is full or that something wasn't kept.
use Rattle.std.proofs.Common.{rules, ◌≡◌, ◌∙◌, refl, sym, ap, subst, ℕ, Bool, true, false, cond, ◌&&◌, nat_eq, List, [], ◌∷◌, find, Option, Some, None, IfSome, IsTrue}
use mathlib.Core.Bool.{true≢false}
use Rattle.std.specs.Option.{option_map}
use Rattle.auth_records.specs.Spelling.{Fields}
use Rattle.auth_records.specs.declared.record.Wiz.TheVariants as wizards
use Rattle.auth_events.specs.Fits.{Fits, comes_after}
use Rattle.auth_events.specs.declared.denial.Denial.{Denial}
use Rattle.auth_events.specs.declared.denial.Denial.TheVariants as denials
use Rattle.auth_events.specs.declared.reply.Reply.{Reply}
use Rattle.auth_events.specs.declared.reply.Reply.TheVariants as replies
use Rattle.auth_events.specs.declared.request.Request.{Request}
use Rattle.auth_events.specs.declared.request.Request.TheVariants as requests
use Rattle.auth_machine.proofs.AnswerLemmas.{of_add_user, of_authenticate, of_operation, of_reached, of_respond, of_session}
use Rattle.auth_machine.specs.Answer.{Answer, Profile, answer_of, profile_of}
use Rattle.auth_machine.specs.Answer.Answer.{Opened, Password, Challenged, Shown, Denied, Ok as Done}
use Rattle.auth_machine.specs.Answers.{IsOwnDenial, full_answer, is_unkept_answer}
use Rattle.auth_machine.specs.Login.{authenticate, respond}
use Rattle.auth_machine.specs.Policy.{PolicyView}
use Rattle.auth_machine.specs.Powers.{add_user, by_super, by_user, by_wizard, deletes, disabled, done_with, enabled, list, lists, asks_operation, over_all, own_power, power_of, reachable, sees, shows, shows_some, stores, with_expiry, with_group, with_otp, with_password, with_proto, with_wiz}
use Rattle.auth_machine.specs.State.{State, Change, record_at, session_of}
use Rattle.auth_machine.specs.Step.{change_of, closes, in_session}
use Rattle.auth_machine.specs.declared.power.Power.{Power}
use Rattle.auth_machine.specs.declared.power.Power.TheVariants.{Nobody, Members, Everybody}
use Rattle.auth_machine.specs.declared.session.Session.{Session}

-- an answer that the rules may give to the request by themselves
pub record IsOwn (request : Request) (place : ℕ) (a : Answer) : Type 0 where
  pub full : full_answer a ≡ None
  pub kept : is_unkept_answer a ≡ false
  pub fits : (reply : Reply) → answer_of reply ≡ a → Fits request place reply

-- ---- replies with an answer

abbrev kind : Answer → ℕ
kind (Opened sid) = 0
kind Password = 1
kind (Challenged number word_seed) = 2
kind Done = 3
kind (Shown profile) = 4
kind (Denied denial) = 5

clash : {A : Type 0} → false ≡ true → A
clash h = absurd (true≢false (sym h))

same_kind : (n : ℕ) → nat_eq n n ≡ true
same_kind n = search rules

-- two answers of different kinds aren't one
apart : {A : Type 0} {x y : Answer} → x ≡ y → nat_eq (kind x) (kind y) ≡ false → A
apart {A} {x} {y} same differ = clash (sym differ ∙ subst (λ (z : Answer). nat_eq (kind x) (kind z) ≡ true) same (same_kind (kind x)))

from_password : (R : Reply → Type 0) → R replies.Password → (reply : Reply) → answer_of reply ≡ Password → R reply
from_password R h (replies.Opened sid) same = apart same refl
from_password R h replies.Password same = h
from_password R h (replies.Challenge n word_seed) same = apart same refl
from_password R h replies.Ok same = apart same refl
from_password R h (replies.Shown summary) same = apart same refl
from_password R h (replies.Denied denial) same = apart same refl

from_done : (R : Reply → Type 0) → R replies.Ok → (reply : Reply) → answer_of reply ≡ Done → R reply
from_done R h (replies.Opened sid) same = apart same refl
from_done R h replies.Password same = apart same refl
from_done R h (replies.Challenge n word_seed) same = apart same refl
from_done R h replies.Ok same = h
from_done R h (replies.Shown summary) same = apart same refl
from_done R h (replies.Denied denial) same = apart same refl

from_challenged : (R : Reply → Type 0) → ((m : ℕ) (other : List ℕ) → R (replies.Challenge m other)) → (n : ℕ) (word_seed : List ℕ) (reply : Reply) → answer_of reply ≡ Challenged n word_seed → R reply
from_challenged R h n word_seed (replies.Opened sid) same = apart same refl
from_challenged R h n word_seed replies.Password same = apart same refl
from_challenged R h n word_seed (replies.Challenge m other) same = h m other
from_challenged R h n word_seed replies.Ok same = apart same refl
from_challenged R h n word_seed (replies.Shown summary) same = apart same refl
from_challenged R h n word_seed (replies.Denied denial) same = apart same refl

abbrev opened_sid : Answer → ℕ
opened_sid (Opened sid) = sid
opened_sid Password = 0
opened_sid (Challenged number word_seed) = 0
opened_sid Done = 0
opened_sid (Shown profile) = 0
opened_sid (Denied denial) = 0

fits_opened : (console : Bool) (place : ℕ) (reply : Reply) → answer_of reply ≡ Opened place → Fits (requests.Open console) place reply
fits_opened console place (replies.Opened sid) same = ap opened_sid same
fits_opened console place replies.Password same = apart same refl
fits_opened console place (replies.Challenge n word_seed) same = apart same refl
fits_opened console place replies.Ok same = apart same refl
fits_opened console place (replies.Shown summary) same = apart same refl
fits_opened console place (replies.Denied denial) same = apart same refl

pub fits_denied : (request : Request) (place : ℕ) (denial : Denial) (reply : Reply) → answer_of reply ≡ Denied denial → Fits request place reply
fits_denied request place denial (replies.Opened sid) same = apart same refl
fits_denied request place denial replies.Password same = apart same refl
fits_denied request place denial (replies.Challenge n word_seed) same = apart same refl
fits_denied request place denial replies.Ok same = apart same refl
fits_denied request place denial (replies.Shown summary) same = apart same refl
fits_denied request place denial (replies.Denied other) same = tt

fits_display : (name : List ℕ) (place : ℕ) (profile : Profile) (reply : Reply) → answer_of reply ≡ Shown profile → Fits (requests.Display name) place reply
fits_display name place profile (replies.Opened sid) same = apart same refl
fits_display name place profile replies.Password same = apart same refl
fits_display name place profile (replies.Challenge n word_seed) same = apart same refl
fits_display name place profile replies.Ok same = apart same refl
fits_display name place profile (replies.Shown summary) same = tt
fits_display name place profile (replies.Denied denial) same = apart same refl

abbrev shown_name : Answer → List ℕ
shown_name (Opened sid) = []
shown_name Password = []
shown_name (Challenged number word_seed) = []
shown_name Done = []
shown_name (Shown profile) = profile.name
shown_name (Denied denial) = []

fits_list : (after : Option (List ℕ)) (place : ℕ) (profile : Profile) → IsTrue (comes_after after profile.name)
    → (reply : Reply) → answer_of reply ≡ Shown profile → Fits (requests.List after) place reply
fits_list after place profile follows (replies.Opened sid) same = apart same refl
fits_list after place profile follows replies.Password same = apart same refl
fits_list after place profile follows (replies.Challenge n word_seed) same = apart same refl
fits_list after place profile follows replies.Ok same = apart same refl
fits_list after place profile follows (replies.Shown summary) same =
    subst (λ (name : List ℕ). IsTrue (comes_after after name)) (sym (ap shown_name same)) follows
fits_list after place profile follows (replies.Denied denial) same = apart same refl

-- ---- the machine's own answers

own_denied : (request : Request) (place : ℕ) (denial : Denial) → IsOwnDenial denial → IsOwn request place (Denied denial)
own_denied request place denial own = record { full = own.0; kept = own.1; fits = fits_denied request place denial }

-- where Ok fits the request
own_done : (request : Request) (place : ℕ) → Fits request place replies.Ok → IsOwn request place Done
own_done request place fits = record { full = refl; kept = refl; fits = from_done (Fits request place) fits }

own_listed : (after : Option (List ℕ)) (place : ℕ) (found : Option Fields) → IfSome found (λ f. IsTrue (comes_after after f.name)) → IsOwn (requests.List after) place (shows_some found).answer
own_listed after place None follows = own_denied (requests.List after) place denials.NoSuch (refl, refl)
own_listed after place (Some f) follows = record { full = refl; kept = refl; fits = fits_list after place (profile_of f) follows }

-- what is found passes the first part of the test
found_passes : (p q : Fields → Bool) (fs : List Fields) → IfSome (find (λ f. p f && q f) fs) (λ f. IsTrue (p f))
found_passes p q [] = tt
found_passes p q (f ∷ fs) = choose (p f) (q f) refl (found_passes p q fs)
  where
    choose : (b c : Bool) → p f ≡ b → IfSome (find (λ f. p f && q f) fs) (λ f. IsTrue (p f)) → IfSome (cond (b && c) (Some f) (find (λ f. p f && q f) fs)) (λ f. IsTrue (p f))
    choose true true passes rest = passes
    choose true false passes rest = rest
    choose false c passes rest = rest

own_lists : (power : Option Power) (after : Option (List ℕ)) (place : ℕ) (records : List Fields) → IsOwn (requests.List after) place (lists power after records).answer
own_lists None after place records = own_denied (requests.List after) place denials.NotIn (refl, refl)
own_lists (Some Nobody) after place records = own_denied (requests.List after) place denials.NotWizard (refl, refl)
own_lists (Some (Members group)) after place records = own_listed after place _ (found_passes (λ f. comes_after after f.name) (λ f. sees (Members group) f) records)
own_lists (Some Everybody) after place records = own_listed after place _ (found_passes (λ f. comes_after after f.name) (λ f. sees Everybody f) records)

own_list : (s : State) (session : Session) (after : Option (List ℕ)) (place : ℕ) → IsOwn (requests.List after) place (list s session after).answer
unfolding list
own_list s session after place = own_lists (power_of s session) after place s.records

own_in_session : (request : Request) (place : ℕ) (s : State) (sid : ℕ) (act : Session → Change) → ((session : Session) → IsOwn request place (act session).answer)
    → IsOwn request place (in_session (session_of sid s.sessions) act).answer
own_in_session request place s sid act h = of_session (IsOwn request place) (own_denied request place) (session_of sid s.sessions) act h

own_reached : (request : Request) (place : ℕ) (power : Option Power) (target : Option Fields) (act : Fields → Change) → ((f : Fields) → IsOwn request place (act f).answer)
    → IsOwn request place (done_with (reachable power target) act).answer
own_reached request place power target act h = of_reached (IsOwn request place) (own_denied request place) act h power target

own_authenticate : (policy : PolicyView) (s : State) (session : Session) (name : List ℕ) (place : ℕ) → IsOwn (requests.Authenticate name) place (authenticate policy s session name).answer
own_authenticate policy s session name place =
    of_authenticate (IsOwn (requests.Authenticate name) place) (own_denied (requests.Authenticate name) place)
    (record { full = refl; kept = refl; fits = from_password (Fits (requests.Authenticate name) place) tt })
    (λ n word_seed. record { full = refl; kept = refl; fits = from_challenged (Fits (requests.Authenticate name) place) (λ m other. tt) n word_seed })
    policy s session name

-- each answer is one that the rules may give to the request by themselves
pub own_answer : (policy : PolicyView) (s : State) (place sid : ℕ) (request : Request) → IsOwn request place (change_of policy s place sid request).answer
own_answer policy s place sid (requests.Open console) = record { full = refl; kept = refl; fits = fits_opened console place }
own_answer policy s place sid (requests.Authenticate name) =
    own_in_session (requests.Authenticate name) place s sid (λ session. authenticate policy s session name)
    (λ session. own_authenticate policy s session name place)
own_answer policy s place sid (requests.Response hash word) =
    own_in_session (requests.Response hash word) place s sid (λ session. respond policy s session hash word)
    (λ session. of_respond (IsOwn (requests.Response hash word) place) (own_denied (requests.Response hash word) place) (own_done (requests.Response hash word) place tt) policy s session hash word)
own_answer policy s place sid (requests.Operation service host) =
    own_in_session (requests.Operation service host) place s sid (λ session. asks_operation policy s session service host)
    (λ session. of_operation (IsOwn (requests.Operation service host) place) (own_denied (requests.Operation service host) place) (own_done (requests.Operation service host) place tt) policy s session service host)
own_answer policy s place sid (requests.Adduser name long) =
    own_in_session (requests.Adduser name long) place s sid (λ session. add_user s session name long)
    (λ session. of_add_user (IsOwn (requests.Adduser name long) place) (own_denied (requests.Adduser name long) place) (own_done (requests.Adduser name long) place tt) s session name long)
own_answer policy s place sid (requests.Deluser name) =
    own_in_session (requests.Deluser name) place s sid (λ session. by_wizard s session name deletes)
    (λ session. own_reached (requests.Deluser name) place (power_of s session) (record_at name s.records) deletes (λ f. own_done (requests.Deluser name) place tt))
own_answer policy s place sid (requests.Enable name) =
    own_in_session (requests.Enable name) place s sid (λ session. by_wizard s session name (λ f. stores (enabled f)))
    (λ session. own_reached (requests.Enable name) place (power_of s session) (record_at name s.records) (λ f. stores (enabled f)) (λ f. own_done (requests.Enable name) place tt))
own_answer policy s place sid (requests.Disable name) =
    own_in_session (requests.Disable name) place s sid (λ session. by_wizard s session name (λ f. stores (disabled f)))
    (λ session. own_reached (requests.Disable name) place (power_of s session) (record_at name s.records) (λ f. stores (disabled f)) (λ f. own_done (requests.Disable name) place tt))
own_answer policy s place sid (requests.Group name group) =
    own_in_session (requests.Group name group) place s sid (λ session. by_super s session name (λ f. stores (with_group group f)))
    (λ session. own_reached (requests.Group name group) place (option_map over_all (power_of s session)) (record_at name s.records) (λ f. stores (with_group group f)) (λ f. own_done (requests.Group name group) place tt))
own_answer policy s place sid (requests.Proto name proto) =
    own_in_session (requests.Proto name proto) place s sid (λ session. by_wizard s session name (λ f. stores (with_proto proto f)))
    (λ session. own_reached (requests.Proto name proto) place (power_of s session) (record_at name s.records) (λ f. stores (with_proto proto f)) (λ f. own_done (requests.Proto name proto) place tt))
own_answer policy s place sid (requests.Password name salt hash) =
    own_in_session (requests.Password name salt hash) place s sid (λ session. by_user s session name (λ f. stores (with_password salt hash f)))
    (λ session. own_reached (requests.Password name salt hash) place (own_power s session name) (record_at name s.records) (λ f. stores (with_password salt hash f)) (λ f. own_done (requests.Password name salt hash) place tt))
own_answer policy s place sid (requests.Otp name number word_seed kept) =
    own_in_session (requests.Otp name number word_seed kept) place s sid (λ session. by_user s session name (λ f. stores (with_otp (record { number = number; word_seed = word_seed; kept = kept }) f)))
    (λ session. own_reached (requests.Otp name number word_seed kept) place (own_power s session name) (record_at name s.records) (λ f. stores (with_otp (record { number = number; word_seed = word_seed; kept = kept }) f)) (λ f. own_done (requests.Otp name number word_seed kept) place tt))
own_answer policy s place sid (requests.Wiz name) =
    own_in_session (requests.Wiz name) place s sid (λ session. by_super s session name (λ f. stores (with_wiz wizards.Group f)))
    (λ session. own_reached (requests.Wiz name) place (option_map over_all (power_of s session)) (record_at name s.records) (λ f. stores (with_wiz wizards.Group f)) (λ f. own_done (requests.Wiz name) place tt))
own_answer policy s place sid (requests.Unwiz name) =
    own_in_session (requests.Unwiz name) place s sid (λ session. by_super s session name (λ f. stores (with_wiz wizards.None f)))
    (λ session. own_reached (requests.Unwiz name) place (option_map over_all (power_of s session)) (record_at name s.records) (λ f. stores (with_wiz wizards.None f)) (λ f. own_done (requests.Unwiz name) place tt))
own_answer policy s place sid (requests.Superwiz name) =
    own_in_session (requests.Superwiz name) place s sid (λ session. by_super s session name (λ f. stores (with_wiz wizards.Super f)))
    (λ session. own_reached (requests.Superwiz name) place (option_map over_all (power_of s session)) (record_at name s.records) (λ f. stores (with_wiz wizards.Super f)) (λ f. own_done (requests.Superwiz name) place tt))
own_answer policy s place sid (requests.Expire name until) =
    own_in_session (requests.Expire name until) place s sid (λ session. by_wizard s session name (λ f. stores (with_expiry until f)))
    (λ session. own_reached (requests.Expire name until) place (power_of s session) (record_at name s.records) (λ f. stores (with_expiry until f)) (λ f. own_done (requests.Expire name until) place tt))
own_answer policy s place sid (requests.Display name) =
    own_in_session (requests.Display name) place s sid (λ session. by_user s session name shows)
    (λ session. own_reached (requests.Display name) place (own_power s session name) (record_at name s.records) shows (λ f. record { full = refl; kept = refl; fits = fits_display name place (profile_of f) }))
own_answer policy s place sid (requests.List after) =
    own_in_session (requests.List after) place s sid (λ session. list s session after)
    (λ session. own_list s session after place)
own_answer policy s place sid requests.Close =
    own_in_session requests.Close place s sid (λ session. closes)
    (λ session. own_done requests.Close place tt)
