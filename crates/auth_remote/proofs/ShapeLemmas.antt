-- What a server answered is an Open, and then requests that have lines.
use Rattle.std.proofs.Common.{◌≡◌, refl, sym, ap, ◌∙◌, subst, ℕ, suc, ◌==◌, Bool, true, false, List, [], ◌∷◌, ◌++◌, Option, Some, None}
use Rattle.std.specs.Prelude.{◌&&◌, ◌||◌, if◌then◌else◌}
use Rattle.auth_events.specs.declared.denial.Denial.{Denial}
use Rattle.auth_events.specs.declared.denial.Denial.TheVariants as denials
use Rattle.auth_events.specs.declared.entry.Entry.{Entry}
use Rattle.auth_events.specs.declared.reply.Reply.{Reply}
use Rattle.auth_events.specs.declared.reply.Reply.TheVariants as replies
use Rattle.auth_events.specs.declared.request.Request.{Request}
use Rattle.auth_events.specs.declared.request.Request.TheVariants as requests
use Rattle.authsrv_lines.specs.Reply.{IsReply}
use Rattle.authsrv_lines.specs.RequestLine.{IsAsked, request_line}
use Rattle.remote_port.specs.Answers.{is_full, limit_in, limit_told, may_answer}
use Rattle.remote_port.specs.Entries.{AreEntries, IsEnteredAs, IsEntry, answered_from, is_sent}
use Rattle.remote_port.specs.Requests.{has_line, is_close, is_open}
use Rattle.remote_port.specs.Treatment.{refused_or_strange, standing_after, treatment_of}
use Rattle.remote_port.specs.declared.standing.Standing.{Standing}
use Rattle.remote_port.specs.declared.standing.Standing.TheVariants as standings

pub record IsLined (entry : Entry) : Type 0 where
  pub line : has_line entry.request ≡ true
  pub asked : IsAsked entry.request
  pub is_reply : IsReply entry.reply
  pub enters : limit_told entry.reply ≡ None

abbrev pub AreLined : List Entry → Type 0
AreLined [] = Unit {0}
AreLined (entry ∷ more) = IsLined entry × AreLined more

pub record IsOpening (entry : Entry) : Type 0 where
  pub opens : is_open entry.request ≡ true
  pub is_reply : IsReply entry.reply
  pub sid : ℕ
  pub opened : entry.reply ≡ replies.Opened sid

abbrev pub IsTalk : List Entry → Type 0
IsTalk [] = Unit {0}
IsTalk (entry ∷ more) = IsOpening entry × AreLined more

-- ---- after the opening

abbrev IsBegun : Standing → Type 0
IsBegun (standings.Open sid) = Unit {0}
IsBegun standings.Closed = Unit {0}
IsBegun _ = ⊥

after_ok : (standing : Standing) (test : Bool) → IsBegun standing → IsBegun (if test then standings.Closed else standing)
after_ok standing true is = tt
after_ok standing false is = is

after_begun : (standing : Standing) (request : Request) (reply : Reply) → IsBegun standing → IsBegun (standing_after standing request reply)
after_begun standing request (replies.Opened sid) is = tt
after_begun standing request replies.Ok is = after_ok standing (is_close request) is
after_begun standing request replies.Password is = is
after_begun standing request (replies.Challenge number word_seed) is = is
after_begun standing request (replies.Shown summary) is = is
after_begun standing request (replies.Denied denial) is = is

both : (a b : Bool) → (a && b) ≡ true → (a ≡ true) × (b ≡ true)
both true b h = (refl, h)
both false b h = absurd (cc)

not_sent : (line : Bool) → is_sent (refused_or_strange line) ≡ false
not_sent true = refl
not_sent false = refl

sent_by : {T : Type 0} (sent : T → Bool) (first second : T) (test : Bool) → sent second ≡ false → sent (if test then first else second) ≡ true → test ≡ true
sent_by sent first second true none is = refl
sent_by sent first second false none is = absurd (cc)

never : (test : Bool) → test ≡ false → test ≡ true → ⊥
never test none is = cc

sent_line : (standing : Standing) (sid : ℕ) (request : Request) → IsBegun standing → is_sent (treatment_of standing sid request) ≡ true → has_line request ≡ true
sent_line (standings.Open own) sid request begun is =
    (both (has_line request) (sid == own)
    (sent_by is_sent (treatment_of standings.New 0 (requests.Open false)) (refused_or_strange (has_line request)) (has_line request && sid == own) (not_sent (has_line request)) is)).0
sent_line standings.Closed sid request begun is = absurd (never (is_sent (refused_or_strange (has_line request))) (not_sent (has_line request)) is)
sent_line standings.New sid request begun is = absurd begun
sent_line (standings.Full limit) sid request begun is = absurd begun
sent_line standings.Lost sid request begun is = absurd begun

lined_step : (standing : Standing) (place : ℕ) (entry : Entry) (later : List Entry) (sent : Bool) → IsBegun standing → IsEntry standing place entry
    → is_sent (treatment_of standing entry.sid entry.request) ≡ sent → AreLined later → AreLined ((if sent then entry ∷ [] else []) ++ later)
lined_step standing place entry later true begun is sends lined =
    (record { line = sent_line standing entry.sid entry.request begun sends; asked = is.asked; is_reply = is.is_reply; enters = is.enters }, lined)
lined_step standing place entry later false begun is other lined = lined

lined_from : (standing : Standing) (place : ℕ) (seen : List Entry) → IsBegun standing → AreEntries standing place seen → AreLined (answered_from standing seen)
lined_from standing place [] begun are = tt
lined_from standing place (entry ∷ seen) begun are =
    let next : Standing = standing_after standing entry.request entry.reply in
    lined_step standing place entry (answered_from next seen) (is_sent (treatment_of standing entry.sid entry.request)) begun are.0 refl
    (lined_from next (suc place) seen (after_begun standing entry.request entry.reply begun) are.1)

-- ---- the opening

denied_open : (denial : Denial) → is_full denial ≡ true → limit_in denial ≡ None → ⊥
denied_open (denials.Full limit) full none = cc
denied_open denial full none = cc

open_answer : (console : Bool) (reply : Reply) → may_answer (requests.Open console) reply ≡ true → limit_told reply ≡ None → (sid : ℕ) × (reply ≡ replies.Opened sid)
unfolding request_line
open_answer console (replies.Opened sid) may none = (sid, refl)
open_answer console (replies.Denied denial) may none = absurd (denied_open denial may none)
open_answer console reply may none = absurd (cc)

opens_by : (request : Request) (reply : Reply) → is_open request ≡ true → may_answer request reply ≡ true → limit_told reply ≡ None → (sid : ℕ) × (reply ≡ replies.Opened sid)
opens_by (requests.Open console) reply is may none = open_answer console reply may none
opens_by request reply is may none = absurd (cc)

talk_step : (place : ℕ) (entry : Entry) (seen : List Entry) (test line : Bool) → IsEntry standings.New place entry → is_open entry.request ≡ test
    → IsEnteredAs (if test then treatment_of standings.New 0 (requests.Open false) else refused_or_strange line) entry.reply
    → AreEntries (standing_after standings.New entry.request entry.reply) (suc place) seen
    → (AreEntries standings.New (suc place) seen → IsTalk (answered_from standings.New seen))
    → IsTalk ((if is_sent (if test then treatment_of standings.New 0 (requests.Open false) else refused_or_strange line) then entry ∷ [] else []) ++ answered_from (standing_after standings.New entry.request entry.reply) seen)
talk_step place entry seen true line is opens entered are later =
    let answer = opens_by entry.request entry.reply opens is.may is.enters in
    let next : standing_after standings.New entry.request entry.reply ≡ standings.Open answer.0 = ap (standing_after standings.New entry.request) answer.1 in
    let rest : AreLined (answered_from (standings.Open answer.0) seen) = lined_from (standings.Open answer.0) (suc place) seen tt (subst (λ (s : Standing). AreEntries s (suc place) seen) next are) in
    (record { opens = opens; is_reply = is.is_reply; sid = answer.0; opened = answer.1 }, subst (λ (s : Standing). AreLined (answered_from s seen)) (sym next) rest)
talk_step place entry seen false true is other entered are later =
    let next : standing_after standings.New entry.request entry.reply ≡ standings.New = ap (standing_after standings.New entry.request) entered in
    subst (λ (s : Standing). IsTalk (answered_from s seen)) (sym next) (later (subst (λ (s : Standing). AreEntries s (suc place) seen) next are))
talk_step place entry seen false false is other entered are later = absurd entered

pub talk_from : (place : ℕ) (seen : List Entry) → AreEntries standings.New place seen → IsTalk (answered_from standings.New seen)
talk_from place [] are = tt
talk_from place (entry ∷ seen) are =
    talk_step place entry seen (is_open entry.request) (has_line entry.request) are.0 refl are.0.treated are.1 (talk_from (suc place) seen)
