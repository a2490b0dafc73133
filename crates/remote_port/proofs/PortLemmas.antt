-- What asking a server over a link does to a port.
use Rattle.std.proofs.Common.{arith, ◌≡◌, refl, sym, ap, ◌∙◌, subst, ℕ, suc, ◌<◌, ◌^◌, ◌==◌, Bool, true, false, List, [], ◌∷◌, ◌++◌, length, inl, inr, Option, Some, None, Result, Ok, Err, append-nil}
use Rattle.std.specs.Prelude.{if◌then◌else◌, ◌&&◌, not}
use Rattle.std.proofs.lemmas.List.{length_push}
use Rattle.fw_outside.specs.Counts.{Grew, Rose, counted}
use Rattle.fw_outside.specs.LineReaderView.{LeavesSource, LineReaderView, TookBytes}
use Rattle.fw_outside.specs.SinkView.{SinkView}
use Rattle.fw_outside.specs.SourceView.{SourceView}
use Rattle.fw_outside.specs.declared.heard.Heard.{Heard}
use Rattle.fw_outside.specs.declared.heard.Heard.TheVariants.{Line, TooLong, Stopped}
use Rattle.fw_outside.specs.declared.heard.Stop.TheVariants as stops
use Rattle.auth_events.specs.Fits.{Fits, IsReplyTo}
use Rattle.auth_events.specs.Port.{Asks, Port, Stays, entry_at, places}
use Rattle.auth_events.specs.Port as ports
use Rattle.auth_events.specs.declared.denial.Denial.{Denial}
use Rattle.auth_events.specs.declared.denial.Denial.TheVariants as denials
use Rattle.auth_events.specs.declared.entry.Entry.{Entry}
use Rattle.auth_events.specs.declared.port.PortFault.{PortFault}
use Rattle.auth_events.specs.declared.port.PortFault.TheVariants as faults
use Rattle.auth_events.specs.declared.reply.Reply.{Reply}
use Rattle.auth_events.specs.declared.reply.Reply.TheVariants as replies
use Rattle.auth_events.specs.declared.request.Request.{Request}
use Rattle.auth_events.specs.declared.request.Request.TheVariants as requests
use Rattle.authsrv_lines.specs.RequestLine.{request_line}
use Rattle.remote_port.specs.Answers.{IsAnswered, IsPlaced, is_kept, limit_in, limit_told, may_answer}
use Rattle.remote_port.specs.Link.{Hears, IsCutOff, LinkView, faults_of}
use Rattle.remote_port.specs.Remote.{Converses, IsRefused, IsSent, IsTreated, RemoteOrigin, RemoteView, remote_port}
use Rattle.remote_port.specs.Requests.{has_line, is_authenticate, is_close, is_open, written}
use Rattle.remote_port.specs.Talk.{TalkView, talk_after, with_ask, with_entry, with_limit, with_loss, with_odd, with_reply}
use Rattle.remote_port.specs.Treatment.{limit_of, refused_or_strange, standing_after, treatment_of}
use Rattle.remote_port.specs.declared.standing.Standing.{Standing}
use Rattle.remote_port.specs.declared.standing.Standing.TheVariants as standings
use Rattle.remote_port.specs.declared.standing.Treatment.{Treatment}
use Rattle.remote_port.specs.declared.standing.Treatment.TheVariants.{Strange, Full, Refuse, Send}

-- ---- standings

-- a limit that was told is told again
pub full_stands : (standing : Standing) (sid limit : ℕ) (request : Request) → treatment_of standing sid request ≡ Full limit → limit_of standing ≡ Some limit
full_stands standings.New sid limit request e = absurd (from_new (is_open request) (has_line request) e)
  where
    from_new : (test line : Bool) → (if test then Send else refused_or_strange line) ≡ Full limit → ⊥
    from_new true line e = cc
    from_new false true e = cc
    from_new false false e = cc
full_stands (standings.Open own) sid limit request e = absurd (from_open (has_line request && sid == own) (has_line request) e)
  where
    from_open : (test line : Bool) → (if test then Send else refused_or_strange line) ≡ Full limit → ⊥
    from_open true line e = cc
    from_open false true e = cc
    from_open false false e = cc
full_stands standings.Closed sid limit request e = absurd (from_closed (has_line request) e)
  where
    from_closed : (line : Bool) → refused_or_strange line ≡ Full limit → ⊥
    from_closed true e = cc
    from_closed false e = cc
full_stands (standings.Full told) sid limit request e = let same : told ≡ limit = cc in ap Some same
full_stands standings.Lost sid limit request e = absurd (cc)

-- else none was told
abbrev pub IsNotFull : Treatment → Type 0
IsNotFull (Full limit) = ⊥
IsNotFull treatment = Unit {0}

pub not_full : (standing : Standing) (sid : ℕ) (request : Request) → IsNotFull (treatment_of standing sid request) → limit_of standing ≡ None
not_full standings.New sid request is = refl
not_full (standings.Open own) sid request is = refl
not_full standings.Closed sid request is = refl
not_full (standings.Full limit) sid request is = absurd is
not_full standings.Lost sid request is = refl

-- no other reply tells a limit
after_reply : (standing : Standing) (request : Request) (reply : Reply) → limit_of standing ≡ None → limit_of (standing_after standing request reply) ≡ None
after_reply standing request (replies.Opened sid) none = refl
after_reply standing request replies.Ok none = after_ok (is_close request)
  where
    after_ok : (test : Bool) → limit_of (if test then standings.Closed else standing) ≡ None
    after_ok true = refl
    after_ok false = none
after_reply standing request replies.Password none = none
after_reply standing request (replies.Challenge number word_seed) none = none
after_reply standing request (replies.Shown summary) none = none
after_reply standing request (replies.Denied denial) none = none

-- ---- replies that fit

opened_fits : (request : Request) (sid place : ℕ) → is_open request ≡ true → sid ≡ place → IsReplyTo request place (replies.Opened sid)
opened_fits (requests.Open console) sid place is placed = placed
opened_fits request sid place is placed = absurd (cc)

password_fits : (request : Request) (place : ℕ) → is_authenticate request ≡ true → IsReplyTo request place replies.Password
password_fits (requests.Authenticate name) place is = tt
password_fits request place is = absurd (cc)

challenge_fits : (request : Request) (place number : ℕ) (word_seed : List ℕ) → is_authenticate request ≡ true → IsReplyTo request place (replies.Challenge number word_seed)
challenge_fits (requests.Authenticate name) place number word_seed is = tt
challenge_fits request place number word_seed is = absurd (cc)

ok_fits : (request : Request) (place : ℕ) → (has_line request && not (is_authenticate request)) ≡ true → IsReplyTo request place replies.Ok
unfolding request_line
ok_fits (requests.Response hash word) place is = tt
ok_fits (requests.Operation service host) place is = tt
ok_fits requests.Close place is = tt
ok_fits request place is = absurd (cc)

pub fits : (request : Request) (place : ℕ) (reply : Reply) → may_answer request reply ≡ true → IsPlaced reply place → Fits request place reply
fits request place (replies.Opened sid) may placed = opened_fits request sid place may placed
fits request place replies.Password may placed = password_fits request place may
fits request place (replies.Challenge number word_seed) may placed = challenge_fits request place number word_seed may
fits request place replies.Ok may placed = ok_fits request place may
fits request place (replies.Shown summary) may placed = absurd (cc)
fits request place (replies.Denied denial) may placed = tt

-- ---- failures of the link

-- nothing failed where a line was heard, or what follows is strange
took_calm : (bytes : List ℕ) (before after : SourceView) → TookBytes bytes before after → (after.faults ≡ before.faults) × (after.idles ≡ before.idles)
took_calm bytes before after took = (ap (λ (s : SourceView). s.faults) took.is, ap (λ (s : SourceView). s.idles) took.is)

-- a source that told its end, or that was stopped by the limit, didn't fail
abbrev pub IsCalm : Heard → Type 0
IsCalm (Stopped stops.Idle) = ⊥
IsCalm (Stopped stops.Failed) = ⊥
IsCalm _ = Unit {0}

leaves_calm : (heard : Heard) (reader : LineReaderView) (before after : SourceView) → IsCalm heard → LeavesSource heard reader before after → after ≡ before
leaves_calm (Line line) reader before after calm leaves = leaves
leaves_calm TooLong reader before after calm leaves = leaves
leaves_calm (Stopped stops.End) reader before after calm leaves = leaves.1.is
leaves_calm (Stopped stops.Spent) reader before after calm leaves = leaves
leaves_calm (Stopped stops.Idle) reader before after calm leaves = absurd calm
leaves_calm (Stopped stops.Failed) reader before after calm leaves = absurd calm

pub calm : (heard : Heard) (text : List ℕ) (old new : LinkView) → IsCalm heard → Hears heard text old new → faults_of new ≡ faults_of old
calm heard text old new is hears =
    let at = hears.listens in
    let took = took_calm at.reads.taken_now old.source at.middle at.reads.takes in
    let left = leaves_calm heard new.reader at.middle new.source is at.closes in
    let source : new.source.faults ≡ old.source.faults = ap (λ (s : SourceView). s.faults) left ∙ took.0 in
    let idles : new.source.idles ≡ old.source.idles = ap (λ (s : SourceView). s.idles) left ∙ took.1 in
    let sink : new.sink.faults ≡ old.sink.faults = ap (λ (s : SinkView). s.faults) hears.gave in
    omega (arith, source, idles, sink)

pub cut_failed : (text : List ℕ) (old new : LinkView) → IsCutOff text old new → Rose (faults_of old) (faults_of new)
cut_failed text old new off =
    let source = ap (λ (s : SourceView). s.faults) off.source in
    let idles = ap (λ (s : SourceView). s.idles) off.source in
    let sink = ap (λ (s : SinkView). s.faults) off.cut.is in
    (omega (arith, source, idles, sink, off.cut.rose.0, off.cut.rose.1), omega (arith, source, idles, sink, off.cut.rose.0, off.cut.rose.1))

idle_failed : (text : List ℕ) (old new : LinkView) → Hears (Stopped stops.Idle) text old new → Rose (faults_of old) (faults_of new)
idle_failed text old new hears =
    let at = hears.listens in
    let took = took_calm at.reads.taken_now old.source at.middle at.reads.takes in
    let missed = at.closes.1 in
    let source = ap (λ (s : SourceView). s.faults) missed.is in
    let idles = ap (λ (s : SourceView). s.idles) missed.is in
    let sink = ap (λ (s : SinkView). s.faults) hears.gave in
    (omega (arith, took.0, took.1, source, idles, sink, missed.rose.0, missed.rose.1), omega (arith, took.0, took.1, source, idles, sink, missed.rose.0, missed.rose.1))

broke_failed : (text : List ℕ) (old new : LinkView) → Hears (Stopped stops.Failed) text old new → Rose (faults_of old) (faults_of new)
broke_failed text old new hears =
    let at = hears.listens in
    let took = took_calm at.reads.taken_now old.source at.middle at.reads.takes in
    let missed = at.closes.1 in
    let source = ap (λ (s : SourceView). s.faults) missed.is in
    let idles = ap (λ (s : SourceView). s.idles) missed.is in
    let sink = ap (λ (s : SinkView). s.faults) hears.gave in
    (omega (arith, took.0, took.1, source, idles, sink, missed.rose.0, missed.rose.1), omega (arith, took.0, took.1, source, idles, sink, missed.rose.0, missed.rose.1))

pub link_failed : (request : Request) (place : ℕ) (heard : Heard) (text : List ℕ) (old new : LinkView) → IsAnswered request place heard (Err faults.Link) → Hears heard text old new → Rose (faults_of old) (faults_of new)
link_failed request place (Stopped stops.Idle) text old new is hears = idle_failed text old new hears
link_failed request place (Stopped stops.Failed) text old new is hears = broke_failed text old new hears
link_failed request place (Stopped stops.End) text old new is hears = absurd is
link_failed request place (Stopped stops.Spent) text old new is hears = absurd is
link_failed request place (Line line) text old new is hears = absurd is
link_failed request place TooLong text old new is hears = absurd is

pub strange_calm : (request : Request) (place : ℕ) (heard : Heard) → IsAnswered request place heard (Err faults.Strange) → IsCalm heard
strange_calm request place (Stopped stops.Idle) is = absurd is
strange_calm request place (Stopped stops.Failed) is = absurd is
strange_calm request place (Stopped stops.End) is = tt
strange_calm request place (Stopped stops.Spent) is = tt
strange_calm request place (Line line) is = tt
strange_calm request place TooLong is = tt

pub reply_calm : (request : Request) (place : ℕ) (heard : Heard) (reply : Reply) → IsAnswered request place heard (Ok reply) → IsCalm heard
reply_calm request place (Line line) reply is = tt
reply_calm request place TooLong reply is = absurd is
reply_calm request place (Stopped stops.End) reply is = absurd is
reply_calm request place (Stopped stops.Idle) reply is = absurd is
reply_calm request place (Stopped stops.Failed) reply is = absurd is
reply_calm request place (Stopped stops.Spent) reply is = absurd is

reply_fits : (request : Request) (place : ℕ) (heard : Heard) (reply : Reply) → IsAnswered request place heard (Ok reply) → Fits request place reply
reply_fits request place (Line line) reply is = fits request place reply is.may is.says.placed
reply_fits request place TooLong reply is = absurd is
reply_fits request place (Stopped stops.End) reply is = absurd is
reply_fits request place (Stopped stops.Idle) reply is = absurd is
reply_fits request place (Stopped stops.Failed) reply is = absurd is
reply_fits request place (Stopped stops.Spent) reply is = absurd is

-- ---- the port

grew : (asks : ℕ) → asks < 2 ^ 64 → Grew 1 asks (counted asks)
grew asks within = record { least = omega arith; most = omega arith; later = omega (arith, within) }

rose : (odd : ℕ) → odd < 2 ^ 64 → Rose odd (counted odd)
rose odd within = (omega (arith, within), omega arith)

stays : (full : Option ℕ) → Stays full full
stays None = tt
stays (Some limit) = refl

none_stays : (full other : Option ℕ) → full ≡ None → Stays full other
none_stays full other none = rw none tt

next_place : (seen : List Entry) (entry : Entry) → places (length (seen ++ entry ∷ [])) ≡ places (length seen) ++ length seen ∷ []
next_place seen entry =
    let more : length (seen ++ entry ∷ []) ≡ suc (length seen) = omega (arith, length_push seen entry) in
    ap places more

-- a port, by its parts
abbrev pub made : TalkView → LinkView → RemoteOrigin → RemoteView
made talk link origin = record { talk = talk; link = link; origin = origin }

module _ (old : TalkView) (before after : LinkView) (origin : RemoteOrigin) where
  abbrev was : Port RemoteOrigin
  was = remote_port (made old before origin)

  entered : (sid at : ℕ) (request : Request) (reply : Reply) → old.asks < 2 ^ 64 → limit_of old.standing ≡ None → Fits request (length old.seen) reply → faults_of after ≡ faults_of before
      → ports.Enters sid at request reply was (remote_port (made (with_entry sid at request reply (with_ask old)) after origin))
  entered sid at request reply within none fits same =
      let entry : Entry = entry_at sid at request (is_kept reply) reply (length old.seen) in
      let nil : old.seen ++ [] ≡ old.seen = append-nil old.seen in
      record {
        others = [];
        place = length old.seen;
        kept = is_kept reply;
        full = limit_of (standing_after old.standing request reply);
        asks = counted old.asks;
        counts = grew old.asks within;
        open_before = none;
        is_place = ap length (sym nil);
        fits = fits;
        is = ap (λ (n : ℕ). record was {
          seen = old.seen ++ entry ∷ [];
          mine = places (length (old.seen ++ entry ∷ []));
          full = limit_of (standing_after old.standing request reply);
          asks = counted old.asks;
          faults = n;
        }) same
            ∙ ap (λ (m : List ℕ). record was {
              seen = old.seen ++ entry ∷ [];
              mine = m;
              full = limit_of (standing_after old.standing request reply);
              asks = counted old.asks;
            }) (next_place old.seen entry)
            ∙ ap (λ (h : List Entry). record was {
              seen = h ++ entry ∷ [];
              mine = places (length old.seen) ++ length old.seen ∷ [];
              full = limit_of (standing_after old.standing request reply);
              asks = counted old.asks;
            }) (sym nil);
      }

  filled : (limit : ℕ) → old.asks < 2 ^ 64 → Stays (limit_of old.standing) (Some limit) → faults_of after ≡ faults_of before
      → ports.IsFull limit was (remote_port (made (with_limit limit (with_ask old)) after origin))
  filled limit within stays same = record {
    others = [];
    asks = counted old.asks;
    counts = grew old.asks within;
    stays = stays;
    is = ap (λ (n : ℕ). record was { full = Some limit; refused = true; asks = counted old.asks; faults = n }) same
        ∙ ap (λ (h : List Entry). record was { seen = h; full = Some limit; refused = true; asks = counted old.asks }) (sym (append-nil old.seen));
  }

  lost : old.asks < 2 ^ 64 → limit_of old.standing ≡ None → Rose (faults_of before) (faults_of after)
      → ports.LinkFailed was (remote_port (made (with_loss (with_ask old)) after origin))
  lost within none failed = record {
    others = [];
    full = None;
    asks = counted old.asks;
    count = faults_of after;
    counts = grew old.asks within;
    stays = none_stays (limit_of old.standing) None none;
    rose = failed;
    is = ap (λ (h : List Entry). record was { seen = h; full = None; asks = counted old.asks; faults = faults_of after }) (sym (append-nil old.seen));
  }

  strange : old.asks < 2 ^ 64 → old.odd < 2 ^ 64 → limit_of old.standing ≡ None → faults_of after ≡ faults_of before
      → ports.WasOdd was (remote_port (made (with_odd (with_ask old)) after origin))
  strange within fits none same = record {
    others = [];
    full = None;
    asks = counted old.asks;
    count = counted old.odd;
    counts = grew old.asks within;
    stays = none_stays (limit_of old.standing) None none;
    rose = rose old.odd fits;
    is = ap (λ (n : ℕ). record was { full = None; asks = counted old.asks; odd = counted old.odd; faults = n }) same
        ∙ ap (λ (h : List Entry). record was { seen = h; full = None; asks = counted old.asks; odd = counted old.odd }) (sym (append-nil old.seen));
  }

  lacked : old.asks < 2 ^ 64 → after ≡ before
      → ports.RanOutOfMemory was (remote_port (made (with_ask old) after origin))
  lacked within same = record {
    others = [];
    full = limit_of old.standing;
    asks = counted old.asks;
    counts = grew old.asks within;
    stays = stays (limit_of old.standing);
    is = ap (λ (l : LinkView). record was { asks = counted old.asks; faults = faults_of l }) same
        ∙ ap (λ (h : List Entry). record was { seen = h; asks = counted old.asks }) (sym (append-nil old.seen));
  }

  -- a reply, by whether it tells a limit
  abbrev now : Option ℕ → ℕ → ℕ → Request → Reply → Port RemoteOrigin
  now told sid at request reply = remote_port (made (with_reply told sid at request reply (with_ask old)) after origin)

  denied : (sid at : ℕ) (request : Request) (denial : Denial) → old.asks < 2 ^ 64 → limit_of old.standing ≡ None → Fits request (length old.seen) (replies.Denied denial) → faults_of after ≡ faults_of before
      → ports.Replies sid at request (replies.Denied denial) was (now (limit_in denial) sid at request (replies.Denied denial))
  denied sid at request (denials.Full limit) within none fits same = filled limit within (none_stays (limit_of old.standing) (Some limit) none) same
  denied sid at request denial within none fits same = entered sid at request (replies.Denied denial) within none fits same

  replied : (sid at : ℕ) (request : Request) (reply : Reply) → old.asks < 2 ^ 64 → limit_of old.standing ≡ None → Fits request (length old.seen) reply → faults_of after ≡ faults_of before
      → ports.Replies sid at request reply was (now (limit_told reply) sid at request reply)
  replied sid at request (replies.Denied denial) within none fits same = denied sid at request denial within none fits same
  replied sid at request reply within none fits same = entered sid at request reply within none fits same

  -- it was sent
  sent : (answer : Result Reply PortFault) (sid at : ℕ) (request : Request) → old.asks < 2 ^ 64 → old.odd < 2 ^ 64 → limit_of old.standing ≡ None → IsSent answer request (length old.seen) before after
      → Asks answer sid at request was (remote_port (made (talk_after answer sid at request (with_ask old)) after origin))
  sent (Ok reply) sid at request within odd none h =
      replied sid at request reply within none (reply_fits request (length old.seen) h.heard reply h.answers)
      (calm h.heard (written request) before after (reply_calm request (length old.seen) h.heard reply h.answers) h.hears)
  sent (Err faults.NoMemory) sid at request within odd none same = lacked within same
  sent (Err faults.Link) sid at request within odd none (inl off) = lost within none (cut_failed (written request) before after off)
  sent (Err faults.Link) sid at request within odd none (inr h) = lost within none (link_failed request (length old.seen) h.heard (written request) before after h.answers h.hears)
  sent (Err faults.Strange) sid at request within odd none h =
      strange within odd none (calm h.heard (written request) before after (strange_calm request (length old.seen) h.heard h.answers) h.hears)

  -- it was refused
  refused : (answer : Result Reply PortFault) (sid at : ℕ) (request : Request) → old.asks < 2 ^ 64 → limit_of old.standing ≡ None → IsRefused answer → after ≡ before
      → Asks answer sid at request was (remote_port (made (talk_after answer sid at request (with_ask old)) after origin))
  refused answer sid at request within none (inl is) same =
      let P : Result Reply PortFault → Type 0 = λ (a : Result Reply PortFault). Asks a sid at request was (remote_port (made (talk_after a sid at request (with_ask old)) after origin)) in
      subst P (sym is) (entered sid at request (replies.Denied denials.Closed) within none tt (ap faults_of same))
  refused answer sid at request within none (inr is) same =
      let P : Result Reply PortFault → Type 0 = λ (a : Result Reply PortFault). Asks a sid at request was (remote_port (made (talk_after a sid at request (with_ask old)) after origin)) in
      subst P (sym is) (lacked within same)

  treated : (treatment : Treatment) (answer : Result Reply PortFault) (sid at : ℕ) (request : Request) → treatment_of old.standing sid request ≡ treatment → old.asks < 2 ^ 64 → old.odd < 2 ^ 64
      → IsTreated treatment answer request (length old.seen) before after
      → Asks answer sid at request was (remote_port (made (talk_after answer sid at request (with_ask old)) after origin))
  treated Strange answer sid at request is within odd h =
      let P : Result Reply PortFault → Type 0 = λ (a : Result Reply PortFault). Asks a sid at request was (remote_port (made (talk_after a sid at request (with_ask old)) after origin)) in
      subst P (sym h.0) (strange within odd (not_full old.standing sid request (subst IsNotFull (sym is) tt)) (ap faults_of h.1))
  treated (Full limit) answer sid at request is within odd h =
      let P : Result Reply PortFault → Type 0 = λ (a : Result Reply PortFault). Asks a sid at request was (remote_port (made (talk_after a sid at request (with_ask old)) after origin)) in
      let same : limit_of old.standing ≡ Some limit = full_stands old.standing sid limit request is in
      subst P (sym h.0) (filled limit within (subst (λ (f : Option ℕ). Stays f (Some limit)) (sym same) refl) (ap faults_of h.1))
  treated Refuse answer sid at request is within odd h = refused answer sid at request within (not_full old.standing sid request (subst IsNotFull (sym is) tt)) h.0 h.1
  treated Send answer sid at request is within odd h = sent answer sid at request within odd (not_full old.standing sid request (subst IsNotFull (sym is) tt)) h

-- what was asked of the talk and the link was asked of the port
pub asks_port : (answer : Result Reply PortFault) (sid at : ℕ) (request : Request) (old new : TalkView) (before after : LinkView) (origin : RemoteOrigin)
    → Converses answer sid at request old new before after → Asks answer sid at request (remote_port (made old before origin)) (remote_port (made new after origin))
asks_port answer sid at request old new before after origin h =
    let P : TalkView → Type 0 = λ (t : TalkView). Asks answer sid at request (remote_port (made old before origin)) (remote_port (made t after origin)) in
    subst P (sym h.talk) (treated old before after origin (treatment_of old.standing sid request) answer sid at request refl h.asks h.odd h.treated)
