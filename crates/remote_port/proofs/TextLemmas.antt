-- What was given and taken are the lines of a port's entries, whatever is asked next.
use Rattle.std.proofs.Common.{arith, ◌≡◌, refl, sym, ap, ◌∙◌, subst, ℕ, ◌+◌, ◌<◌, ◌^◌, ◌==◌, Bool, true, false, List, [], ◌∷◌, ◌++◌, length, map, inl, inr, Option, Some, None, Result, Ok, Err, append_assoc, append-nil}
use Rattle.std.specs.Prelude.{if◌then◌else◌, ◌||◌, ◌&&◌, IsTrue, flat_map, is_some}
use Rattle.std.proofs.lemmas.Bool.{eqb-true}
use Rattle.std.proofs.lemmas.List.{length-append, map-append}
use Rattle.fw_outside.specs.Counts.{Rose, counted}
use Rattle.fw_outside.specs.LineReaderView.{LeavesSource, LineReaderView}
use Rattle.fw_outside.specs.Lines.{first_line}
use Rattle.fw_outside.specs.SinkView.{SinkView}
use Rattle.fw_outside.specs.SourceView.{SourceView}
use Rattle.fw_outside.specs.ToldList.{IsOver, grown}
use Rattle.fw_outside.proofs.ListenLemmas.{grown-append, grown-nil}
use Rattle.fw_outside.specs.declared.heard.Heard.{Heard}
use Rattle.fw_outside.specs.declared.heard.Heard.TheVariants.{Line, TooLong, Stopped}
use Rattle.fw_outside.specs.declared.heard.Stop.TheVariants as stops
use Rattle.auth_events.specs.Port.{entry_at, session_at}
use Rattle.auth_events.specs.declared.denial.Denial.{Denial}
use Rattle.auth_events.specs.declared.denial.Denial.TheVariants as denials
use Rattle.auth_events.specs.declared.entry.Entry.{Entry}
use Rattle.auth_events.specs.declared.port.PortFault.{PortFault}
use Rattle.auth_events.specs.declared.port.PortFault.TheVariants as faults
use Rattle.auth_events.specs.declared.reply.Reply.{Reply}
use Rattle.auth_events.specs.declared.reply.Reply.TheVariants as replies
use Rattle.auth_events.specs.declared.request.Request.{Request}
use Rattle.authsrv_lines.specs.Reply.{reply_line}
use Rattle.authsrv_lines.specs.RequestLine.{IsAsked}
use Rattle.remote_port.specs.Answers.{IsAnswer, IsAnswered, is_kept, limit_in, limit_told, may_answer}
use Rattle.remote_port.specs.Entries.{AreEntries, IsEnteredAs, IsEntry, answered, is_sent, standing_from, standing_of}
use Rattle.remote_port.specs.Link.{Hears, IsCutOff, LinkView, failures, faults_of}
use Rattle.remote_port.specs.Remote.{Converses, IsHeardAs, IsRefused, IsSent, IsTreated, RemoteOrigin}
use Rattle.remote_port.specs.Requests.{has_line, is_open, written}
use Rattle.remote_port.specs.Talk.{TalkView, talk_after, with_ask, with_entry, with_limit, with_loss, with_odd, with_reply}
use Rattle.remote_port.specs.Texts.{AreLines, AsksOne, Exchange, GoesOn, IsCalm, IsStanding, RemoteTexts, ShowsOdd, full_reply}
use Rattle.remote_port.specs.Texts.ShowsOdd.{ByEnd, ByLength, ByLimit, ByLine}
use Rattle.remote_port.specs.Treatment.{limit_of, standing_after, treatment_of}
use Rattle.remote_port.specs.declared.standing.Standing.{Standing}
use Rattle.remote_port.specs.declared.standing.Standing.TheVariants as standings
use Rattle.remote_port.specs.declared.standing.Treatment.{Treatment}
use Rattle.remote_port.specs.declared.standing.Treatment.TheVariants.{Strange, Full, Refuse, Send}
use Rattle.remote_port.proofs.PortLemmas.{IsCalm as IsCalmHeard, IsNotFull, calm, cut_failed, full_stands, link_failed, made, not_full, reply_calm, strange_calm}
use Rattle.remote_port.proofs.StandingLemmas.{IsHeeded, IsInSession, IsStrange, after_session, answered_push, entries_push, flat_push, has_line_refused, idle, in_session, line_more, lines_more, no_full_reply, no_limit, not_full_reply, reply_of, request_of, same_session, same_treatment, sent_of, standing_push, stands, stands_full, strange_lost}

-- ---- the ends of the link

leaves_taken : (heard : Heard) (reader : LineReaderView) (before after : SourceView) → LeavesSource heard reader before after → after.taken ≡ before.taken
leaves_taken (Line line) reader before after leaves = ap (λ (s : SourceView). s.taken) leaves
leaves_taken TooLong reader before after leaves = ap (λ (s : SourceView). s.taken) leaves
leaves_taken (Stopped stops.End) reader before after leaves = ap (λ (s : SourceView). s.taken) leaves.1.is
leaves_taken (Stopped stops.Idle) reader before after leaves = ap (λ (s : SourceView). s.taken) leaves.1.is
leaves_taken (Stopped stops.Failed) reader before after leaves = ap (λ (s : SourceView). s.taken) leaves.1.is
leaves_taken (Stopped stops.Spent) reader before after leaves = ap (λ (s : SourceView). s.taken) leaves

took_now : (heard : Heard) (text : List ℕ) (old new : LinkView) (h : Hears heard text old new) → new.source.taken ≡ grown old.source.taken h.listens.reads.taken_now
took_now heard text old new h =
    leaves_taken heard new.reader h.listens.middle new.source h.listens.closes ∙ ap (λ (s : SourceView). s.taken) h.listens.reads.takes.is

gave_now : (heard : Heard) (text : List ℕ) (old new : LinkView) → Hears heard text old new → new.sink.given ≡ grown old.sink.given text
gave_now heard text old new h = ap (λ (s : SinkView). s.given) h.gave

-- the line that was heard may be what answers the request
pub answers_by : (request : Request) (place : ℕ) (heard : Heard) (reply : Reply) → IsAnswered request place heard (Ok reply) → (line : List ℕ) × IsAnswer request place line reply
answers_by request place (Line line) reply is = (line.items, is)
answers_by request place TooLong reply is = absurd is
answers_by request place (Stopped stops.End) reply is = absurd is
answers_by request place (Stopped stops.Idle) reply is = absurd is
answers_by request place (Stopped stops.Failed) reply is = absurd is
answers_by request place (Stopped stops.Spent) reply is = absurd is

-- a denial of what has a line may come
may_deny : (line other : Bool) → line ≡ true → (line || other) ≡ true
may_deny true other is = refl
may_deny false other is = absurd (cc)

-- ---- what is asked next

abbrev pub exchanged : TalkView → LinkView → RemoteOrigin → List Request → List ℕ → List ℕ → List ℕ → Exchange
exchanged talk link origin more cut read ahead = record { seen = talk.seen; odd = talk.odd; origin = origin; link = link; more = more; cut = cut; read = read; ahead = ahead }

module _ (old : TalkView) (before after : LinkView) (origin : RemoteOrigin) (t : RemoteTexts (made old before origin)) where
  abbrev Texts : TalkView → LinkView → Type 0
  Texts talk link = RemoteTexts (made talk link origin)

  -- the link stays, and so do the entries
  as_before : after ≡ before → Texts (with_ask old) after
  as_before same =
      let P : LinkView → Type 0 = λ (l : LinkView). Texts (with_ask old) l in
      subst P (sym same) (record { more = t.more; given = t.given; cut = t.cut; requests = t.requests; gave = t.gave; read = t.read; ahead = t.ahead; replies = t.replies; took = t.took; room = t.room; entries = t.entries; refused = t.refused; standing = t.standing })

  -- something strange was asked
  strange_asked : (sid : ℕ) (request : Request) → treatment_of old.standing sid request ≡ Strange → after ≡ before → Texts (with_odd (with_ask old)) after
  strange_asked sid request strange same =
      let P : LinkView → Type 0 = λ (l : LinkView). Texts (with_odd (with_ask old)) l in
      let Q : List Reply → Type 0 = λ (r : List Reply). AreLines (map reply_line (map reply_of (answered old.seen) ++ r)) t.read in
      let limit : limit_of old.standing ≡ None = not_full old.standing sid request (subst IsNotFull (sym strange) tt) in
      subst P (sym same) (record {
        more = t.more;
        given = t.given;
        cut = t.cut;
        requests = t.requests;
        gave = t.gave;
        read = t.read;
        ahead = t.ahead;
        replies = subst Q (no_full_reply old.standing sid request (subst IsStrange (sym strange) tt)) t.replies;
        took = t.took;
        room = t.room;
        entries = t.entries;
        refused = t.refused ∙ ap is_some limit;
        standing = strange_lost old.standing (exchanged old before origin t.more t.cut t.read t.ahead) sid request (counted old.odd) strange (omega (arith)) t.standing;
      })

  -- the history was full before
  full_asked : (limit : ℕ) → standings.Full limit ≡ old.standing → after ≡ before → Texts (with_limit limit (with_ask old)) after
  full_asked limit stands same =
      let P : LinkView → Type 0 = λ (l : LinkView). Texts (with_limit limit (with_ask old)) l in
      let Q : Standing → Type 0 = λ (s : Standing). AreLines (map reply_line (map reply_of (answered old.seen) ++ full_reply s)) t.read in
      let R : Standing → Type 0 = λ (s : Standing). IsStanding s (exchanged old before origin t.more t.cut t.read t.ahead) in
      subst P (sym same) (record {
        more = t.more;
        given = t.given;
        cut = t.cut;
        requests = t.requests;
        gave = t.gave;
        read = t.read;
        ahead = t.ahead;
        replies = subst Q (sym stands) t.replies;
        took = t.took;
        room = t.room;
        entries = t.entries;
        refused = refl;
        standing = subst R (sym stands) t.standing;
      })

  module _ (session : IsInSession old.standing) where
    now : GoesOn old.standing (exchanged old before origin t.more t.cut t.read t.ahead)
    now = idle old.standing (exchanged old before origin t.more t.cut t.read t.ahead) session t.standing

    none_refused : old.refused ≡ false
    none_refused = t.refused ∙ ap is_some (no_limit old.standing session)

    -- all requests that were asked have entries, and were given
    all_given : flat_map written (map request_of (answered old.seen)) ≡ t.given
    all_given =
        ap (flat_map written) (sym (append-nil (map request_of (answered old.seen))) ∙ ap (λ (m : List Request). map request_of (answered old.seen) ++ m) (sym now.none))
        ∙ t.requests ∙ ap (λ (c : List ℕ). t.given ++ c) now.calm.whole ∙ append-nil t.given

    all_read : AreLines (map reply_line (map reply_of (answered old.seen))) t.read
    all_read =
        let P : List Reply → Type 0 = λ (r : List Reply). AreLines (map reply_line r) t.read in
        subst P (ap (λ (r : List Reply). map reply_of (answered old.seen) ++ r) (not_full_reply old.standing session) ∙ append-nil (map reply_of (answered old.seen))) t.replies

    one_asked : (request : Request) → flat_map written (map request_of (answered old.seen) ++ request ∷ []) ≡ t.given ++ written request
    one_asked request = flat_push (map request_of (answered old.seen)) request ∙ ap (λ (g : List ℕ). g ++ written request) all_given

    one_given : (heard : Heard) (request : Request) → Hears heard (written request) before after → after.sink.given ≡ grown origin.sink.given (t.given ++ written request)
    one_given heard request h =
        gave_now heard (written request) before after h ∙ ap (λ (g : Option (List ℕ)). grown g (written request)) t.gave ∙ grown-append origin.sink.given t.given (written request)

    one_taken : (heard : Heard) (request : Request) (h : Hears heard (written request) before after)
        → after.source.taken ≡ grown origin.source.taken (t.read ++ (t.ahead ++ h.listens.reads.taken_now))
    one_taken heard request h =
        took_now heard (written request) before after h
        ∙ ap (λ (g : Option (List ℕ)). grown g h.listens.reads.taken_now) t.took
        ∙ grown-append origin.source.taken (t.read ++ t.ahead) h.listens.reads.taken_now
        ∙ ap (grown origin.source.taken) (append_assoc t.read t.ahead h.listens.reads.taken_now)

    line_taken : (heard : Heard) (request : Request) (h : Hears heard (written request) before after)
        → after.source.taken ≡ grown origin.source.taken ((t.read ++ h.listens.bytes) ++ after.reader.pending)
    line_taken heard request h =
        one_taken heard request h
        ∙ ap (λ (a : List ℕ). grown origin.source.taken (t.read ++ (a ++ h.listens.reads.taken_now))) now.ahead
        ∙ ap (λ (a : List ℕ). grown origin.source.taken (t.read ++ a)) h.listens.reads.reader
        ∙ ap (grown origin.source.taken) (sym (append_assoc t.read h.listens.bytes after.reader.pending))

    -- how much may still be taken
    room_left : (heard : Heard) (request : Request) (h : Hears heard (written request) before after)
        → after.reader.room + length (t.read ++ (t.ahead ++ h.listens.reads.taken_now)) ≡ 2 ^ 40
    room_left heard request h =
        omega (arith, t.room, h.listens.reads.room, length-append t.read t.ahead, length-append t.read (t.ahead ++ h.listens.reads.taken_now), length-append t.ahead h.listens.reads.taken_now)

    -- what was taken, in both ways
    same_taken : (heard : Heard) (request : Request) (h : Hears heard (written request) before after)
        → t.read ++ (t.ahead ++ h.listens.reads.taken_now) ≡ (t.read ++ h.listens.bytes) ++ after.reader.pending
    same_taken heard request h =
        ap (λ (a : List ℕ). t.read ++ (a ++ h.listens.reads.taken_now)) now.ahead
        ∙ ap (λ (a : List ℕ). t.read ++ a) h.listens.reads.reader
        ∙ sym (append_assoc t.read h.listens.bytes after.reader.pending)

    room_now : (heard : Heard) (request : Request) (h : Hears heard (written request) before after)
        → after.reader.room + length ((t.read ++ h.listens.bytes) ++ after.reader.pending) ≡ 2 ^ 40
    room_now heard request h = subst (λ (l : List ℕ). after.reader.room + length l ≡ 2 ^ 40) (same_taken heard request h) (room_left heard request h)

    unfailed : (heard : Heard) (request : Request) → IsCalmHeard heard → Hears heard (written request) before after → faults_of after ≡ failures origin.source origin.sink
    unfailed heard request is h = calm heard (written request) before after is h ∙ now.calm.unfailed

    failed_now : Rose (faults_of before) (faults_of after) → Rose (failures origin.source origin.sink) (faults_of after)
    failed_now rose = subst (λ (n : ℕ). Rose n (faults_of after)) now.calm.unfailed rose

    -- one request more is asked after these entries
    asks_one : (talk : TalkView) (sid : ℕ) (request : Request) (cut read ahead : List ℕ) → talk.seen ≡ old.seen → treatment_of old.standing sid request ≡ Send
        → AsksOne (exchanged talk after origin (request ∷ []) cut read ahead)
    asks_one talk sid request cut read ahead same sends = record {
      sid = sid;
      request = request;
      is = refl;
      sends = ap (λ (e : List Entry). treatment_of (standing_of e) sid request) same ∙ ap (λ (s : Standing). treatment_of s sid request) (sym now.from) ∙ sends;
    }

    replies_read : AreLines (map reply_line (map reply_of (answered old.seen) ++ [])) t.read
    replies_read = subst (λ (r : List Reply). AreLines (map reply_line r) t.read) (sym (append-nil (map reply_of (answered old.seen)))) all_read

    -- the first line of what was taken
    next_line : (heard : Heard) (request : Request) (line : List ℕ) (h : Hears heard (written request) before after) → first_line h.listens.bytes ≡ Some (line, [])
        → first_line (t.ahead ++ h.listens.reads.taken_now) ≡ Some (line, after.reader.pending)
    next_line heard request line h is =
        ap (λ (a : List ℕ). first_line (a ++ h.listens.reads.taken_now)) now.ahead ∙ ap first_line h.listens.reads.reader
        ∙ line_more h.listens.bytes after.reader.pending (line, []) is

    no_next_line : (heard : Heard) (request : Request) (h : Hears heard (written request) before after) → first_line h.listens.bytes ≡ None → after.reader.pending ≡ []
        → first_line (t.ahead ++ h.listens.reads.taken_now) ≡ None
    no_next_line heard request h is none =
        ap (λ (a : List ℕ). first_line (a ++ h.listens.reads.taken_now)) now.ahead ∙ ap first_line h.listens.reads.reader
        ∙ ap (λ (p : List ℕ). first_line (h.listens.bytes ++ p)) none ∙ ap first_line (append-nil h.listens.bytes) ∙ is

    -- what was taken shows that something strange came
    shows : (heard : Heard) (request : Request) (place : ℕ) (h : Hears heard (written request) before after) → IsAnswered request place heard (Err faults.Strange)
        → ShowsOdd request place after t.read (t.ahead ++ h.listens.reads.taken_now)
    shows (Line line) request place h is = ByLine line.items after.reader.pending (next_line (Line line) request line.items h h.listens.is_heard.is) is
    shows TooLong request place h is =
        ByLength h.listens.is_heard.line after.reader.pending (next_line TooLong request h.listens.is_heard.line h h.listens.is_heard.is) h.listens.is_heard.long
    shows (Stopped stops.End) request place h is =
        ByEnd (no_next_line (Stopped stops.End) request h h.listens.is_heard h.listens.closes.0)
        (subst (λ (s : SourceView). IsOver s.left) (sym h.listens.closes.1.is) h.listens.closes.1.over)
    shows (Stopped stops.Spent) request place h is =
        let spent : after.reader.room ≡ 0 = eqb-true after.reader.room 0 (sym h.listens.spent) in
        ByLimit (omega (arith, spent, room_left (Stopped stops.Spent) request h))
    shows (Stopped stops.Idle) request place h is = absurd is
    shows (Stopped stops.Failed) request place h is = absurd is

    -- something strange came
    strange_said : (heard : Heard) (sid : ℕ) (request : Request) → treatment_of old.standing sid request ≡ Send → Hears heard (written request) before after
        → IsAnswered request (length old.seen) heard (Err faults.Strange) → Texts (with_odd (with_ask old)) after
    unfolding asks_one
    strange_said heard sid request sends h is = record {
      more = request ∷ [];
      given = t.given ++ written request;
      cut = [];
      requests = one_asked request ∙ sym (append-nil (t.given ++ written request));
      gave = one_given heard request h;
      read = t.read;
      ahead = t.ahead ++ h.listens.reads.taken_now;
      replies = replies_read;
      took = one_taken heard request h;
      room = room_left heard request h;
      entries = t.entries;
      refused = none_refused;
      standing = inr (inr (record {
        one = asks_one (with_odd (with_ask old)) sid request [] t.read (t.ahead ++ h.listens.reads.taken_now) refl sends;
        calm = record { whole = refl; unfailed = unfailed heard request (strange_calm request (length old.seen) heard is) h };
        shows = shows heard request (length old.seen) h is;
        odd = omega (arith);
      }));
    }

    -- the link failed while the reply was awaited
    broken : (heard : Heard) (sid : ℕ) (request : Request) → treatment_of old.standing sid request ≡ Send → Hears heard (written request) before after
        → IsAnswered request (length old.seen) heard (Err faults.Link) → Texts (with_loss (with_ask old)) after
    broken heard sid request sends h is = record {
      more = request ∷ [];
      given = t.given ++ written request;
      cut = [];
      requests = one_asked request ∙ sym (append-nil (t.given ++ written request));
      gave = one_given heard request h;
      read = t.read;
      ahead = t.ahead ++ h.listens.reads.taken_now;
      replies = replies_read;
      took = one_taken heard request h;
      room = room_left heard request h;
      entries = t.entries;
      refused = none_refused;
      standing = inl (record {
        one = asks_one (with_loss (with_ask old)) sid request [] t.read (t.ahead ++ h.listens.reads.taken_now) refl sends;
        failed = failed_now (link_failed request (length old.seen) heard (written request) before after is h);
      });
    }

    -- the line was cut off
    cut_off : (sid : ℕ) (request : Request) → treatment_of old.standing sid request ≡ Send → IsCutOff (written request) before after → Texts (with_loss (with_ask old)) after
    cut_off sid request sends off = record {
      more = request ∷ [];
      given = t.given ++ off.cut.part;
      cut = off.cut.rest;
      requests = one_asked request ∙ ap (λ (w : List ℕ). t.given ++ w) off.cut.cut ∙ sym (append_assoc t.given off.cut.part off.cut.rest);
      gave = ap (λ (s : SinkView). s.given) off.cut.is ∙ ap (λ (g : Option (List ℕ)). grown g off.cut.part) t.gave ∙ grown-append origin.sink.given t.given off.cut.part;
      read = t.read;
      ahead = t.ahead;
      replies = replies_read;
      took = ap (λ (s : SourceView). s.taken) off.source ∙ t.took;
      room = ap (λ (r : LineReaderView). r.room + length (t.read ++ t.ahead)) off.reader ∙ t.room;
      entries = t.entries;
      refused = none_refused;
      standing = inl (record {
        one = asks_one (with_loss (with_ask old)) sid request off.cut.rest t.read t.ahead refl sends;
        failed = failed_now (cut_failed (written request) before after off);
      });
    }

    -- one line more was read
    line_read : (request : Request) (place : ℕ) (heard : Heard) (reply : Reply) (h : Hears heard (written request) before after) → IsAnswered request place heard (Ok reply)
        → AreLines (map reply_line (map reply_of (answered old.seen)) ++ reply_line reply ∷ []) (t.read ++ h.listens.bytes)
    line_read request place (Line line) reply h is =
        lines_more (map reply_line (map reply_of (answered old.seen))) t.read h.listens.bytes (reply_line reply) all_read
        (h.listens.is_heard.is ∙ ap (λ (l : List ℕ). Some (l, [])) (sym is.says.text))
    line_read request place TooLong reply h is = absurd is
    line_read request place (Stopped stops.End) reply h is = absurd is
    line_read request place (Stopped stops.Idle) reply h is = absurd is
    line_read request place (Stopped stops.Failed) reply h is = absurd is
    line_read request place (Stopped stops.Spent) reply h is = absurd is

    -- it was answered that the history is full
    filled : (sid : ℕ) (request : Request) (limit : ℕ) → treatment_of old.standing sid request ≡ Send → (h : IsHeardAs request (length old.seen) (Ok (replies.Denied (denials.Full limit))) before after)
        → Texts (with_limit limit (with_ask old)) after
    unfolding asks_one
    filled sid request limit sends h =
        let reply : Reply = replies.Denied (denials.Full limit) in
        record {
          more = request ∷ [];
          given = t.given ++ written request;
          cut = [];
          requests = one_asked request ∙ sym (append-nil (t.given ++ written request));
          gave = one_given h.heard request h.hears;
          read = t.read ++ h.hears.listens.bytes;
          ahead = after.reader.pending;
          replies = subst (λ (l : List (List ℕ)). AreLines l (t.read ++ h.hears.listens.bytes)) (sym (map-append reply_line (map reply_of (answered old.seen)) (reply ∷ [])))
              (line_read request (length old.seen) h.heard reply h.hears h.answers);
          took = line_taken h.heard request h.hears;
          room = room_now h.heard request h.hears;
          entries = t.entries;
          refused = refl;
          standing = record {
            one = asks_one (with_limit limit (with_ask old)) sid request [] (t.read ++ h.hears.listens.bytes) after.reader.pending refl sends;
            may = (answers_by request (length old.seen) h.heard reply h.answers).1.may;
            calm = record { whole = refl; unfailed = unfailed h.heard request (reply_calm request (length old.seen) h.heard reply h.answers) h.hears };
            ahead = refl;
            usual = now.usual;
          };
        }

    -- the entry of what was asked, and those that the server answered with it
    answered_now : (sid at : ℕ) (request : Request) (reply : Reply)
        → answered (old.seen ++ entry_at sid at request (is_kept reply) reply (length old.seen) ∷ [])
        ≡ answered old.seen ++ (if is_sent (treatment_of old.standing sid request) then entry_at sid at request (is_kept reply) reply (length old.seen) ∷ [] else [])
    answered_now sid at request reply =
        let entry : Entry = entry_at sid at request (is_kept reply) reply (length old.seen) in
        answered_push standings.New old.seen entry
        ∙ ap (λ (s : Standing). answered old.seen ++ sent_of s entry) (sym now.from)
        ∙ ap (λ (x : Treatment). answered old.seen ++ (if is_sent x then entry ∷ [] else [])) (same_treatment old.standing request (length old.seen) sid)

    stands_now : (sid at : ℕ) (request : Request) (reply : Reply)
        → standing_after old.standing request reply ≡ standing_from standings.New (old.seen ++ entry_at sid at request (is_kept reply) reply (length old.seen) ∷ [])
    stands_now sid at request reply =
        let entry : Entry = entry_at sid at request (is_kept reply) reply (length old.seen) in
        ap (λ (s : Standing). standing_after s request reply) now.from ∙ sym (standing_push standings.New old.seen entry)

    -- the entry is one that the port may have
    entry_now : (sid at : ℕ) (request : Request) (reply : Reply) → IsEntry old.standing (length old.seen) (entry_at sid at request (is_kept reply) reply (length old.seen))
        → AreEntries standings.New 0 (old.seen ++ entry_at sid at request (is_kept reply) reply (length old.seen) ∷ [])
    entry_now sid at request reply is =
        let entry : Entry = entry_at sid at request (is_kept reply) reply (length old.seen) in
        let first : 0 + length old.seen ≡ length old.seen = omega (arith) in
        entries_push standings.New 0 old.seen entry t.entries
        (subst (λ (n : ℕ). IsEntry (standing_from standings.New old.seen) n entry) (sym first) (subst (λ (s : Standing). IsEntry s (length old.seen) entry) now.from is))

    entered_as : (sid : ℕ) (request : Request) (treatment : Treatment) (reply : Reply) → treatment_of old.standing sid request ≡ treatment → IsEnteredAs treatment reply
        → IsEnteredAs (treatment_of old.standing (session_at request (length old.seen) sid) request) reply
    entered_as sid request treatment reply is enters =
        subst (λ (x : Treatment). IsEnteredAs x reply) (sym (same_treatment old.standing request (length old.seen) sid ∙ is)) enters

    sent_entry : (sid at : ℕ) (request : Request) (reply : Reply) (line : List ℕ) → treatment_of old.standing sid request ≡ Send → limit_told reply ≡ None → IsAsked request
        → IsAnswer request (length old.seen) line reply → IsEntry old.standing (length old.seen) (entry_at sid at request (is_kept reply) reply (length old.seen))
    sent_entry sid at request reply line sends none asked is = record {
      treated = entered_as sid request Send reply sends tt;
      may = is.may;
      enters = none;
      placed = is.says.placed;
      own = same_session request (length old.seen) sid;
      kept = refl;
      asked = asked;
      is_reply = is.says.is_reply;
    }

    refused_entry : (sid at : ℕ) (request : Request) → treatment_of old.standing sid request ≡ Refuse → IsAsked request
        → IsEntry old.standing (length old.seen) (entry_at sid at request true (replies.Denied denials.Closed) (length old.seen))
    refused_entry sid at request refuses asked = record {
      treated = entered_as sid request Refuse (replies.Denied denials.Closed) refuses refl;
      may = may_deny (has_line request) (is_open request && false) (has_line_refused old.standing sid request refuses);
      enters = refl;
      placed = tt;
      own = same_session request (length old.seen) sid;
      kept = refl;
      asked = asked;
      is_reply = tt;
    }

    -- it was answered
    replied : (sid at : ℕ) (request : Request) (reply : Reply) → treatment_of old.standing sid request ≡ Send → limit_told reply ≡ None → IsAsked request → IsHeardAs request (length old.seen) (Ok reply) before after
        → Texts (with_entry sid at request reply (with_ask old)) after
    replied sid at request reply sends none asked h =
        let entry : Entry = entry_at sid at request (is_kept reply) reply (length old.seen) in
        let all : answered (old.seen ++ entry ∷ []) ≡ answered old.seen ++ entry ∷ [] =
        answered_now sid at request reply ∙ ap (λ (x : Treatment). answered old.seen ++ (if is_sent x then entry ∷ [] else [])) sends in
        let next : Standing = standing_after old.standing request reply in
        let session_now = after_session old.standing request reply session in
        let texts : List Reply → Type 0 = λ (r : List Reply). AreLines (map reply_line r) (t.read ++ h.hears.listens.bytes) in
        let replies_now : map reply_of (answered (old.seen ++ entry ∷ [])) ++ full_reply next ≡ map reply_of (answered old.seen) ++ reply ∷ [] =
        ap (λ (r : List Reply). map reply_of (answered (old.seen ++ entry ∷ [])) ++ r) (not_full_reply next session_now)
        ∙ append-nil (map reply_of (answered (old.seen ++ entry ∷ [])))
        ∙ ap (map reply_of) all ∙ map-append reply_of (answered old.seen) (entry ∷ []) in
        let lines : texts (map reply_of (answered old.seen) ++ reply ∷ []) =
        subst (λ (l : List (List ℕ)). AreLines l (t.read ++ h.hears.listens.bytes)) (sym (map-append reply_line (map reply_of (answered old.seen)) (reply ∷ [])))
        (line_read request (length old.seen) h.heard reply h.hears h.answers) in
        let answer = answers_by request (length old.seen) h.heard reply h.answers in
        record {
          more = [];
          given = t.given ++ written request;
          cut = [];
          requests = ap (flat_map written) (append-nil (map request_of (answered (old.seen ++ entry ∷ []))) ∙ ap (map request_of) all ∙ map-append request_of (answered old.seen) (entry ∷ []))
              ∙ one_asked request ∙ sym (append-nil (t.given ++ written request));
          gave = one_given h.heard request h.hears;
          read = t.read ++ h.hears.listens.bytes;
          ahead = after.reader.pending;
          replies = subst texts (sym replies_now) lines;
          took = line_taken h.heard request h.hears;
          room = room_now h.heard request h.hears;
          entries = entry_now sid at request reply (sent_entry sid at request reply answer.0 sends none asked answer.1);
          refused = none_refused ∙ sym (ap is_some (no_limit next session_now));
          standing = stands next (exchanged (with_entry sid at request reply (with_ask old)) after origin [] [] (t.read ++ h.hears.listens.bytes) after.reader.pending) session_now (record {
            from = stands_now sid at request reply;
            none = refl;
            calm = record { whole = refl; unfailed = unfailed h.heard request (reply_calm request (length old.seen) h.heard reply h.answers) h.hears };
            ahead = refl;
            usual = now.usual;
          });
        }

    -- it was refused
    refused : (sid at : ℕ) (request : Request) → treatment_of old.standing sid request ≡ Refuse → IsAsked request → after ≡ before
        → Texts (with_entry sid at request (replies.Denied denials.Closed) (with_ask old)) after
    refused sid at request refuses asked same =
        let reply : Reply = replies.Denied denials.Closed in
        let entry : Entry = entry_at sid at request true reply (length old.seen) in
        let all : answered (old.seen ++ entry ∷ []) ≡ answered old.seen =
        answered_now sid at request reply ∙ ap (λ (x : Treatment). answered old.seen ++ (if is_sent x then entry ∷ [] else [])) refuses ∙ append-nil (answered old.seen) in
        let P : LinkView → Type 0 = λ (l : LinkView). Texts (with_entry sid at request reply (with_ask old)) l in
        let lines : List Entry → Type 0 = λ (e : List Entry). AreLines (map reply_line (map reply_of e ++ full_reply old.standing)) t.read in
        subst P (sym same) (record {
          more = t.more;
          given = t.given;
          cut = t.cut;
          requests = ap (λ (e : List Entry). flat_map written (map request_of e ++ t.more)) all ∙ t.requests;
          gave = t.gave;
          read = t.read;
          ahead = t.ahead;
          replies = subst lines (sym all) t.replies;
          took = t.took;
          room = t.room;
          entries = entry_now sid at request reply (refused_entry sid at request refuses asked);
          refused = t.refused;
          standing = stands old.standing (exchanged (with_entry sid at request reply (with_ask old)) before origin t.more t.cut t.read t.ahead) session (record {
            from = stands_now sid at request reply;
            none = now.none;
            calm = record { whole = now.calm.whole; unfailed = now.calm.unfailed };
            ahead = now.ahead;
            usual = now.usual;
          });
        })

    denied : (sid at : ℕ) (request : Request) (denial : Denial) → treatment_of old.standing sid request ≡ Send → IsAsked request → IsHeardAs request (length old.seen) (Ok (replies.Denied denial)) before after
        → Texts (with_reply (limit_in denial) sid at request (replies.Denied denial) (with_ask old)) after
    denied sid at request (denials.Full limit) sends asked h = filled sid request limit sends h
    denied sid at request denial sends asked h = replied sid at request (replies.Denied denial) sends refl asked h

    answered_by : (sid at : ℕ) (request : Request) (reply : Reply) → treatment_of old.standing sid request ≡ Send → IsAsked request → IsHeardAs request (length old.seen) (Ok reply) before after
        → Texts (with_reply (limit_told reply) sid at request reply (with_ask old)) after
    answered_by sid at request (replies.Denied denial) sends asked h = denied sid at request denial sends asked h
    answered_by sid at request reply sends asked h = replied sid at request reply sends refl asked h

    sent : (answer : Result Reply PortFault) (sid at : ℕ) (request : Request) → treatment_of old.standing sid request ≡ Send → IsAsked request → IsSent answer request (length old.seen) before after
        → Texts (talk_after answer sid at request (with_ask old)) after
    sent (Ok reply) sid at request sends asked h = answered_by sid at request reply sends asked h
    sent (Err faults.NoMemory) sid at request sends asked same = as_before same
    sent (Err faults.Link) sid at request sends asked (inl off) = cut_off sid request sends off
    sent (Err faults.Link) sid at request sends asked (inr h) = broken h.heard sid request sends h.hears h.answers
    sent (Err faults.Strange) sid at request sends asked h = strange_said h.heard sid request sends h.hears h.answers

    refused_so : (answer : Result Reply PortFault) (sid at : ℕ) (request : Request) → treatment_of old.standing sid request ≡ Refuse → IsAsked request → IsRefused answer → after ≡ before
        → Texts (talk_after answer sid at request (with_ask old)) after
    refused_so answer sid at request refuses asked (inl is) same =
        let P : Result Reply PortFault → Type 0 = λ (a : Result Reply PortFault). Texts (talk_after a sid at request (with_ask old)) after in
        subst P (sym is) (refused sid at request refuses asked same)
    refused_so answer sid at request refuses asked (inr is) same =
        let P : Result Reply PortFault → Type 0 = λ (a : Result Reply PortFault). Texts (talk_after a sid at request (with_ask old)) after in
        subst P (sym is) (as_before same)

  treated : (treatment : Treatment) (answer : Result Reply PortFault) (sid at : ℕ) (request : Request) → treatment_of old.standing sid request ≡ treatment → IsAsked request
      → IsTreated treatment answer request (length old.seen) before after → Texts (talk_after answer sid at request (with_ask old)) after
  treated Strange answer sid at request is asked h =
      let P : Result Reply PortFault → Type 0 = λ (a : Result Reply PortFault). Texts (talk_after a sid at request (with_ask old)) after in
      subst P (sym h.0) (strange_asked sid request is h.1)
  treated (Full limit) answer sid at request is asked h =
      let P : Result Reply PortFault → Type 0 = λ (a : Result Reply PortFault). Texts (talk_after a sid at request (with_ask old)) after in
      subst P (sym h.0) (full_asked limit (stands_full old.standing limit (full_stands old.standing sid limit request is)) h.1)
  treated Refuse answer sid at request is asked h = refused_so (in_session old.standing sid request (subst IsHeeded (sym is) tt)) answer sid at request is asked h.0 h.1
  treated Send answer sid at request is asked h = sent (in_session old.standing sid request (subst IsHeeded (sym is) tt)) answer sid at request is asked h

pub texts_after : (answer : Result Reply PortFault) (sid at : ℕ) (request : Request) (old new : TalkView) (before after : LinkView) (origin : RemoteOrigin)
    → Converses answer sid at request old new before after → RemoteTexts (made old before origin) → RemoteTexts (made new after origin)
texts_after answer sid at request old new before after origin h t =
    let P : TalkView → Type 0 = λ (x : TalkView). RemoteTexts (made x after origin) in
    subst P (sym h.talk) (treated old before after origin t (treatment_of old.standing sid request) answer sid at request refl h.asked h.treated)

-- before the first request
pub texts_first : (talk : TalkView) (link : LinkView) (origin : RemoteOrigin) → talk ≡ record { seen = []; standing = standings.New; refused = false; asks = 0; odd = 0 }
    → link.reader ≡ record { pending = []; room = 2 ^ 40 } → link.source ≡ origin.source → link.sink ≡ origin.sink → RemoteTexts (made talk link origin)
texts_first talk link origin new reader source sink =
    let first : TalkView = record { seen = []; standing = standings.New; refused = false; asks = 0; odd = 0 } in
    let P : TalkView → Type 0 = λ (x : TalkView). RemoteTexts (made x link origin) in
    let room : link.reader.room ≡ 2 ^ 40 = ap (λ (r : LineReaderView). r.room) reader in
    let texts : RemoteTexts (made first link origin) = record {
      more = [];
      given = [];
      cut = [];
      requests = refl;
      gave = ap (λ (s : SinkView). s.given) sink ∙ sym (grown-nil origin.sink.given);
      read = [];
      ahead = [];
      replies = refl;
      took = ap (λ (s : SourceView). s.taken) source ∙ sym (grown-nil origin.source.taken);
      room = omega (arith, room);
      entries = tt;
      refused = refl;
      standing = record {
        from = refl;
        none = refl;
        calm = record { whole = refl; unfailed = ap (λ (s : SourceView). failures s link.sink) source ∙ ap (failures origin.source) sink };
        ahead = sym (ap (λ (r : LineReaderView). r.pending) reader);
        usual = refl;
      };
    } in
    subst P (sym new) texts
