-- What was given to a server and taken from it, by the entries that a port has, and why a port asks no more.
use Rattle.std.specs.Prelude.{◌≡◌, ◌⊎◌, ℕ, ◌+◌, ◌<◌, ◌^◌, IsTrue, List, [], ◌∷◌, ◌++◌, length, map, flat_map, Some, None, is_some}
use Rattle.fw_outside.specs.Counts.{Rose}
use Rattle.fw_outside.specs.Lines.{first_line}
use Rattle.fw_outside.specs.ToldList.{IsOver, grown}
use Rattle.auth_events.specs.declared.denial.Denial.TheVariants as denials
use Rattle.auth_events.specs.declared.entry.Entry.{Entry}
use Rattle.auth_events.specs.declared.reply.Reply.{Reply}
use Rattle.auth_events.specs.declared.reply.Reply.TheVariants.{Denied}
use Rattle.auth_events.specs.declared.request.Request.{Request}
use Rattle.authsrv_lines.specs.Reply.{reply_line}
use Rattle.remote_port.specs.Answers.{IsAnswer, may_answer}
use Rattle.remote_port.specs.Entries.{AreEntries, answered, standing_of}
use Rattle.remote_port.specs.Link.{LinkView, failures, faults_of}
use Rattle.remote_port.specs.Remote.{RemoteOrigin, RemoteView}
use Rattle.remote_port.specs.Requests.{written}
use Rattle.remote_port.specs.Treatment.{limit_of, treatment_of}
use Rattle.remote_port.specs.declared.standing.Standing.{Standing}
use Rattle.remote_port.specs.declared.standing.Standing.TheVariants as standings
use Rattle.remote_port.specs.declared.standing.Treatment.TheVariants.{Strange, Send}

-- a text is these lines with their ends
abbrev pub AreLines : List (List ℕ) → List ℕ → Type 0
AreLines [] text = text ≡ []
AreLines (line ∷ lines) text = (rest : List ℕ) × (first_line text ≡ Some (line, rest)) × AreLines lines rest

-- the reply that no more entries fit, which is none
abbrev pub full_reply : Standing → List Reply
full_reply (standings.Full limit) = Denied (denials.Full limit) ∷ []
full_reply _ = []

-- ---- how the port stands

-- The entries; how often something strange came; both ends, at first and now; the requests that were asked besides those that the
-- server answered, and what wasn't given of them; the lines that were read, and what was taken after them.
pub record Exchange : Type 0 where
  pub seen : List Entry
  pub odd : ℕ
  pub origin : RemoteOrigin
  pub link : LinkView
  pub more : List Request
  pub cut : List ℕ
  pub read : List ℕ
  pub ahead : List ℕ

-- nothing failed, and what was asked was given whole
pub record IsCalm (x : Exchange) : Type 0 where
  pub whole : x.cut ≡ []
  pub unfailed : faults_of x.link ≡ failures x.origin.source x.origin.sink

-- what was taken and not read is in the buffer
abbrev pub IsAhead : Exchange → Type 0
IsAhead x = x.ahead ≡ x.link.reader.pending

-- one request was asked besides, which is asked of a server after these entries
pub record AsksOne (x : Exchange) : Type 0 where
  pub sid : ℕ
  pub request : Request
  pub is : x.more ≡ request ∷ []
  pub sends : treatment_of (standing_of x.seen) sid request ≡ Send

-- the port goes on: each request that was asked has its entry, by which the port stands so
pub record GoesOn (standing : Standing) (x : Exchange) : Type 0 where
  pub from : standing ≡ standing_of x.seen
  pub none : x.more ≡ []
  pub calm : IsCalm x
  pub ahead : IsAhead x
  pub usual : x.odd ≡ 0

-- one request more was answered that the history is full
pub record EndsFull (limit : ℕ) (x : Exchange) : Type 0 where
  pub one : AsksOne x
  pub may : IsTrue (may_answer one.request (Denied (denials.Full limit)))
  pub calm : IsCalm x
  pub ahead : IsAhead x
  pub usual : x.odd ≡ 0

-- the link failed at one request more, as its ends counted; its line may be cut off
pub record FailsAt (x : Exchange) : Type 0 where
  pub one : AsksOne x
  pub failed : Rose (failures x.origin.source x.origin.sink) (faults_of x.link)

-- something strange was asked, of which the server hears nothing
pub record StrangeAsked (x : Exchange) : Type 0 where
  pub sid : ℕ
  pub request : Request
  pub strange : treatment_of (standing_of x.seen) sid request ≡ Strange
  pub none : x.more ≡ []
  pub calm : IsCalm x
  pub ahead : IsAhead x
  pub odd : 0 < x.odd

-- The next line of all that was taken is no answer to a request with this place, or is too long; or no line's end was taken, and the
-- source is at its end; or as many bytes were taken as may be.
pub data ShowsOdd (request : Request) (place : ℕ) (link : LinkView) (read ahead : List ℕ) : Type 0 where
  ByLine : (line rest : List ℕ) (next : first_line ahead ≡ Some (line, rest)) (none : (reply : Reply) → ¬ (IsAnswer request place line reply)) → ShowsOdd request place link read ahead
  ByLength : (line rest : List ℕ) (next : first_line ahead ≡ Some (line, rest)) (long : 512 < length line) → ShowsOdd request place link read ahead
  ByEnd : (none : first_line ahead ≡ None) (over : IsOver link.source.left) → ShowsOdd request place link read ahead
  ByLimit : (all : length (read ++ ahead) ≡ 2 ^ 40) → ShowsOdd request place link read ahead

-- something strange came after one request more
pub record StrangeSaid (x : Exchange) : Type 0 where
  pub one : AsksOne x
  pub calm : IsCalm x
  pub shows : ShowsOdd one.request (length x.seen) x.link x.read x.ahead
  pub odd : 0 < x.odd

abbrev pub IsStanding : Standing → Exchange → Type 0
IsStanding standings.Lost x = FailsAt x ⊎ StrangeAsked x ⊎ StrangeSaid x
IsStanding (standings.Full limit) x = EndsFull limit x
IsStanding standing x = GoesOn standing x

-- ---- all of it

-- What was given are the lines of the requests that the server answered, in order, and of one that has no entry, if any. What was
-- taken begins with the lines of their replies, in order. The entries are such as a port may have. A request was refused since no
-- more entries fit exactly where the port stands so.
pub record RemoteTexts (p : RemoteView) : Type 0 where
  pub more : List Request
  pub given : List ℕ
  pub cut : List ℕ
  pub requests : flat_map written (map (λ (e : Entry). e.request) (answered p.talk.seen) ++ more) ≡ given ++ cut
  pub gave : p.link.sink.given ≡ grown p.origin.sink.given given
  pub read : List ℕ
  pub ahead : List ℕ
  pub replies : AreLines (map reply_line (map (λ (e : Entry). e.reply) (answered p.talk.seen) ++ full_reply p.talk.standing)) read
  pub took : p.link.source.taken ≡ grown p.origin.source.taken (read ++ ahead)
  pub room : p.link.reader.room + length (read ++ ahead) ≡ 2 ^ 40
  pub entries : AreEntries standings.New 0 p.talk.seen
  pub refused : p.talk.refused ≡ is_some (limit_of p.talk.standing)
  pub standing : IsStanding p.talk.standing (record { seen = p.talk.seen; odd = p.talk.odd; origin = p.origin; link = p.link; more = more; cut = cut; read = read; ahead = ahead })
