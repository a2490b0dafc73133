-- A server at the other end of a link, as a port.
use Rattle.std.specs.Prelude.{◌≡◌, ◌⊎◌, ℕ, ◌<◌, ◌^◌, [], length, Result, Ok, Err}
use Rattle.fw_outside.specs.SinkView.{SinkView}
use Rattle.fw_outside.specs.SourceView.{SourceView}
use Rattle.fw_outside.specs.declared.heard.Heard.{Heard}
use Rattle.auth_events.specs.Port.{Port, places}
use Rattle.auth_events.specs.declared.denial.Denial.TheVariants as denials
use Rattle.auth_events.specs.declared.port.PortFault.{PortFault}
use Rattle.auth_events.specs.declared.port.PortFault.TheVariants as faults
use Rattle.auth_events.specs.declared.reply.Reply.{Reply}
use Rattle.auth_events.specs.declared.reply.Reply.TheVariants.{Denied}
use Rattle.auth_events.specs.declared.request.Request.{Request}
use Rattle.authsrv_lines.specs.RequestLine.{IsAsked}
use Rattle.remote_port.specs.Answers.{IsAnswered}
use Rattle.remote_port.specs.Link.{Hears, IsCutOff, LinkView, faults_of}
use Rattle.remote_port.specs.Requests.{written}
use Rattle.remote_port.specs.Talk.{TalkView, talk_after, with_ask}
use Rattle.remote_port.specs.Treatment.{limit_of, treatment_of}
use Rattle.remote_port.specs.declared.standing.Treatment.{Treatment}
use Rattle.remote_port.specs.declared.standing.Treatment.TheVariants.{Strange, Full, Refuse, Send}

-- the ends of the link, as they were when they were handed in
pub record RemoteOrigin : Type 0 where
  pub source : SourceView
  pub sink : SinkView

pub record RemoteView : Type 0 where
  pub talk : TalkView
  pub link : LinkView
  pub origin : RemoteOrigin

-- all entries are the port's own
abbrev pub remote_port : RemoteView → Port RemoteOrigin
remote_port p = record {
  seen = p.talk.seen;
  mine = places (length p.talk.seen);
  full = limit_of p.talk.standing;
  refused = p.talk.refused;
  asks = p.talk.asks;
  faults = faults_of p.link;
  odd = p.talk.odd;
  origin = p.origin;
  home = [];
}

-- ---- what a request is answered, and what that does to the link

-- the answer is what was heard after the request's line
pub record IsHeardAs (request : Request) (place : ℕ) (answer : Result Reply PortFault) (old new : LinkView) : Type 0 where
  pub heard : Heard
  pub hears : Hears heard (written request) old new
  pub answers : IsAnswered request place heard answer

-- it was asked of the server, unless there was no memory
abbrev pub IsSent : Result Reply PortFault → Request → ℕ → LinkView → LinkView → Type 0
IsSent (Err faults.NoMemory) request place old new = new ≡ old
IsSent (Err faults.Link) request place old new = IsCutOff (written request) old new ⊎ IsHeardAs request place (Err faults.Link) old new
IsSent answer request place old new = IsHeardAs request place answer old new

-- it was refused without asking the server, unless there was no memory
abbrev pub IsRefused : Result Reply PortFault → Type 0
IsRefused answer = (answer ≡ Ok (Denied denials.Closed)) ⊎ (answer ≡ Err faults.NoMemory)

abbrev pub IsTreated : Treatment → Result Reply PortFault → Request → ℕ → LinkView → LinkView → Type 0
IsTreated Strange answer request place old new = (answer ≡ Err faults.Strange) × (new ≡ old)
IsTreated (Full limit) answer request place old new = (answer ≡ Ok (Denied (denials.Full limit))) × (new ≡ old)
IsTreated Refuse answer request place old new = IsRefused answer × (new ≡ old)
IsTreated Send answer request place old new = IsSent answer request place old new

-- what a request is answered and leaves
pub record AsksRemote (answer : Result Reply PortFault) (sid at : ℕ) (request : Request) (old new : RemoteView) : Type 0 where
  pub treated : IsTreated (treatment_of old.talk.standing sid request) answer request (length old.talk.seen) old.link new.link
  pub talk : new.talk ≡ talk_after answer sid at request (with_ask old.talk)
  pub origin : new.origin ≡ old.origin

-- the same of the talk and the link, whose counts are of 64 bits, for a request of the type
pub record Converses (answer : Result Reply PortFault) (sid at : ℕ) (request : Request) (old new : TalkView) (before after : LinkView) : Type 0 where
  pub treated : IsTreated (treatment_of old.standing sid request) answer request (length old.seen) before after
  pub talk : new ≡ talk_after answer sid at request (with_ask old)
  pub asks : old.asks < 2 ^ 64
  pub odd : old.odd < 2 ^ 64
  pub asked : IsAsked request
