-- A reply while it is taken.
-- No public clause cites these: they say what private functions answer.
use Rattle.std.specs.Prelude.{◌≡◌, ◌≢◌, ℕ, ◌==◌, ◌<◌, true, List, [], ◌∷◌, ◌++◌, length, Option, Some, None, Result, Ok, Err}
use Rattle.fw_outside.specs.SinkView.{Cut, SinkView}
use Rattle.fw_outside.specs.ToldList.{grown}
use Rattle.fw_outside.specs.declared.failed.Failed.{Failed}
use Rattle.fw_outside.specs.declared.heard.Stop.{Stop}
use Rattle.fw_outside.specs.declared.heard.Stop.TheVariants as stops
use Rattle.ftp_lines.specs.Reply.{first_reply}
use Rattle.ftp_lines.specs.declared.reply_step.ReplyStep.{ReplyStep}
use Rattle.ftp_lines.specs.declared.reply_step.ReplyStep.TheVariants.{Last, Line, More}
use Rattle.session_acts.specs.Acts.{Begun, Front, Unreplied, reply_cause, silence_cause}
use Rattle.session_acts.specs.Depositing.{Draws}
use Rattle.session_acts.specs.Met.{ClientReplies, DrawsAnswer, DrawsReply, IsOfText, IsTold, stop_of}
use Rattle.session_acts.specs.Replying.{IsAtMostOne, IsReplied, said_of}
use Rattle.session_acts.specs.World.{Speaker}
use Rattle.session_acts.specs.declared.cause.Cause.{Cause}
use Rattle.session_acts.specs.declared.cause.Cause.TheVariants.{ClientFault, ServerFault}
use Rattle.session_acts.specs.declared.replied.Replied.{Replied}
use Rattle.session_acts.specs.declared.replied.Replied.TheVariants as replied
use Rattle.session_acts.specs.declared.replying.Miss.{Miss}
use Rattle.session_acts.specs.declared.replying.Miss.TheVariants.{Silent, Unsaid}
use Rattle.session_acts.specs.declared.reply_use.ReplyUse.{ReplyUse}
use Rattle.session_acts.specs.declared.silence.Silence.{Silence}
use Rattle.session_acts.specs.declared.silence.Silence.TheVariants.{Quiet, Broken, Limit}

-- the code of the reply that a step ended
abbrev pub last_code : ReplyStep → Option ℕ
last_code (Last code) = Some code
last_code Line = None
last_code More = None

-- ---- what is kept to be said

-- of what was kept and a byte more something was said, and the rest is kept: nothing behind the end of a line
pub record Keeps (kept : List ℕ) (byte : ℕ) (now : List ℕ) (old new : SinkView) : Type 0 where
  pub said : List ℕ
  pub split : kept ++ byte ∷ [] ≡ said ++ now
  pub at_end : (byte == 10) ≡ true → now ≡ []
  pub is : new ≡ record old { given = grown old.given said }

abbrev pub KeepsByte : List ℕ → ℕ → Result (Unit {0}) Failed → List ℕ → SinkView → SinkView → Type 0
KeepsByte kept byte (Ok done) now old new = Keeps kept byte now old new
KeepsByte kept byte (Err failed) now old new = Cut (kept ++ byte ∷ []) old new

-- ---- the rest of a reply, of which these bytes had come

-- why nothing more is heard, where that isn't the end
abbrev pub miss_of : Stop → Result Replied Miss
miss_of stops.End = Ok replied.Ended
miss_of stops.Idle = Err (Silent Quiet)
miss_of stops.Failed = Err (Silent Broken)
miss_of stops.Spent = Err (Silent Limit)

pub record RestReplied (earlier : List ℕ) (is_replied : Replied) (link new_link : Speaker) : Type 0 where
  pub more : List ℕ
  pub is : IsReplied is_replied (earlier ++ more)
  pub draws : DrawsAnswer is_replied more link new_link

pub record RestSilent (earlier : List ℕ) (silence : Silence) (link new_link : Speaker) : Type 0 where
  pub more : List ℕ
  pub none : first_reply (earlier ++ more) ≡ None
  pub draws : Draws (Some (stop_of silence)) more link new_link

-- it was read
abbrev pub DropsRest : List ℕ → Result Replied Miss → Speaker → Speaker → Type 0
DropsRest earlier (Ok is_replied) link new_link = RestReplied earlier is_replied link new_link
DropsRest earlier (Err (Silent silence)) link new_link = RestSilent earlier silence link new_link
DropsRest earlier (Err Unsaid) link new_link = ⊥

-- it was passed, behind what had been kept
pub record RestPassed (earlier kept : List ℕ) (is_replied : Replied) (link new_link client new_client : Speaker) : Type 0 where
  pub rest : RestReplied earlier is_replied link new_link
  pub told : IsTold (kept ++ rest.more) (Ok tt) client new_client

pub record RestBegun (earlier kept : List ℕ) (silence : Silence) (link new_link client new_client : Speaker) : Type 0 where
  pub rest : RestSilent earlier silence link new_link
  pub begun : Begun (kept ++ rest.more)
  pub told : IsTold begun.part (Ok tt) client new_client

pub record RestUnsaid (earlier kept : List ℕ) (link new_link client new_client : Speaker) : Type 0 where
  pub more : List ℕ
  pub of_text : IsAtMostOne (earlier ++ more)
  pub draws : Draws None more link new_link
  pub front : Front (kept ++ more)
  pub told : IsTold (kept ++ more) (Err front) client new_client

abbrev pub PassesRest : List ℕ → List ℕ → Result Replied Miss → Speaker → Speaker → Speaker → Speaker → Type 0
PassesRest earlier kept (Ok is_replied) link new_link client new_client = RestPassed earlier kept is_replied link new_link client new_client
PassesRest earlier kept (Err (Silent silence)) link new_link client new_client = RestBegun earlier kept silence link new_link client new_client
PassesRest earlier kept (Err Unsaid) link new_link client new_client = RestUnsaid earlier kept link new_link client new_client

-- what is left of a reply at which the source stopped: the end tells what is kept, and else it stays unsaid
abbrev pub StopsPassing : Stop → List ℕ → Result Replied Miss → SinkView → SinkView → Type 0
StopsPassing stops.End kept (Ok is_replied) old new = (is_replied ≡ replied.Ended) × (new ≡ record old { given = grown old.given kept })
StopsPassing stops.End kept (Err (Silent silence)) old new = ⊥
StopsPassing stops.End kept (Err Unsaid) old new = (kept ≢ []) × Cut kept old new
StopsPassing stop kept result old new = (result ≡ miss_of stop) × (new ≡ old)

-- ---- a whole reply

-- a reply was heard, of which is said what is to be
pub record HeardSo (how : ReplyUse) (is_replied : Replied) (link new_link client new_client : Speaker) : Type 0 where
  pub text : List ℕ
  pub is : IsReplied is_replied text
  pub draws : DrawsAnswer is_replied text link new_link
  pub told : IsTold (said_of how text) (Ok tt) client new_client

pub record HeardPart (how : ReplyUse) (silence : Silence) (link new_link client new_client : Speaker) : Type 0 where
  pub text : List ℕ
  pub none : first_reply text ≡ None
  pub draws : Draws (Some (stop_of silence)) text link new_link
  pub begun : Begun (said_of how text)
  pub told : IsTold begun.part (Ok tt) client new_client

pub record HeardUnsaid (how : ReplyUse) (link new_link client new_client : Speaker) : Type 0 where
  pub text : List ℕ
  pub of_text : IsAtMostOne text
  pub draws : Draws None text link new_link
  pub front : Front (said_of how text)
  pub told : IsTold (said_of how text) (Err front) client new_client

abbrev pub HearsBy : ReplyUse → Result Replied Miss → Speaker → Speaker → Speaker → Speaker → Type 0
HearsBy how (Ok is_replied) link new_link client new_client = HeardSo how is_replied link new_link client new_client
HearsBy how (Err (Silent silence)) link new_link client new_client = HeardPart how silence link new_link client new_client
HearsBy how (Err Unsaid) link new_link client new_client = HeardUnsaid how link new_link client new_client

-- for which cause a session stops
abbrev pub miss_cause : Miss → Cause
miss_cause (Silent silence) = silence_cause ServerFault silence
miss_cause Unsaid = ClientFault

abbrev pub caused_by : Result Replied Miss → Result Replied Cause
caused_by (Ok is_replied) = Ok is_replied
caused_by (Err miss) = Err (miss_cause miss)

-- what a session sees of an outcome
abbrev pub reply_result : {how : ReplyUse} → Result (Replied × List ℕ) (Unreplied how) → Result Replied Cause
reply_result (Ok answer) = Ok answer.0
reply_result (Err halt) = Err (reply_cause halt)

-- a reply was heard and passed as it is to be
pub record HearsReply (how : ReplyUse) (result : Result Replied Cause) (link new_link client new_client : Speaker) : Type 0 where
  pub outcome : Result (Replied × List ℕ) (Unreplied how)
  pub is : result ≡ reply_result outcome
  pub of_text : IsOfText outcome
  pub draws : DrawsReply outcome link new_link
  pub told : ClientReplies outcome client new_client

pub record OverLink (how : ReplyUse) (result : Result Replied Cause) (link : Speaker) (new : Option Speaker) (client new_client : Speaker) : Type 0 where
  pub speaker : Speaker
  pub hears : HearsReply how result link speaker client new_client
  pub is : new ≡ Some speaker

-- where no link is up, that is the end
abbrev pub RepliesSo : ReplyUse → Result Replied Cause → Option Speaker → Option Speaker → Speaker → Speaker → Type 0
RepliesSo how result None new client new_client = (result ≡ Ok replied.Ended) × (new ≡ None) × (new_client ≡ client)
RepliesSo how result (Some link) new client new_client = OverLink how result link new client new_client
