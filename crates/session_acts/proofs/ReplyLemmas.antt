-- What a reply of the server does to the client and to the link.
use Rattle.std.proofs.Common.{◌≡◌, ℕ, List, Option, Some, None, Result, Ok, Err}
use Rattle.fw_outside.specs.declared.heard.Stop.{Stop}
use Rattle.fw_outside.specs.declared.heard.Stop.TheVariants as stops
use Rattle.session_acts.specs.Acts.{Front, Unreplied}
use Rattle.session_acts.specs.Acts.Unreplied.{NotHeard, NotSaid}
use Rattle.session_acts.specs.Depositing.{Draws}
use Rattle.session_acts.specs.Laws.{got, reply_told}
use Rattle.session_acts.specs.Met.{ClientReplies, DrawsAnswer, DrawsReply, IsTold, stop_of}
use Rattle.session_acts.specs.Replying.{said_of}
use Rattle.session_acts.specs.ServersHeard.{reply_text}
use Rattle.session_acts.specs.World.{Speaker}
use Rattle.session_acts.specs.declared.replied.Replied.{Replied}
use Rattle.session_acts.specs.declared.replied.Replied.TheVariants.{Whole, Ended}
use Rattle.session_acts.specs.declared.reply_use.ReplyUse.{ReplyUse}

-- the client is told some text, or a front of it
pub reply_by : {how : ReplyUse} (P : Speaker → Type 0) (outcome : Result (Replied × List ℕ) (Unreplied how)) (old new : Speaker) → ((text : List ℕ) (tried : Result (Unit {0}) (Front text)) → IsTold text tried old new → P new) → ClientReplies outcome old new → P new
reply_by {how} P (Ok answer) old new each h = each (said_of how answer.1) (Ok tt) h
reply_by {how} P (Err (NotHeard silence text begun)) old new each h = each begun.part (Ok tt) h
reply_by {how} P (Err (NotSaid text front)) old new each h = each (said_of how text) (Err front) h

-- and by that what the outcome says
pub reply_as : {how : ReplyUse} (P : List ℕ → Type 0) (outcome : Result (Replied × List ℕ) (Unreplied how)) (old new : Speaker) → ((text : List ℕ) (tried : Result (Unit {0}) (Front text)) → IsTold text tried old new → P (got tried)) → ClientReplies outcome old new → P (reply_told outcome)
reply_as {how} P (Ok answer) old new each h = each (said_of how answer.1) (Ok tt) h
reply_as {how} P (Err (NotHeard silence text begun)) old new each h = each begun.part (Ok tt) h
reply_as {how} P (Err (NotSaid text front)) old new each h = each (said_of how text) (Err front) h

-- the text was heard of the link, to its end or to where the source stopped
pub record DrawnText (text : List ℕ) (old new : Speaker) : Type 0 where
  pub stop : Option Stop
  pub draws : Draws stop text old new

answer_draws : (is_replied : Replied) (text : List ℕ) (old new : Speaker) → DrawsAnswer is_replied text old new → DrawnText text old new
answer_draws (Whole code six) text old new h = record { stop = None; draws = h }
answer_draws Ended text old new h = record { stop = Some stops.End; draws = h }

pub reply_draws : {how : ReplyUse} (outcome : Result (Replied × List ℕ) (Unreplied how)) (old new : Speaker) → DrawsReply outcome old new → DrawnText (reply_text outcome) old new
reply_draws (Ok answer) old new h = answer_draws answer.0 answer.1 old new h
reply_draws (Err (NotHeard silence text begun)) old new h = record { stop = Some (stop_of silence); draws = h }
reply_draws (Err (NotSaid text front)) old new h = record { stop = None; draws = h }
