-- Which lines of a server answer which requests.
use Rattle.std.specs.Prelude.{◌≡◌, ℕ, Bool, true, false, ◌&&◌, ◌||◌, not, IsTrue, List, Option, Some, None, Result, Ok, Err}
use Rattle.fw_outside.specs.declared.heard.Heard.{Heard}
use Rattle.fw_outside.specs.declared.heard.Heard.TheVariants.{Line, TooLong, Stopped}
use Rattle.fw_outside.specs.declared.heard.Stop.TheVariants.{End, Idle, Failed, Spent}
use Rattle.auth_events.specs.declared.denial.Denial.{Denial}
use Rattle.auth_events.specs.declared.denial.Denial.TheVariants as denials
use Rattle.auth_events.specs.declared.port.PortFault.{PortFault}
use Rattle.auth_events.specs.declared.port.PortFault.TheVariants as faults
use Rattle.auth_events.specs.declared.reply.Reply.{Reply}
use Rattle.auth_events.specs.declared.reply.Reply.TheVariants as replies
use Rattle.auth_events.specs.declared.request.Request.{Request}
use Rattle.authsrv_lines.specs.Reply.{IsReply, reply_line}
use Rattle.remote_port.specs.Requests.{has_line, is_authenticate, is_open}

-- how many entries fit, where a denial tells it
abbrev pub limit_in : Denial → Option ℕ
limit_in (denials.Full limit) = Some limit
limit_in _ = None

abbrev pub limit_told : Reply → Option ℕ
limit_told (replies.Denied denial) = limit_in denial
limit_told _ = None

abbrev pub is_full : Denial → Bool
is_full (denials.Full limit) = true
is_full _ = false

-- whether the change that was asked for, if any, was stored
abbrev pub is_kept : Reply → Bool
is_kept (replies.Denied denials.NotKept) = false
is_kept _ = true

-- An Open is answered that a session is open. A name is answered by what is asked of the user, and the rest of what has a line by
-- Ok. Each of these may be denied, and that no more entries fit is said of an Open too.
abbrev pub may_answer : Request → Reply → Bool
may_answer request (replies.Opened sid) = is_open request
may_answer request replies.Password = is_authenticate request
may_answer request (replies.Challenge number word_seed) = is_authenticate request
may_answer request replies.Ok = has_line request && not (is_authenticate request)
may_answer request (replies.Shown summary) = false
may_answer request (replies.Denied denial) = has_line request || (is_open request && is_full denial)

-- a session's number is the place of the entry that opens it
abbrev pub IsPlaced : Reply → ℕ → Type 0
IsPlaced (replies.Opened sid) place = sid ≡ place
IsPlaced _ place = Unit {0}

-- the line says this reply
pub record SaysReply (place : ℕ) (line : List ℕ) (reply : Reply) : Type 0 where
  pub text : reply_line reply ≡ line
  pub is_reply : IsReply reply
  pub placed : IsPlaced reply place

-- the line answers the request, whose entry has this place
pub record IsAnswer (request : Request) (place : ℕ) (line : List ℕ) (reply : Reply) : Type 0 where
  pub says : SaysReply place line reply
  pub may : IsTrue (may_answer request reply)

-- what a request is answered, by what was heard after it: the reply of a line; that something strange came, where the line answers
-- nothing, is too long or doesn't end; or that the link failed
abbrev pub IsAnswered : Request → ℕ → Heard → Result Reply PortFault → Type 0
IsAnswered request place (Line line) (Ok reply) = IsAnswer request place line.items reply
IsAnswered request place (Line line) (Err faults.Strange) = (reply : Reply) → ¬ (IsAnswer request place line.items reply)
IsAnswered request place TooLong (Err faults.Strange) = Unit {0}
IsAnswered request place (Stopped End) (Err faults.Strange) = Unit {0}
IsAnswered request place (Stopped Spent) (Err faults.Strange) = Unit {0}
IsAnswered request place (Stopped Idle) (Err faults.Link) = Unit {0}
IsAnswered request place (Stopped Failed) (Err faults.Link) = Unit {0}
IsAnswered request place heard answer = ⊥
