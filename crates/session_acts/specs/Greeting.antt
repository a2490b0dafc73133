-- A greeting while it is taken.
-- No public clause cites these: they say what private functions answer.
use Rattle.std.specs.Prelude.{◌≡◌, ℕ, Bool, true, false, List, [], ◌∷◌, ◌++◌, take, Option, Some, None, Result, Ok, Err}
use Rattle.ftp_lines.specs.Reply.{ending_code, first_code}
use Rattle.ftp_lines.specs.declared.reply_step.ReplyStep.{ReplyStep}
use Rattle.ftp_lines.specs.declared.reply_step.ReplyStep.TheVariants.{Last, Line, More}
use Rattle.fw_outside.specs.SinkView.{Cut, SinkView}
use Rattle.fw_outside.specs.ToldList.{grown}
use Rattle.session_acts.specs.Replying.{or_code, six_in, unless_welcome}
use Rattle.session_acts.specs.ReplyRest.{DropsRest, PassesRest}
use Rattle.session_acts.specs.World.{Speaker}
use Rattle.session_acts.specs.declared.replied.Replied.{Replied}
use Rattle.session_acts.specs.declared.replied.Replied.TheVariants.{Whole}
use Rattle.session_acts.specs.declared.replying.Miss.{Miss}
use Rattle.session_acts.specs.declared.replying.Miss.TheVariants.{Silent, Unsaid}

-- the code that a greeting tells, of whose line these first bytes have come
abbrev pub code_told : List ℕ → List ℕ → Option ℕ
code_told fed head = or_code (first_code fed) (ending_code head)

-- the first bytes of a line, of which at most five are kept
abbrev pub head_after : List ℕ → ℕ → List ℕ
head_after head byte = take 5 (head ++ byte ∷ [])

-- the code that is told where no line ended
abbrev pub told_by : ReplyStep → List ℕ → List ℕ → Option ℕ
told_by More fed head = code_told fed head
told_by Line fed head = None
told_by (Last code) fed head = None

-- behind the end of a line nothing is kept
abbrev pub head_behind : ReplyStep → List ℕ → List ℕ
head_behind More head = head
head_behind Line head = []
head_behind (Last code) head = head

-- the rest of a greeting: of a welcome the client is given nothing
pub record DropsSo (earlier : List ℕ) (result : Result Replied Miss) (link new_link client new_client : Speaker) : Type 0 where
  pub rest : DropsRest earlier result link new_link
  pub same : new_client ≡ client

abbrev pub PassesBy : Bool → List ℕ → List ℕ → Result Replied Miss → Speaker → Speaker → Speaker → Speaker → Type 0
PassesBy true earlier head result link new_link client new_client = DropsSo earlier result link new_link client new_client
PassesBy false earlier head result link new_link client new_client = PassesRest earlier head result link new_link client new_client

-- the line that ends a greeting was given, or a front of it
abbrev pub GivesHead : ℕ → Option (List ℕ) → List ℕ → Result Replied Miss → SinkView → SinkView → Type 0
GivesHead code heard head (Ok is_replied) old new = (is_replied ≡ Whole code (six_in heard)) × (new ≡ record old { given = grown old.given (unless_welcome code head) })
GivesHead code heard head (Err (Silent silence)) old new = ⊥
GivesHead code heard head (Err Unsaid) old new = Cut (unless_welcome code head) old new
