-- How the calculator's two lines are heard.
use Rattle.std.specs.Prelude.{◌≡◌, ℕ, ◌≤◌, ◌^◌, ◌⊎◌, List, length, Option, Some, None, Result, Ok, Err, if◌then◌else◌}
use Rattle.std.specs.Option.{ok_or}
use Rattle.fw_outside.specs.LineReaderView.{LineReaderView, Listens, TookBytes}
use Rattle.fw_outside.specs.SourceView.{SourceView, Broke, Idled}
use Rattle.fw_outside.specs.declared.heard.Heard.{Heard}
use Rattle.fw_outside.specs.declared.heard.Heard.TheVariants.{Line, TooLong, Stopped}
use Rattle.fw_outside.specs.declared.heard.Stop.{Stop}
use Rattle.fw_outside.specs.declared.heard.Stop.TheVariants as stops
use Rattle.otp_words.specs.Challenge.{challenge_of}
use Rattle.otp_words.specs.declared.task.TaskFault.{TaskFault}
use Rattle.otp_words.specs.declared.task.TaskFault.TheVariants.{Challenge, Failed}
use Rattle.otp_words.specs.Task.{is_phrase, password_asked}

-- the answer is that of the text that was left, where that is told
abbrev pub IsAnswerOf : Option (List ℕ) → Result ℕ TaskFault → Type 0
IsAnswerOf None answer = Unit {0}
IsAnswerOf (Some text) (Ok password) = password_asked text ≡ Some password
IsAnswerOf (Some text) (Err Challenge) = password_asked text ≡ None
IsAnswerOf (Some text) (Err Failed) = Unit {0}

-- a failure is one of the source, or nothing came in time; else nothing more happened
abbrev pub StopsWith : Result ℕ TaskFault → SourceView → SourceView → Type 0
StopsWith (Err Failed) middle new = Broke middle new ⊎ Idled middle new
StopsWith answer middle new = new ≡ middle

-- the lines were heard: of the bytes that were left the first were taken, at most 2^40
pub record HearsTask (answer : Result ℕ TaskFault) (old new : SourceView) : Type 0 where
  pub is : IsAnswerOf old.left answer
  pub bytes : List ℕ
  pub middle : SourceView
  pub took : TookBytes bytes old middle
  pub few : length bytes ≤ 2 ^ 40
  pub stops : StopsWith answer middle new

-- ---- line by line
-- No public clause cites these: they say what private functions answer.

abbrev pub stopped : Stop → TaskFault
stopped stops.End = Challenge
stopped stops.Spent = Challenge
stopped stops.Idle = Failed
stopped stops.Failed = Failed

-- what is heard as the challenge
abbrev pub challenge_said : Heard → Result (ℕ × List ℕ) TaskFault
challenge_said (Line line) = ok_or (challenge_of line.items) Challenge
challenge_said TooLong = Err Challenge
challenge_said (Stopped stop) = Err (stopped stop)

-- what is heard as the pass phrase
abbrev pub phrase_said : Heard → Result (List ℕ) TaskFault
phrase_said (Line line) = if is_phrase line.items then Ok line.items else Err Challenge
phrase_said TooLong = Err Challenge
phrase_said (Stopped stop) = Err (stopped stop)

-- a line was heard, or none, and that is said so
pub record HearsAs {A : Type 0} (said : Heard → Result A TaskFault) (answer : Result A TaskFault) (old new : LineReaderView) (before after : SourceView) : Type 0 where
  pub heard : Heard
  pub listens : Listens heard old new before after
  pub near : length new.pending ≤ 4096
  pub is : said heard ≡ answer
