-- In which forms a speaker is heard: only what a text is heard as depends on the form.
use Rattle.std.specs.Prelude.{◌≡◌, ℕ, ◌==◌, ◌<◌, ◌≤◌, true, List, length}
use Rattle.fw_outside.specs.LineReaderView.{LeavesSource, LineReaderView, Reads, rest_of, stops_at_limit}
use Rattle.fw_outside.specs.Lines.{IsHeard}
use Rattle.fw_outside.specs.SourceView.{SourceView}
use Rattle.fw_outside.specs.ToldList.{preceded}
use Rattle.fw_outside.specs.declared.heard.Heard.{Heard}
use Rattle.session_acts.specs.declared.form.Form.{Form}
use Rattle.session_acts.specs.declared.form.Form.TheVariants.{Lines, Telnet}
use Rattle.telnet_hearing.specs.Hearing.{IsHeardTelnet}

-- what a text is heard as, in each form
abbrev pub IsHeardIn : Form → Heard → List ℕ → Type 0
IsHeardIn Lines heard text = IsHeard heard text
IsHeardIn Telnet heard text = IsHeardTelnet heard text

-- What is heard next in a form: these bytes, of what was left, are heard as that. At the limit the reader stops, having
-- read all that was in the buffer before; from then on nothing is heard.
pub record ListensIn (form : Form) (heard : Heard) (old new : LineReaderView) (before after : SourceView) : Type 0 where
  pub bytes : List ℕ
  pub middle : SourceView
  pub is_heard : IsHeardIn form heard bytes
  pub rest : rest_of old before ≡ preceded bytes (rest_of new after)
  pub reads : Reads bytes old new before middle
  pub closes : LeavesSource heard new middle after
  pub spent : stops_at_limit heard ≡ (new.room == 0)
  pub behind : stops_at_limit heard ≡ true → 0 < old.room → length old.pending ≤ length bytes
