-- Which lines of its client's text a session hears that hears Telnet.
use Rattle.std.specs.Prelude.{◌≡◌, ℕ, Bool, true, false, List, [], ◌∷◌, ◌++◌, length, Option, Some, None}
use Rattle.fw_outside.specs.Counts.{Grew}
use Rattle.fw_outside.specs.ToldList.{grown}
use Rattle.fw_outside.specs.declared.heard.Heard.{Heard}
use Rattle.fw_outside.specs.declared.heard.Heard.TheVariants.{Line, TooLong, Stopped}
use Rattle.fw_outside.specs.declared.heard.Stop.{Stop}
use Rattle.fw_outside.specs.declared.heard.Stop.TheVariants as stops
use Rattle.session_acts.specs.Hearing.{Fate}
use Rattle.session_acts.specs.Hearing.Fate.{IsHeard, IsCarried}
use Rattle.session_acts.specs.World.{Speaker}
use Rattle.session_acts.specs.declared.form.Form.{Form}
use Rattle.session_acts.specs.declared.form.Form.TheVariants.{Lines, Telnet}
use Rattle.telnet.specs.Lines.{lines_heard}

-- a line of Telnet that was heard, and then these
abbrev pub said_by : Form → Heard → List (Option (List ℕ)) → List (Option (List ℕ))
said_by Telnet (Line line) more = Some line.items ∷ more
said_by Telnet TooLong more = None ∷ more
said_by form heard more = []

-- the lines of Telnet that were heard, before anything else was heard or relayed: each as it was, or that one was too long
abbrev pub lines_said : List Fate → List (Option (List ℕ))
lines_said [] = []
lines_said (IsHeard form heard ∷ fates) = said_by form heard (lines_said fates)
lines_said (IsCarried bytes ∷ fates) = []

abbrev pub is_end_last : Stop → List Fate → Bool
is_end_last stops.End [] = true
is_end_last stop fates = false

abbrev pub is_ended_by : Form → Heard → List Fate → Bool → Bool
is_ended_by Telnet (Line line) fates more = more
is_ended_by Telnet TooLong fates more = more
is_ended_by Telnet (Stopped stop) fates more = is_end_last stop fates
is_ended_by Lines heard fates more = false

-- whether lines of Telnet were heard and then the end, and nothing else
abbrev pub is_ended : List Fate → Bool
is_ended [] = false
is_ended (IsHeard form heard ∷ fates) = is_ended_by form heard fates (is_ended fates)
is_ended (IsCarried bytes ∷ fates) = false

-- These bytes were taken of a client. The lines that were heard are the first lines of this text, in order; and they are all
-- of its lines, if then the end was heard.
pub record SaysLines (fates : List Fate) (old new : Speaker) : Type 0 where
  pub bytes : List ℕ
  pub grew : Grew (length bytes) old.inlet.amount new.inlet.amount
  pub took : new.inlet.taken ≡ grown old.inlet.taken bytes
  pub behind : List (Option (List ℕ))
  pub lines : lines_heard bytes ≡ lines_said fates ++ behind
  pub whole : is_ended fates ≡ true → behind ≡ []
