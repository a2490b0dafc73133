-- How the close that is owed is told.
-- No public clause cites these: they say what private functions answer.
use Rattle.std.specs.Prelude.{◌≡◌, ℕ, Option, Result, Ok, Err}
use Rattle.auth_events.specs.declared.port.PortFault.{PortFault}
use Rattle.auth_events.specs.declared.reply.Reply.{Reply}
use Rattle.fw_types.specs.declared.ending.Ending.{Ending}
use Rattle.fw_types.specs.declared.ending.Ending.TheVariants.{Done}
use Rattle.session_acts.specs.Deeds.{DeedsAll}
use Rattle.session_acts.specs.Session.{closing, ending_by, ending_closed}
use Rattle.session_acts.specs.World.{World}
use Rattle.session_acts.specs.declared.cause.Cause.{Cause}

-- a session ends by the first of these that stopped: the dialogue, and the close
abbrev pub ending_told : Result (Unit {0}) Cause → Result (Unit {0}) Cause → Ending
ending_told (Ok done) (Ok closed) = Done
ending_told (Ok done) (Err cause) = ending_by cause
ending_told (Err cause) closed = ending_by cause

-- Close was asked where that was owed, and its answer is told
pub record Closing {Origin : Type 0} (closed : Result (Unit {0}) Cause) (opened : Option ℕ) (old new : World Origin) : Type 0 where
  pub answer : Result Reply PortFault
  pub after : DeedsAll (closing opened answer) old new
  pub tells : ending_told (Ok tt) closed ≡ ending_closed opened answer
