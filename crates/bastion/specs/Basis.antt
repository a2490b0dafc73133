-- What a run goes by, and what its session or its round did: plain data, the same for all that is said of the run.
use Rattle.std.specs.Prelude.{List, []}
use Rattle.fw_types.specs.declared.ending.Ending.{Ending}
use Rattle.fw_types.specs.declared.ending.Ending.TheVariants.{Done}
use Rattle.session_acts.specs.Deeds.{Deed}
use Rattle.smapd_queue.specs.Turns.{Turn}
use Rattle.bastion.specs.Inputs.{Inputs, Reading}
use Rattle.bastion.specs.WorldView.{WorldView}
use Rattle.bastion.specs.declared.outcome.Refusal.{Refusal}

-- Nothing, where what is needed couldn't be had; a reading of the table and the records which refuses; or a reading with the
-- inputs that it makes, and the devices as they were once that was read.
pub data Basis : Type 0 where
  Nothing : Basis
  Refused : (reading : Reading) → (refusal : Refusal) → Basis
  Given : (reading : Reading) → (inputs : Inputs) → (ready : WorldView) → Basis

-- All that a session did, in order, and how it ended; of a round of `smapd`, the turns whose lines were given to the log whole.
pub record Course : Type 0 where
  pub deeds : List Deed
  pub ending : Ending
  pub turns : List Turn

-- that of a run without one
abbrev pub no_course : Course
no_course = record { deeds = []; ending = Done; turns = [] }

abbrev pub of_session : List Deed → Ending → Course
of_session deeds ending = record { deeds = deeds; ending = ending; turns = [] }

abbrev pub of_round : List Turn → Course
of_round turns = record { deeds = []; ending = Done; turns = turns }
