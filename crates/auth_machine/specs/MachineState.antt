-- What the code has at hand, as a state.
-- No public clause cites this: it says what private functions know.
use Rattle.std.specs.Prelude.{ℕ, ◌<◌, List, Option, Some, None, if◌then◌else◌}
use Rattle.std.specs.Str.{bytes_eq}
use Rattle.std.specs.Vec.{vec_capacity, vec_len}
use Rattle.auth_machine.specs.State.{State}
use Rattle.auth_machine.specs.declared.machine_state.MachineState.{MachineState}

abbrev pub state_of : MachineState → State
state_of s = record { records = s.records.items; sessions = s.sessions.items; challenges = s.challenges.items; moment = s.moment }

-- what was found, where it has this name
abbrev pub if_named : {X : Type 0} → (X → List ℕ) → List ℕ → Option X → Option X
if_named key name None = None
if_named key name (Some x) = if bytes_eq (key x) name then Some x else None

-- one more of each fits
pub record HasRoom (s : MachineState) : Type 0 where
  pub records : vec_len s.records < vec_capacity s.records
  pub sessions : vec_len s.sessions < vec_capacity s.sessions
  pub challenges : vec_len s.challenges < vec_capacity s.challenges
