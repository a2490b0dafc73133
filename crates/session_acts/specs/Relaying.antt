-- What a relay carries, and for which cause a session stops at it.
use Rattle.std.specs.Prelude.{◌≡◌, ℕ, List, [], Option, Some, None, Result, Ok, Err}
use Rattle.fw_types.specs.declared.ending.Ending.{Ending}
use Rattle.fw_types.specs.declared.ending.Ending.TheVariants as endings
use Rattle.relay_ways.specs.Carried.{Way}
use Rattle.relay_ways.specs.Ending.{ending_of}
use Rattle.relay_ways.specs.declared.way_end.WayEnd.TheVariants as ways
use Rattle.session_acts.specs.declared.cause.Cause.{Cause}
use Rattle.session_acts.specs.declared.cause.Cause.TheVariants.{ClientFault, ServerFault, LogFault, AuthFault, Idle, NoRoute, Spent, NoMemory}

-- what went each way: from the client to the server, and back
pub record Flow : Type 0 where
  pub up : Way
  pub down : Way

-- for which cause a session stops that ends so, if it does
abbrev pub stops_by : Ending → Result (Unit {0}) Cause
stops_by endings.Done = Ok tt
stops_by (endings.Denied line) = Ok tt
stops_by endings.ClientFault = Err ClientFault
stops_by endings.ServerFault = Err ServerFault
stops_by endings.LogFault = Err LogFault
stops_by endings.AuthFault = Err AuthFault
stops_by endings.Idle = Err Idle
stops_by endings.NoRoute = Err NoRoute
stops_by endings.Spent = Err Spent
stops_by endings.NoMemory = Err NoMemory

-- both ways are done
pub record Through : Type 0 where
  pub flow : Flow
  pub up : flow.up.end ≡ ways.Done
  pub down : flow.down.end ≡ ways.Done

-- the ways ended otherwise, and the session stops for the cause of their ends
pub record Stuck : Type 0 where
  pub flow : Flow
  pub cause : Cause
  pub is : stops_by (ending_of flow.up.end flow.down.end) ≡ Err cause

-- what a relay carried; where no link was up there was none
abbrev pub flow_of : Result (Option Through) Stuck → Option Flow
flow_of (Ok None) = None
flow_of (Ok (Some through)) = Some through.flow
flow_of (Err stuck) = Some stuck.flow

-- what was given to the client, and to the server
abbrev pub given_down : Option Flow → List ℕ
given_down None = []
given_down (Some flow) = flow.down.given

abbrev pub given_up : Option Flow → List ℕ
given_up None = []
given_up (Some flow) = flow.up.given
