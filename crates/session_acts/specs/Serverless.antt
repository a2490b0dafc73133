-- What rows keep that speak with no server, and how their sessions end.
use Rattle.std.specs.Prelude.{◌≡◌, ◌==◌, Bool, true, false, length}
use Rattle.fw_acts.specs.Acts.{Row, PlaceTable}
use Rattle.fw_acts.specs.Histories.{Keeps, Leaves, Watch}
use Rattle.fw_outside.specs.Counts.{Rose}
use Rattle.fw_types.specs.declared.ending.Ending.{Ending}
use Rattle.fw_types.specs.declared.ending.Ending.TheVariants.{ServerFault, Idle, NoRoute, Spent}
use Rattle.session_acts.specs.Acts.{Act}
use Rattle.session_acts.specs.Acts.Act.{Dial, Reach, Take, Pass, HangUp, Relay, TakeReply, OpenDoor, Join, Copy, Part}
use Rattle.session_acts.specs.Causes.{Caused, TookAtMost, TookMost, is_spent_ending}
use Rattle.session_acts.specs.Met.{acts}
use Rattle.session_acts.specs.World.{Devices, most_taken}

-- an act that asks for no link, and that neither uses one nor hangs one up
abbrev pub is_serverless : Act → Bool
is_serverless (Dial dest) = false
is_serverless (Reach dest) = false
is_serverless Take = false
is_serverless (Pass text) = false
is_serverless HangUp = false
is_serverless Relay = false
is_serverless (TakeReply how) = false
is_serverless OpenDoor = false
is_serverless (Join dest target) = false
is_serverless (Copy toward) = false
is_serverless Part = false
is_serverless act = true

-- only such acts may come
abbrev pub serverless_watch : (Origin P : Type 0) → Watch (acts Origin) P
serverless_watch Origin P = record {
  Noted = Unit {0};
  note = λ noted act answer. tt;
  may = λ noted act. is_serverless act ≡ true;
  holds = λ noted place. Unit {0};
  over = λ noted. Unit {0};
}

-- from the first row on, and from each place
pub record KeepsServerless {Origin P : Type 0} (rows : PlaceTable (acts Origin) P) (first : Row (acts Origin) P) : Type 0 where
  pub begins : Leaves (serverless_watch Origin P) first tt
  pub goes_on : Keeps rows (serverless_watch Origin P)

-- such a session doesn't end by a server; it is idle since the client was, and spent since of the client all was taken
abbrev pub CausedAlone : {Origin : Type 0} → Ending → Devices Origin → Devices Origin → Type 0
CausedAlone ServerFault old new = ⊥
CausedAlone NoRoute old new = ⊥
CausedAlone Idle old new = Rose old.inlet.idles new.inlet.idles
CausedAlone Spent old new = TookMost old.inlet new.inlet
CausedAlone ending old new = Caused ending old new

-- `most_taken` bytes were taken of the client exactly where the ending is `Spent`, and else fewer
pub record TakesExactly {Origin : Type 0} (ending : Ending) (old new : Devices Origin) : Type 0 where
  pub took : TookAtMost old.inlet new.inlet
  pub all : is_spent_ending ending ≡ (length took.bytes == most_taken)
