-- With which deed the dialogue ends. No place and no row is named here.
use Rattle.std.specs.Prelude.{◌≡◌, Bool, true, false, ◌&&◌, List, [], ◌∷◌, ◌++◌, Result, Ok, Err}
use Rattle.fw_outside.specs.declared.heard.Heard.{Heard}
use Rattle.fw_outside.specs.declared.heard.Heard.TheVariants.{Line, TooLong, Stopped}
use Rattle.session_acts.specs.Acts.{Act, Outcome}
use Rattle.session_acts.specs.Acts.Act.{Dial, Hear, Reach}
use Rattle.session_acts.specs.Deeds.{Deed, gives}
use Rattle.session_acts.specs.Hearing.{heard_by, heard_in}
use Rattle.session_acts.specs.Laws.{called}
use Rattle.session_acts.specs.RelayFronts.{before_relay}
use Rattle.tn_gate.specs.Command.{command_of}
use Rattle.tn_gate.specs.Due.{takes_commands}
use Rattle.tn_gate.specs.Gate.{Gate}
use Rattle.tn_gate.specs.declared.command.Command.{Command}
use Rattle.tn_gate.specs.declared.command.Command.TheVariants.{Quit}

abbrev pub is_quit_command : Command → Bool
is_quit_command Quit = true
is_quit_command command = false

-- the end of what the client says, or `quit` where commands are taken
abbrev pub is_last_heard : Bool → Heard → Bool
is_last_heard commands (Line line) = commands && is_quit_command (command_of line.items)
is_last_heard commands TooLong = false
is_last_heard commands (Stopped stop) = true

abbrev pub came_up : {Never : Type 0} → Result Bool Never → Bool
came_up (Ok up) = up
came_up (Err never) = false

abbrev pub was_reached : {Done Halted : Type 0} → Result Done Halted → Bool
was_reached (Ok done) = true
was_reached (Err halt) = false

-- Whether the dialogue ends with this deed, after these: by that the last line was heard, or the end, or by a link that came up.
abbrev pub ends_dialogue : Gate → List Deed → (act : Act) → Outcome act → Bool
ends_dialogue gate before (Hear form) outcome = is_last_heard (takes_commands gate before) (heard_by outcome)
ends_dialogue gate before (Dial dest) outcome = came_up outcome
ends_dialogue gate before (Reach dest) outcome = was_reached outcome
ends_dialogue gate before act outcome = false

-- Behind a deed with which the dialogue ends, no line is heard of the client, and no destination is asked for.
abbrev pub EndsThere : Gate → List Deed → Type 0
EndsThere gate deeds =
    (before after : List Deed) (deed : Deed) → deeds ≡ before ++ deed ∷ after → ends_dialogue gate before deed.act deed.outcome ≡ true → (gives heard_in (before_relay after) ≡ []) × (gives called after ≡ [])

-- the dialogue ends with one of these deeds
pub record HasEnd (gate : Gate) (talk : List Deed) : Type 0 where
  pub before : List Deed
  pub deed : Deed
  pub after : List Deed
  pub is : talk ≡ before ++ deed ∷ after
  pub ends : ends_dialogue gate before deed.act deed.outcome ≡ true
