-- A session of the plug wants no memory: it ends by its log, by the dialer, or as its ways do.
use Rattle.std.proofs.Common.{◌≡◌, ◌≢◌, ◌∙◌, sym, ℕ, List, inl, inr}
use Rattle.fw_types.specs.declared.dest.Dest.{Dest}
use Rattle.fw_types.specs.declared.ending.Ending.{Ending}
use Rattle.fw_types.specs.declared.ending.Ending.TheVariants as endings
use Rattle.plug_gate.specs.Dialogue.{plug_row}
use Rattle.plug_gate.specs.Laws.{Ends}
use Rattle.plug_gate.proofs.EndLemmas.{plug_ends}
use Rattle.relay_ways.specs.Ending as ways
use Rattle.relay_ways.specs.declared.way_end.WayEnd.{WayEnd}
use Rattle.relay_ways.specs.declared.way_end.WayEnd.TheVariants as way
use Rattle.session_acts.specs.Denying.{no_rows}
use Rattle.session_acts.specs.Relayed.{relayed}
use Rattle.session_acts.specs.Session.{RelaySession}
use Rattle.session_acts.specs.World.{Devices}

ways_remember : (up down : WayEnd) → ways.ending_of up down ≢ endings.NoMemory
ways_remember way.ReadFault down is = absurd (cc)
ways_remember way.Done way.WriteFault is = absurd (cc)
ways_remember way.WriteFault way.WriteFault is = absurd (cc)
ways_remember way.Idle way.WriteFault is = absurd (cc)
ways_remember way.Spent way.WriteFault is = absurd (cc)
ways_remember way.WriteFault way.Done is = absurd (cc)
ways_remember way.WriteFault way.ReadFault is = absurd (cc)
ways_remember way.WriteFault way.Idle is = absurd (cc)
ways_remember way.WriteFault way.Spent is = absurd (cc)
ways_remember way.Done way.ReadFault is = absurd (cc)
ways_remember way.Idle way.ReadFault is = absurd (cc)
ways_remember way.Spent way.ReadFault is = absurd (cc)
ways_remember way.Idle way.Done is = absurd (cc)
ways_remember way.Idle way.Idle is = absurd (cc)
ways_remember way.Idle way.Spent is = absurd (cc)
ways_remember way.Done way.Idle is = absurd (cc)
ways_remember way.Spent way.Idle is = absurd (cc)
ways_remember way.Spent way.Done is = absurd (cc)
ways_remember way.Spent way.Spent is = absurd (cc)
ways_remember way.Done way.Spent is = absurd (cc)
ways_remember way.Done way.Done is = absurd (cc)

remembers : {Origin : Type 0} (line : List ℕ) (dest : Dest) (old new : Devices Origin) (ending : Ending) → Ends line dest old new ending → ending ≢ endings.NoMemory
remembers line dest old new ending (inl fails) is = let clash : endings.LogFault ≡ endings.NoMemory = sym fails.ends ∙ is in absurd (cc)
remembers line dest old new ending (inr (inl down)) is = let clash : endings.NoRoute ≡ endings.NoMemory = sym down.ends ∙ is in absurd (cc)
remembers line dest old new ending (inr (inr linked)) is = ways_remember linked.up linked.down (sym linked.ends ∙ is)

pub plug_remembers : {Origin : Type 0} (line : List ℕ) (dest : Dest) (old new : Devices Origin) (ending : Ending) → RelaySession (relayed no_rows) (plug_row line dest) old new ending → ending ≢ endings.NoMemory
plug_remembers line dest old new ending session = remembers line dest old new ending (plug_ends line dest old new ending session)
