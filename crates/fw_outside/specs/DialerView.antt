-- What a dialer means, and what its calls do to that.
use Rattle.std.specs.Prelude.{◌≡◌, ℕ, Bool, true, false, ◌||◌, nat_lt, List, [], Option, Some, IfSome}
use Rattle.fw_outside.specs.Counts.{Grew, Rose}
use Rattle.fw_outside.specs.SinkView.{SinkView}
use Rattle.fw_outside.specs.SourceView.{SourceView, fresh_link}
use Rattle.fw_outside.specs.ToldList.{AddsOne, IsOver}
use Rattle.fw_outside.specs.declared.ask.Ask.{Ask}
use Rattle.fw_outside.specs.declared.ask.Ask.TheVariants.{Main, Side, Back, Door}
use Rattle.fw_outside.specs.declared.dialed.Dialed.{Dialed}
use Rattle.fw_outside.specs.declared.dialed.Dialed.TheVariants.{Up, Refused}
use Rattle.fw_outside.specs.declared.mark.Mark.{Mark}
use Rattle.fw_outside.specs.declared.mark.Mark.TheVariants as marks

-- the two ends of a link: what comes from the other side, and what goes there
pub record LinkView : Type 0 where
  pub from : SourceView
  pub to : SinkView

-- what was asked for, in order, and the links that were hung up, as they stood then, where the dialer tells; how many
-- links came up, accepted ones among them; how often a link or a door was refused; how many of the main links that were
-- hung up had failed, and how many had been idle; how many data links; how many seconds later links wait
pub record DialerView : Type 0 where
  pub asked : Option (List Ask)
  pub ended : Option (List LinkView)
  pub came : ℕ
  pub refusals : ℕ
  pub link_faults : ℕ
  pub link_idles : ℕ
  pub data_faults : ℕ
  pub data_idles : ℕ
  pub waits : ℕ

-- as what a link of this is marked
abbrev pub mark_of : Ask → Mark
mark_of (Main dest) = marks.Main
mark_of (Side dest) = marks.Side
mark_of (Back addr port) = marks.Back
mark_of (Door at) = marks.Door

-- a new sink of a link that was asked for so: nothing was given, it wasn't told the end, and nothing is counted
pub record IsNewSink (mark : Mark) (sink : SinkView) : Type 0 where
  pub given : IsOver sink.given
  pub unshut : IfSome sink.shut (λ shut. shut ≡ false)
  pub unfailed : sink.faults ≡ 0
  pub marked : sink.mark ≡ mark

-- a link came up, as new and marked as what it was asked for, whose source waits as long as the dialer says; it is counted
pub record ComesUp (ask : Ask) (from : SourceView) (to : SinkView) (old new : DialerView) : Type 0 where
  pub left : Option (List ℕ)
  pub new_source : from ≡ fresh_link (mark_of ask) left old.waits
  pub new_sink : IsNewSink (mark_of ask) to
  pub asked : Option (List Ask)
  pub adds : AddsOne ask old.asked asked
  pub came : ℕ
  pub grew : Grew 1 old.came came
  pub is : new ≡ record old { asked = asked; came = came }

-- no link came up, or no door opened, which is counted
pub record Refuses (ask : Ask) (old new : DialerView) : Type 0 where
  pub asked : Option (List Ask)
  pub adds : AddsOne ask old.asked asked
  pub count : ℕ
  pub rose : Rose old.refusals count
  pub is : new ≡ record old { asked = asked; refusals = count }

-- a door opened at this address and port
pub record Opens (addr : List ℕ) (port : ℕ) (old new : DialerView) : Type 0 where
  pub asked : Option (List Ask)
  pub adds : AddsOne (Door (Some (addr, port))) old.asked asked
  pub is : new ≡ record old { asked = asked }

-- a link came up at a door, as new and marked so, whose source waits as long as the dialer says; it is counted
pub record Accepts (from : SourceView) (to : SinkView) (old new : DialerView) : Type 0 where
  pub left : Option (List ℕ)
  pub new_source : from ≡ fresh_link marks.Door left old.waits
  pub new_sink : IsNewSink marks.Door to
  pub came : ℕ
  pub grew : Grew 1 old.came came
  pub is : new ≡ record old { came = came }

-- no link came up at a door, which is counted
pub record TurnsAway (old new : DialerView) : Type 0 where
  pub count : ℕ
  pub rose : Rose old.refusals count
  pub is : new ≡ record old { refusals = count }

-- what holds of a link that came up
abbrev pub IfUp : {I O : Type 0} → Dialed I O → (I → O → Type 0) → Type 0
IfUp (Up from to) Holds = Holds from to
IfUp Refused Holds = Unit {0}

-- what holds where no link came up
abbrev pub IfRefused : {I O : Type 0} → Dialed I O → Type 0 → Type 0
IfRefused (Up from to) Holds = Unit {0}
IfRefused Refused Holds = Holds

-- the count rose, or is as it was
abbrev pub RoseIf : Bool → ℕ → ℕ → Type 0
RoseIf true before now = Rose before now
RoseIf false before now = now ≡ before

-- the link's source or sink failed
abbrev pub has_broken : SourceView → SinkView → Bool
has_broken from to = nat_lt 0 from.faults || nat_lt 0 to.faults

-- a main link was hung up, which is counted where it had failed, and where it had been idle
pub record HangsUp (from : SourceView) (to : SinkView) (old new : DialerView) : Type 0 where
  pub ended : Option (List LinkView)
  pub adds : AddsOne (record { from = from; to = to }) old.ended ended
  pub faults : ℕ
  pub faults_rose : RoseIf (has_broken from to) old.link_faults faults
  pub idles : ℕ
  pub idles_rose : RoseIf (nat_lt 0 from.idles) old.link_idles idles
  pub is : new ≡ record old { ended = ended; link_faults = faults; link_idles = idles }

-- a data link was hung up, which is counted where it had failed, and where it had been idle
pub record LetsGo (from : SourceView) (to : SinkView) (old new : DialerView) : Type 0 where
  pub ended : Option (List LinkView)
  pub adds : AddsOne (record { from = from; to = to }) old.ended ended
  pub faults : ℕ
  pub faults_rose : RoseIf (has_broken from to) old.data_faults faults
  pub idles : ℕ
  pub idles_rose : RoseIf (nat_lt 0 from.idles) old.data_idles idles
  pub is : new ≡ record old { ended = ended; data_faults = faults; data_idles = idles }

-- the dialer after `patience`
abbrev pub dialer_waiting : DialerView → ℕ → DialerView
dialer_waiting old seconds = record old { waits = seconds }
