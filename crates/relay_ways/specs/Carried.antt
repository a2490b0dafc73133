-- A way that begins with bytes which were taken before: what it does to its source and what to its sink, each by itself.
use Rattle.std.specs.Prelude.{◌≡◌, ◌≢◌, ℕ, ◌+◌, ◌≤◌, Bool, true, false, List, [], ◌++◌, length, Result, Ok, Err}
use Rattle.fw_outside.specs.Counts.{Rose}
use Rattle.fw_outside.specs.LineReaderView.{TookBytes}
use Rattle.fw_outside.specs.SinkView.{SinkView, TellsEnd, Unheard}
use Rattle.fw_outside.specs.SourceView.{SourceView, Broke, CameToEnd, Idled}
use Rattle.fw_outside.specs.ToldList.{grown, IsOver}
use Rattle.fw_outside.specs.declared.failed.Failed.{Failed}
use Rattle.relay_ways.specs.Way.{holding, most_in_piece}
use Rattle.relay_ways.specs.declared.way_end.WayEnd.{WayEnd}
use Rattle.relay_ways.specs.declared.way_end.WayEnd.TheVariants.{Done, ReadFault, WriteFault, Idle, Spent}

-- whether a way ended by its sink
abbrev pub is_write_fault : WayEnd → Bool
is_write_fault WriteFault = true
is_write_fault _ = false

-- What went one way: what was taken for it, and of that what was given, a front, and what was lost. At most a piece is
-- lost, and nothing unless the sink failed.
pub record Way : Type 0 where
  pub taken : List ℕ
  pub given : List ℕ
  pub lost : List ℕ
  pub end : WayEnd
  pub cut : taken ≡ given ++ lost
  pub short : length lost ≤ most_in_piece
  pub whole : is_write_fault end ≡ false → lost ≡ []

-- how the end of a way leaves its source, of which so many bytes may still be taken
abbrev pub LeavesSource : WayEnd → (lost : List ℕ) → (left : ℕ) → SourceView → SourceView → Type 0
LeavesSource Done lost left before after = (left ≢ 0) × CameToEnd before after
LeavesSource ReadFault lost left before after = (left ≢ 0) × Broke before after
LeavesSource WriteFault lost left before after = (lost ≡ [] → IsOver before.left) × (after ≡ before)
LeavesSource Idle lost left before after = (left ≢ 0) × Idled before after
LeavesSource Spent lost left before after = (left ≡ 0) × (after ≡ before)

-- and how its sink
abbrev pub LeavesSink : WayEnd → SinkView → SinkView → Type 0
LeavesSink Done old new = TellsEnd (Ok _) old new
LeavesSink ReadFault old new = new ≡ old
LeavesSink WriteFault old new = Unheard old new
LeavesSink Idle old new = new ≡ old
LeavesSink Spent old new = new ≡ old

-- For the way there were these bytes, which had been taken before, and those that were taken from the source. So many could
-- be taken, and so many still can.
pub record Drains (way : Way) (ahead : List ℕ) (limit left : ℕ) (before after : SourceView) : Type 0 where
  pub bytes : List ℕ
  pub middle : SourceView
  pub all : way.taken ≡ ahead ++ bytes
  pub takes : TookBytes bytes before middle
  pub room : limit ≡ length bytes + left
  pub leaves : LeavesSource way.end way.lost left middle after

-- what the way gave was given to the sink
abbrev pub Supplies : Way → SinkView → SinkView → Type 0
Supplies way old new = LeavesSink way.end (holding way.given old) new

-- a way that began with these bytes ended so
pub record Carries (ahead : List ℕ) (limit left : ℕ) (how : WayEnd) (before after : SourceView) (old new : SinkView) : Type 0 where
  pub way : Way
  pub is : way.end ≡ how
  pub drains : Drains way ahead limit left before after
  pub supplies : Supplies way old new

-- a front of some bytes was given, and not all
pub record Loses (ahead : List ℕ) (old new : SinkView) : Type 0 where
  pub part : List ℕ
  pub rest : List ℕ
  pub cut : ahead ≡ part ++ rest
  pub some : rest ≢ []
  pub count : ℕ
  pub rose : Rose old.faults count
  pub is : new ≡ record old { given = grown old.given part; faults = count }

-- all of them were given, or the sink failed within them
abbrev pub GivesAhead : Result (Unit {0}) Failed → List ℕ → SinkView → SinkView → Type 0
GivesAhead (Ok done) ahead old new = new ≡ holding ahead old
GivesAhead (Err failed) ahead old new = Loses ahead old new
