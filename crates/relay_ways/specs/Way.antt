-- What a way does: bytes are taken from a source, a front of them is given to a sink, and then it ends.
use Rattle.std.specs.Prelude.{◌≡◌, ℕ, ◌+◌, ◌<◌, ◌==◌, ◌≤◌, Bool, true, false, List, [], ◌++◌, length, Ok}
use Rattle.fw_outside.specs.Counts.{Rose}
use Rattle.fw_outside.specs.LineReaderView.{TookBytes}
use Rattle.fw_outside.specs.SinkView.{SinkView, TellsEnd}
use Rattle.fw_outside.specs.SourceView.{SourceView, Broke, CameToEnd, Idled}
use Rattle.fw_outside.specs.ToldList.{grown, IsOver}
use Rattle.relay_ways.specs.declared.way_end.WayEnd.{WayEnd}
use Rattle.relay_ways.specs.declared.way_end.WayEnd.TheVariants.{Done, ReadFault, WriteFault, Idle, Spent}

-- the most bytes of a piece
abbrev pub most_in_piece : ℕ
most_in_piece = 4096

-- the sink after these bytes were given
abbrev pub holding : List ℕ → SinkView → SinkView
holding bytes old = record old { given = grown old.given bytes }

-- so many bytes were taken from the source, and all of them given to the sink
pub record Moves (count : ℕ) (before after : SourceView) (old new : SinkView) : Type 0 where
  pub bytes : List ℕ
  pub long : length bytes ≡ count
  pub takes : TookBytes bytes before after
  pub gives : new ≡ holding bytes old

-- The sink failed, which is counted. At most a piece wasn't given; if all was, the failure was in telling the sink of the
-- source's end.
pub record Lost (rest : List ℕ) (before after : SourceView) (old new : SinkView) : Type 0 where
  pub short : length rest ≤ most_in_piece
  pub over : rest ≡ [] → IsOver before.left
  pub source : after ≡ before
  pub count : ℕ
  pub rose : Rose old.faults count
  pub is : new ≡ record old { faults = count }

-- how a way ends of which `rest` was taken and not given, and what that does to the source and to the sink
abbrev pub Ends : WayEnd → List ℕ → SourceView → SourceView → SinkView → SinkView → Type 0
Ends Done rest before after old new = (rest ≡ []) × (CameToEnd before after × TellsEnd (Ok _) old new)
Ends ReadFault rest before after old new = (rest ≡ []) × (Broke before after × (new ≡ old))
Ends WriteFault rest before after old new = Lost rest before after old new
Ends Idle rest before after old new = (rest ≡ []) × (Idled before after × (new ≡ old))
Ends Spent rest before after old new = (rest ≡ []) × ((after ≡ before) × (new ≡ old))

abbrev pub is_spent : WayEnd → Bool
is_spent Spent = true
is_spent _ = false

-- A way with this limit ended so: `bytes` were taken, at most as many as the limit, and `part` of them was given, a front.
-- It is spent exactly if as many bytes as the limit were given, which is to say, were taken and all given.
pub record Copies (limit : ℕ) (how : WayEnd) (before after : SourceView) (old new : SinkView) : Type 0 where
  pub bytes : List ℕ
  pub part : List ℕ
  pub rest : List ℕ
  pub middle : SourceView
  pub takes : TookBytes bytes before middle
  pub cut : bytes ≡ part ++ rest
  pub within : length bytes ≤ limit
  pub spent : is_spent how ≡ (length part == limit)
  pub ends : Ends how rest middle after (holding part old) new

-- some bytes were moved, and so many may still be taken
pub record MovesSome (limit left : ℕ) (before after : SourceView) (old new : SinkView) : Type 0 where
  pub count : ℕ
  pub some : 0 < count
  pub room : limit ≡ count + left
  pub moves : Moves count before after old new

-- the way ended so, and so many bytes may still be taken
pub record CopiesTo (limit left : ℕ) (how : WayEnd) (before after : SourceView) (old new : SinkView) : Type 0 where
  pub copies : Copies limit how before after old new
  pub room : limit ≡ length copies.bytes + left
