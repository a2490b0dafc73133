-- A reader of lines, which takes ahead of what it gives.
use Rattle.std.specs.Prelude.{◌≡◌, ℕ, ◌==◌, ◌<◌, ◌≤◌, ◌+◌, Bool, true, false, List, [], ◌∷◌, ◌++◌, length, Option, Result, Ok, Err}
use Rattle.fw_outside.specs.declared.heard.Heard.{Heard}
use Rattle.fw_outside.specs.declared.heard.Heard.TheVariants.{Line, TooLong, Stopped}
use Rattle.fw_outside.specs.declared.heard.Stop.{Stop}
use Rattle.fw_outside.specs.declared.heard.Stop.TheVariants.{End, Idle, Failed, Spent}
use Rattle.fw_outside.specs.Counts.{Grew}
use Rattle.fw_outside.specs.Lines.{IsHeard}
use Rattle.fw_outside.specs.SourceView.{SourceView, Broke, CameToEnd, Idled}
use Rattle.fw_outside.specs.ToldList.{grown, preceded}

-- the bytes that were taken and not heard yet, and how many more may be taken
pub record LineReaderView : Type 0 where
  pub pending : List ℕ
  pub room : ℕ

-- what is left behind the buffer, where the source tells
abbrev pub rest_of : LineReaderView → SourceView → Option (List ℕ)
rest_of reader source = preceded reader.pending source.left

-- these bytes were taken from the source
pub record TookBytes (bytes : List ℕ) (before after : SourceView) : Type 0 where
  pub left : Option (List ℕ)
  pub next : before.left ≡ preceded bytes left
  pub count : ℕ
  pub grew : Grew (length bytes) before.amount count
  pub is : after ≡ record before { taken = grown before.taken bytes; left = left; amount = count }

-- bytes were taken from the source into the buffer, and the first ones of the buffer were heard
pub record Reads (heard : List ℕ) (old new : LineReaderView) (before after : SourceView) : Type 0 where
  pub taken_now : List ℕ
  pub takes : TookBytes taken_now before after
  pub reader : old.pending ++ taken_now ≡ heard ++ new.pending
  pub room : old.room ≡ length taken_now + new.room

-- nothing was taken, for this reason
abbrev pub TakesNothing : Stop → SourceView → SourceView → Type 0
TakesNothing End before after = CameToEnd before after
TakesNothing Idle before after = Idled before after
TakesNothing Failed before after = Broke before after
TakesNothing Spent before after = ⊥

-- why no line was heard, and what that leaves of the source: nothing was taken, with nothing left in the buffer, or the limit
abbrev pub Halts : Stop → LineReaderView → SourceView → SourceView → Type 0
Halts Spent new before after = after ≡ before
Halts stop new before after = (new.pending ≡ []) × TakesNothing stop before after

-- a line leaves the source as it stands
abbrev pub LeavesSource : Heard → LineReaderView → SourceView → SourceView → Type 0
LeavesSource (Line _) new before after = after ≡ before
LeavesSource TooLong new before after = after ≡ before
LeavesSource (Stopped stop) new before after = Halts stop new before after

-- the limit stopped the reader
abbrev pub stops_at_limit : Heard → Bool
stops_at_limit (Stopped Spent) = true
stops_at_limit _ = false

-- What is heard next: these bytes, of what was left, are heard as that. At the limit the reader stops, having read all that
-- was in the buffer before; from then on nothing is heard.
pub record Listens (heard : Heard) (old new : LineReaderView) (before after : SourceView) : Type 0 where
  pub bytes : List ℕ
  pub middle : SourceView
  pub is_heard : IsHeard heard bytes
  pub rest : rest_of old before ≡ preceded bytes (rest_of new after)
  pub reads : Reads bytes old new before middle
  pub closes : LeavesSource heard new middle after
  pub spent : stops_at_limit heard ≡ (new.room == 0)
  pub behind : stops_at_limit heard ≡ true → 0 < old.room → length old.pending ≤ length bytes

-- ---- byte by byte

-- the byte that was read, if one was
abbrev pub byte_read : Result ℕ Stop → List ℕ
byte_read (Ok byte) = byte ∷ []
byte_read (Err stop) = []

-- a byte leaves the source as it stands
abbrev pub ByteLeavesSource : Result ℕ Stop → LineReaderView → SourceView → SourceView → Type 0
ByteLeavesSource (Ok byte) new before after = after ≡ before
ByteLeavesSource (Err stop) new before after = Halts stop new before after

-- the limit stopped the reader
abbrev pub byte_stops_at_limit : Result ℕ Stop → Bool
byte_stops_at_limit (Err Spent) = true
byte_stops_at_limit _ = false

-- What is read next: the first byte of what was left, or none. At the limit the reader stops, with nothing in the buffer before;
-- from then on nothing is read.
pub record ReadsByte (result : Result ℕ Stop) (old new : LineReaderView) (before after : SourceView) : Type 0 where
  pub middle : SourceView
  pub rest : rest_of old before ≡ preceded (byte_read result) (rest_of new after)
  pub reads : Reads (byte_read result) old new before middle
  pub closes : ByteLeavesSource result new middle after
  pub spent : byte_stops_at_limit result ≡ (new.room == 0)
  pub behind : byte_stops_at_limit result ≡ true → 0 < old.room → old.pending ≡ []
