-- A source in memory.
use Rattle.std.specs.Prelude.{◌≡◌, ℕ, ◌==◌, ◌-◌, ◌^◌, min, List, [], length, Some, Result, Ok, Err, if◌then◌else◌}
use Rattle.fw_outside.specs.declared.source.Got.{Got}
use Rattle.fw_outside.specs.declared.source.Got.TheVariants.{Bytes, End, Idle}
use Rattle.fw_outside.specs.declared.failed.Failed.{Failed}
use Rattle.fw_outside.specs.declared.mark.Mark.{Mark}
use Rattle.fw_outside.specs.declared.mark.Mark.TheVariants.{Own}
use Rattle.fw_outside.specs.Counts.{counted}
use Rattle.fw_memory.specs.CallsView.{CallsView, comes_at}
use Rattle.fw_outside.specs.SourceView.{SourceView}

-- the bytes taken and left, how many come at a call at most, the calls that fail and those that are idle, how many calls
-- there were, the counts, how long it waits, how long it waited when nothing came last, and as what its link was asked for
pub record MemSourceView : Type 0 where
  pub taken : List ℕ
  pub left : List ℕ
  pub piece : ℕ
  pub fails : CallsView
  pub idle : CallsView
  pub calls : ℕ
  pub faults : ℕ
  pub idles : ℕ
  pub waits : ℕ
  pub waited : ℕ
  pub mark : Mark

-- a new source of no dialer: nothing is taken or counted, and it waits an hour
abbrev pub new_mem_source : List ℕ → ℕ → CallsView → CallsView → MemSourceView
new_mem_source bytes piece fails idle = record {
  taken = [];
  left = bytes;
  piece = piece;
  fails = fails;
  idle = idle;
  calls = 0;
  faults = 0;
  idles = 0;
  waits = 3600;
  waited = 0;
  mark = Own;
}

-- it tells all
abbrev pub source_view_of : MemSourceView → SourceView
source_view_of s = record {
  taken = Some s.taken;
  left = Some s.left;
  amount = min (length s.taken) (2 ^ 64 - 1);
  faults = s.faults;
  idles = s.idles;
  waits = s.waits;
  waited = s.waited;
  mark = s.mark;
}

-- what comes into a buffer of this length: the end, or as many bytes as fit
abbrev pub handed : MemSourceView → ℕ → Got
handed s room = if length s.left == 0 then End else Bytes (min (min s.piece room) (length s.left))

-- what a take answers: a failure, idleness, or what comes
abbrev pub take_result : MemSourceView → ℕ → Result Got Failed
take_result s room =
    if comes_at s.fails s.calls then Err (record {})
    else if comes_at s.idle s.calls then Ok Idle
    else Ok (handed s room)

-- one more call was made, and what was told stands
pub record CountsTake (old new : MemSourceView) : Type 0 where
  pub piece : new.piece ≡ old.piece
  pub fails : new.fails ≡ old.fails
  pub idle : new.idle ≡ old.idle
  pub calls : new.calls ≡ counted old.calls

-- no call was counted, and what was told stands
pub record CountsNone (old new : MemSourceView) : Type 0 where
  pub piece : new.piece ≡ old.piece
  pub fails : new.fails ≡ old.fails
  pub idle : new.idle ≡ old.idle
  pub calls : new.calls ≡ old.calls
