-- The bytes that a reader has left and a writer holds, where those are known; and what links tell.
use Rattle.std.specs.Prelude.{◌≡◌, ℕ, List, [], take, Option, None, Result, Ok, Err}
use Rattle.std.specs.Io.Buffered.{reader_buffer, reader_capacity}
use Rattle.std.specs.Io.KnownBytes.{Appends, Consumes, IsAtEnd, Keeps}
use Rattle.std.specs.declared.io.buffered.BufReader.{BufReader}
use Rattle.fw_outside.specs.SinkView.{SinkView}
use Rattle.fw_outside.specs.SourceView.{SourceView}
use Rattle.fw_outside.specs.declared.source.Got.{Got}
use Rattle.fw_outside.specs.declared.source.Got.TheVariants.{Bytes, End, Idle}
use Rattle.fw_outside.specs.declared.failed.Failed.{Failed}
use Rattle.fw_outside.specs.declared.mark.Mark.{Mark}

-- a source that tells only counts: so many bytes were taken, so often it failed, so often nothing came in time; how long
-- it waits, and waited when nothing came last; and as what its link was asked for
abbrev pub untold_source : ℕ → ℕ → ℕ → ℕ → ℕ → Mark → SourceView
untold_source amount faults idles waits waited mark = record {
  taken = None;
  left = None;
  amount = amount;
  faults = faults;
  idles = idles;
  waits = waits;
  waited = waited;
  mark = mark;
}

-- a sink that tells only its count, and as what its link was asked for
abbrev pub untold_sink : ℕ → Mark → SinkView
untold_sink faults mark = record { given = None; shut = None; faults = faults; mark = mark }

-- a take hands on the next bytes of the reader, its end, or its refusal, at which it loses nothing
abbrev pub HandsOn : Result Got Failed → List ℕ → Option (List ℕ) → Option (List ℕ) → Type 0
HandsOn (Ok (Bytes n)) buf old new = Consumes old new (take n buf)
HandsOn (Ok End) buf old new = Consumes old new [] × IsAtEnd new
HandsOn (Ok Idle) buf old new = Keeps old new
HandsOn (Err _) buf old new = Keeps old new

-- a gift that is answered with Ok stands whole at the writer's end
abbrev pub Writes : Result (Unit {0}) Failed → List ℕ → Option (List ℕ) → Option (List ℕ) → Type 0
Writes (Ok _) piece old new = Appends old new piece
Writes (Err _) piece old new = Unit {0}

-- nothing was read ahead yet, and 65,536 bytes can be. A reader that can read nothing ahead tells nothing of what is left in it
abbrev pub ReadsAhead : {S A : Type 0} → BufReader S A → Type 0
ReadsAhead reader = (reader_buffer reader ≡ []) × (reader_capacity reader ≡ 65536)
