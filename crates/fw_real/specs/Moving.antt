-- The bytes that a reader has left and a writer holds, where those are known.
use Rattle.std.specs.Prelude.{ℕ, List, [], take, Option, None, Result, Ok, Err}
use Rattle.std.specs.Io.KnownBytes.{Appends, Consumes, IsAtEnd, Keeps}
use Rattle.fw_outside.specs.SinkView.{SinkView}
use Rattle.fw_outside.specs.SourceView.{SourceView}
use Rattle.fw_outside.specs.declared.source.Got.{Got}
use Rattle.fw_outside.specs.declared.source.Got.TheVariants.{Bytes, End, Idle}
use Rattle.fw_outside.specs.declared.failed.Failed.{Failed}
use Rattle.fw_outside.specs.declared.mark.Mark.TheVariants.{Own}

-- a source of no dialer that tells only counts: so many bytes were taken, so often it failed, so often nothing came in time; and how long
-- it waits, and waited when nothing came last
abbrev pub untold_source : ℕ → ℕ → ℕ → ℕ → ℕ → SourceView
untold_source amount faults idles waits waited = record {
  taken = None;
  left = None;
  amount = amount;
  faults = faults;
  idles = idles;
  waits = waits;
  waited = waited;
  mark = Own;
}

-- a sink of no dialer that tells nothing
abbrev pub unseen : ℕ → SinkView
unseen faults = record { given = None; shut = None; faults = faults; mark = Own }

-- a take hands on the next bytes of the reader, its end, or its refusal, at which it loses nothing
abbrev pub HandsOn : Result Got Failed → List ℕ → Option (List ℕ) → Option (List ℕ) → Type 0
HandsOn (Ok (Bytes n)) buf old new = Consumes old new (take n buf)
HandsOn (Ok End) buf old new = Consumes old new [] × IsAtEnd new
HandsOn (Ok Idle) buf old new = Keeps old new
HandsOn (Err _) buf old new = Keeps old new

-- a gift that is answered with Ok stands whole at the writer's end
abbrev pub Writes : Result (Unit {0}) Failed → List ℕ → Option (List ℕ) → Option (List ℕ) → Type 0
Writes (Ok _) piece old new = Appends old new piece
Writes (Err _) piece old new = Unit {0}
