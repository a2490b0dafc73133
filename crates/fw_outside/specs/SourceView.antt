-- What a source of bytes means, and what its calls do to that.
use Rattle.std.specs.Prelude.{◌≡◌, ℕ, ◌<◌, ◌≤◌, List, [], length, take, Option, Result, Ok, Err}
use Rattle.std.specs.Option.{option_map}
use Rattle.fw_outside.specs.declared.source.Got.{Got}
use Rattle.fw_outside.specs.declared.source.Got.TheVariants.{Bytes, End, Idle}
use Rattle.fw_outside.specs.declared.failed.Failed.{Failed}
use Rattle.fw_outside.specs.declared.mark.Mark.{Mark}
use Rattle.fw_outside.specs.declared.mark.Mark.TheVariants.{Own}
use Rattle.fw_outside.specs.Counts.{Grew, Rose}
use Rattle.fw_outside.specs.ToldList.{grown, preceded, IsOver}

-- the bytes taken and those left, where the source tells; how many were taken, how often it failed, and how often nothing came
-- in time, as counts of 64 bits; how many seconds it waits; how many it waited when nothing came last, 0 where that never was;
-- and as what its link was asked for, which no call changes
pub record SourceView : Type 0 where
  pub taken : Option (List ℕ)
  pub left : Option (List ℕ)
  pub amount : ℕ
  pub faults : ℕ
  pub idles : ℕ
  pub waits : ℕ
  pub waited : ℕ
  pub mark : Mark

-- a new source of what is left, of no dialer: nothing is taken, nothing is counted, and it waits an hour
abbrev pub fresh : Option (List ℕ) → SourceView
fresh left = record {
  taken = option_map (λ _. []) left;
  left = left;
  amount = 0;
  faults = 0;
  idles = 0;
  waits = 3600;
  waited = 0;
  mark = Own;
}

-- the source of a new link, which was asked for so and waits so many seconds
abbrev pub fresh_link : Mark → Option (List ℕ) → ℕ → SourceView
fresh_link mark left seconds = record {
  taken = option_map (λ _. []) left;
  left = left;
  amount = 0;
  faults = 0;
  idles = 0;
  waits = seconds;
  waited = 0;
  mark = mark;
}

-- the source after `patience`
abbrev pub waiting : SourceView → ℕ → SourceView
waiting old seconds = record old { waits = seconds }

-- n bytes came: the first n of the buffer were the next ones
pub record Came (n : ℕ) (buf : List ℕ) (old new : SourceView) : Type 0 where
  pub rest : Option (List ℕ)
  pub some : 0 < n
  pub fits : n ≤ length buf
  pub next : old.left ≡ preceded (take n buf) rest
  pub count : ℕ
  pub grew : Grew n old.amount count
  pub is : new ≡ record old { taken = grown old.taken (take n buf); left = rest; amount = count }

-- the end: nothing is left, and nothing changed
pub record CameToEnd (old new : SourceView) : Type 0 where
  pub over : IsOver old.left
  pub is : new ≡ old

-- nothing came in time, which is counted, and it is noted how long the source waited
pub record Idled (old new : SourceView) : Type 0 where
  pub count : ℕ
  pub rose : Rose old.idles count
  pub is : new ≡ record old { idles = count; waited = old.waits }

-- the source failed, which is counted
pub record Broke (old new : SourceView) : Type 0 where
  pub count : ℕ
  pub rose : Rose old.faults count
  pub is : new ≡ record old { faults = count }

-- what a take answers and leaves
abbrev pub Takes : Result Got Failed → List ℕ → SourceView → SourceView → Type 0
Takes (Ok (Bytes n)) buf old new = Came n buf old new
Takes (Ok End) buf old new = CameToEnd old new
Takes (Ok Idle) buf old new = Idled old new
Takes (Err _) buf old new = Broke old new
