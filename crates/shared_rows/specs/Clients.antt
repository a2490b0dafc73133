-- What comes from a client of these scenes.
use Rattle.std.specs.Prelude.{ℕ, Bool, None}
use Rattle.acceptors.specs.AcceptorView.{AcceptorView}
use Rattle.fw_outside.specs.SourceView.{SourceView}
use Rattle.fw_outside.specs.declared.mark.Mark.TheVariants.{Own}

-- a source that tells no bytes and doesn't fail, with these counts
abbrev pub silent : ℕ → ℕ → ℕ → ℕ → SourceView
silent amount idles waits waited = record {
  taken = None;
  left = None;
  amount = amount;
  faults = 0;
  idles = idles;
  waits = waits;
  waited = waited;
  mark = Own;
}

-- a door that doesn't tell its clients, with these counts
abbrev pub untold : ℕ → ℕ → Bool → ℕ → ℕ → AcceptorView
untold came returned over ends faults = record {
  handed = None;
  took = None;
  came = came;
  returned = returned;
  out = None;
  over = over;
  ends = ends;
  faults = faults;
}
