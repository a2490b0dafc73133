-- What devices mean that stand in for those which a session doesn't have.
use Rattle.std.specs.Prelude.{ℕ, ◌-◌, ◌^◌, None}
use Rattle.fw_disk.specs.DiskView.{DiskView}
use Rattle.fw_outside.specs.DialerView.{DialerView}
use Rattle.fw_outside.specs.SinkView.{SinkView}
use Rattle.fw_outside.specs.declared.mark.Mark.TheVariants.{Own}

-- a sink that tells nothing of what it is given, and never fails
abbrev pub silent : SinkView
silent = record { given = None; shut = None; faults = 0; mark = Own }

-- a dialer that tells nothing of what it was asked, and has refused so often
abbrev pub refusing : (refusals waits : ℕ) → DialerView
refusing refusals waits = record {
  asked = None;
  ended = None;
  came = 0;
  refusals = refusals;
  link_faults = 0;
  link_idles = 0;
  data_faults = 0;
  data_idles = 0;
  waits = waits;
}

-- and that was asked for none yet
abbrev pub nowhere : DialerView
nowhere = refusing 0 3600

-- a disk that tells nothing, and whose failures are no longer counted
abbrev pub failing : DiskView
failing = record { told = None; faults = 2 ^ 64 - 1 }
