-- Whom a client's session may reach.
use Rattle.std.specs.Prelude.{Bool, true, false}
use Rattle.gate_rules.specs.declared.service.Service.{Service}
use Rattle.gate_rules.specs.declared.service.Service.TheVariants.{FtpGw, PlugGw, TnGw}
use Rattle.gate_rules.specs.declared.verdict.Verdict.{Verdict}
use Rattle.gate_rules.specs.declared.verdict.Verdict.TheVariants.{Permit}

-- nobody, as of `authsrv` and of `smap`; the one destination that its line names; or the destinations that it asks for, with a
-- relay to the last of them, as of `tn-gw`, or by replies and data links, as of `ftp-gw`
pub data Kind : Type 0 where
  Alone : Kind
  Plugged : Kind
  Gated : Kind
  Replied : Kind

-- by the service, for whom its rules permit; whom they deny reaches nobody
abbrev pub kind_of : Service → Verdict → Kind
kind_of (PlugGw port) (Permit line) = Plugged
kind_of TnGw (Permit line) = Gated
kind_of FtpGw (Permit line) = Replied
kind_of service verdict = Alone

-- whether the session may end with a relay
abbrev pub may_relay : Kind → Bool
may_relay Alone = false
may_relay Plugged = true
may_relay Gated = true
may_relay Replied = false
