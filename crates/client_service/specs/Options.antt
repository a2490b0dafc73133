-- What is required of a line that permits.
-- No public clause cites these: they say what private functions require.
use Rattle.std.specs.Prelude.{ℕ, IsSome}
use Rattle.gate_rules.specs.Reading.{RuleBook}
use Rattle.gate_rules.specs.Verdict.{options_at}
use Rattle.gate_rules.specs.declared.service.Service.{Service}
use Rattle.gate_rules.specs.declared.service.Service.TheVariants.{Authsrv, FtpGw, PlugGw, Smap, TnGw}
use Rattle.gate_rules.specs.declared.verdict.Verdict.{Verdict}
use Rattle.gate_rules.specs.declared.verdict.Verdict.TheVariants.{Permit, Deny}
use Rattle.client_service.specs.PlugService.{target_of}

-- a line that permits has options, where the service is `tn-gw` or `ftp-gw`, and a destination among them, where it is the plug; and
-- there is a session for the service
abbrev pub HasOptions : Service → RuleBook → ℕ → Type 0
HasOptions (PlugGw port) rules line = IsSome (target_of rules line)
HasOptions TnGw rules line = IsSome (options_at rules line)
HasOptions FtpGw rules line = IsSome (options_at rules line)
HasOptions Authsrv rules line = Unit {0}
HasOptions Smap rules line = Unit {0}
HasOptions service rules line = ⊥

abbrev pub OptionsFor : Verdict → Service → RuleBook → Type 0
OptionsFor (Permit line) service rules = HasOptions service rules line
OptionsFor (Deny line) service rules = Unit {0}
