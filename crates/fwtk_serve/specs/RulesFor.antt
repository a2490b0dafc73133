-- By which rules a client is served.
use Rattle.std.specs.Prelude.{ℕ, ◌==◌, Bool, true, false, List, [], find, Option, Some, None}
use Rattle.client_service.specs.Conn.{IsServed}
use Rattle.gate_rules.specs.Reading.{RuleBook}
use Rattle.gate_rules.specs.Service.{is_authsrv, is_smap}
use Rattle.gate_rules.specs.declared.service.Service.{Service}
use Rattle.gate_rules.specs.declared.service.Service.TheVariants.{Netacl, TnGw, FtpGw, PlugGw, Smap, Authsrv}

-- what an empty table says to any service but `smap`: no line permits anyone, and none sets anything
abbrev pub no_rules : RuleBook
no_rules = record { rules = []; settings = [] }

-- ---- one service and another

abbrev pub is_tn : Service → Bool
is_tn TnGw = true
is_tn service = false

abbrev pub is_ftp : Service → Bool
is_ftp FtpGw = true
is_ftp service = false

-- the plug, for the clients of this port
abbrev pub is_plug_at : ℕ → Service → Bool
is_plug_at port (PlugGw other) = other == port
is_plug_at port service = false

-- two services are the same; the access wrapper, which has no session, is like none
abbrev pub is_same_service : Service → Service → Bool
is_same_service (Netacl label) other = false
is_same_service TnGw other = is_tn other
is_same_service FtpGw other = is_ftp other
is_same_service (PlugGw port) other = is_plug_at port other
is_same_service Smap other = is_smap other
is_same_service Authsrv other = is_authsrv other

-- ---- the rules of a service

-- those that were found, or else none
abbrev pub found_or_none : Option (Service × RuleBook) → RuleBook
found_or_none None = no_rules
found_or_none (Some ruled) = ruled.1

-- the first of these that are the service's, with whose they are
abbrev pub first_for : Service → List (Service × RuleBook) → Option (Service × RuleBook)
first_for service rules = find (λ ruled. is_same_service ruled.0 service) rules

-- the first rules of the service, or else none
abbrev pub rules_for : Service → List (Service × RuleBook) → RuleBook
rules_for service rules = found_or_none (first_for service rules)

-- rules that `serve` takes: they are their service's, where that is the plug; and the access wrapper isn't served
pub record MayServe (ruled : Service × RuleBook) : Type 0 where
  pub served : IsServed ruled.0 ruled.1
