-- What the attribute of a line is for a service.
use Rattle.std.specs.Prelude.{ℕ, Bool, true, false, not, ◌||◌, List, codes, if◌then◌else◌}
use Rattle.std.specs.Str.{bytes_eq}
use Rattle.gate_rules.specs.declared.attribute.Attribute.{Attribute}
use Rattle.gate_rules.specs.declared.attribute.Attribute.TheVariants.{Permit, Deny, Port, Sets, Operation, Other}
use Rattle.gate_rules.specs.declared.service.Service.{Service}
use Rattle.gate_rules.specs.declared.setting.Setting.{Setting}
use Rattle.gate_rules.specs.declared.setting.Setting.TheVariants.{Timeout, MaxBytes, MaxRecip, BadSleep, NoBogus}
use Rattle.gate_rules.specs.Service.{is_plug, is_smap, is_authsrv}

-- the attribute of a line about operations
abbrev pub is_operation : List ℕ → Bool
is_operation text = bytes_eq text (codes "permit-operation") || bytes_eq text (codes "deny-operation")

-- the setting with this name, and any other attribute
abbrev pub named_setting : List ℕ → Attribute
named_setting text =
    if bytes_eq text (codes "timeout") then Sets Timeout
    else if bytes_eq text (codes "maxbytes") then Sets MaxBytes
    else if bytes_eq text (codes "maxrecip") then Sets MaxRecip
    else if bytes_eq text (codes "badsleep") then Sets BadSleep
    else if bytes_eq text (codes "nobogus") then Sets NoBogus
    else Other

-- the attribute with this name
abbrev pub attribute_named : List ℕ → Attribute
attribute_named text =
    if bytes_eq text (codes "permit-hosts") || bytes_eq text (codes "hosts") then Permit
    else if bytes_eq text (codes "deny-hosts") then Deny
    else if bytes_eq text (codes "port") then Port
    else if is_operation text then Operation
    else named_setting text

-- which services have the setting
abbrev pub is_setting_of : Service → Setting → Bool
is_setting_of service Timeout = true
is_setting_of service MaxBytes = is_smap service
is_setting_of service MaxRecip = is_smap service
is_setting_of service BadSleep = is_authsrv service
is_setting_of service NoBogus = is_authsrv service

-- which services the attribute is for
abbrev pub is_for : Service → Attribute → Bool
is_for service Permit = not (is_plug service)
is_for service Deny = not (is_plug service)
is_for service Port = is_plug service
is_for service (Sets which) = is_setting_of service which
is_for service Operation = is_authsrv service
is_for service Other = false

-- what the text is as an attribute for the service: one that isn't for it does nothing
abbrev pub attribute_of : Service → List ℕ → Attribute
attribute_of service text = if is_for service (attribute_named text) then attribute_named text else Other
