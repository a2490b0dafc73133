-- What `table` prints of a service.
use Rattle.std.specs.Prelude.{ℕ, Bool, true, false, List, [], ◌∷◌, ◌++◌, map, Option, Some, None, codes}
use Rattle.std.specs.Fmt.{decimal}
use Rattle.fw_types.specs.Host.{host_text}
use Rattle.fw_types.specs.declared.dest.Dest.{Dest}
use Rattle.host_pattern.specs.Pattern.{Written, written}
use Rattle.gate_rules.specs.declared.options.Options.{Options}
use Rattle.gate_rules.specs.declared.setting.Setting.{Setting}
use Rattle.gate_rules.specs.declared.setting.Setting.TheVariants.{Timeout, MaxBytes, MaxRecip, BadSleep, NoBogus}
use Rattle.gate_rules.specs.declared.verdict.Verdict.{Verdict}
use Rattle.gate_rules.specs.declared.verdict.Verdict.TheVariants.{Permit, Deny}
use Rattle.gate_rules.specs.Reading.{RuleBook}
use Rattle.gate_rules.specs.Verdict.{options_at, setting_of}
use Rattle.bastion.specs.Texts.{some_line, verdict_text, words_line}

-- the destinations, as they were written
abbrev pub dest_text : Option (List Written) → List ℕ
dest_text None = []
dest_text (Some patterns) = words_line (codes "dest") (map written patterns)

-- the verbs that ask for a login; `auth` alone where any connect does
abbrev pub auth_text : Option (List (List ℕ)) → List ℕ
auth_text None = []
auth_text (Some verbs) = words_line (codes "auth") verbs

abbrev pub flag_text : List ℕ → Bool → List ℕ
flag_text name true = name
flag_text name false = []

-- the target of a plug: `plug-to HOST PORT`
abbrev pub plug_text : Option Dest → List ℕ
plug_text None = []
plug_text (Some dest) = words_line (codes "plug-to") (host_text dest.host ∷ decimal dest.port ∷ [])

-- a line for each option that is set
abbrev pub options_text : Options → List ℕ
options_text o = some_line (codes "exec") o.exec ++ dest_text o.dest ++ auth_text o.auth
    ++ flag_text (codes "authall\n") o.authall ++ flag_text (codes "extnd\n") o.extnd
    ++ some_line (codes "deny") o.deny ++ some_line (codes "log") o.log ++ plug_text o.plug_to

abbrev pub options_shown : Option Options → List ℕ
options_shown None = []
options_shown (Some options) = options_text options

abbrev pub setting_name : Setting → List ℕ
setting_name Timeout = codes "timeout"
setting_name MaxBytes = codes "maxbytes"
setting_name MaxRecip = codes "maxrecip"
setting_name BadSleep = codes "badsleep"
setting_name NoBogus = codes "nobogus"

-- `set ATTRIBUTE VALUE line N`, where a line sets it
abbrev pub set_text : Setting → Option (ℕ × ℕ) → List ℕ
set_text which None = []
set_text which (Some set) = codes "set " ++ setting_name which ++ codes " " ++ decimal set.0 ++ codes " line " ++ decimal set.1 ++ codes "\n"

abbrev pub setting_text : RuleBook → Setting → List ℕ
setting_text rules which = set_text which (setting_of rules which)

-- the settings in their order
abbrev pub settings_text : RuleBook → List ℕ
settings_text rules = setting_text rules Timeout ++ setting_text rules MaxBytes ++ setting_text rules MaxRecip ++ setting_text rules BadSleep ++ setting_text rules NoBogus

-- the verdict, the options of a line that permits, and the settings
abbrev pub report_text : RuleBook → Verdict → List ℕ
report_text rules (Permit line) = verdict_text (Permit line) ++ options_shown (options_at rules line) ++ settings_text rules
report_text rules (Deny line) = verdict_text (Deny line) ++ settings_text rules
