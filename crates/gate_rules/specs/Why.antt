-- Why a line can't be read as a rule, as the log says it.
use Rattle.std.specs.Prelude.{ℕ, Bool, true, false, List, codes}
use Rattle.gate_rules.specs.declared.fault.Why.{Why}
use Rattle.gate_rules.specs.declared.fault.Why.TheVariants.{NoHosts, BadPattern, TooMany, UnknownOption, MissingValue, OpenBrace, BadNumber, BadWord}

abbrev pub why_text : Why → List ℕ
why_text NoHosts = codes "no hosts"
why_text BadPattern = codes "bad pattern"
why_text TooMany = codes "too many"
why_text UnknownOption = codes "unknown option"
why_text MissingValue = codes "missing value"
why_text OpenBrace = codes "open brace"
why_text BadNumber = codes "bad number"
why_text BadWord = codes "bad word"

-- whether a word shows it, whatever follows; the other causes may be that a word is missing
abbrev pub is_shown : Why → Bool
is_shown NoHosts = false
is_shown BadPattern = true
is_shown TooMany = true
is_shown UnknownOption = true
is_shown MissingValue = false
is_shown OpenBrace = false
is_shown BadNumber = true
is_shown BadWord = true
