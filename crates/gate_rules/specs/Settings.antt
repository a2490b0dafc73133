-- Settings: their values, and the first line that sets one.
use Rattle.std.specs.Prelude.{ℕ, Bool, ◌==◌, List, [], ◌∷◌, Result, Ok, Err, codes, if◌then◌else◌}
use Rattle.std.specs.Option.{ok_or}
use Rattle.std.specs.Str.{bytes_eq}
use Rattle.fw_types.specs.Number.{in_range, number_of}
use Rattle.host_pattern.specs.declared.word.Word.{Word}
use Rattle.gate_rules.specs.declared.fault.Why.{Why}
use Rattle.gate_rules.specs.declared.fault.Why.TheVariants.{MissingValue, BadNumber, BadWord}
use Rattle.gate_rules.specs.declared.setting.Setting.{Setting}
use Rattle.gate_rules.specs.declared.setting.Setting.TheVariants.{Timeout, MaxBytes, MaxRecip, BadSleep, NoBogus}

-- a number in its limits
abbrev pub number_in : ℕ → ℕ → List ℕ → Result ℕ Why
number_in lowest highest text = ok_or (in_range lowest highest (number_of text)) BadNumber

-- 1 or 0
abbrev pub truth_of : List ℕ → Result ℕ Why
truth_of text = if bytes_eq text (codes "true") then Ok 1 else if bytes_eq text (codes "false") then Ok 0 else Err BadWord

abbrev pub value_of : Setting → List ℕ → Result ℕ Why
value_of Timeout text = number_in 1 86400 text
value_of MaxBytes text = number_in 1 67108864 text
value_of MaxRecip text = number_in 1 1000 text
value_of BadSleep text = number_in 0 86400 text
value_of NoBogus text = truth_of text

abbrev pub value_alone : Result ℕ Why → List Word → Result ℕ Why
value_alone (Err why) words = Err why
value_alone (Ok value) [] = Ok value
value_alone (Ok value) (word ∷ words) = Err BadWord

-- the value that the words give to a setting: one word
abbrev pub set_to : Setting → List Word → Result ℕ Why
set_to which [] = Err MissingValue
set_to which (word ∷ words) = value_alone (value_of which word.text) words

-- settings in the order in which they are printed
abbrev pub place : Setting → ℕ
place Timeout = 0
place MaxBytes = 1
place MaxRecip = 2
place BadSleep = 3
place NoBogus = 4

abbrev pub is_same : Setting → Setting → Bool
is_same one other = place one == place other
