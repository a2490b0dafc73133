-- `-hours FROM TO` after the host list of a line about operations: what may be wrong with it, and what it says.
use Rattle.std.specs.Prelude.{ℕ, ◌+◌, ◌*◌, ◌/◌, ◌%◌, ◌==◌, ◌&&◌, nat_lt, is_some, Bool, List, [], ◌∷◌, length, Option, Some, None, codes, if◌then◌else◌}
use Rattle.std.specs.Option.{option_or}
use Rattle.std.specs.Str.{bytes_eq}
use Rattle.fw_types.specs.Number.{number_of}
use Rattle.host_pattern.specs.declared.word.Word.{Word}
use Rattle.gate_rules.specs.declared.fault.Why.{Why}
use Rattle.gate_rules.specs.declared.fault.Why.TheVariants.{MissingValue, BadNumber, BadWord}
use Rattle.gate_rules.specs.declared.hours.Hours.{Hours}
use Rattle.gate_rules.specs.Lists.{is_option}

-- the minutes of the day at HHMM, read as one number: HH from 0 to 23, and MM from 0 to 59
abbrev pub minutes_at : ℕ → Option ℕ
minutes_at clock = if nat_lt (clock / 100) 24 && nat_lt (clock % 100) 60 then Some (clock / 100 * 60 + clock % 100) else None

abbrev pub minutes_by : Option ℕ → Option ℕ
minutes_by None = None
minutes_by (Some clock) = minutes_at clock

-- the minutes of the day that the text is: four digits HHMM
abbrev pub minutes_of : List ℕ → Option ℕ
minutes_of text = if length text == 4 then minutes_by (number_of text) else None

-- the option itself
abbrev pub is_hours : Word → Bool
is_hours word = is_option word && bytes_eq word.text (codes "-hours")

-- what is wrong with a word in its place
abbrev pub name_fault : Word → Option Why
name_fault word = if is_hours word then None else Some BadWord

-- what is wrong with a word in the place of FROM or TO
abbrev pub time_fault : Word → Option Why
time_fault word = if is_some (minutes_of word.text) then None else Some BadNumber

-- What is wrong with the words after a host list, from the left: they are `-hours FROM TO` any number of times.
abbrev pub hours_fault : List Word → Option Why
hours_fault [] = None
hours_fault (word ∷ []) = option_or (name_fault word) (Some MissingValue)
hours_fault (word ∷ from ∷ []) = option_or (name_fault word) (option_or (time_fault from) (Some MissingValue))
hours_fault (word ∷ from ∷ to ∷ words) = option_or (name_fault word) (option_or (time_fault from) (option_or (time_fault to) (hours_fault words)))

abbrev pub hours_by : Option ℕ → Option ℕ → Option Hours
hours_by (Some from) (Some to) = Some (record { from = from; to = to })
hours_by _ _ = None

-- what they say, if nothing is wrong with them: the first `-hours` counts
abbrev pub hours_said : List Word → Option Hours
hours_said (word ∷ from ∷ to ∷ words) = hours_by (minutes_of from.text) (minutes_of to.text)
hours_said _ = None
