-- The definitions on hours, computed.
use Rattle.std.proofs.Common.{◌≡◌, [], ◌∷◌, true, false, Some, None, refl}
use Rattle.std.specs.Prelude.{codes}
use Rattle.host_pattern.specs.declared.word.Word.{Word}
use Rattle.gate_rules.specs.declared.fault.Why.TheVariants.{MissingValue, BadNumber, BadWord}
use Rattle.gate_rules.specs.declared.hours.Hours.{Hours}
use Rattle.gate_rules.specs.Hours.{is_open}
use Rattle.gate_rules.specs.Times.{hours_fault, hours_said, minutes_of}

abbrev by_day : Hours
by_day = record { from = 540; to = 1020 }

abbrev by_night : Hours
by_night = record { from = 1320; to = 360 }

before_day : is_open (Some by_day) 32399 ≡ false
before_day = refl

day_begins : is_open (Some by_day) 32400 ≡ true
day_begins = refl

day_is_last_open : is_open (Some by_day) 61199 ≡ true
day_is_last_open = refl

day_ends : is_open (Some by_day) 61200 ≡ false
day_ends = refl

night_is_last_open : is_open (Some by_night) 21599 ≡ true
night_is_last_open = refl

night_ends : is_open (Some by_night) 21600 ≡ false
night_ends = refl

night_begins : is_open (Some by_night) 79200 ≡ true
night_begins = refl

-- the day after 1970-01-01, at 09:00
next_day : is_open (Some by_day) 118800 ≡ true
next_day = refl

all_day : is_open (Some record { from = 720; to = 720 }) 0 ≡ true
all_day = refl

without_hours : is_open None 0 ≡ true
without_hours = refl

nine : minutes_of (codes "0900") ≡ Some 540
nine = refl

last_minute : minutes_of (codes "2359") ≡ Some 1439
last_minute = refl

no_hour_24 : minutes_of (codes "2400") ≡ None
no_hour_24 = refl

no_minute_60 : minutes_of (codes "0960") ≡ None
no_minute_60 = refl

three_digits : minutes_of (codes "900") ≡ None
three_digits = refl

abbrev option : Word
option = record { text = codes "-hours"; quoted = false }

abbrev morning : Word
morning = record { text = codes "0900"; quoted = false }

abbrev evening : Word
evening = record { text = codes "1700"; quoted = true }

the_first_counts : hours_said (option ∷ morning ∷ evening ∷ option ∷ evening ∷ morning ∷ []) ≡ Some by_day
the_first_counts = refl

twice : hours_fault (option ∷ morning ∷ evening ∷ option ∷ evening ∷ morning ∷ []) ≡ None
twice = refl

no_second_time : hours_fault (option ∷ morning ∷ []) ≡ Some MissingValue
no_second_time = refl

no_time : hours_fault (option ∷ option ∷ []) ≡ Some BadNumber
no_time = refl

a_word_more : hours_fault (option ∷ morning ∷ evening ∷ morning ∷ []) ≡ Some BadWord
a_word_more = refl
