-- Hours after a host list: what a word of them shows stays, whatever words follow, and times are minutes of a day.
use Rattle.std.proofs.Common.{◌≡◌, ℕ, ◌*◌, ◌+◌, ◌/◌, ◌%◌, ◌<◌, Bool, true, false, ◌&&◌, List, [], ◌∷◌, ◌++◌, length, drop, refl, sym, ap, arith, inl, inr}
use Rattle.std.specs.Prelude.{◌⊎◌, ◌==◌, nat_lt, cond, Option, Some, None, Result, Ok, Err}
use Rattle.std.specs.Option.{option_or}
use Rattle.std.proofs.lemmas.Bool.{and_parts, ltb-true}
use Rattle.std.proofs.lemmas.Option.{cond_some}
use Rattle.fw_types.specs.Number.{number_of}
use Rattle.host_pattern.specs.Pattern.{Written}
use Rattle.host_pattern.specs.declared.word.Word.{Word}
use Rattle.netperm_table.specs.declared.line.Line.{Line}
use Rattle.gate_rules.specs.declared.fault.Why.{Why}
use Rattle.gate_rules.specs.declared.fault.Why.TheVariants.{MissingValue}
use Rattle.gate_rules.specs.declared.hours.Hours.{Hours}
use Rattle.gate_rules.specs.Hours.{hours_if_read, hours_of_operation}
use Rattle.gate_rules.specs.Lists.{hosts_in, options_in, patterns_of}
use Rattle.gate_rules.specs.Operation.{hosts_and_hours, hosts_unless, read_operation}
use Rattle.gate_rules.specs.OperationHosts.{is_about_operations}
use Rattle.gate_rules.specs.Times.{hours_by, hours_fault, hours_said, minutes_at, minutes_by, minutes_of, name_fault, time_fault}
use Rattle.gate_rules.specs.Why.{is_shown}
use Rattle.gate_rules.proofs.StaysLemmas.{NoOption, SomeOption, Stays, patterns_stay, split}

-- a fault that a word shows stays one
abbrev Kept : Option Why → Option Why → Type 0
Kept first second = (why : Why) → is_shown why ≡ true → first ≡ Some why → second ≡ Some why

-- a word that is missing is no such fault
missing : (second : Option Why) → Kept (Some MissingValue) second
missing second why shown e = absurd (let same : MissingValue ≡ why = cc in let shown = rw (sym same) at shown in (cc))

or_kept : (fault first second : Option Why) → Kept first second → Kept (option_or fault first) (option_or fault second)
or_kept None first second kept why shown e = kept why shown e
or_kept (Some other) first second kept why shown e = e

-- after one word, and after two
after_one : (w : Word) (more : List Word) → Kept (option_or (name_fault w) (Some MissingValue)) (hours_fault (w ∷ more))
after_one w [] = or_kept (name_fault w) _ _ (missing _)
after_one w (a ∷ []) = or_kept (name_fault w) _ _ (missing _)
after_one w (a ∷ b ∷ more) = or_kept (name_fault w) _ _ (missing _)

after_two : (w from : Word) (more : List Word) → Kept (option_or (name_fault w) (option_or (time_fault from) (Some MissingValue))) (hours_fault (w ∷ from ∷ more))
after_two w from [] = or_kept (name_fault w) _ _ (or_kept (time_fault from) _ _ (missing _))
after_two w from (a ∷ more) = or_kept (name_fault w) _ _ (or_kept (time_fault from) _ _ (missing _))

hours_kept : (words more : List Word) → Kept (hours_fault words) (hours_fault (words ++ more))
hours_kept [] more why shown e = absurd (cc)
hours_kept (w ∷ []) more why shown e = after_one w more why shown e
hours_kept (w ∷ from ∷ []) more why shown e = after_two w from more why shown e
hours_kept (w ∷ from ∷ to ∷ words) more why shown e = or_kept (name_fault w) _ _ (or_kept (time_fault from) _ _ (or_kept (time_fault to) _ _ (hours_kept words more))) why shown e

hosts_kept : (hosts longer : Result (List Written) Why) (fault : Option Why) → Stays hosts longer → Stays (hosts_unless hosts None) (hosts_unless longer fault)
unfolding Stays
hosts_kept (Ok hosts) longer fault stays why shown e = absurd (cc)
hosts_kept (Err other) longer fault stays why shown e = let is = stays why shown (let same : other ≡ why = cc in ap Err same) in rw is refl

unless_kept : (hosts : Result (List Written) Why) (fault later : Option Why) → Kept fault later → Stays (hosts_unless hosts fault) (hosts_unless hosts later)
unfolding Stays
unless_kept (Err other) fault later kept why shown e = e
unless_kept (Ok hosts) None later kept why shown e = absurd (cc)
unless_kept (Ok hosts) (Some other) later kept why shown e = let is = kept why shown (let same : other ≡ why = cc in ap Some same) in rw is refl

pub hosts_and_hours_stay : (words more : List Word) → Stays (hosts_and_hours words) (hosts_and_hours (words ++ more))
hosts_and_hours_stay words more = by (split words more)
  where
    by : NoOption words more ⊎ SomeOption words more → Stays (hosts_and_hours words) (hosts_and_hours (words ++ more))
    by (inl rest) = rw (rest.hosts, rest.options, rest.longer) (hosts_kept (patterns_of words) (patterns_of (words ++ hosts_in more)) (hours_fault (options_in (words ++ more))) (patterns_stay words (hosts_in more)))
    by (inr rest) = rw (rest.hosts, rest.options, rest.longer) (unless_kept (patterns_of (hosts_in words)) (hours_fault (rest.first ∷ rest.others)) (hours_fault (rest.first ∷ (rest.others ++ more))) (hours_kept (rest.first ∷ rest.others) more))

-- times are minutes of a day

day_at : (clock minute : ℕ) → minutes_at clock ≡ Some minute → minute < 1440
day_at clock minute h =
    let read = cond_some (nat_lt (clock / 100) 24 && nat_lt (clock % 100) 60) (clock / 100 * 60 + clock % 100) minute h in
    let tests = and_parts _ _ read.0 in
    let hour : clock / 100 < 24 = ltb-true _ _ tests.0 in
    let within : clock % 100 < 60 = ltb-true _ _ tests.1 in
    omega (arith, read.1)

day_by : (clock : Option ℕ) (minute : ℕ) → minutes_by clock ≡ Some minute → minute < 1440
day_by None minute h = absurd (cc)
day_by (Some clock) minute h = day_at clock minute h

day_of : (text : List ℕ) (minute : ℕ) → minutes_of text ≡ Some minute → minute < 1440
day_of text minute h = by (length text == 4) h
  where
    by : (four : Bool) → cond four (minutes_by (number_of text)) None ≡ Some minute → minute < 1440
    by true e = day_by (number_of text) minute e
    by false e = absurd (cc)

hours_are : (from to : Option ℕ) (hours : Hours) → hours_by from to ≡ Some hours → (from ≡ Some hours.from) × (to ≡ Some hours.to)
hours_are (Some from) (Some to) hours h =
    let same : record { from = from; to = to } ≡ hours = cc in
    (ap (λ (one : Hours). Some one.from) same, ap (λ (one : Hours). Some one.to) same)
hours_are None to hours h = absurd (cc)
hours_are (Some from) None hours h = absurd (cc)

said_of_day : (words : List Word) (hours : Hours) → hours_said words ≡ Some hours → (hours.from < 1440) × (hours.to < 1440)
said_of_day [] hours h = absurd (cc)
said_of_day (w ∷ []) hours h = absurd (cc)
said_of_day (w ∷ from ∷ []) hours h = absurd (cc)
said_of_day (w ∷ from ∷ to ∷ words) hours h =
    let are = hours_are (minutes_of from.text) (minutes_of to.text) hours h in
    (day_of from.text hours.from are.0, day_of to.text hours.to are.1)

read_of_day : (hosts : Result (List Written) Why) (words : List Word) (hours : Hours) → hours_if_read hosts words ≡ Some hours → (hours.from < 1440) × (hours.to < 1440)
read_of_day (Err why) words hours h = absurd (cc)
read_of_day (Ok hosts) words hours h = said_of_day (options_in (drop 3 words)) hours h

pub of_day : (line : Line) (hours : Hours) → hours_of_operation line ≡ Some hours → (hours.from < 1440) × (hours.to < 1440)
unfolding hours_of_operation
of_day line hours h = by (is_about_operations line) h
  where
    by : (about : Bool) → cond about (hours_if_read (read_operation line.words) line.words) None ≡ Some hours → (hours.from < 1440) × (hours.to < 1440)
    by true e = read_of_day (read_operation line.words) line.words hours e
    by false e = absurd (cc)
