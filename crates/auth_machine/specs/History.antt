-- Histories: which are legal, and what they leave.
use Rattle.std.specs.Prelude.{◌≡◌, ℕ, suc, ◌+◌, ◌-◌, ◌^◌, ◌<◌, ◌≤◌, min, true, false, All, List, [], ◌∷◌, length, option_map, IfSome, Ok, if◌then◌else◌}
use Rattle.fw_outside.specs.FilesView.{bytes_under}
use Rattle.fw_outside.specs.KeeperView.{NamedBytes, KeeperView}
use Rattle.fw_types.specs.Keyed.{Ascends}
use Rattle.auth_records.specs.Reading.{decoded}
use Rattle.auth_records.specs.Spelling.{Fields, HasForm}
use Rattle.auth_events.specs.Port.{session_at}
use Rattle.auth_events.specs.declared.entry.Entry.{Entry}
use Rattle.auth_machine.specs.Answer.{answer_of}
use Rattle.auth_machine.specs.Policy.{PolicyView}
use Rattle.auth_machine.specs.State.{State, first_state, record_at, record_name}
use Rattle.auth_machine.specs.Step.{answer, keeps, next_state}

-- what a history stands on: the policy and the records that were loaded
pub record Origin : Type 0 where
  pub policy : PolicyView
  pub records : List Fields

-- the records that were loaded stand in the order of their names, each name once, and each has the form of a record
pub record IsSound (origin : Origin) : Type 0 where
  pub ordered : Ascends record_name origin.records
  pub formed : All HasForm origin.records

-- the state after one entry, and after several, the first of which has this place
abbrev pub after_entry : PolicyView → State → ℕ → Entry → State
after_entry policy s place entry = next_state policy s place entry.sid entry.at entry.request entry.kept

abbrev pub after_entries : PolicyView → State → ℕ → List Entry → State
after_entries policy s place [] = s
after_entries policy s place (entry ∷ entries) = after_entries policy (after_entry policy s place entry) (suc place) entries

-- the state after a history
abbrev pub after : Origin → List Entry → State
after origin history = after_entries origin.policy (first_state origin.records) 0 history

-- the entry is the machine's step: its reply is the machine's, it is not kept only where the records had to be kept, and
-- a session's number is the place of the entry that opened it
pub record IsStep (policy : PolicyView) (s : State) (place : ℕ) (entry : Entry) : Type 0 where
  pub reply : answer_of entry.reply ≡ answer policy s place entry.sid entry.at entry.request entry.kept
  pub kept : keeps policy s place entry.sid entry.at entry.request ≡ false → entry.kept ≡ true
  pub sid : session_at entry.request place entry.sid ≡ entry.sid

abbrev pub AreSteps : PolicyView → State → ℕ → List Entry → Type 0
AreSteps policy s place [] = Unit {0}
AreSteps policy s place (entry ∷ entries) = IsStep policy s place entry × AreSteps policy (after_entry policy s place entry) (suc place) entries

-- a history of one thread that the machine can have
abbrev pub IsLegal : Origin → List Entry → Type 0
IsLegal origin history = AreSteps origin.policy (first_state origin.records) 0 history

-- how many of these entries change, make or delete a record; the first of them has this place
abbrev pub edits_from : PolicyView → State → ℕ → List Entry → ℕ
edits_from policy s place [] = 0
edits_from policy s place (entry ∷ entries) =
    (if keeps policy s place entry.sid entry.at entry.request then 1 else 0) + edits_from policy (after_entry policy s place entry) (suc place) entries

-- the same of a history
abbrev pub edits : Origin → List Entry → ℕ
edits origin history = edits_from origin.policy (first_state origin.records) 0 history

-- ---- what is kept

-- under the name of each record stand bytes that decode to it, and under any other name nothing
abbrev pub DecodesTo : List Fields → NamedBytes → Type 0
DecodesTo records table = (name : List ℕ) → option_map decoded (bytes_under table name) ≡ option_map Ok (record_at name records)

-- the keeper has exactly the records after the history, where it tells
abbrev pub HasRecords : Origin → List Entry → KeeperView → Type 0
HasRecords origin history keeper = IfSome keeper.table (DecodesTo (after origin history).records)

-- how many entries were not kept
abbrev pub unkept : List Entry → ℕ
unkept [] = 0
unkept (entry ∷ entries) = (if entry.kept then 0 else 1) + unkept entries

-- besides the failures that it had counted before, the keeper has counted one for each entry that was not kept, unless
-- its count is at its last value
abbrev pub CountsUnkept : ℕ → List Entry → KeeperView → Type 0
CountsUnkept before history keeper = min (before + unkept history) (2 ^ 64 - 1) ≤ keeper.faults

-- besides the calls that it had counted before, the keeper has counted as many as there are entries that change, make or
-- delete a record, unless its count is at its last value; and at most as many more as there were requests without an entry.
-- So where each request has its entry, the number is exact. Of 2 ^ 64 - 1 requests or more the second isn't said.
pub record CountsCalls (before : ℕ) (origin : Origin) (history : List Entry) (asks : ℕ) (keeper : KeeperView) : Type 0 where
  pub least : min (before + edits origin history) (2 ^ 64 - 1) ≤ keeper.calls
  pub most : asks < 2 ^ 64 - 1 → keeper.calls + length history ≤ before + edits origin history + asks
