-- What the machine knows, and what a change leaves of it.
use Rattle.std.specs.Prelude.{ℕ, max, not, ◌==◌, List, [], ◌∷◌, ◌++◌, find, filter, Option}
use Rattle.std.specs.Str.{bytes_eq}
use Rattle.fw_types.specs.Keyed.{placed, under, without}
use Rattle.auth_records.specs.Spelling.{Fields}
use Rattle.auth_machine.specs.Answer.{Answer}
use Rattle.auth_machine.specs.declared.record_change.RecordChange.{RecordChange}
use Rattle.auth_machine.specs.declared.record_change.RecordChange.TheVariants.{Leave, Put, Delete}
use Rattle.auth_machine.specs.declared.record_change.ChallengeChange.{ChallengeChange}
use Rattle.auth_machine.specs.declared.record_change.ChallengeChange.TheVariants.{Same, Drop, Take, Free}
use Rattle.auth_machine.specs.declared.record_change.SessionChange.{SessionChange}
use Rattle.auth_machine.specs.declared.record_change.SessionChange.TheVariants.{Stay, Become, End}
use Rattle.auth_machine.specs.declared.session.Challenge.{Challenge}
use Rattle.auth_machine.specs.declared.session.Session.{Session}

-- The records, one for each name, in the order of the names; the sessions, one for each number; the challenges, one for
-- each name; and the moment, in seconds.
pub record State : Type 0 where
  pub records : List Fields
  pub sessions : List Session
  pub challenges : List Challenge
  pub moment : ℕ

-- at first there are these records and nothing else
abbrev pub first_state : List Fields → State
first_state records = record { records = records; sessions = []; challenges = []; moment = 0 }

-- the moment doesn't go back
abbrev pub at_moment : ℕ → State → State
at_moment at s = record s { moment = max s.moment at }

-- ---- what stands under a name or a number

abbrev pub record_name : Fields → List ℕ
record_name f = f.name

abbrev pub record_at : List ℕ → List Fields → Option Fields
record_at name records = under record_name name records

abbrev pub session_of : ℕ → List Session → Option Session
session_of sid sessions = find (λ session. session.sid == sid) sessions

abbrev pub challenge_at : List ℕ → List Challenge → Option Challenge
challenge_at name challenges = find (λ challenge. bytes_eq challenge.name name) challenges

-- ---- changes

-- what a request is answered, and what it changes
pub record Change : Type 0 where
  pub answer : Answer
  pub records : RecordChange
  pub session : SessionChange
  pub challenge : ChallengeChange

abbrev pub records_after : RecordChange → List Fields → List Fields
records_after Leave records = records
records_after (Put f) records = placed record_name f (without record_name f.name records)
records_after (Delete name) records = without record_name name records

abbrev pub without_session : ℕ → List Session → List Session
without_session sid sessions = filter (λ session. not (session.sid == sid)) sessions

abbrev pub sessions_after : SessionChange → ℕ → List Session → List Session
sessions_after Stay sid sessions = sessions
sessions_after (Become session) sid sessions = without_session session.sid sessions ++ session ∷ []
sessions_after End sid sessions = without_session sid sessions

abbrev pub without_own : ℕ → List Challenge → List Challenge
without_own sid challenges = filter (λ challenge. not (challenge.sid == sid)) challenges

abbrev pub without_name : List ℕ → List Challenge → List Challenge
without_name name challenges = filter (λ challenge. not (bytes_eq challenge.name name)) challenges

abbrev pub challenges_after : ChallengeChange → ℕ → ℕ → List Challenge → List Challenge
challenges_after Same sid moment challenges = challenges
challenges_after Drop sid moment challenges = without_own sid challenges
challenges_after (Take name) sid moment challenges = without_name name (without_own sid challenges) ++ record { name = name; sid = sid; at = moment } ∷ []
challenges_after (Free name) sid moment challenges = without_name name challenges

-- what a change of the session of this number leaves
abbrev pub changed : ℕ → Change → State → State
changed sid change s = record { records = records_after change.records s.records; sessions = sessions_after change.session sid s.sessions; challenges = challenges_after change.challenge sid s.moment s.challenges; moment = s.moment }
