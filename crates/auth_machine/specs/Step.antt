-- The machine: what each request is answered, and the state that it leaves.
use Rattle.std.specs.Prelude.{ℕ, Bool, true, false, not, ◌&&◌, List, Option, Some, None, if◌then◌else◌}
use Rattle.std.specs.Str.{bytes_eq}
use Rattle.auth_records.specs.Spelling.{Fields, spelling}
use Rattle.auth_records.specs.declared.record.Wiz.TheVariants as wizards
use Rattle.auth_events.specs.declared.denial.Denial.TheVariants.{Closed, NotKept}
use Rattle.auth_events.specs.declared.request.Request.{Request}
use Rattle.auth_events.specs.declared.request.Request.TheVariants as requests
use Rattle.auth_events.specs.Port.{session_at}
use Rattle.auth_machine.specs.Answer.{Answer}
use Rattle.auth_machine.specs.Answer.Answer.{Opened, Ok, Denied}
use Rattle.auth_machine.specs.Login.{answers_only, authenticate, respond}
use Rattle.auth_machine.specs.Policy.{PolicyView}
use Rattle.auth_machine.specs.Powers.{add_user, by_super, by_user, by_wizard, deletes, disabled, enabled, list, asks_operation, shows, stores, with_expiry, with_group, with_otp, with_password, with_proto, with_wiz}
use Rattle.auth_machine.specs.declared.record_change.RecordChange.{RecordChange}
use Rattle.auth_machine.specs.State.{Change, State, at_moment, changed, record_at, session_of}
use Rattle.auth_machine.specs.declared.record_change.RecordChange.TheVariants.{Leave, Put, Delete}
use Rattle.auth_machine.specs.declared.record_change.ChallengeChange.TheVariants.{Same, Drop}
use Rattle.auth_machine.specs.declared.record_change.SessionChange.TheVariants.{Become, End}
use Rattle.auth_machine.specs.declared.session.Phase.TheVariants.{Idle}
use Rattle.auth_machine.specs.declared.session.Session.{Session}

-- the new session has the number of its place in the history
abbrev pub opens : ℕ → Bool → Change
opens place console = record {
  answer = Opened place;
  records = Leave;
  session = Become (record { sid = place; console = console; phase = Idle });
  challenge = Same;
}

-- the session and its challenge are gone
abbrev pub closes : Change
closes = record { answer = Ok; records = Leave; session = End; challenge = Drop }

-- a number that is no session's is refused
abbrev pub in_session : Option Session → (Session → Change) → Change
in_session None act = answers_only (Denied Closed)
in_session (Some session) act = act session

-- what a request for the session of this number is answered, and what it changes
abbrev pub change_of : PolicyView → State → ℕ → ℕ → Request → Change
change_of policy s place sid (requests.Open console) = opens place console
change_of policy s place sid (requests.Authenticate name) = in_session (session_of sid s.sessions) (λ session. authenticate policy s session name)
change_of policy s place sid (requests.Response hash word) = in_session (session_of sid s.sessions) (λ session. respond policy s session hash word)
change_of policy s place sid (requests.Operation service host) = in_session (session_of sid s.sessions) (λ session. asks_operation policy s session service host)
change_of policy s place sid (requests.Adduser name long) = in_session (session_of sid s.sessions) (λ session. add_user s session name long)
change_of policy s place sid (requests.Deluser name) = in_session (session_of sid s.sessions) (λ session. by_wizard s session name deletes)
change_of policy s place sid (requests.Enable name) = in_session (session_of sid s.sessions) (λ session. by_wizard s session name (λ f. stores (enabled f)))
change_of policy s place sid (requests.Disable name) = in_session (session_of sid s.sessions) (λ session. by_wizard s session name (λ f. stores (disabled f)))
change_of policy s place sid (requests.Group name group) = in_session (session_of sid s.sessions) (λ session. by_super s session name (λ f. stores (with_group group f)))
change_of policy s place sid (requests.Proto name proto) = in_session (session_of sid s.sessions) (λ session. by_wizard s session name (λ f. stores (with_proto proto f)))
change_of policy s place sid (requests.Password name salt hash) = in_session (session_of sid s.sessions) (λ session. by_user s session name (λ f. stores (with_password salt hash f)))
change_of policy s place sid (requests.Otp name number word_seed kept) = in_session (session_of sid s.sessions) (λ session. by_user s session name (λ f. stores (with_otp (record { number = number; word_seed = word_seed; kept = kept }) f)))
change_of policy s place sid (requests.Wiz name) = in_session (session_of sid s.sessions) (λ session. by_super s session name (λ f. stores (with_wiz wizards.Group f)))
change_of policy s place sid (requests.Unwiz name) = in_session (session_of sid s.sessions) (λ session. by_super s session name (λ f. stores (with_wiz wizards.None f)))
change_of policy s place sid (requests.Superwiz name) = in_session (session_of sid s.sessions) (λ session. by_super s session name (λ f. stores (with_wiz wizards.Super f)))
change_of policy s place sid (requests.Expire name until) = in_session (session_of sid s.sessions) (λ session. by_wizard s session name (λ f. stores (with_expiry until f)))
change_of policy s place sid (requests.Display name) = in_session (session_of sid s.sessions) (λ session. by_user s session name shows)
change_of policy s place sid (requests.List after) = in_session (session_of sid s.sessions) (λ session. list s session after)
change_of policy s place sid requests.Close = in_session (session_of sid s.sessions) (λ session. closes)

-- the same record, byte for byte
abbrev pub is_record : Fields → Option Fields → Bool
is_record f None = false
is_record f (Some old) = bytes_eq (spelling f) (spelling old)

-- whether a record changes, is made or is deleted
abbrev pub is_record_change : RecordChange → List Fields → Bool
is_record_change Leave records = false
is_record_change (Put f) records = not (is_record f (record_at f.name records))
is_record_change (Delete name) records = true

-- ---- the step

-- what is to be done at this moment, if it can be kept
unfoldable pub proposed : PolicyView → State → ℕ → ℕ → ℕ → Request → Change
proposed policy s place sid at request = change_of policy (at_moment at s) place sid request

-- whether the records must be kept anew
abbrev pub keeps : PolicyView → State → ℕ → ℕ → ℕ → Request → Bool
keeps policy s place sid at request = is_record_change (proposed policy s place sid at request).records s.records

-- a change of the records that isn't kept is refused
abbrev pub is_refused : PolicyView → State → ℕ → ℕ → ℕ → Request → Bool → Bool
is_refused policy s place sid at request kept = keeps policy s place sid at request && not kept

-- the answer to the request at this place, at this moment, of the session of this number
abbrev pub answer : PolicyView → State → ℕ → ℕ → ℕ → Request → Bool → Answer
answer policy s place sid at request kept =
    if is_refused policy s place sid at request kept then Denied NotKept
    else (proposed policy s place sid at request).answer

-- the state that it leaves: only the moment counts of what is refused
abbrev pub next_state : PolicyView → State → ℕ → ℕ → ℕ → Request → Bool → State
next_state policy s place sid at request kept =
    if is_refused policy s place sid at request kept then at_moment at s
    else changed (session_at request place sid) (proposed policy s place sid at request) (at_moment at s)
