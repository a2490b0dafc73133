-- Logging in: whom a password is asked of, and whether the response is right.
use Rattle.std.specs.Prelude.{ℕ, ◌+◌, ◌-◌, ◌^◌, min, Bool, false, not, ◌&&◌, ◌||◌, ◌==◌, nat_le, nat_lt, List, ◌++◌, Option, Some, None, is_some, if◌then◌else◌}
use Rattle.std.specs.Option.{is_none}
use Rattle.std.specs.Str.{bytes_eq}
use Rattle.md5.specs.Md5.{md5}
use Rattle.auth_records.specs.Spelling.{Fields, OtpFields}
use Rattle.auth_records.specs.declared.record.Plain.{Plain}
use Rattle.auth_records.specs.declared.record.Proto.{Proto}
use Rattle.auth_records.specs.declared.record.Proto.TheVariants as protos
use Rattle.auth_events.specs.declared.denial.Denial.{Denial}
use Rattle.auth_events.specs.declared.denial.Denial.TheVariants.{Unknown, Wrong, Disabled, Expired, Sleeping, Busy, Exhausted, NoChallenge}
use Rattle.otp_md5.specs.Passwords.{next_of}
use Rattle.auth_machine.specs.Answer.{Answer}
use Rattle.auth_machine.specs.Answer.Answer.{Password, Challenged, Ok, Denied}
use Rattle.auth_machine.specs.Policy.{PolicyView}
use Rattle.auth_machine.specs.State.{State, Change, challenge_at, record_at}
use Rattle.auth_machine.specs.declared.record_change.RecordChange.TheVariants.{Leave, Put}
use Rattle.auth_machine.specs.declared.record_change.ChallengeChange.TheVariants.{Same, Drop, Take}
use Rattle.auth_machine.specs.declared.record_change.SessionChange.TheVariants.{Become, Stay}
use Rattle.auth_machine.specs.declared.session.Challenge.{Challenge}
use Rattle.auth_machine.specs.declared.session.Phase.{Phase}
use Rattle.auth_machine.specs.declared.session.Phase.TheVariants.{Idle, Waiting, Bogus, In}
use Rattle.auth_machine.specs.declared.session.Session.{Session}

-- so many seconds later; a sum of moments stops at the greatest number of 64 bits
abbrev pub later : ℕ → ℕ → ℕ
later at seconds = min (at + seconds) (2 ^ 64 - 1)

-- ---- whether a record can be used

-- the password that the record's protocol asks for is set
abbrev pub has_password : Proto → Fields → Bool
has_password protos.None f = false
has_password protos.Plain f = is_some f.plain
has_password protos.Otp f = is_some f.otp

-- the record isn't enabled, or has no password of its protocol, or had five wrong responses in a row and no line `badsleep`
-- says how long it sleeps then
abbrev pub is_disabled : Option ℕ → Fields → Bool
is_disabled bad_sleep f = not f.enabled || not (has_password f.proto f) || (f.fails == 5 && is_none bad_sleep)

-- the moment from which the record can't be used has come; 0 is no such moment
abbrev pub has_expired : ℕ → Fields → Bool
has_expired moment f = not (f.expires == 0) && nat_le f.expires moment

-- where a line `badsleep` stands, a record sleeps so long from the fifth wrong response in a row on, and with 0 it doesn't
abbrev pub asleep : Option ℕ → ℕ → Fields → Option Denial
asleep None moment f = None
asleep (Some seconds) moment f =
    if f.fails == 5 && (nat_lt 0 seconds && nat_lt moment (later f.since seconds)) then Some (Sleeping (later f.since seconds)) else None

-- why the record can't be used now, if so. Kept by `Book::ask` (`asked`), through `IsLegal`; body: src/login.rt. That a
-- lock holds is the law `a_lock_holds`, and that what has expired stays so is the law `an_expiry_holds`.
abbrev pub refusal : PolicyView → ℕ → Fields → Option Denial
refusal policy moment f =
    if is_disabled policy.bad_sleep f then Some Disabled
    else if has_expired moment f then Some (Expired f.expires)
    else asleep policy.bad_sleep moment f

-- ---- answers of a session, and the phase that it is in then

abbrev pub in_phase : Phase → Session → Session
in_phase phase session = record { sid = session.sid; console = session.console; phase = phase }

-- this answer alone
abbrev pub answers_only : Answer → Change
answers_only answer = record { answer = answer; records = Leave; session = Stay; challenge = Same }

-- this answer and phase
abbrev pub turns : Session → Answer → Phase → Change
turns session answer phase = record { answer = answer; records = Leave; session = Become (in_phase phase session); challenge = Same }

-- this answer and phase, and the session's challenge is dropped
abbrev pub drops : Session → Answer → Phase → Change
drops session answer phase = record { answer = answer; records = Leave; session = Become (in_phase phase session); challenge = Drop }

-- the same, and the record becomes this one
abbrev pub settles : Session → Answer → Phase → Fields → Change
settles session answer phase f = record { answer = answer; records = Put f; session = Become (in_phase phase session); challenge = Drop }

-- a refusal drops the session's challenge and leaves it idle
abbrev pub unless_refused : Session → Option Denial → Change → Change
unless_refused session (Some denial) change = drops session (Denied denial) Idle
unless_refused session None change = change

-- ---- Authenticate

-- why another session's challenge stands in the way, if so: for 60 seconds it does. RFC 2289, 9.0, asks for such a guard,
-- and the time is this project's own.
abbrev pub guarded : Option Challenge → ℕ → ℕ → Option Denial
guarded None sid moment = None
guarded (Some challenge) sid moment =
    if not (challenge.sid == sid) && nat_lt moment (later challenge.at 60) then Some (Busy challenge.sid (later challenge.at 60)) else None

-- the one-time password before the one that was accepted last is asked for
abbrev pub challenges : Session → List ℕ → OtpFields → Change
challenges session name otp = record {
  answer = Challenged (otp.number - 1) otp.word_seed;
  records = Leave;
  session = Become (in_phase (Waiting name) session);
  challenge = Take name;
}

abbrev pub asks_word : State → Session → List ℕ → OtpFields → Change
asks_word s session name otp =
    if otp.number == 0 then drops session (Denied Exhausted) Idle
    else unless_refused session (guarded (challenge_at name s.challenges) session.sid s.moment) (challenges session name otp)

-- the password of the record's protocol is asked for; a record without it was refused before
abbrev pub asks : State → Session → List ℕ → Proto → Option OtpFields → Change
asks s session name protos.Plain otp = drops session Password (Waiting name)
asks s session name protos.Otp (Some otp) = asks_word s session name otp
asks s session name protos.Otp None = drops session (Denied Disabled) Idle
asks s session name protos.None otp = drops session (Denied Disabled) Idle

abbrev pub authenticate_as : PolicyView → State → Session → List ℕ → Option Fields → Change
authenticate_as policy s session name None =
    if policy.no_bogus then drops session (Denied Unknown) Idle else drops session Password Bogus
authenticate_as policy s session name (Some f) =
    unless_refused session (refusal policy s.moment f) (asks s session name f.proto f.otp)

unfoldable pub authenticate : PolicyView → State → Session → List ℕ → Change
authenticate policy s session name = authenticate_as policy s session name (record_at name s.records)

-- ---- Response

-- wrong responses in a row, after one more: after the fifth they are counted from 1 again
abbrev pub one_more : ℕ → ℕ
one_more fails = if fails == 5 then 1 else fails + 1

-- the record after a wrong response: the fifth in a row sets the moment from which it sleeps. Kept by `Book::ask`
-- (`asked`), through `IsLegal`; body: src/response.rt.
abbrev pub failed : ℕ → Fields → Fields
failed moment f = record f { fails = one_more f.fails; since = if one_more f.fails == 5 then moment else f.since }

-- the record after the right plain password, at this moment
abbrev pub logged_in : ℕ → Fields → Fields
logged_in moment f = record f { fails = 0; last = moment }

-- the record after the right one-time password: the count falls by one, and this password is kept (RFC 2289, 7.0)
abbrev pub lowered : OtpFields → ℕ → OtpFields
lowered otp word = record otp { number = otp.number - 1; kept = word }

abbrev pub used : ℕ → Fields → OtpFields → ℕ → Fields
used moment f otp word = record f { fails = 0; last = moment; otp = Some (lowered otp word) }

abbrev pub wrong : State → Session → Fields → Change
wrong s session f = settles session (Denied Wrong) Idle (failed s.moment f)

abbrev pub right : Session → List ℕ → Fields → Change
right session name f = settles session Ok (In name) f

-- the digest of the response behind the salt is the kept one
abbrev pub is_password : List ℕ → Plain → Bool
is_password hash plain = bytes_eq (md5 (plain.salt ++ hash)) plain.hash

abbrev pub checks_plain : State → Session → List ℕ → Fields → List ℕ → Option Plain → Change
checks_plain s session name f hash None = drops session (Denied Disabled) Idle
checks_plain s session name f hash (Some plain) =
    if is_password hash plain then right session name (logged_in s.moment f) else wrong s session f

-- the response is a password, whose next one is the kept one (RFC 2289, 7.0)
abbrev pub checks_word : State → Session → List ℕ → Fields → OtpFields → Option ℕ → Change
checks_word s session name f otp None = wrong s session f
checks_word s session name f otp (Some word) =
    if next_of word == otp.kept then right session name (used s.moment f otp word) else wrong s session f

-- the challenge is the session's
abbrev pub is_own_challenge : Option Challenge → ℕ → Bool
is_own_challenge None sid = false
is_own_challenge (Some challenge) sid = challenge.sid == sid

abbrev pub checks_otp : State → Session → List ℕ → Fields → Option ℕ → Option OtpFields → Change
checks_otp s session name f word None = drops session (Denied Disabled) Idle
checks_otp s session name f word (Some otp) =
    if not (is_own_challenge (challenge_at name s.challenges) session.sid) then turns session (Denied NoChallenge) Idle
    else if otp.number == 0 then drops session (Denied Exhausted) Idle
    else checks_word s session name f otp word

-- the response is compared with the password of the record's protocol; a record without it was refused before
abbrev pub checks : State → Session → List ℕ → Fields → List ℕ → Option ℕ → Proto → Change
checks s session name f hash word protos.Plain = checks_plain s session name f hash f.plain
checks s session name f hash word protos.Otp = checks_otp s session name f word f.otp
checks s session name f hash word protos.None = drops session (Denied Disabled) Idle

abbrev pub respond_as : PolicyView → State → Session → List ℕ → List ℕ → Option ℕ → Option Fields → Change
respond_as policy s session name hash word None = turns session (Denied Wrong) Idle
respond_as policy s session name hash word (Some f) =
    unless_refused session (refusal policy s.moment f) (checks s session name f hash word f.proto)

abbrev pub respond_in : PolicyView → State → Session → List ℕ → Option ℕ → Phase → Change
respond_in policy s session hash word Idle = answers_only (Denied NoChallenge)
respond_in policy s session hash word (In name) = answers_only (Denied NoChallenge)
respond_in policy s session hash word Bogus = turns session (Denied Wrong) Idle
respond_in policy s session hash word (Waiting name) = respond_as policy s session name hash word (record_at name s.records)

unfoldable pub respond : PolicyView → State → Session → List ℕ → Option ℕ → Change
respond policy s session hash word = respond_in policy s session hash word session.phase
