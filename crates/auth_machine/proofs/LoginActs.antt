-- What a login can change, case by case.
use Rattle.std.proofs.Common.{◌≡◌, ◌≢◌, ℕ, Bool, true, false, cond, not, List, Option, Some, None, nat_eq, refl}
use Rattle.std.proofs.lemmas.Bool.{eqb-true}
use Rattle.auth_records.specs.Spelling.{Fields, OtpFields}
use Rattle.auth_records.specs.declared.record.Plain.{Plain}
use Rattle.auth_records.specs.declared.record.Proto.{Proto}
use Rattle.auth_records.specs.declared.record.Proto.TheVariants as protos
use Rattle.auth_events.specs.declared.denial.Denial.{Denial}
use Rattle.auth_events.specs.declared.denial.Denial.TheVariants as denials
use Rattle.otp_md5.specs.Passwords.{next_of}
use Rattle.auth_machine.specs.Answer.Answer.{Denied, Password}
use Rattle.auth_machine.specs.Login.{answers_only, asks, asks_word, authenticate, authenticate_as, challenges, checks, checks_otp, checks_plain, checks_word, drops, guarded, is_own_challenge, is_password, logged_in, refusal, respond, respond_as, respond_in, right, turns, unless_refused, used, wrong}
use Rattle.auth_machine.specs.Policy.{PolicyView}
use Rattle.auth_machine.specs.State.{State, Change, challenge_at, record_at}
use Rattle.auth_machine.specs.declared.session.Phase.{Phase}
use Rattle.auth_machine.specs.declared.session.Phase.TheVariants.{Idle, Waiting, Bogus, In}
use Rattle.auth_machine.specs.declared.session.Session.{Session}

-- ---- Authenticate

pub data Asks (policy : PolicyView) (s : State) (session : Session) (name : List ℕ) : Change → Type 0 where
  asks_denied : (d : Denial) → Asks policy s session name (drops session (Denied d) Idle)
  asks_nobody : Asks policy s session name (drops session Password Bogus)
  asks_password : Asks policy s session name (drops session Password (Waiting name))
  asks_a_word : (otp : OtpFields) → Asks policy s session name (challenges session name otp)

module _ (policy : PolicyView) (s : State) (session : Session) (name : List ℕ) where
  either_asks : (b : Bool) (x y : Change) → Asks policy s session name x → Asks policy s session name y → Asks policy s session name (cond b x y)
  either_asks true x y hx hy = hx
  either_asks false x y hx hy = hy

  unless_asks : (d : Option Denial) (x : Change) → Asks policy s session name x → Asks policy s session name (unless_refused session d x)
  unless_asks None x h = h
  unless_asks (Some d) x h = asks_denied d

  of_asks_word : (otp : OtpFields) → Asks policy s session name (asks_word s session name otp)
  of_asks_word otp = either_asks _ _ _ (asks_denied denials.Exhausted) (unless_asks (guarded (challenge_at name s.challenges) session.sid s.moment) _ (asks_a_word otp))

  of_asks : (proto : Proto) (otp : Option OtpFields) → Asks policy s session name (asks s session name proto otp)
  of_asks protos.Plain otp = asks_password
  of_asks protos.Otp (Some otp) = of_asks_word otp
  of_asks protos.Otp None = asks_denied denials.Disabled
  of_asks protos.None otp = asks_denied denials.Disabled

  of_authenticate_as : (r : Option Fields) → Asks policy s session name (authenticate_as policy s session name r)
  of_authenticate_as None = either_asks policy.no_bogus _ _ (asks_denied denials.Unknown) asks_nobody
  of_authenticate_as (Some f) = unless_asks (refusal policy s.moment f) _ (of_asks f.proto f.otp)

  pub of_authenticate : Asks policy s session name (authenticate policy s session name)
  unfolding authenticate
  of_authenticate = of_authenticate_as (record_at name s.records)

-- ---- Response

-- the session waits for a user whose record can be used
pub record Awaits (policy : PolicyView) (s : State) (session : Session) (name : List ℕ) (f : Fields) : Type 0 where
  pub phase : session.phase ≡ Waiting name
  pub there : record_at name s.records ≡ Some f
  pub usable : refusal policy s.moment f ≡ None

-- the session asked for no user, or for one
abbrev pub NotIn : Phase → Type 0
NotIn phase = (name : List ℕ) → phase ≢ In name

-- the word is the next of the chain
pub record IsWord (f : Fields) (otp : OtpFields) (word : ℕ) : Type 0 where
  pub proto : f.proto ≡ protos.Otp
  pub otp_is : f.otp ≡ Some otp
  pub left : nat_eq otp.number 0 ≡ false
  pub chained : next_of word ≡ otp.kept

pub data Responds (policy : PolicyView) (s : State) (session : Session) (word : Option ℕ) : Change → Type 0 where
  stays : Responds policy s session word (answers_only (Denied denials.NoChallenge))
  turned_down : (d : Denial) → NotIn session.phase → Responds policy s session word (turns session (Denied d) Idle)
  dropped : (d : Denial) → NotIn session.phase → Responds policy s session word (drops session (Denied d) Idle)
  wrong_one : (name : List ℕ) (f : Fields) → Awaits policy s session name f → Responds policy s session word (wrong s session f)
  right_password : (name : List ℕ) (f : Fields) → Awaits policy s session name f → f.proto ≡ protos.Plain → Responds policy s session word (right session name (logged_in s.moment f))
  right_word : (name : List ℕ) (f : Fields) (otp : OtpFields) (w : ℕ) → Awaits policy s session name f → word ≡ Some w → IsWord f otp w
      → Responds policy s session word (right session name (used s.moment f otp w))

pub waits_not_in : (phase : Phase) (name : List ℕ) → phase ≡ Waiting name → NotIn phase
waits_not_in phase name e = λ other is. absurd (cc)

module _ (policy : PolicyView) (s : State) (session : Session) (hash : List ℕ) (word : Option ℕ) where
  either_responds : (b : Bool) (x y : Change) → (b ≡ true → Responds policy s session word x) → (b ≡ false → Responds policy s session word y) → Responds policy s session word (cond b x y)
  either_responds true x y hx hy = hx refl
  either_responds false x y hx hy = hy refl

  module _ (name : List ℕ) (f : Fields) (awaits : Awaits policy s session name f) where
    not_in : NotIn session.phase
    not_in = waits_not_in session.phase name awaits.phase

    of_checks_plain : (plain : Option Plain) → f.proto ≡ protos.Plain → Responds policy s session word (checks_plain s session name f hash plain)
    of_checks_plain None proto = dropped denials.Disabled not_in
    of_checks_plain (Some plain) proto = either_responds (is_password hash plain) _ _ (λ e. right_password name f awaits proto) (λ e. wrong_one name f awaits)

    of_checks_word : (given : Option ℕ) (otp : OtpFields) → word ≡ given → f.proto ≡ protos.Otp → f.otp ≡ Some otp → nat_eq otp.number 0 ≡ false
        → Responds policy s session word (checks_word s session name f otp given)
    of_checks_word None otp given proto is left = wrong_one name f awaits
    of_checks_word (Some w) otp given proto is left =
        either_responds (nat_eq (next_of w) otp.kept) _ _
        (λ e. right_word name f otp w awaits given (record { proto = proto; otp_is = is; left = left; chained = eqb-true (next_of w) otp.kept e }))
        (λ e. wrong_one name f awaits)

    of_checks_otp : (otp : Option OtpFields) → f.otp ≡ otp → f.proto ≡ protos.Otp → Responds policy s session word (checks_otp s session name f word otp)
    of_checks_otp None is proto = dropped denials.Disabled not_in
    of_checks_otp (Some otp) is proto =
        either_responds (not (is_own_challenge (challenge_at name s.challenges) session.sid)) _ _ (λ e. turned_down denials.NoChallenge not_in)
        (λ own. either_responds (nat_eq otp.number 0) _ _ (λ e. dropped denials.Exhausted not_in) (λ left. of_checks_word word otp refl proto is left))

    of_checks : (proto : Proto) → f.proto ≡ proto → Responds policy s session word (checks s session name f hash word proto)
    of_checks protos.Plain is = of_checks_plain f.plain is
    of_checks protos.Otp is = of_checks_otp f.otp refl is
    of_checks protos.None is = dropped denials.Disabled not_in

  of_usable : (name : List ℕ) (f : Fields) → session.phase ≡ Waiting name → record_at name s.records ≡ Some f → (d : Option Denial) → refusal policy s.moment f ≡ d
      → Responds policy s session word (unless_refused session d (checks s session name f hash word f.proto))
  of_usable name f phase there None usable = of_checks name f (record { phase = phase; there = there; usable = usable }) f.proto refl
  of_usable name f phase there (Some d) refused = dropped d (waits_not_in session.phase name phase)

  of_respond_as : (name : List ℕ) (r : Option Fields) → session.phase ≡ Waiting name → record_at name s.records ≡ r → Responds policy s session word (respond_as policy s session name hash word r)
  of_respond_as name None phase there = turned_down denials.Wrong (waits_not_in session.phase name phase)
  of_respond_as name (Some f) phase there = of_usable name f phase there (refusal policy s.moment f) refl

  of_respond_in : (phase : Phase) → session.phase ≡ phase → Responds policy s session word (respond_in policy s session hash word phase)
  of_respond_in Idle is = stays
  of_respond_in (In name) is = stays
  of_respond_in Bogus is = turned_down denials.Wrong (λ name e. absurd (cc))
  of_respond_in (Waiting name) is = of_respond_as name (record_at name s.records) is refl

  pub of_respond : Responds policy s session word (respond policy s session hash word)
  unfolding respond
  of_respond = of_respond_in session.phase refl
