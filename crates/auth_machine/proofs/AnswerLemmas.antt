-- What the machine answers by itself: never that the history is full, and never that something wasn't kept.
use Rattle.std.proofs.Common.{refl, ℕ, Bool, true, false, cond, List, Option, Some, None, Ok, Err, IfSome}
use Rattle.auth_records.specs.Spelling.{Fields, OtpFields}
use Rattle.auth_records.specs.declared.record.Plain.{Plain}
use Rattle.auth_records.specs.declared.record.Proto.{Proto}
use Rattle.auth_records.specs.declared.record.Proto.TheVariants as protos
use Rattle.auth_events.specs.declared.denial.Denial.{Denial}
use Rattle.auth_events.specs.declared.denial.Denial.TheVariants as denials
use Rattle.auth_events.specs.declared.request.OpService.{OpService}
use Rattle.fw_types.specs.declared.host.Host.{Host}
use Rattle.auth_machine.specs.Answer.{Answer}
use Rattle.auth_machine.specs.Answer.Answer.{Password, Challenged, Denied, Ok as Done}
use Rattle.auth_machine.specs.Answers.{IsOwnDenial}
use Rattle.auth_machine.specs.Login.{asks, asks_word, asleep, authenticate, authenticate_as, checks, checks_otp, checks_plain, checks_word, guarded, later, refusal, respond, respond_as, respond_in, unless_refused}
use Rattle.auth_machine.specs.Policy.{PolicyView}
use Rattle.auth_machine.specs.Powers.{add_user, adds, adds_to, operation_answer, covers, done_with, asks_operation, operation_by, reachable}
use Rattle.auth_machine.specs.State.{State, Change, challenge_at, record_at}
use Rattle.auth_machine.specs.Step.{in_session}
use Rattle.auth_machine.specs.declared.session.Challenge.{Challenge}
use Rattle.auth_machine.specs.declared.session.Phase.{Phase}
use Rattle.auth_machine.specs.declared.session.Phase.TheVariants.{Idle, Waiting, Bogus, In}
use Rattle.auth_machine.specs.declared.session.Session.{Session}
use Rattle.auth_machine.specs.declared.power.Power.{Power}
use Rattle.auth_machine.specs.declared.power.Power.TheVariants.{Nobody, Members, Everybody}
use Rattle.gate_rules.specs.declared.verdict.Verdict.{Verdict}
use Rattle.gate_rules.specs.declared.verdict.Verdict.TheVariants.{Permit, Deny}

-- ---- denials

own_if : (b : Bool) (x y : Option Denial) → IfSome x IsOwnDenial → IfSome y IsOwnDenial → IfSome (cond b x y) IsOwnDenial
own_if true x y hx hy = hx
own_if false x y hx hy = hy

own_asleep : (bad_sleep : Option ℕ) (moment : ℕ) (f : Fields) → IfSome (asleep bad_sleep moment f) IsOwnDenial
own_asleep None moment f = tt
own_asleep (Some seconds) moment f = own_if _ (Some (denials.Sleeping (later f.since seconds))) None (refl, refl) tt

pub own_refusal : (policy : PolicyView) (moment : ℕ) (f : Fields) → IfSome (refusal policy moment f) IsOwnDenial
own_refusal policy moment f =
    own_if _ (Some denials.Disabled) (cond _ (Some (denials.Expired f.expires)) (asleep policy.bad_sleep moment f)) (refl, refl)
    (own_if _ (Some (denials.Expired f.expires)) (asleep policy.bad_sleep moment f) (refl, refl) (own_asleep policy.bad_sleep moment f))

own_guarded : (standing : Option Challenge) (sid moment : ℕ) → IfSome (guarded standing sid moment) IsOwnDenial
own_guarded None sid moment = tt
own_guarded (Some challenge) sid moment = own_if _ (Some (denials.Busy challenge.sid (later challenge.at 60))) None (refl, refl) tt

-- ---- answers of which something holds that holds of each such denial

module _ (P : Answer → Type 0) (denied : (d : Denial) → IsOwnDenial d → P (Denied d)) where
  either : (b : Bool) (x y : Change) → P x.answer → P y.answer → P (cond b x y).answer
  either true x y hx hy = hx
  either false x y hx hy = hy

  refused_or : (session : Session) (d : Option Denial) (change : Change) → IfSome d IsOwnDenial → P change.answer → P (unless_refused session d change).answer
  refused_or session None change own h = h
  refused_or session (Some d) change own h = denied d own

  -- ---- Authenticate

  of_asks_word : P Password → ((n : ℕ) (word_seed : List ℕ) → P (Challenged n word_seed)) → (s : State) (session : Session) (name : List ℕ) (otp : OtpFields) → P (asks_word s session name otp).answer
  of_asks_word password challenged s session name otp =
      either _ _ _ (denied denials.Exhausted (refl, refl))
      (refused_or session _ _ (own_guarded (challenge_at name s.challenges) session.sid s.moment) (challenged _ _))

  of_asks : P Password → ((n : ℕ) (word_seed : List ℕ) → P (Challenged n word_seed)) → (s : State) (session : Session) (name : List ℕ) (proto : Proto) (otp : Option OtpFields) → P (asks s session name proto otp).answer
  of_asks password challenged s session name protos.Plain otp = password
  of_asks password challenged s session name protos.Otp (Some otp) = of_asks_word password challenged s session name otp
  of_asks password challenged s session name protos.Otp None = denied denials.Disabled (refl, refl)
  of_asks password challenged s session name protos.None otp = denied denials.Disabled (refl, refl)

  of_authenticate_as : P Password → ((n : ℕ) (word_seed : List ℕ) → P (Challenged n word_seed)) → (policy : PolicyView) (s : State) (session : Session) (name : List ℕ) (r : Option Fields) → P (authenticate_as policy s session name r).answer
  of_authenticate_as password challenged policy s session name None = either _ _ _ (denied denials.Unknown (refl, refl)) password
  of_authenticate_as password challenged policy s session name (Some f) =
      refused_or session _ _ (own_refusal policy s.moment f) (of_asks password challenged s session name f.proto f.otp)

  pub of_authenticate : P Password → ((n : ℕ) (word_seed : List ℕ) → P (Challenged n word_seed)) → (policy : PolicyView) (s : State) (session : Session) (name : List ℕ) → P (authenticate policy s session name).answer
  unfolding authenticate
  of_authenticate password challenged policy s session name = of_authenticate_as password challenged policy s session name (record_at name s.records)

  -- ---- Response

  of_checks_plain : P Done → (s : State) (session : Session) (name : List ℕ) (f : Fields) (hash : List ℕ) (plain : Option Plain) → P (checks_plain s session name f hash plain).answer
  of_checks_plain done s session name f hash None = denied denials.Disabled (refl, refl)
  of_checks_plain done s session name f hash (Some plain) = either _ _ _ done (denied denials.Wrong (refl, refl))

  of_checks_word : P Done → (s : State) (session : Session) (name : List ℕ) (f : Fields) (otp : OtpFields) (word : Option ℕ) → P (checks_word s session name f otp word).answer
  of_checks_word done s session name f otp None = denied denials.Wrong (refl, refl)
  of_checks_word done s session name f otp (Some word) = either _ _ _ done (denied denials.Wrong (refl, refl))

  of_checks_otp : P Done → (s : State) (session : Session) (name : List ℕ) (f : Fields) (word : Option ℕ) (otp : Option OtpFields) → P (checks_otp s session name f word otp).answer
  of_checks_otp done s session name f word None = denied denials.Disabled (refl, refl)
  of_checks_otp done s session name f word (Some otp) =
      either _ _ _ (denied denials.NoChallenge (refl, refl)) (either _ _ _ (denied denials.Exhausted (refl, refl)) (of_checks_word done s session name f otp word))

  of_checks : P Done → (s : State) (session : Session) (name : List ℕ) (f : Fields) (hash : List ℕ) (word : Option ℕ) (proto : Proto) → P (checks s session name f hash word proto).answer
  of_checks done s session name f hash word protos.Plain = of_checks_plain done s session name f hash f.plain
  of_checks done s session name f hash word protos.Otp = of_checks_otp done s session name f word f.otp
  of_checks done s session name f hash word protos.None = denied denials.Disabled (refl, refl)

  of_respond_as : P Done → (policy : PolicyView) (s : State) (session : Session) (name hash : List ℕ) (word : Option ℕ) (r : Option Fields) → P (respond_as policy s session name hash word r).answer
  of_respond_as done policy s session name hash word None = denied denials.Wrong (refl, refl)
  of_respond_as done policy s session name hash word (Some f) =
      refused_or session _ _ (own_refusal policy s.moment f) (of_checks done s session name f hash word f.proto)

  of_respond_in : P Done → (policy : PolicyView) (s : State) (session : Session) (hash : List ℕ) (word : Option ℕ) (phase : Phase) → P (respond_in policy s session hash word phase).answer
  of_respond_in done policy s session hash word Idle = denied denials.NoChallenge (refl, refl)
  of_respond_in done policy s session hash word (In name) = denied denials.NoChallenge (refl, refl)
  of_respond_in done policy s session hash word Bogus = denied denials.Wrong (refl, refl)
  of_respond_in done policy s session hash word (Waiting name) = of_respond_as done policy s session name hash word (record_at name s.records)

  pub of_respond : P Done → (policy : PolicyView) (s : State) (session : Session) (hash : List ℕ) (word : Option ℕ) → P (respond policy s session hash word).answer
  unfolding respond
  of_respond done policy s session hash word = of_respond_in done policy s session hash word session.phase

  -- ---- the other requests

  of_allowed : P Done → (v : Verdict) → P (operation_answer v)
  of_allowed done (Permit line) = done
  of_allowed done (Deny line) = denied (denials.NoRule line) (refl, refl)

  of_operation_by : P Done → (policy : PolicyView) (moment : ℕ) (service : OpService) (host : Host) (user : Option Fields) → P (operation_by policy moment service host user).answer
  of_operation_by done policy moment service host None = denied denials.NotIn (refl, refl)
  of_operation_by done policy moment service host (Some user) = of_allowed done _

  pub of_operation : P Done → (policy : PolicyView) (s : State) (session : Session) (service : OpService) (host : Host) → P (asks_operation policy s session service host).answer
  unfolding asks_operation
  of_operation done policy s session service host = of_operation_by done policy s.moment service host _

  of_members : (act : Fields → Change) → ((f : Fields) → P (act f).answer) → (b : Bool) (f : Fields) → P (done_with (cond b (Ok f) (Err denials.NotWizard)) act).answer
  of_members act h true f = h f
  of_members act h false f = denied denials.NotWizard (refl, refl)

  pub of_reached : (act : Fields → Change) → ((f : Fields) → P (act f).answer) → (power : Option Power) (target : Option Fields) → P (done_with (reachable power target) act).answer
  of_reached act h None target = denied denials.NotIn (refl, refl)
  of_reached act h (Some Nobody) target = denied denials.NotWizard (refl, refl)
  of_reached act h (Some (Members group)) None = denied denials.NoSuch (refl, refl)
  of_reached act h (Some Everybody) None = denied denials.NoSuch (refl, refl)
  of_reached act h (Some (Members group)) (Some f) = of_members act h (covers (Members group) f) f
  of_reached act h (Some Everybody) (Some f) = h f

  of_adds_to : P Done → (group : Option (List ℕ)) (name long : List ℕ) (target : Option Fields) → P (adds_to group name long target).answer
  of_adds_to done group name long (Some f) = denied denials.Exists (refl, refl)
  of_adds_to done group name long None = done

  of_adds : P Done → (power : Option Power) (name long : List ℕ) (target : Option Fields) → P (adds power name long target).answer
  of_adds done None name long target = denied denials.NotIn (refl, refl)
  of_adds done (Some Nobody) name long target = denied denials.NotWizard (refl, refl)
  of_adds done (Some (Members group)) name long target = of_adds_to done group name long target
  of_adds done (Some Everybody) name long target = of_adds_to done None name long target

  pub of_add_user : P Done → (s : State) (session : Session) (name long : List ℕ) → P (add_user s session name long).answer
  unfolding add_user
  of_add_user done s session name long = of_adds done _ name long _

  pub of_session : (session : Option Session) (act : Session → Change) → ((session : Session) → P (act session).answer) → P (in_session session act).answer
  of_session None act h = denied denials.Closed (refl, refl)
  of_session (Some session) act h = h session
