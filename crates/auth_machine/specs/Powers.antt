-- What those who are logged in may do: operations, and requests about records.
use Rattle.std.specs.Prelude.{ℕ, Bool, true, false, not, ◌&&◌, List, ◌++◌, find, Option, Some, None, Result, Err, if◌then◌else◌}
use Rattle.std.specs.Prelude as prelude
use Rattle.std.specs.Option.{option_map}
use Rattle.std.specs.Str.{bytes_eq}
use Rattle.md5.specs.Md5.{md5}
use Rattle.fw_types.specs.declared.host.Host.{Host}
use Rattle.auth_records.specs.Spelling.{Fields, OtpFields}
use Rattle.auth_records.specs.declared.record.Proto.{Proto}
use Rattle.auth_records.specs.declared.record.Proto.TheVariants as protos
use Rattle.auth_records.specs.declared.record.Wiz.{Wiz}
use Rattle.auth_records.specs.declared.record.Wiz.TheVariants as wizards
use Rattle.auth_events.specs.Fits.{comes_after}
use Rattle.auth_events.specs.declared.denial.Denial.{Denial}
use Rattle.auth_events.specs.declared.denial.Denial.TheVariants.{NotIn, NotWizard, Exists, NoSuch, NoRule}
use Rattle.auth_events.specs.declared.request.OpService.{OpService}
use Rattle.auth_machine.specs.Answer.{Answer, profile_of}
use Rattle.auth_machine.specs.Answer.Answer.{Ok, Shown, Denied}
use Rattle.auth_machine.specs.Login.{answers_only}
use Rattle.auth_machine.specs.Operations.{operation_verdict}
use Rattle.gate_rules.specs.declared.verdict.Verdict.{Verdict}
use Rattle.gate_rules.specs.declared.verdict.Verdict.TheVariants.{Permit, Deny}
use Rattle.auth_machine.specs.Policy.{PolicyView}
use Rattle.auth_machine.specs.State.{State, Change, record_at}
use Rattle.auth_machine.specs.declared.record_change.RecordChange.TheVariants.{Put, Delete}
use Rattle.auth_machine.specs.declared.record_change.ChallengeChange.TheVariants.{Same, Free}
use Rattle.auth_machine.specs.declared.record_change.SessionChange.TheVariants.{Stay}
use Rattle.auth_machine.specs.declared.power.Power.{Power}
use Rattle.auth_machine.specs.declared.power.Power.TheVariants.{Nobody, Members, Everybody}
use Rattle.auth_machine.specs.declared.session.Phase.{Phase}
use Rattle.auth_machine.specs.declared.session.Phase.TheVariants.{Idle, Waiting, Bogus, In}
use Rattle.auth_machine.specs.declared.session.Session.{Session}

-- ---- who is logged in

-- the user's name in this phase
abbrev pub name_in_phase : Phase → Option (List ℕ)
name_in_phase (In name) = Some name
name_in_phase Idle = None
name_in_phase Bogus = None
name_in_phase (Waiting name) = None

abbrev pub record_of : Option (List ℕ) → List Fields → Option Fields
record_of None records = None
record_of (Some name) records = record_at name records

-- the record of the user who is logged in, while it is there
abbrev pub user_of : State → Session → Option Fields
user_of s session = record_of (name_in_phase session.phase) s.records

-- ---- Operation

abbrev pub operation_answer : Verdict → Answer
operation_answer (Permit line) = Ok
operation_answer (Deny line) = Denied (NoRule line)

abbrev pub operation_by : PolicyView → ℕ → OpService → Host → Option Fields → Change
operation_by policy moment service host None = answers_only (Denied NotIn)
operation_by policy moment service host (Some user) = answers_only (operation_answer (operation_verdict policy.operations user.name user.group service host moment))

unfoldable pub asks_operation : PolicyView → State → Session → OpService → Host → Change
asks_operation policy s session service host = operation_by policy s.moment service host (user_of s session)

-- ---- power

abbrev pub wizard_power : Wiz → Option (List ℕ) → Power
wizard_power wizards.None group = Nobody
wizard_power wizards.Group group = Members group
wizard_power wizards.Super group = Everybody

-- the power of a session, or none where nobody is logged in; at the console it is over all
abbrev pub power_of : State → Session → Option Power
power_of s session =
    if session.console then Some Everybody else option_map (λ user. wizard_power user.wiz user.group) (user_of s session)

-- one and the same group; to have none is no group
abbrev pub same_group : Option (List ℕ) → Option (List ℕ) → Bool
same_group (Some one) (Some other) = bytes_eq one other
same_group (Some one) None = false
same_group None other = false

abbrev pub is_super : Wiz → Bool
is_super wizards.Super = true
is_super wizards.Group = false
is_super wizards.None = false

-- the power to list the record
abbrev pub sees : Power → Fields → Bool
sees Nobody f = false
sees (Members group) f = same_group group f.group
sees Everybody f = true

-- the power over the record: a group's wizard has none over those who have it over all
abbrev pub covers : Power → Fields → Bool
covers Nobody f = false
covers (Members group) f = same_group group f.group && not (is_super f.wiz)
covers Everybody f = true

-- the power over all, or none
abbrev pub over_all : Power → Power
over_all Everybody = Everybody
over_all (Members group) = Nobody
over_all Nobody = Nobody

-- ---- requests about one record

-- the record that may be changed, or why it may not, by the refusals in their order
abbrev pub reachable : Option Power → Option Fields → Result Fields Denial
reachable None target = Err NotIn
reachable (Some Nobody) target = Err NotWizard
reachable (Some (Members group)) None = Err NoSuch
reachable (Some Everybody) None = Err NoSuch
reachable (Some (Members group)) (Some f) = if covers (Members group) f then prelude.Ok f else Err NotWizard
reachable (Some Everybody) (Some f) = prelude.Ok f

abbrev pub done_with : Result Fields Denial → (Fields → Change) → Change
done_with (Err denial) act = answers_only (Denied denial)
done_with (prelude.Ok f) act = act f

-- the name is that of the user who is logged in
abbrev pub is_name_in : Phase → List ℕ → Bool
is_name_in (In one) name = bytes_eq one name
is_name_in Idle name = false
is_name_in Bogus name = false
is_name_in (Waiting one) name = false

-- users have all power over their own record
abbrev pub own_power : State → Session → List ℕ → Option Power
own_power s session name =
    if is_name_in session.phase name then option_map (λ power. Everybody) (power_of s session) else power_of s session

-- what a wizard, a user or a wizard over all does with the record of this name
abbrev pub by_wizard : State → Session → List ℕ → (Fields → Change) → Change
by_wizard s session name act = done_with (reachable (power_of s session) (record_at name s.records)) act

abbrev pub by_user : State → Session → List ℕ → (Fields → Change) → Change
by_user s session name act = done_with (reachable (own_power s session name) (record_at name s.records)) act

abbrev pub by_super : State → Session → List ℕ → (Fields → Change) → Change
by_super s session name act = done_with (reachable (option_map over_all (power_of s session)) (record_at name s.records)) act

-- the record becomes this one
abbrev pub stores : Fields → Change
stores f = record { answer = Ok; records = Put f; session = Stay; challenge = Same }

-- the record is gone, and so is the challenge of its name
abbrev pub deletes : Fields → Change
deletes f = record { answer = Ok; records = Delete f.name; session = Stay; challenge = Free f.name }

abbrev pub shows : Fields → Change
shows f = answers_only (Shown (profile_of f))

abbrev pub enabled : Fields → Fields
enabled f = record f { enabled = true; fails = 0 }

abbrev pub disabled : Fields → Fields
disabled f = record f { enabled = false }

abbrev pub with_group : Option (List ℕ) → Fields → Fields
with_group group f = record f { group = group }

abbrev pub with_proto : Proto → Fields → Fields
with_proto proto f = record f { proto = proto }

abbrev pub with_password : List ℕ → List ℕ → Fields → Fields
with_password salt hash f = record f { plain = Some (record { salt = salt; hash = md5 (salt ++ hash) }) }

abbrev pub with_otp : OtpFields → Fields → Fields
with_otp otp f = record f { otp = Some otp }

abbrev pub with_wiz : Wiz → Fields → Fields
with_wiz wiz f = record f { wiz = wiz }

-- the moment from which the user can't log in, or 0 for never
abbrev pub with_expiry : ℕ → Fields → Fields
with_expiry until f = record f { expires = until }

-- ---- Adduser

-- a new user of this name, who can't log in yet
abbrev pub new_user : List ℕ → List ℕ → Option (List ℕ) → Fields
new_user name long group = record {
  name = name;
  long = long;
  group = group;
  proto = protos.None;
  enabled = false;
  wiz = wizards.None;
  fails = 0;
  since = 0;
  last = 0;
  expires = 0;
  plain = None;
  otp = None;
}

abbrev pub adds_to : Option (List ℕ) → List ℕ → List ℕ → Option Fields → Change
adds_to group name long (Some f) = answers_only (Denied Exists)
adds_to group name long None = stores (new_user name long group)

-- a group's wizard adds to the group
abbrev pub adds : Option Power → List ℕ → List ℕ → Option Fields → Change
adds None name long target = answers_only (Denied NotIn)
adds (Some Nobody) name long target = answers_only (Denied NotWizard)
adds (Some (Members group)) name long target = adds_to group name long target
adds (Some Everybody) name long target = adds_to None name long target

unfoldable pub add_user : State → Session → List ℕ → List ℕ → Change
add_user s session name long = adds (power_of s session) name long (record_at name s.records)

-- ---- List

-- the record comes after the name and the power shows it
abbrev pub is_next_seen : Power → Option (List ℕ) → Fields → Bool
is_next_seen power after f = comes_after after f.name && sees power f

abbrev pub shows_some : Option Fields → Change
shows_some None = answers_only (Denied NoSuch)
shows_some (Some f) = shows f

abbrev pub lists : Option Power → Option (List ℕ) → List Fields → Change
lists None after records = answers_only (Denied NotIn)
lists (Some Nobody) after records = answers_only (Denied NotWizard)
lists (Some (Members group)) after records = shows_some (find (is_next_seen (Members group) after) records)
lists (Some Everybody) after records = shows_some (find (is_next_seen Everybody after) records)

-- the records stand in the order of their names, so the first is the least
unfoldable pub list : State → Session → Option (List ℕ) → Change
list s session after = lists (power_of s session) after s.records
