-- What lists, the wizards of groups and entries come to.
use Rattle.std.specs.Prelude.{◌≡◌, ◌≢◌, ℕ, true, false, List, Option, Some, ◌⊎◌, IsTrue}
use Rattle.fw_types.specs.Name.{is_before}
use Rattle.auth_records.specs.Spelling.{Fields}
use Rattle.auth_records.specs.declared.record.Wiz.TheVariants as wizards
use Rattle.auth_events.specs.declared.denial.Denial.TheVariants.{Full, NotKept}
use Rattle.auth_events.specs.declared.entry.Entry.{Entry}
use Rattle.auth_events.specs.declared.reply.Reply.TheVariants as replies
use Rattle.auth_machine.specs.Answer.{Profile, profile_of}
use Rattle.auth_machine.specs.Powers.{is_next_seen, is_super, power_of, same_group}
use Rattle.auth_machine.specs.State.{State, record_at, session_of}
use Rattle.auth_machine.specs.declared.power.Power.{Power}
use Rattle.auth_machine.specs.declared.session.Phase.TheVariants.{In}
use Rattle.auth_machine.specs.declared.session.Session.{Session}

-- ---- lists

-- the record is there, comes after the name, and the power shows it; and so is no record whose name comes before its own
pub record IsLeastSeen (power : Power) (after : Option (List ℕ)) (records : List Fields) (f : Fields) : Type 0 where
  pub there : record_at f.name records ≡ Some f
  pub seen : IsTrue (is_next_seen power after f)
  pub least : (g : Fields) → record_at g.name records ≡ Some g → IsTrue (is_next_seen power after g) → is_before g.name f.name ≡ false

-- no record comes after the name that the power shows
abbrev pub SeesNone : Power → Option (List ℕ) → List Fields → Type 0
SeesNone power after records = (g : Fields) → record_at g.name records ≡ Some g → is_next_seen power after g ≡ false

-- a session with a power
pub record HasPower (s : State) (sid : ℕ) (power : Power) : Type 0 where
  pub session : Session
  pub there : session_of sid s.sessions ≡ Some session
  pub is : power_of s session ≡ Some power

-- what was shown is what is shown of the least record that the session's power shows after the name
pub record ShowsLeast (s : State) (sid : ℕ) (after : Option (List ℕ)) (profile : Profile) : Type 0 where
  pub power : Power
  pub has_power : HasPower s sid power
  pub f : Fields
  pub shown : profile ≡ profile_of f
  pub least : IsLeastSeen power after s.records f

-- no record comes after the name that the session's power shows
pub record ShowsNone (s : State) (sid : ℕ) (after : Option (List ℕ)) : Type 0 where
  pub power : Power
  pub has_power : HasPower s sid power
  pub none : SeesNone power after s.records

-- ---- groups

-- the session is not at the console, and this user is logged in, who is a wizard of this group
pub record IsGroupWizard (s : State) (sid : ℕ) (user : List ℕ) (group : Option (List ℕ)) : Type 0 where
  pub session : Session
  pub there : session_of sid s.sessions ≡ Some session
  pub console : session.console ≡ false
  pub phase : session.phase ≡ In user
  pub own : Fields
  pub own_there : record_at user s.records ≡ Some own
  pub wiz : own.wiz ≡ wizards.Group
  pub group_is : own.group ≡ group

-- the record of another group or of none, or that of a wizard over all
abbrev pub IsOutOfReach : Option (List ℕ) → Fields → Type 0
IsOutOfReach group f = (same_group group f.group ≡ false) ⊎ (is_super f.wiz ≡ true)

-- a new user of this group, who is no wizard and can't log in
pub record IsNewcomer (group : Option (List ℕ)) (f : Fields) : Type 0 where
  pub group_is : f.group ≡ group
  pub wiz : f.wiz ≡ wizards.None
  pub enabled : f.enabled ≡ false

-- the rank of both is the same
pub record HasRankOf (f g : Fields) : Type 0 where
  pub wiz : g.wiz ≡ f.wiz
  pub group_is : g.group ≡ f.group

-- ---- what entries say of being kept

-- the reply isn't that the history is full, and says that the entry wasn't kept exactly where it wasn't
pub record SaysIfKept (entry : Entry) : Type 0 where
  pub never_full : (limit : ℕ) → entry.reply ≢ replies.Denied (Full limit)
  pub unkept : entry.kept ≡ false → entry.reply ≡ replies.Denied NotKept
  pub says_unkept : entry.reply ≡ replies.Denied NotKept → entry.kept ≡ false
