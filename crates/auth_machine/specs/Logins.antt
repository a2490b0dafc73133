-- What entries say of logins and locks.
use Rattle.std.specs.Prelude.{◌≡◌, ℕ, ◌<◌, ◌≤◌, Bool, true, false, ◌&&◌, ◌==◌, List, ◌∷◌, ◌++◌, Option, Some, None, option_map}
use Rattle.std.specs.List.{AllByRecursion}
use Rattle.std.specs.Str.{bytes_eq}
use Rattle.auth_records.specs.Spelling.{Fields}
use Rattle.auth_events.specs.declared.denial.Denial.{Denial}
use Rattle.auth_events.specs.declared.denial.Denial.TheVariants.{Disabled, Expired, Sleeping}
use Rattle.auth_events.specs.declared.entry.Entry.{Entry}
use Rattle.auth_events.specs.declared.reply.Reply.{Reply}
use Rattle.auth_events.specs.declared.reply.Reply.TheVariants as replies
use Rattle.auth_events.specs.declared.request.Request.{Request}
use Rattle.auth_events.specs.declared.request.Request.TheVariants as requests
use Rattle.auth_machine.specs.Login.{later}
use Rattle.auth_machine.specs.Policy.{PolicyView}
use Rattle.auth_machine.specs.State.{State, record_at, session_of}
use Rattle.auth_machine.specs.declared.session.Phase.{Phase}
use Rattle.auth_machine.specs.declared.session.Phase.TheVariants.{Waiting}

-- ---- logins

-- the phase of the session of this number, where there is one
abbrev pub phase_of : ℕ → State → Option Phase
phase_of sid s = option_map (λ session. session.phase) (session_of sid s.sessions)

abbrev pub is_ok : Reply → Bool
is_ok replies.Ok = true
is_ok _ = false

abbrev pub is_naming : Request → Bool
is_naming (requests.Authenticate name) = true
is_naming _ = false

abbrev pub is_response : Request → Bool
is_response (requests.Response hash word) = true
is_response _ = false

-- what ends a login: to name a user anew, and to close the session
abbrev pub is_end : Request → Bool
is_end (requests.Authenticate name) = true
is_end requests.Close = true
is_end _ = false

-- a request of the session of this number that is of this kind
abbrev pub is_own_request : ℕ → (Request → Bool) → Entry → Bool
is_own_request sid is_kind entry = entry.sid == sid && is_kind entry.request

abbrev pub HasNone : ℕ → (Request → Bool) → List Entry → Type 0
HasNone sid is_kind entries = AllByRecursion (λ entry. is_own_request sid is_kind entry ≡ false) entries

-- the session names this user
abbrev pub IsNaming : ℕ → List ℕ → Entry → Type 0
IsNaming sid name entry = (entry.sid ≡ sid) × (entry.request ≡ requests.Authenticate name)

-- a response of the session was answered Ok
abbrev pub IsLogin : ℕ → Entry → Type 0
IsLogin sid entry = (entry.sid ≡ sid) × (is_response entry.request ≡ true) × (entry.reply ≡ replies.Ok)

-- A login stands for the session as this user: a response of the session was answered Ok, the user whom it had named last
-- before is this one, and after it the session names nobody and isn't closed.
pub record LoginStands (sid : ℕ) (name : List ℕ) (history : List Entry) : Type 0 where
  pub before : List Entry
  pub naming : Entry
  pub between : List Entry
  pub response : Entry
  pub since : List Entry
  pub is : history ≡ before ++ (naming ∷ (between ++ (response ∷ since)))
  pub named : IsNaming sid name naming
  pub named_last : HasNone sid is_naming between
  pub answered : IsLogin sid response
  pub stands : HasNone sid is_end since

-- a login stands for the session: a response of it was answered Ok, and after it the session names nobody and isn't closed
pub record SomeLoginStands (sid : ℕ) (history : List Entry) : Type 0 where
  pub before : List Entry
  pub response : Entry
  pub since : List Entry
  pub is : history ≡ before ++ (response ∷ since)
  pub answered : IsLogin sid response
  pub stands : HasNone sid is_end since

-- ---- locks

-- five wrong responses in a row, the last at that moment, lock a record: without a line `badsleep` for ever, and with one
-- for so many seconds
abbrev pub LocksAt : Option ℕ → ℕ → ℕ → Type 0
LocksAt None since moment = Unit {0}
LocksAt (Some seconds) since moment = (0 < seconds) × (moment < later since seconds)

pub record IsLocked (policy : PolicyView) (moment : ℕ) (f : Fields) : Type 0 where
  pub five : f.fails ≡ 5
  pub locks : LocksAt policy.bad_sleep f.since moment

-- the session tries to log in as this user
abbrev pub tries : List ℕ → Option Phase → Request → Bool
tries name (Some phase) (requests.Authenticate one) = bytes_eq one name
tries name (Some (Waiting one)) (requests.Response hash word) = bytes_eq one name
tries name phase request = false

-- a wizard ends this user's lock
abbrev pub is_freeing : List ℕ → Request → Bool
is_freeing name (requests.Enable one) = bytes_eq one name
is_freeing name (requests.Deluser one) = bytes_eq one name
is_freeing name _ = false

abbrev pub FreesNone : List ℕ → List Entry → Type 0
FreesNone name entries = AllByRecursion (λ entry. is_ok entry.reply && is_freeing name entry.request ≡ false) entries

-- what a try is denied by at this moment: without a line `badsleep` as by a wizard, and with one also by the end of the
-- lock, or by a moment that has come, from which the user can't log in
abbrev pub IsLockDenial : Option ℕ → ℕ → ℕ → Denial → Type 0
IsLockDenial bad_sleep since moment Disabled = Unit {0}
IsLockDenial (Some seconds) since moment (Sleeping until) = until ≡ later since seconds
IsLockDenial (Some seconds) since moment (Expired at) = (0 < at) × (at ≤ moment)
IsLockDenial bad_sleep since moment _ = ⊥

abbrev pub IsDenied : (Denial → Type 0) → Reply → Type 0
IsDenied P (replies.Denied denial) = P denial
IsDenied P _ = ⊥

-- the record under the name has the lock of this one
pub record HasLockOf (f : Fields) (name : List ℕ) (records : List Fields) : Type 0 where
  pub g : Fields
  pub there : record_at name records ≡ Some g
  pub fails : g.fails ≡ f.fails
  pub since : g.since ≡ f.since

-- ---- expiry

-- a wizard sets the moment from which this user can't log in, or deletes the user
abbrev pub is_extending : List ℕ → Request → Bool
is_extending name (requests.Expire one until) = bytes_eq one name
is_extending name (requests.Deluser one) = bytes_eq one name
is_extending name _ = false

abbrev pub ExtendsNone : List ℕ → List Entry → Type 0
ExtendsNone name entries = AllByRecursion (λ entry. is_ok entry.reply && is_extending name entry.request ≡ false) entries

-- what a try is denied by then: as by a wizard, or by that moment
abbrev pub IsExpiryDenial : ℕ → Denial → Type 0
IsExpiryDenial expires Disabled = Unit {0}
IsExpiryDenial expires (Expired at) = at ≡ expires
IsExpiryDenial expires _ = ⊥

-- the record under the name expires with this one
pub record HasExpiryOf (f : Fields) (name : List ℕ) (records : List Fields) : Type 0 where
  pub g : Fields
  pub there : record_at name records ≡ Some g
  pub expires : g.expires ≡ f.expires
