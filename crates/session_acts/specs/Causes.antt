-- What a session keeps of the devices that it is lent, and by what each ending is caused.
use Rattle.std.specs.Prelude.{◌≡◌, ℕ, ◌≤◌, ◌⊎◌, Bool, true, false, List, ◌∷◌, [], ◌++◌, length, Option, Some, None}
use Rattle.std.specs.Option.{option_map}
use Rattle.fw_outside.specs.Counts.{Grew, Rose}
use Rattle.fw_outside.specs.DialerView.{LinkView}
use Rattle.fw_outside.specs.SourceView.{SourceView}
use Rattle.fw_outside.specs.ToldList.{grown}
use Rattle.fw_types.specs.declared.ending.Ending.{Ending}
use Rattle.fw_types.specs.declared.ending.Ending.TheVariants.{Done, Denied, ClientFault, ServerFault, LogFault, AuthFault, Idle, NoRoute, Spent, NoMemory}
use Rattle.session_acts.specs.World.{Devices, most_taken}

-- whether a sink was told the end stays, or it was told so by a relay
abbrev pub StaysShut : (relays : Bool) → Option Bool → Option Bool → Type 0
StaysShut false old new = new ≡ old
StaysShut true old new = (new ≡ old) ⊎ (new ≡ option_map (λ _. true) old)

-- These counts don't fall: of failures, of waits in vain, of links that came up, of refusals, of strange things, of the bytes taken of the client and
-- of the requests. How long the client's source and the dialer's links wait stays, as do whether the log was told the end,
-- and whose history the port's is; and, unless there was a relay, whether the client's sink was.
pub record KeepsAs {Origin : Type 0} (relays : Bool) (old new : Devices Origin) : Type 0 where
  pub faults : old.inlet.faults ≤ new.inlet.faults
  pub idles : old.inlet.idles ≤ new.inlet.idles
  pub amount : old.inlet.amount ≤ new.inlet.amount
  pub drops : old.outlet.faults ≤ new.outlet.faults
  pub log_drops : old.logs.faults ≤ new.logs.faults
  pub breaks : old.port.faults ≤ new.port.faults
  pub strays : old.port.odd ≤ new.port.odd
  pub asks : old.port.asks ≤ new.port.asks
  pub came : old.dialer.came ≤ new.dialer.came
  pub refusals : old.dialer.refusals ≤ new.dialer.refusals
  pub link_faults : old.dialer.link_faults ≤ new.dialer.link_faults
  pub link_idles : old.dialer.link_idles ≤ new.dialer.link_idles
  pub data_faults : old.dialer.data_faults ≤ new.dialer.data_faults
  pub data_idles : old.dialer.data_idles ≤ new.dialer.data_idles
  pub waits : new.inlet.waits ≡ old.inlet.waits
  pub link_waits : new.dialer.waits ≡ old.dialer.waits
  pub shut : StaysShut relays old.outlet.shut new.outlet.shut
  pub log_shut : new.logs.shut ≡ old.logs.shut
  pub origin : new.port.origin ≡ old.port.origin
  pub home : new.port.home ≡ old.port.home

-- what a session without a relay keeps, and what one with a relay
abbrev pub SessionKeeps : {Origin : Type 0} → Devices Origin → Devices Origin → Type 0
SessionKeeps old new = KeepsAs false old new

abbrev pub RelayKeeps : {Origin : Type 0} → Devices Origin → Devices Origin → Type 0
RelayKeeps old new = KeepsAs true old new

-- these bytes were taken, at most `most_taken`: the source has counted them, and they are those that it tells, where it does
pub record TookAtMost (old new : SourceView) : Type 0 where
  pub bytes : List ℕ
  pub most : length bytes ≤ most_taken
  pub grew : Grew (length bytes) old.amount new.amount
  pub is : new.taken ≡ grown old.taken bytes

-- `most_taken` bytes were taken
pub record TookMost (old new : SourceView) : Type 0 where
  pub took : TookAtMost old new
  pub all : length took.bytes ≡ most_taken

-- the last link that was hung up, where that is told
abbrev pub IsLast : {A : Type 0} → A → Option (List A) → Type 0
IsLast one None = Unit {0}
IsLast {A} one (Some all) = (before : List A) × (all ≡ before ++ one ∷ [])

-- `most_taken` bytes were taken of the last link that was hung up
pub record LinkTookMost {Origin : Type 0} (new : Devices Origin) : Type 0 where
  pub link : LinkView
  pub last : IsLast link new.dialer.ended
  pub all : link.from.amount ≡ most_taken

-- the client's source waited in vain, for as long as it was to wait when the session began
pub record WaitedInVain (old new : SourceView) : Type 0 where
  pub rose : Rose old.idles new.idles
  pub waited : new.waited ≡ old.waits

-- a link waited in vain, and the last that was hung up waited for as long as links were to wait when the session began
pub record LinkWaitedInVain {Origin : Type 0} (old new : Devices Origin) : Type 0 where
  pub rose : Rose old.dialer.link_idles new.dialer.link_idles
  pub link : LinkView
  pub last : IsLast link new.dialer.ended
  pub waited : link.from.waited ≡ old.dialer.waits

-- where a session ends as idle, somebody was waited for as long as was set
abbrev pub WaitsFor : {Origin : Type 0} → Ending → Devices Origin → Devices Origin → Type 0
WaitsFor Idle old new = WaitedInVain old.inlet new.inlet ⊎ LinkWaitedInVain old new
WaitsFor ending old new = Unit {0}

abbrev pub is_spent_ending : Ending → Bool
is_spent_ending Spent = true
is_spent_ending _ = false

-- so a session ends of whose client `most_taken` bytes were taken: as `Spent`, or, where it relayed, by a failure or by
-- idleness, which come before that
abbrev pub is_spent_or : (relays : Bool) → Ending → Bool
is_spent_or false ending = is_spent_ending ending
is_spent_or true ClientFault = true
is_spent_or true ServerFault = true
is_spent_or true Idle = true
is_spent_or true ending = is_spent_ending ending

-- `most_taken` bytes at most were taken of the client; where it was so many, the session ends so
pub record TakesAs {Origin : Type 0} (relays : Bool) (ending : Ending) (old new : Devices Origin) : Type 0 where
  pub took : TookAtMost old.inlet new.inlet
  pub all : length took.bytes ≡ most_taken → is_spent_or relays ending ≡ true

abbrev pub TakesFor : {Origin : Type 0} → Ending → Devices Origin → Devices Origin → Type 0
TakesFor ending old new = TakesAs false ending old new

abbrev pub RelayTakesFor : {Origin : Type 0} → Ending → Devices Origin → Devices Origin → Type 0
RelayTakesFor ending old new = TakesAs true ending old new

-- The client's source or sink failed, or the log; a link that was hung up had failed, or had been idle, or the client was;
-- a link was refused; all that may be was taken of the client, or of the link that was hung up last, where that is told,
-- which may be one of before the session; the port failed, or something strange came from it. What caused the other
-- endings isn't counted, and no session ends as denied.
abbrev pub Caused : {Origin : Type 0} → Ending → Devices Origin → Devices Origin → Type 0
Caused ClientFault old new = Rose old.inlet.faults new.inlet.faults ⊎ Rose old.outlet.faults new.outlet.faults
Caused ServerFault old new = Rose old.dialer.link_faults new.dialer.link_faults
Caused LogFault old new = Rose old.logs.faults new.logs.faults
Caused AuthFault old new = Rose old.port.faults new.port.faults ⊎ Rose old.port.odd new.port.odd
Caused Idle old new = Rose old.inlet.idles new.inlet.idles ⊎ Rose old.dialer.link_idles new.dialer.link_idles
Caused NoRoute old new = Rose old.dialer.refusals new.dialer.refusals
Caused Spent old new = TookMost old.inlet new.inlet ⊎ LinkTookMost new
Caused (Denied line) old new = ⊥
Caused Done old new = Unit {0}
Caused NoMemory old new = Unit {0}
