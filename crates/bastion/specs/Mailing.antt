-- The work of `smap`: the slots are opened, a client of the mail gateway is served over them and the devices of the run, and
-- the disks are given back.
use Rattle.std.specs.Prelude.{◌≡◌, ℕ, ◌⊎◌, false, List, [], IfSome}
use Rattle.client_service.specs.Conn.{Conn}
use Rattle.fw_disk.specs.DiskView.{DiskView}
use Rattle.fw_outside.specs.DialerView.{DialerView}
use Rattle.fw_types.specs.declared.ending.Ending.{Ending}
use Rattle.fw_types.specs.declared.peer.Peer.{Peer}
use Rattle.gate_rules.specs.Reading.{RuleBook}
use Rattle.gate_rules.specs.declared.service.Service.TheVariants as services
use Rattle.plug_gate.specs.Dummies.{no_port}
use Rattle.session_acts.specs.Dummies.{nowhere}
use Rattle.session_acts.specs.World.{Devices, mail_devices_with}
use Rattle.spool_rack.specs.Opening.{AreInOrder, IsRackFault, IsRackOf}
use Rattle.spool_rack.specs.Store.{StoreView}
use Rattle.spool_slots.specs.declared.slot_why.SlotWhy.{SlotWhy}
use Rattle.spool_slots.specs.declared.slot_why.SlotWhy.TheVariants as whys
use Rattle.bastion.specs.Inputs.{Inputs}
use Rattle.bastion.specs.WorldView.{WorldView}
use Rattle.bastion.specs.declared.outcome.Device.TheVariants as device
use Rattle.bastion.specs.declared.outcome.Outcome as outcomes
use Rattle.bastion.specs.declared.outcome.Outcome.TheVariants as outcome
use Rattle.bastion.specs.declared.outcome.Refusal.TheVariants.{Slot}
use Rattle.bastion.specs.declared.outcome.Step.TheVariants as steps

-- ---- the slots are opened

-- why a slot isn't opened, as a run tells it
abbrev pub slot_fault : ℕ → SlotWhy → outcomes.Outcome
slot_fault slot (whys.BadSlot at) = outcome.Unread (Slot slot at)
slot_fault slot whys.DiskFault = outcome.Failed (device.Disk slot)
slot_fault slot whys.NoMemory = outcome.NoMemory steps.Slots

-- the world with these disks
abbrev pub with_disks : List DiskView → WorldView → WorldView
with_disks disks world = record world { inputs = record (world.inputs) { disks = disks } }

-- There was no memory, and no disk was called; or the slots before one were opened, that one wasn't, for the cause that is
-- told, and those behind it weren't called. Nothing else happened.
pub record SlotsUnread (out : outcomes.Outcome) (old new : WorldView) : Type 0 where
  pub slot : ℕ
  pub why : SlotWhy
  pub fault : IsRackFault (Unit {0}) old.inputs.disks slot why new.inputs.disks
  pub comes : out ≡ slot_fault slot why
  pub is : new ≡ with_disks new.inputs.disks old

-- ---- the client is served

-- the devices that a client of the mail gateway meets: those of the world, a port at which nobody is asked, a dialer that has
-- no server, and the slots
abbrev pub mailed_devices : WorldView → DialerView → StoreView → Devices (Unit {0})
mailed_devices world dialer store = mail_devices_with no_port world.inputs.input world.output world.logs dialer world.inputs.clock world.inputs.dice store

-- All slots were opened, and the client was served by the rules. Then the disks of all slots were given back, in order of
-- their numbers. Of the clock, the dice, the keeper, the dialer, the launcher and the files nothing was asked.
pub record MailServed (peer : Peer) (inputs : Inputs) (out : outcomes.Outcome) (old new : WorldView) : Type 0 where
  pub first : StoreView
  pub opened : IsRackOf (Unit {0}) old.inputs.disks first
  pub store : StoreView
  pub closed : IfSome store.queues (λ q. AreInOrder q new.inputs.disks)
  pub dialer : DialerView
  pub ending : Ending
  pub serves : Conn services.Smap inputs.rules peer (mailed_devices old nowhere first) (mailed_devices new dialer store) ending
  pub comes : out ≡ outcome.Ended ending false
  pub inputs_are : new.inputs ≡ record (old.inputs) { input = new.inputs.input; disks = new.inputs.disks }
  pub files : new.files ≡ old.files

abbrev pub Mailed : Peer → Inputs → outcomes.Outcome → WorldView → WorldView → Type 0
Mailed peer inputs out old new = SlotsUnread out old new ⊎ MailServed peer inputs out old new

-- ---- step by step
-- Public clauses cite `OpensRack` alone: the others say what private functions answer.

-- these are the disks, which are in the world no more
pub record TakesOut (disks : List DiskView) (old new : WorldView) : Type 0 where
  pub are : disks ≡ old.inputs.disks
  pub is : new ≡ with_disks [] old

-- the slots on the disks are in the rack
pub record OpensRack (rack : StoreView) (old new : WorldView) : Type 0 where
  pub opened : IsRackOf (Unit {0}) old.inputs.disks rack
  pub is : new ≡ with_disks [] old

-- the client was served over these slots, and then their disks given back
pub record ServesMail (peer : Peer) (rules : RuleBook) (first : StoreView) (out : outcomes.Outcome) (old new : WorldView) : Type 0 where
  pub store : StoreView
  pub closed : IfSome store.queues (λ q. AreInOrder q new.inputs.disks)
  pub dialer : DialerView
  pub ending : Ending
  pub serves : Conn services.Smap rules peer (mailed_devices old nowhere first) (mailed_devices new dialer store) ending
  pub comes : out ≡ outcome.Ended ending false
  pub inputs_are : new.inputs ≡ record (old.inputs) { input = new.inputs.input; disks = new.inputs.disks }
  pub files : new.files ≡ old.files
