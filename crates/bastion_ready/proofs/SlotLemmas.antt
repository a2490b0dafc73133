-- From slots that weren't opened to what stopped the server.
use Rattle.std.proofs.Common.{◌≡◌, ◌∙◌, ℕ, List, ap, refl, sym, subst, inl, inr, true}
use Rattle.std.specs.Prelude.{Some, None, IsSome, Ok}
use Rattle.auth_machine.specs.Book.{BookView}
use Rattle.fw_disk.specs.DiskView.{DiskView}
use Rattle.fw_outside.specs.KeeperView.{KeeperView}
use Rattle.spool_rack.specs.Opening.{IsRackFault}
use Rattle.spool_slots.specs.declared.slot_why.SlotWhy.{SlotWhy}
use Rattle.spool_slots.specs.declared.slot_why.SlotWhy.TheVariants as whys
use Rattle.bastion.specs.Mailing.{SlotsUnread, slot_fault, with_disks}
use Rattle.bastion.specs.Outcome.{SlotsRose, status_of}
use Rattle.bastion.specs.WorldView.{SessionInputs, WorldView}
use Rattle.bastion.specs.declared.outcome.Outcome.{Outcome}
use Rattle.bastion.specs.declared.outcome.Outcome.TheVariants.{NoMemory}
use Rattle.bastion.specs.declared.outcome.Step.TheVariants as steps
use Rattle.bastion.proofs.LeftLemmas.{Later, Left, only_left}
use Rattle.bastion.proofs.MailedLemmas.{unread_rose}
use Rattle.bastion_ready.specs.Inputs.{HasInputs, ServerInputs}
use Rattle.bastion_ready.specs.Ready.{AreBack, IsStatusFor, ShutsBook, SlotsStop, StopsFor}
use Rattle.bastion_ready.specs.Words.{ServerLine}

-- ---- the keeper is taken, and put back

abbrev pub without_keeper : WorldView → WorldView
without_keeper world = record world { inputs = record (world.inputs) { keeper = None } }

abbrev pub with_keeper : KeeperView → WorldView → WorldView
with_keeper keeper world = record world { inputs = record (world.inputs) { keeper = Some keeper } }

-- more disks than a rack has room for
pub no_room : (world : WorldView) → SlotsUnread (NoMemory steps.Slots) world world
no_room world = record { slot = 0; why = whys.NoMemory; fault = inl (refl, refl); comes = refl; is = refl }

-- not all slots were opened, behind a keeper that was put back
pub keeper_back : (outcome : Outcome) (book : BookView) (old mid last new : WorldView) → mid ≡ without_keeper old → SlotsUnread outcome mid last → ShutsBook book last new → SlotsUnread outcome (with_keeper book.keeper old) new
keeper_back outcome book old mid last new opened unread shut =
    let disks : new.inputs.disks ≡ last.inputs.disks = ap (λ (w : WorldView). w.inputs.disks) shut.is in
    let same : new ≡ with_disks last.inputs.disks (with_keeper book.keeper old) =
    shut.is ∙ ap (with_keeper book.keeper) unread.is ∙ ap (λ (w : WorldView). with_keeper book.keeper (with_disks last.inputs.disks w)) opened in
    let fault : IsRackFault (Unit {0}) old.inputs.disks unread.slot unread.why last.inputs.disks =
    subst (λ (w : WorldView). IsRackFault (Unit {0}) w.inputs.disks unread.slot unread.why last.inputs.disks) opened unread.fault in
    record {
      slot = unread.slot;
      why = unread.why;
      fault = subst (λ (d : List DiskView). IsRackFault (Unit {0}) old.inputs.disks unread.slot unread.why d) (sym disks) fault;
      comes = unread.comes;
      is = same ∙ ap (λ (d : List DiskView). with_disks d (with_keeper book.keeper old)) (sym disks);
    }

-- ---- what stops the server, by the cause

told_stop : (line : ServerLine) (slot : ℕ) (why : SlotWhy) (old new : WorldView) → SlotsStop line (slot_fault slot why) old new → StopsFor line (slot_fault slot why) old new
told_stop line slot (whys.BadSlot at) old new h = h
told_stop line slot whys.DiskFault old new h = h
told_stop line slot whys.NoMemory old new h = h

pub slots_stop : (line : ServerLine) (outcome : Outcome) (old new : WorldView) → SlotsStop line outcome old new → StopsFor line outcome old new
slots_stop line outcome old new h =
    let comes = h.unread.comes in
    subst (λ (o : Outcome). StopsFor line o old new) (sym comes) (told_stop line h.unread.slot h.unread.why old new (subst (λ (o : Outcome). SlotsStop line o old new) comes h))

module _ (line : ServerLine) (outcome : Outcome) (old new : WorldView) (h : SlotsStop line outcome old new) where
  before : Left old h.middle
  before = only_left line.table true old h.middle h.only

  -- the disks of the world that there was at first
  fault_of : IsRackFault (Unit {0}) old.inputs.disks h.unread.slot h.unread.why new.inputs.disks
  fault_of = subst (λ (d : List DiskView). IsRackFault (Unit {0}) d h.unread.slot h.unread.why new.inputs.disks) before.disks h.unread.fault

  pub slots_out : new.files.out ≡ old.files.out
  slots_out = ap (λ (w : WorldView). w.files.out) h.unread.is ∙ before.out

  pub slots_back : AreBack old.inputs.disks new.inputs.disks
  slots_back = inr (record { slot = h.unread.slot; why = h.unread.why; fault = fault_of })

  pub slots_keeper : IsSome old.inputs.keeper → IsSome new.inputs.keeper
  slots_keeper there = subst (λ (w : WorldView). IsSome w.inputs.keeper) (sym h.unread.is) (before.keeper there)

  pub slots_rose : SlotsRose outcome old new
  slots_rose = subst (λ (o : Outcome). SlotsRose o old new) (sym h.unread.comes) (unread_rose h.unread.slot h.unread.why old new fault_of)

-- ---- the status

fault_status : (line : ServerLine) (inputs : ServerInputs) (slot : ℕ) (why : SlotWhy) (old new : WorldView) → HasInputs line (Ok inputs) old → IsRackFault (Unit {0}) old.inputs.disks slot why new.inputs.disks
    → IsStatusFor line (status_of (slot_fault slot why)) old new
fault_status line inputs slot (whys.BadSlot at) old new read (inl none) = let clash : whys.BadSlot at ≡ whys.NoMemory = none.1 in absurd (cc)
fault_status line inputs slot (whys.BadSlot at) old new read (inr came) = inl (inl (refl, inr (record { inputs = inputs; read = read; slot = slot; at = at; bad = record { came = came } })))
fault_status line inputs slot whys.DiskFault old new read fault = inl (inr (refl, inr (inr (record { inputs = inputs; read = read; rose = (slot, unread_rose slot whys.DiskFault old new fault) }))))
fault_status line inputs slot whys.NoMemory old new read fault = inr refl

pub slots_status : (line : ServerLine) (outcome : Outcome) (old mid new : WorldView) → SlotsStop line outcome old mid → Later mid new → IsStatusFor line (status_of outcome) old new
slots_status line outcome old mid new h later =
    let fault : IsRackFault (Unit {0}) old.inputs.disks h.unread.slot h.unread.why new.inputs.disks =
    subst (λ (i : SessionInputs). IsRackFault (Unit {0}) old.inputs.disks h.unread.slot h.unread.why i.disks) (sym later.inputs) (fault_of line outcome old mid h) in
    subst (λ (o : Outcome). IsStatusFor line (status_of o) old new) (sym h.unread.comes) (fault_status line h.inputs h.unread.slot h.unread.why old new h.read fault)
