-- What a session of the mail gateway comes to, by its ending, and what it leaves of the slots.
use Rattle.std.proofs.Common.{◌≡◌, ◌∙◌, ℕ, zero, suc, ◌+◌, refl, sym, ap, subst, inl, inr, ◌⊎◌, ◌==◌, List, [], ◌∷◌, ◌++◌, append-nil, length, map, false}
use Rattle.std.specs.Prelude.{Option, Some, None, IfSome, IsSome, option_map}
use Rattle.client_service.proofs.ConnLemmas.{conn_caused, conn_refused, conn_spent}
use Rattle.client_service.proofs.MailLemmas.{mails_behind}
use Rattle.client_service.specs.Conn.{Causes, Conn, IsRefused, Treats}
use Rattle.client_service.specs.Decision.{decision_text}
use Rattle.client_service.specs.Endings.{refusal_reply}
use Rattle.client_service.specs.Kind.Kind.{Alone}
use Rattle.client_service.specs.MailService.{MailsBehind, MailsOrFails, mail_devices, mail_gate_of}
use Rattle.client_service.specs.Meeting.{denied_by, patient, timeout_of}
use Rattle.fw_disk.specs.DiskView.{DiskView}
use Rattle.fw_outside.specs.Counts.{Rose}
use Rattle.fw_outside.specs.DialerView.{DialerView}
use Rattle.fw_outside.specs.KeeperView.{KeeperView}
use Rattle.fw_outside.specs.SinkView.{SinkView}
use Rattle.fw_types.specs.declared.ending.Ending.{Ending}
use Rattle.fw_types.specs.declared.ending.Ending.TheVariants.{Done, Denied, ClientFault, ServerFault, LogFault, AuthFault, Idle, NoRoute, Spent, NoMemory}
use Rattle.fw_types.specs.declared.peer.Peer.{Peer}
use Rattle.gate_rules.specs.Reading.{RuleBook}
use Rattle.gate_rules.specs.Verdict.{verdict_of}
use Rattle.gate_rules.specs.declared.service.Service.TheVariants as services
use Rattle.gate_rules.specs.declared.verdict.Verdict.{Verdict}
use Rattle.gate_rules.specs.declared.verdict.Verdict.TheVariants.{Permit, Deny}
use Rattle.session_acts.proofs.ClientLemmas.{denies}
use Rattle.session_acts.proofs.DeedLemmas.{all_last, held_deeds}
use Rattle.session_acts.specs.Client.{Denies, IsTurnedAway, with_line}
use Rattle.session_acts.specs.Deeds.{gives}
use Rattle.session_acts.specs.Dummies.{nowhere}
use Rattle.session_acts.specs.Serverless.{CausedAlone}
use Rattle.session_acts.specs.Session.{deeds_of}
use Rattle.session_acts.specs.Stored.{AreKept, KeptMail, kept}
use Rattle.session_acts.specs.World.{Devices, World, at_first, most_taken}
use Rattle.spool_rack.specs.Opening.{AreInOrder, AreSlotsOf, CameBack, IsRackFault, IsRackOf, IsSlotOf, queues_of, store_of}
use Rattle.spool_rack.specs.Store.{Handed, PutGrew, Queues, StoreView, with_put}
use Rattle.spool_slots.specs.Opened.{disk_of}
use Rattle.spool_slots.specs.States.{FullView}
use Rattle.spool_slots.specs.declared.opening.Opened.{Opened}
use Rattle.spool_slots.specs.declared.opening.Opened.TheVariants.{Free, Full, Aside}
use Rattle.spool_slots.specs.declared.slot_why.SlotWhy.{SlotWhy}
use Rattle.spool_slots.specs.declared.slot_why.SlotWhy.TheVariants as whys
use Rattle.bastion.specs.Inputs.{Inputs}
use Rattle.bastion.specs.Mailing.{MailServed, Mailed, OpensRack, ServesMail, SlotsUnread, TakesOut, mailed_devices, slot_fault, with_disks}
use Rattle.bastion.specs.Outcome.{DiskRose, EndingRose, SlotsRose, status_of}
use Rattle.bastion.specs.Spool.{LeavesSlots, StandAtPlaces, StayAsOpened, StaysBehind}
use Rattle.bastion.specs.Status.{IsMailed, IsTaken, TakesIn}
use Rattle.bastion.specs.WorldView.{SessionInputs, WorldView}
use Rattle.bastion.specs.declared.outcome.Outcome.{Outcome}
use Rattle.bastion.specs.declared.outcome.Outcome.TheVariants.{Ended}
use Rattle.bastion.proofs.AttendedLemmas.{denied_status, port_rose, spent_is, takes_same}
use Rattle.spool_runs.proofs.PlaceLemmas.{broken_none}
use Rattle.bastion.proofs.SpoolLemmas.{closed_at, closed_length, stand, stays}
use Rattle.bastion.proofs.StoreLemmas.{QueuesStayIf, StoreStays, same_stays, slots_last}

-- ---- slots that were opened, on disks of whatever type

abbrev plain : {D : Type 0} → Opened D → Opened (Unit {0})
plain (Free slot) = Free slot
plain (Full slot) = Full slot
plain (Aside slot) = Aside slot

plain_slot : {D : Type 0} (n : ℕ) (disk : DiskView) (slot : Opened D) → IsSlotOf D n disk slot → IsSlotOf (Unit {0}) n disk (plain slot)
plain_slot n disk (Free slot) h = record { onward = h.onward; read = h.read; events = h.events }
plain_slot n disk (Full slot) h = record { onward = h.onward; read = h.read; events = h.events }
plain_slot n disk (Aside slot) h = record { onward = h.onward; read = h.read; events = h.events }

plain_slots : {D : Type 0} (n : ℕ) (disks : List DiskView) (slots : List (Opened D)) → AreSlotsOf D n disks slots → AreSlotsOf (Unit {0}) n disks (map plain slots)
plain_slots n [] [] h = tt
plain_slots n [] (slot ∷ slots) h = absurd h
plain_slots n (disk ∷ disks) [] h = absurd h
plain_slots n (disk ∷ disks) (slot ∷ slots) h = (plain_slot n disk slot h.0, plain_slots (n + 1) disks slots h.1)

plain_queues : {D : Type 0} (slots : List (Opened D)) → queues_of (map plain slots) ≡ queues_of slots
plain_queues [] = refl
plain_queues (Free slot ∷ slots) = ap (λ (q : Queues). record q { free = slot ∷ q.free }) (plain_queues slots)
plain_queues (Full slot ∷ slots) = ap (λ (q : Queues). record q { full = slot ∷ q.full }) (plain_queues slots)
plain_queues (Aside slot ∷ slots) = ap (λ (q : Queues). record q { aside = slot ∷ q.aside }) (plain_queues slots)

pub plain_rack : (D : Type 0) (disks : List DiskView) (rack : StoreView) → IsRackOf D disks rack → IsRackOf (Unit {0}) disks rack
plain_rack D disks rack h = record {
  slots = map plain h.slots;
  are = plain_slots 0 disks h.slots h.are;
  is = h.is ∙ ap (λ (q : Queues). store_of q.free q.full q.aside [] []) (sym (plain_queues h.slots));
}

pub opens_rack : (D : Type 0) (disks : List DiskView) (rack : StoreView) (old new : WorldView) → TakesOut disks old new → IsRackOf D disks rack → OpensRack rack old new
opens_rack D disks rack old new takes h = record { opened = subst (λ (d : List DiskView). IsRackOf (Unit {0}) d rack) takes.are (plain_rack D disks rack h); is = takes.is }

disk_plain : {D : Type 0} (slot : Opened D) → disk_of (plain slot) ≡ disk_of slot
disk_plain (Free slot) = refl
disk_plain (Full slot) = refl
disk_plain (Aside slot) = refl

plain_back : (D : Type 0) (n slot : ℕ) (why : SlotWhy) (old new : List DiskView) → CameBack D n slot why old new → CameBack (Unit {0}) n slot why old new
plain_back D n zero why [] new h = absurd h
plain_back D n zero why (disk ∷ old) [] h = absurd h
plain_back D n zero why (disk ∷ old) (last ∷ new) h = h
plain_back D n (suc slot) why [] new h = absurd h
plain_back D n (suc slot) why (disk ∷ old) [] h = absurd h
plain_back D n (suc slot) why (disk ∷ old) (last ∷ new) h =
    (record { slot = plain h.0.slot; is = plain_slot n disk h.0.slot h.0.is; disk = h.0.disk ∙ sym (disk_plain h.0.slot) }, plain_back D (n + 1) slot why old new h.1)

plain_fault : (D : Type 0) (slot : ℕ) (why : SlotWhy) (old new : List DiskView) → IsRackFault D old slot why new → IsRackFault (Unit {0}) old slot why new
plain_fault D slot why old new (inl none) = inl none
plain_fault D slot why old new (inr came) = inr (plain_back D 0 slot why old new came)

pub leaves_unread : (D : Type 0) (disks back : List DiskView) (slot : ℕ) (why : SlotWhy) (out : Outcome) (old mid new : WorldView) → TakesOut disks old mid → IsRackFault D disks slot why back → new ≡ with_disks back mid → out ≡ slot_fault slot why → SlotsUnread out old new
leaves_unread D disks back slot why out old mid new takes fault puts comes =
    let there : WorldView = with_disks back old in
    let is : new ≡ there = puts ∙ ap (with_disks back) takes.is in
    let unread : SlotsUnread out old there = record { slot = slot; why = why; fault = plain_fault D slot why old.inputs.disks back (subst (λ (d : List DiskView). IsRackFault D d slot why back) takes.are fault); comes = comes; is = refl } in
    subst (SlotsUnread out old) (sym is) unread

-- ---- a client that was served over them, whose disks are given back

pub serves_over : (peer : Peer) (rules : RuleBook) (first store : StoreView) (before after : DialerView) (disks : List DiskView) (ending : Ending) (old mid new : WorldView) → before ≡ nowhere
    → Conn services.Smap rules peer (mailed_devices old before first) (mailed_devices mid after store) ending → mid.inputs ≡ record (old.inputs) { input = mid.inputs.input } → mid.files ≡ old.files → IfSome store.queues (λ q. AreInOrder q disks)
    → new ≡ with_disks disks mid → ServesMail peer rules first (Ended ending false) old new
serves_over peer rules first store before after disks ending old mid new at_first serves inputs files closed is =
    let there : ServesMail peer rules first (Ended ending false) old (with_disks disks mid) = record {
      store = store;
      closed = closed;
      dialer = after;
      ending = ending;
      serves = subst (λ (d : DialerView). Conn services.Smap rules peer (mailed_devices old d first) (mailed_devices mid after store) ending) at_first serves;
      comes = refl;
      inputs_are = ap (λ (i : SessionInputs). record i { disks = disks }) inputs;
      files = files;
    } in
    subst (λ (w : WorldView). ServesMail peer rules first (Ended ending false) old w) (sym is) there

-- ---- slots that weren't opened

came_rose : (n slot : ℕ) (old new : List DiskView) → CameBack (Unit {0}) n slot whys.DiskFault old new → DiskRose slot old new
came_rose n zero [] new h = absurd h
came_rose n (suc slot) [] new h = absurd h
came_rose n zero (disk ∷ old) [] h = absurd h
came_rose n (suc slot) (disk ∷ old) [] h = absurd h
came_rose n zero (disk ∷ old) (last ∷ new) h = subst (λ (d : DiskView). Rose disk.faults d.faults) (sym h.0.disk) h.0.because.0
came_rose n (suc slot) (disk ∷ old) (last ∷ new) h = came_rose (n + 1) slot old new h.1

pub unread_rose : (slot : ℕ) (why : SlotWhy) (old new : WorldView) → IsRackFault (Unit {0}) old.inputs.disks slot why new.inputs.disks → SlotsRose (slot_fault slot why) old new
unread_rose slot (whys.BadSlot at) old new h = tt
unread_rose slot whys.NoMemory old new h = tt
unread_rose slot whys.DiskFault old new (inl none) = let clash : whys.DiskFault ≡ whys.NoMemory = none.1 in absurd (cc)
unread_rose slot whys.DiskFault old new (inr came) = came_rose 0 slot old.inputs.disks new.inputs.disks came

-- ---- what each ending has counted

module _ (old new : WorldView) (first last : StoreView) (dialer : DialerView) where
  abbrev begun : Devices (Unit {0})
  begun = mailed_devices old nowhere first

  abbrev ended : Devices (Unit {0})
  ended = mailed_devices new dialer last

  caused_rose : (ending : Ending) → CausedAlone ending begun ended → EndingRose ending old new
  caused_rose Done h = tt
  caused_rose (Denied line) h = tt
  caused_rose ClientFault h = h
  caused_rose ServerFault h = h
  caused_rose LogFault h = h
  caused_rose AuthFault h = port_rose h
  caused_rose Idle h = h
  caused_rose NoRoute h = h
  caused_rose Spent h = tt
  caused_rose NoMemory h = tt

  causes_rose : (verdict : Verdict) (ending : Ending) → Causes Alone verdict ending begun ended → EndingRose ending old new
  causes_rose verdict (Denied line) h = tt
  causes_rose verdict Done h = tt
  causes_rose verdict ClientFault h = h
  causes_rose verdict ServerFault h = h
  causes_rose verdict LogFault h = h
  causes_rose verdict AuthFault h = port_rose h
  causes_rose verdict Idle h = h
  causes_rose verdict NoRoute h = h
  causes_rose verdict Spent h = tt
  causes_rose verdict NoMemory h = tt

  permit_status : (line : ℕ) (ending : Ending) → Causes Alone (Permit line) ending begun ended → ((status_of (Ended ending false) ≡ 4) ⊎ (status_of (Ended ending false) ≡ 5)) ⊎ IsTaken (Permit line) (status_of (Ended ending false)) old.inputs new.inputs
  permit_status line Done h = inr (inl refl)
  permit_status line (Denied other) h = absurd (cc)
  permit_status line ClientFault h = inl (inl refl)
  permit_status line ServerFault h = inl (inl refl)
  permit_status line LogFault h = inl (inl refl)
  permit_status line AuthFault h = inl (inl refl)
  permit_status line Idle h = inl (inl refl)
  permit_status line NoRoute h = inl (inl refl)
  permit_status line Spent h = inr (inr (refl, h))
  permit_status line NoMemory h = inl (inr refl)

  verdict_status_by : (verdict : Verdict) (ending : Ending) → Causes Alone verdict ending begun ended → IsRefused verdict ending
      → ((status_of (Ended ending false) ≡ 4) ⊎ (status_of (Ended ending false) ≡ 5)) ⊎ IsTaken verdict (status_of (Ended ending false)) old.inputs new.inputs
  verdict_status_by (Permit line) ending h refused = permit_status line ending h
  verdict_status_by (Deny line) ending h refused = denied_status line ending false refused

-- ---- the work

pub mailed_rose : (peer : Peer) (inputs : Inputs) (out : Outcome) (old new : WorldView) → Mailed peer inputs out old new → SlotsRose out old new
mailed_rose peer inputs out old new (inl u) = subst (λ (o : Outcome). SlotsRose o old new) (sym u.comes) (unread_rose u.slot u.why old new u.fault)
mailed_rose peer inputs out old new (inr h) =
    subst (λ (o : Outcome). SlotsRose o old new) (sym h.comes)
    (causes_rose old new h.first h.store h.dialer (verdict_of inputs.rules peer) h.ending (conn_caused services.Smap inputs.rules peer (begun old new h.first h.store h.dialer) (ended old new h.first h.store h.dialer) h.ending h.serves))

pub mailed_takes : (peer : Peer) (inputs : Inputs) (out : Outcome) (old new : WorldView) → Mailed peer inputs out old new → TakesIn (status_of out) old.inputs.input new.inputs.input
mailed_takes peer inputs out old new (inl u) = takes_same (status_of out) old.inputs.input new.inputs.input (ap (λ (w : WorldView). w.inputs.input) u.is)
mailed_takes peer inputs out old new (inr h) =
    let takes = conn_spent services.Smap inputs.rules peer (begun old new h.first h.store h.dialer) (ended old new h.first h.store h.dialer) h.ending h.serves in
    let six : h.ending ≡ Spent → status_of out ≡ 6 = λ spent. ap status_of (h.comes ∙ ap (λ (e : Ending). Ended e false) spent) in
    record { took = takes.took; all = λ long. six (spent_is h.ending (takes.all ∙ ap (λ (n : ℕ). n == most_taken) long)) }

abbrev pub ByMail : Verdict → ℕ → WorldView → WorldView → Type 0
ByMail verdict status old new = ((status ≡ 4) ⊎ (status ≡ 5)) ⊎ IsMailed verdict status old.inputs new.inputs

pub unread_status : (verdict : Verdict) (slot : ℕ) (why : SlotWhy) (old new : WorldView) → IsRackFault (Unit {0}) old.inputs.disks slot why new.inputs.disks → ByMail verdict (status_of (slot_fault slot why)) old new
unread_status verdict slot (whys.BadSlot at) old new (inl none) = let clash : whys.BadSlot at ≡ whys.NoMemory = none.1 in absurd (cc)
unread_status verdict slot (whys.BadSlot at) old new (inr came) = inr (inl (refl, (slot, at, record { came = came })))
unread_status verdict slot whys.DiskFault old new h = inl (inl refl)
unread_status verdict slot whys.NoMemory old new h = inl (inr refl)

served_status : (verdict : Verdict) (status : ℕ) (old new : WorldView) (slots : List (Opened (Unit {0}))) → AreSlotsOf (Unit {0}) 0 old.inputs.disks slots → ((status ≡ 4) ⊎ (status ≡ 5)) ⊎ IsTaken verdict status old.inputs new.inputs → ByMail verdict status old new
served_status verdict status old new slots opened (inl other) = inl other
served_status verdict status old new slots opened (inr taken) = inr (inr (record { slots = slots; opened = opened }, taken))

pub mailed_status : (peer : Peer) (inputs : Inputs) (out : Outcome) (old new : WorldView) → Mailed peer inputs out old new → ByMail (verdict_of inputs.rules peer) (status_of out) old new
mailed_status peer inputs out old new (inl u) =
    subst (λ (o : Outcome). ByMail (verdict_of inputs.rules peer) (status_of o) old new) (sym u.comes) (unread_status (verdict_of inputs.rules peer) u.slot u.why old new u.fault)
mailed_status peer inputs out old new (inr h) =
    let starts : Devices (Unit {0}) = begun old new h.first h.store h.dialer in
    let leaves : Devices (Unit {0}) = ended old new h.first h.store h.dialer in
    subst (λ (o : Outcome). ByMail (verdict_of inputs.rules peer) (status_of o) old new) (sym h.comes)
    (served_status (verdict_of inputs.rules peer) (status_of (Ended h.ending false)) old new h.opened.slots h.opened.are
    (verdict_status_by old new h.first h.store h.dialer (verdict_of inputs.rules peer) h.ending (conn_caused services.Smap inputs.rules peer starts leaves h.ending h.serves) (conn_refused services.Smap inputs.rules peer starts leaves h.ending h.serves)))

-- ---- the slots behind it

-- what was put full, besides what was
pub record LeavesStore (mails : List KeptMail) (old new : StoreView) : Type 0 where
  pub stays : StoreStays old new
  pub more : List FullView
  pub grew : PutGrew more old new
  pub are : AreKept mails more

full_none : (q : Option Queues) → option_map (λ (a : Queues). a.full) q ≡ option_map (λ (full : List FullView). full ++ []) (option_map (λ (a : Queues). a.full) q)
full_none None = refl
full_none (Some q) = ap (λ (l : List FullView). Some l) (sym (append-nil q.full))

put_none : (handed : Option Handed) → handed ≡ option_map (with_put []) handed
put_none None = refl
put_none (Some lists) = ap (λ (put : List FullView). Some (record lists { put = put })) (sym (append-nil lists.put))

pub session_leaves : (line : List ℕ) (peer : Peer) (rules : RuleBook) (ending : Ending) (old new : Devices (Unit {0})) (h : MailsBehind line (mail_gate_of rules peer) ending old new) → LeavesStore (gives kept (deeds_of h.session.held)) old.store new.store
session_leaves line peer rules ending old new h =
    let begun : World (Unit {0}) = at_first (with_line line old) h.session.names in
    let last : h.session.last.store ≡ new.store = ap (λ (d : Devices (Unit {0})). d.store) h.session.leaves in
    record {
      stays = subst (λ (s : StoreView). StoreStays old.store s) last (all_last slots_last (deeds_of h.session.held) begun h.session.last (held_deeds h.session.held));
      more = h.stores.slots;
      grew = h.stores.grew;
      are = h.stores.are;
    }

store_here : (old new : StoreView) → new ≡ old → LeavesStore [] old new
store_here old new is = subst (λ (s : StoreView). LeavesStore [] old s) (sym is) (record {
  stays = same_stays old old refl;
  more = [];
  grew = record { queued = full_none old.queues; listed = put_none old.handed; no_full = refl };
  are = tt;
})

pub first_queues : (disks : List DiskView) (first : StoreView) (h : IsRackOf (Unit {0}) disks first) → first.queues ≡ Some (queues_of h.slots)
first_queues disks first h =
    let q : Queues = queues_of h.slots in
    ap (λ (s : StoreView). s.queues) h.is ∙ ap (λ b. Some (record { free = q.free; full = q.full; aside = q.aside; broken = b })) (sym (broken_none h.slots))

some_same : (a b : List FullView) → Some a ≡ Some b → a ≡ b
some_same a b is = cc

-- what stands on the disks when the rack is closed
pub record StandBehind (mails : List KeptMail) (disks : List DiskView) (slots : List (Opened (Unit {0}))) (back : List DiskView) : Type 0 where
  pub stay : StayAsOpened slots back
  pub stand : StandAtPlaces mails back
  pub many : length back ≡ length disks

closed_so : (mails : List KeptMail) (disks back : List DiskView) (slots : List (Opened (Unit {0}))) (more : List FullView) (last : Option Queues) → AreSlotsOf (Unit {0}) 0 disks slots → QueuesStayIf (Some (queues_of slots)) last
    → option_map (λ (q : Queues). q.full) last ≡ Some ((queues_of slots).full ++ more) → AreKept mails more → IfSome last (λ q. AreInOrder q back) → StandBehind mails disks slots back
closed_so mails disks back slots more None opened stay full are closed = absurd stay
closed_so mails disks back slots more (Some q) opened stay full are closed =
    let grew : q.full ≡ (queues_of slots).full ++ more = some_same q.full ((queues_of slots).full ++ more) full in
    let at = closed_at disks back slots q opened stay.counts closed in
    record { stay = stays back slots q more grew stay.aside at; stand = stand back mails (queues_of slots).full more q grew are at; many = closed_length disks back slots q opened stay.counts closed }

pub stand_behind : (mails : List KeptMail) (peer : Peer) (inputs : Inputs) (out : Outcome) (old new : WorldView) (h : MailServed peer inputs out old new) → LeavesStore mails h.first h.store → StandBehind mails old.inputs.disks h.opened.slots new.inputs.disks
stand_behind mails peer inputs out old new h l =
    let first : h.first.queues ≡ Some (queues_of h.opened.slots) = first_queues old.inputs.disks h.first h.opened in
    closed_so mails old.inputs.disks new.inputs.disks h.opened.slots l.more h.store.queues h.opened.are (subst (λ (q : Option Queues). QueuesStayIf q h.store.queues) first l.stays)
    (l.grew.queued ∙ ap (λ (q : Option Queues). option_map (λ (full : List FullView). full ++ l.more) (option_map (λ (a : Queues). a.full) q)) first) l.are h.closed

-- ---- what became of a client

-- the log failed within the line of the verdict, and nothing else was done
pub record CutOff (peer : Peer) (rules : RuleBook) (old new : Devices (Unit {0})) (logs : SinkView) (ending : Ending) : Type 0 where
  pub store : new.store ≡ old.store
  pub output : new.outlet ≡ old.outlet
  pub ends : ending ≡ LogFault

-- a client whom a line denies
pub record ShutOut (peer : Peer) (rules : RuleBook) (old new : Devices (Unit {0})) (logs : SinkView) (ending : Ending) : Type 0 where
  pub line : ℕ
  pub denied : verdict_of rules peer ≡ Deny line
  pub away : IsTurnedAway (decision_text (Deny line) services.Smap peer) (refusal_reply line) old (record new { logs = logs }) Done
  pub ends : ending ≡ Denied line

-- one whom a line permits, and whose session was held
pub record LetIn (peer : Peer) (rules : RuleBook) (old new : Devices (Unit {0})) (logs : SinkView) (ending : Ending) : Type 0 where
  pub line : ℕ
  pub permitted : verdict_of rules peer ≡ Permit line
  pub behind : MailsBehind (decision_text (Permit line) services.Smap peer) (mail_gate_of rules peer) ending (mail_devices (patient (timeout_of rules) old)) (mail_devices (record new { logs = logs }))

abbrev pub OfServed : Peer → RuleBook → Devices (Unit {0}) → Devices (Unit {0}) → SinkView → Ending → Type 0
OfServed peer rules old new logs ending = CutOff peer rules old new logs ending ⊎ (ShutOut peer rules old new logs ending ⊎ LetIn peer rules old new logs ending)

module _ (peer : Peer) (rules : RuleBook) (old new : Devices (Unit {0})) (logs : SinkView) (ending : Ending) where
  permit_so : (line : ℕ) → verdict_of rules peer ≡ Permit line → MailsOrFails (decision_text (Permit line) services.Smap peer) (mail_gate_of rules peer) ending (mail_devices (patient (timeout_of rules) old)) (mail_devices (record new { logs = logs }))
      → OfServed peer rules old new logs ending
  permit_so line is (inl fails) =
      inl (record { store = ap (λ (d : Devices (Unit {0})). d.store) fails.same; output = ap (λ (d : Devices (Unit {0})). d.outlet) fails.same; ends = fails.ends })
  permit_so line is (inr behind) = inr (inr (record { line = line; permitted = is; behind = behind }))

  deny_so : (line : ℕ) → verdict_of rules peer ≡ Deny line → (told : Ending) → ending ≡ denied_by line told → Denies (decision_text (Deny line) services.Smap peer) (refusal_reply line) old (record new { logs = logs }) told → OfServed peer rules old new logs ending
  deny_so line is told ends (inl fails) =
      inl (record { store = ap (λ (d : Devices (Unit {0})). d.store) fails.same; output = ap (λ (d : Devices (Unit {0})). d.outlet) fails.same; ends = ends ∙ ap (denied_by line) fails.ends })
  deny_so line is told ends (inr away) =
      inr (inl (record {
        line = line;
        denied = is;
        away = subst (λ (e : Ending). IsTurnedAway (decision_text (Deny line) services.Smap peer) (refusal_reply line) old (record new { logs = logs }) e) away.ends away;
        ends = ends ∙ ap (denied_by line) away.ends;
      }))

  pub treats_so : (verdict : Verdict) → verdict_of rules peer ≡ verdict → Treats verdict services.Smap rules peer ending old (record new { logs = logs }) → OfServed peer rules old new logs ending
  treats_so (Permit line) is h =
      permit_so line is (mails_behind (decision_text (Permit line) services.Smap peer) (mail_gate_of rules peer) ending (mail_devices (patient (timeout_of rules) old)) (mail_devices (record new { logs = logs })) h.over)
  treats_so (Deny line) is h =
      deny_so line is h.told h.ends (denies (decision_text (Deny line) services.Smap peer) (refusal_reply line) old (record new { logs = logs }) h.told h.session)

pub served_so : (peer : Peer) (inputs : Inputs) (out : Outcome) (old new : WorldView) (h : MailServed peer inputs out old new) → OfServed peer inputs.rules (mailed_devices old nowhere h.first) (mailed_devices new h.dialer h.store) h.serves.logs h.ending
served_so peer inputs out old new h = treats_so peer inputs.rules (mailed_devices old nowhere h.first) (mailed_devices new h.dialer h.store) h.serves.logs h.ending (verdict_of inputs.rules peer) refl h.serves.treats

-- the slots that were opened with a message stay so
behind_so : (peer : Peer) (inputs : Inputs) (out : Outcome) (old new : WorldView) (h : MailServed peer inputs out old new) → OfServed peer inputs.rules (mailed_devices old nowhere h.first) (mailed_devices new h.dialer h.store) h.serves.logs h.ending → StaysBehind old.inputs.disks new.inputs.disks
behind_so peer inputs out old new h (inl cut) =
    let b = stand_behind [] peer inputs out old new h (store_here h.first h.store cut.store) in
    record { slots = h.opened.slots; opened = h.opened.are; stay = b.stay; many = b.many }
behind_so peer inputs out old new h (inr (inl shut)) =
    let b = stand_behind [] peer inputs out old new h (store_here h.first h.store (ap (λ (d : Devices (Unit {0})). d.store) shut.away.same)) in
    record { slots = h.opened.slots; opened = h.opened.are; stay = b.stay; many = b.many }
behind_so peer inputs out old new h (inr (inr in_)) =
    let b = stand_behind (gives kept (deeds_of in_.behind.session.held)) peer inputs out old new h
    (session_leaves (decision_text (Permit in_.line) services.Smap peer) peer inputs.rules h.ending (mail_devices (patient (timeout_of inputs.rules) (mailed_devices old nowhere h.first)))
    (mail_devices (record (mailed_devices new h.dialer h.store) { logs = h.serves.logs })) in_.behind) in
    record { slots = h.opened.slots; opened = h.opened.are; stay = b.stay; many = b.many }

pub mailed_slots : (peer : Peer) (inputs : Inputs) (out : Outcome) (old new : WorldView) → Mailed peer inputs out old new → LeavesSlots old.inputs.disks new.inputs.disks
mailed_slots peer inputs out old new (inl u) = inr (inl (record { slot = u.slot; why = u.why; fault = u.fault }))
mailed_slots peer inputs out old new (inr h) = inr (inr (behind_so peer inputs out old new h (served_so peer inputs out old new h)))

-- ---- what else is left

pub mailed_left : (peer : Peer) (inputs : Inputs) (out : Outcome) (old new : WorldView) → Mailed peer inputs out old new → (new.files ≡ old.files) × (IsSome old.inputs.keeper → IsSome new.inputs.keeper)
mailed_left peer inputs out old new (inl u) = (ap (λ (w : WorldView). w.files) u.is, λ there. subst (λ (k : Option KeeperView). IsSome k) (sym (ap (λ (w : WorldView). w.inputs.keeper) u.is)) there)
mailed_left peer inputs out old new (inr h) = (h.files, λ there. subst (λ (k : Option KeeperView). IsSome k) (sym (ap (λ (i : SessionInputs). i.keeper) h.inputs_are)) there)

pub mailed_unasked : (peer : Peer) (inputs : Inputs) (out : Outcome) (old new : WorldView) → Mailed peer inputs out old new → new.inputs.dialer ≡ old.inputs.dialer
mailed_unasked peer inputs out old new (inl u) = ap (λ (w : WorldView). w.inputs.dialer) u.is
mailed_unasked peer inputs out old new (inr h) = ap (λ (i : SessionInputs). i.dialer) h.inputs_are

pub mailed_remote : (peer : Peer) (inputs : Inputs) (out : Outcome) (old new : WorldView) → Mailed peer inputs out old new → new.inputs.remote ≡ old.inputs.remote
mailed_remote peer inputs out old new (inl u) = ap (λ (w : WorldView). w.inputs.remote) u.is
mailed_remote peer inputs out old new (inr h) = ap (λ (i : SessionInputs). i.remote) h.inputs_are
