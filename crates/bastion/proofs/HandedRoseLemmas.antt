-- Whose count rose in a run of `smapd`.
use Rattle.std.proofs.Common.{arith, ◌≡◌, refl, sym, subst, ◌∙◌, ℕ, zero, suc, ◌+◌, List, [], ◌∷◌, ◌++◌, length, inl, inr, Option, Some, None, Result, Ok, Err}
use Rattle.std.specs.Prelude.{IfSome}
use Rattle.std.specs.List.{AllByRecursion}
use Rattle.fw_disk.specs.DiskView.{DiskView}
use Rattle.fw_mail.specs.MailerView.{MailerView}
use Rattle.fw_outside.specs.Counts.{Rose}
use Rattle.fw_outside.specs.SinkView.{Gives, SinkView}
use Rattle.fw_outside.specs.declared.failed.Failed as sink
use Rattle.smapd_queue.specs.Meeting.{End, last_turn, lacked_of, meeting_with}
use Rattle.smapd_queue.specs.Meeting.End.{AllTaken, NoneFull, Unlogged, Lacked}
use Rattle.smapd_queue.specs.Round.{IsTurn, answer_of, round_of}
use Rattle.smapd_queue.specs.Slots.{IsFateOf}
use Rattle.smapd_queue.specs.Sums.{LogGoes, QueuesGo, ToldQueuesGo}
use Rattle.smapd_queue.specs.Turns.{Fate, Turn, broken_of, line_of, or_else, trouble_by, trouble_of}
use Rattle.smapd_queue.specs.Turns.Fate.{Freed, NotFreed, PutAside, NotAside, PutBack, Unread}
use Rattle.smapd_queue.specs.declared.round.Round.{Round}
use Rattle.smapd_queue.specs.declared.round.RoundFault.{RoundFault}
use Rattle.smapd_queue.specs.declared.round.RoundFault.TheVariants as faults
use Rattle.smapd_queue.specs.declared.round.Trouble.{Trouble}
use Rattle.smapd_queue.specs.declared.round.Trouble.TheVariants as troubles
use Rattle.spool_rack.specs.Opening.{AreInOrder, AreSlotsOf, held_broken, queues_of}
use Rattle.spool_rack.specs.Store.{Queues}
use Rattle.spool_slots.specs.States.{BrokenView, FullView, IsBrokenFull}
use Rattle.spool_slots.specs.declared.opening.Opened.{Opened}
use Rattle.spool_slots.specs.declared.opening.Opened.TheVariants as opened
use Rattle.spool_runs.proofs.KeepLemmas.{round_keeps}
use Rattle.spool_runs.proofs.MailerLemmas.{FailsRose, round_mailers}
use Rattle.spool_runs.proofs.NumberLemmas.{weaker}
use Rattle.bastion.specs.HandingOn.{HandsMail, RoundHeld, TellsRound, outcome_after, outcome_faulted, outcome_printed}
use Rattle.spool_slots.specs.declared.slot_why.SlotWhy.{SlotWhy}
use Rattle.spool_slots.specs.declared.slot_why.SlotWhy.TheVariants as whys
use Rattle.bastion.specs.Mailing.{slot_fault}
use Rattle.bastion.specs.Outcome.{DiskRose, JobRose, MailersRose, SlotsRose}
use Rattle.bastion.specs.Spool.{AtPlace}
use Rattle.bastion.specs.WorldView.{Post, WorldView}
use Rattle.bastion.specs.declared.outcome.Outcome.{Outcome}
use Rattle.bastion.proofs.MailedLemmas.{first_queues, unread_rose}
use Rattle.bastion.proofs.SpoolLemmas.{AreAt, IsHeldAt, both_parts, closed_at, closed_length}
use Rattle.client_service.proofs.SinkLemmas.{cut_rose}

-- ---- where the full slots were

-- the disk at the place of the slot's number counted as many failures
abbrev pub WasAt : List DiskView → FullView → Type 0
WasAt disks slot = AtPlace (λ disk. slot.disk.faults ≡ disk.faults) slot.number disks

-- the same, with places from a number on
record Behind (a : ℕ) (disks : List DiskView) (slot : FullView) : Type 0 where
  place : ℕ
  is : slot.number ≡ a + place
  there : AtPlace (λ disk. slot.disk.faults ≡ disk.faults) place disks

one_behind : (a : ℕ) (disk : DiskView) (disks : List DiskView) (slot : FullView) → Behind (a + 1) disks slot → Behind a (disk ∷ disks) slot
one_behind a disk disks slot b = let is = b.is in record { place = suc b.place; is = omega (arith, is); there = b.there }

full_behind : (a : ℕ) (disks : List DiskView) (slots : List (Opened (Unit {0}))) → AreSlotsOf (Unit {0}) a disks slots → AllByRecursion (Behind a disks) (queues_of slots).full
full_behind a disks [] h = tt
full_behind a [] (slot ∷ slots) h = absurd h
full_behind a (disk ∷ disks) (opened.Free slot ∷ slots) h = weaker (Behind (a + 1) disks) (Behind a (disk ∷ disks)) (one_behind a disk disks) (queues_of slots).full (full_behind (a + 1) disks slots h.1)
full_behind a (disk ∷ disks) (opened.Aside slot ∷ slots) h = weaker (Behind (a + 1) disks) (Behind a (disk ∷ disks)) (one_behind a disk disks) (queues_of slots).full (full_behind (a + 1) disks slots h.1)
full_behind a (disk ∷ disks) (opened.Full slot ∷ slots) h =
    let number = h.0.onward.number_is in
    (record { place = 0; is = omega (arith, number); there = h.0.onward.faults }, weaker (Behind (a + 1) disks) (Behind a (disk ∷ disks)) (one_behind a disk disks) (queues_of slots).full (full_behind (a + 1) disks slots h.1))

at_number : (disks : List DiskView) (slot : FullView) → Behind 0 disks slot → WasAt disks slot
at_number disks slot b = subst (λ (n : ℕ). AtPlace (λ disk. slot.disk.faults ≡ disk.faults) n disks) (let is = b.is in omega (arith, is)) b.there

pub full_at : (disks : List DiskView) (slots : List (Opened (Unit {0}))) → AreSlotsOf (Unit {0}) 0 disks slots → AllByRecursion (WasAt disks) (queues_of slots).full
full_at disks slots h = weaker (Behind 0 disks) (WasAt disks) (at_number disks) (queues_of slots).full (full_behind 0 disks slots h)

both_at : (before : FullView) (after : BrokenView) (n : ℕ) (old new : List DiskView) → AtPlace (λ disk. before.disk.faults ≡ disk.faults) n old → AtPlace (λ disk. disk ≡ after.disk) n new → Rose before.disk.faults after.disk.faults → DiskRose n old new
both_at before after zero [] new h k rose = absurd h
both_at before after zero (a ∷ old) [] h k rose = absurd k
both_at before after zero (a ∷ old) (b ∷ new) h k rose =
    subst (λ (d : DiskView). Rose a.faults d.faults) (sym k) (subst (λ (x : ℕ). Rose x after.disk.faults) h rose)
both_at before after (suc n) [] new h k rose = absurd h
both_at before after (suc n) (a ∷ old) [] h k rose = absurd k
both_at before after (suc n) (a ∷ old) (b ∷ new) h k rose = both_at before after n old new h k rose

-- ---- the devices of trouble

abbrev pub Troubled : List DiskView → List DiskView → Type 0 → Option Trouble → Type 0
Troubled old new Mailers None = Unit {0}
Troubled old new Mailers (Some troubles.Mailer) = Mailers
Troubled old new Mailers (Some (troubles.Disk slot)) = DiskRose slot old new

module _ (old new : List DiskView) (before now : ℕ) where
  abbrev Tr : Option Trouble → Type 0
  Tr trouble = Troubled old new (Rose before now) trouble

  broke_at : (slot : FullView) (broken : BrokenView) → WasAt old slot → IsBrokenFull slot.number slot.disk broken → IsHeldAt new (held_broken broken) → DiskRose slot.number old new
  broke_at slot broken was is at =
      both_at slot broken slot.number old new was (subst (λ (n : ℕ). AtPlace (λ disk. disk ≡ broken.disk) n new) is.number_is at) is.rose

  fate_troubled : (slot : FullView) (fate : Fate) → IsFateOf slot fate → WasAt old slot → AllByRecursion (λ (b : BrokenView). IsHeldAt new (held_broken b)) (broken_of (record { slot = slot; fate = fate } ∷ [])) → FailsRose before now fate → Tr (trouble_by slot.number fate)
  fate_troubled slot (Freed message free) so was at fails = tt
  fate_troubled slot (NotFreed message broken) so was at fails = broke_at slot broken was so.1.broke at.0
  fate_troubled slot (PutAside message aside) so was at fails = tt
  fate_troubled slot (NotAside message broken) so was at fails = broke_at slot broken was so.1.broke at.0
  fate_troubled slot (PutBack message) so was at fails = fails
  fate_troubled slot (Unread broken) so was at fails = broke_at slot broken was so.broke at.0

  or_troubled : (a b : Option Trouble) → Tr a → Tr b → Tr (or_else a b)
  or_troubled None b x y = y
  or_troubled (Some a) b x y = x

  first_broken : (slot : FullView) (fate : Fate) (turns : List Turn) → (P : BrokenView → Type 0) → AllByRecursion P (broken_of (record { slot = slot; fate = fate } ∷ turns)) → AllByRecursion P (broken_of (record { slot = slot; fate = fate } ∷ [])) × AllByRecursion P (broken_of turns)
  first_broken slot (Freed message free) turns P all = (tt, all)
  first_broken slot (NotFreed message broken) turns P all = ((all.0, tt), all.1)
  first_broken slot (PutAside message aside) turns P all = (tt, all)
  first_broken slot (NotAside message broken) turns P all = ((all.0, tt), all.1)
  first_broken slot (PutBack message) turns P all = (tt, all)
  first_broken slot (Unread broken) turns P all = ((all.0, tt), all.1)

  turns_troubled : (turns : List Turn) → AllByRecursion IsTurn turns → AllByRecursion (λ turn. WasAt old turn.slot) turns → AllByRecursion (λ (b : BrokenView). IsHeldAt new (held_broken b)) (broken_of turns) → AllByRecursion (λ turn. FailsRose before now turn.fate) turns → Tr (trouble_of turns)
  turns_troubled [] each was at fails = tt
  turns_troubled (turn ∷ turns) each was at fails =
      let parts = first_broken turn.slot turn.fate turns (λ (b : BrokenView). IsHeldAt new (held_broken b)) at in
      or_troubled (trouble_by turn.slot.number turn.fate) (trouble_of turns) (fate_troubled turn.slot turn.fate each.0.fate was.0 parts.0 fails.0) (turns_troubled turns each.1 was.1 parts.1 fails.1)

-- ---- a round

queues_go : (turns : List Turn) (lacked : List FullView) (old new : Option Queues) (q r : Queues) → old ≡ Some q → new ≡ Some r → ToldQueuesGo turns lacked old new → QueuesGo turns lacked q r
queues_go turns lacked None new q r is now h = absurd (cc)
queues_go turns lacked (Some a) None q r is now h = absurd (cc)
queues_go turns lacked (Some a) (Some b) q r is now h =
    let one : a ≡ q = cc in
    let two : b ≡ r = cc in
    subst (λ (x : Queues). QueuesGo turns lacked x r) one (subst (λ (x : Queues). QueuesGo turns lacked a x) two h)

module _ (post : Post) where
  -- what is known of the slots behind a round
  pub record RoundBehind (old new : WorldView) {outcome : Outcome} (h : RoundHeld post outcome old new) : Type 0 where
    pub q : Queues
    pub is : h.store.queues ≡ Some q
    pub was : AllByRecursion (λ turn. WasAt old.inputs.disks turn.slot) (h.hands.hands.turns ++ last_turn h.hands.hands.ending)
    pub go : QueuesGo (h.hands.hands.turns ++ last_turn h.hands.hands.ending) (lacked_of h.hands.hands.ending) (queues_of h.opened.slots) q
    pub at : AreAt q new.inputs.disks
    pub many : length new.inputs.disks ≡ length old.inputs.disks

  pub round_behind : (outcome : Outcome) (old new : WorldView) (h : RoundHeld post outcome old new) → RoundBehind old new h
  round_behind outcome old new h =
      let hands = h.hands.hands in
      let start = first_queues old.inputs.disks h.first h.opened in
      let keeps = round_keeps (WasAt old.inputs.disks) (length old.inputs.disks) h.answer (meeting_with h.first post.before old.logs) (meeting_with h.store post.after new.logs) (queues_of h.opened.slots) hands start (full_at old.inputs.disks h.opened.slots h.opened.are) in
      let order : AreInOrder keeps.after new.inputs.disks = subst (λ (o : Option Queues). IfSome o (λ (x : Queues). AreInOrder x new.inputs.disks)) keeps.is h.closed in
      record {
        q = keeps.after;
        is = keeps.is;
        was = keeps.each;
        go = queues_go (hands.turns ++ last_turn hands.ending) (lacked_of hands.ending) h.first.queues h.store.queues (queues_of h.opened.slots) keeps.after start keeps.is hands.store.queues;
        at = closed_at old.inputs.disks new.inputs.disks h.opened.slots keeps.after h.opened.are keeps.counts order;
        many = closed_length old.inputs.disks new.inputs.disks h.opened.slots keeps.after h.opened.are keeps.counts order;
      }

  mailers_rose : (old new : List MailerView) (first after : MailerView) (others : List MailerView) → old ≡ first ∷ others → new ≡ after ∷ others → Rose first.faults after.faults → MailersRose old new
  mailers_rose old new first after others were are rose =
      subst (λ (l : List MailerView). MailersRose l new) (sym were) (subst (λ (l : List MailerView). MailersRose (first ∷ others) l) (sym are) rose)

  -- the device that a round names
  abbrev pub IsTroubled : WorldView → WorldView → Option Trouble → Type 0
  IsTroubled old new trouble = Troubled old.inputs.disks new.inputs.disks (MailersRose post.before post.after) trouble

  with_mailers : (old new : List DiskView) (A B : Type 0) (trouble : Option Trouble) → (A → B) → Troubled old new A trouble → Troubled old new B trouble
  with_mailers old new A B None to h = h
  with_mailers old new A B (Some troubles.Mailer) to h = to h
  with_mailers old new A B (Some (troubles.Disk slot)) to h = h

  pub round_troubled : (outcome : Outcome) (old new : WorldView) (h : RoundHeld post outcome old new) → IsTroubled old new h.trouble
  round_troubled outcome old new h =
      let hands = h.hands.hands in
      let behind = round_behind outcome old new h in
      let go = hands.mailers in
      let keep = round_mailers (length old.inputs.disks) h.answer go.first go.others (meeting_with h.first post.before old.logs) (meeting_with h.store post.after new.logs) hands go.were in
      let broken = (both_parts (λ (b : BrokenView). IsHeldAt new.inputs.disks (held_broken b)) (queues_of h.opened.slots).broken (broken_of (hands.turns ++ last_turn hands.ending))
      (subst (AllByRecursion (λ (b : BrokenView). IsHeldAt new.inputs.disks (held_broken b))) behind.go.broken behind.at.broken)).1 in
      let all = turns_troubled old.inputs.disks new.inputs.disks go.first.faults keep.after.faults (hands.turns ++ last_turn hands.ending) hands.each behind.was broken keep.each in
      subst (IsTroubled old new) (sym h.hands.told)
      (with_mailers old.inputs.disks new.inputs.disks (Rose go.first.faults keep.after.faults) (MailersRose post.before post.after) (trouble_of (hands.turns ++ last_turn hands.ending))
      (mailers_rose post.before post.after go.first keep.after go.others go.were keep.is) all)

  -- the log failed where the round says so
  log_rose : (ending : End) (turns : List Turn) (round : Round) (old new : SinkView) → Err (faults.LogFault round) ≡ answer_of ending (round_of turns) → LogGoes turns ending old new → Rose old.faults new.faults
  log_rose AllTaken turns round old new is goes = absurd (cc)
  log_rose NoneFull turns round old new is goes = absurd (cc)
  log_rose (Lacked slot message) turns round old new is goes = absurd (cc)
  log_rose (Unlogged turn) turns round old new is goes =
      let rose = cut_rose (line_of turn) goes.middle new goes.cut in
      subst (λ (s : SinkView). Rose s.faults new.faults) goes.whole rose

  pub round_log : (outcome : Outcome) (old new : WorldView) (h : RoundHeld post outcome old new) (round : Round) → h.answer ≡ Err (faults.LogFault round) → Rose old.logs.faults new.logs.faults
  round_log outcome old new h round is = log_rose h.hands.hands.ending h.hands.hands.turns round old.logs new.logs (sym is ∙ h.hands.hands.answer) h.hands.hands.logs

  after_rose : (trouble : Option Trouble) (other : Outcome) (old new : WorldView) → IsTroubled old new trouble → JobRose post other old new → JobRose post (outcome_after trouble other) old new
  after_rose None other old new troubled rose = rose
  after_rose (Some troubles.Mailer) other old new troubled rose = troubled
  after_rose (Some (troubles.Disk slot)) other old new troubled rose = troubled

  printed_rose : (printing : Result (Unit {0}) sink.Failed) (text : List ℕ) (old new : WorldView) → Gives printing text old.output new.output → JobRose post (outcome_printed printing) old new
  printed_rose (Ok done) text old new gives = tt
  printed_rose (Err failed) text old new gives = cut_rose text old.output new.output gives

  faulted_rose : (outcome : Outcome) (old new : WorldView) (h : RoundHeld post outcome old new) (fault : RoundFault) → h.answer ≡ Err fault → JobRose post (outcome_faulted fault) old new
  faulted_rose outcome old new h (faults.NoMemory round) is = tt
  faulted_rose outcome old new h (faults.LogFault round) is = round_log outcome old new h round is

  tells_rose : (outcome : Outcome) (old new : WorldView) (h : RoundHeld post outcome old new) (answer : Result Round RoundFault) → h.answer ≡ answer → TellsRound answer h.trouble outcome old.output new.output → JobRose post outcome old new
  tells_rose outcome old new h (Ok round) is tells =
      subst (λ (o : Outcome). JobRose post o old new) (sym tells.is) (after_rose h.trouble (outcome_printed tells.printing) old new (round_troubled outcome old new h) (printed_rose tells.printing _ old new tells.gives))
  tells_rose outcome old new h (Err fault) is tells =
      subst (λ (o : Outcome). JobRose post o old new) (sym tells.0) (after_rose h.trouble (outcome_faulted fault) old new (round_troubled outcome old new h) (faulted_rose outcome old new h fault is))

  fault_job : (slot : ℕ) (why : SlotWhy) (old new : WorldView) → SlotsRose (slot_fault slot why) old new → JobRose post (slot_fault slot why) old new
  fault_job slot (whys.BadSlot at) old new h = h
  fault_job slot whys.DiskFault old new h = h
  fault_job slot whys.NoMemory old new h = h

  pub handed_rose : (outcome : Outcome) (old new : WorldView) → HandsMail post outcome old new → JobRose post outcome old new
  handed_rose outcome old new (inl u) = subst (λ (o : Outcome). JobRose post o old new) (sym u.0.comes) (fault_job u.0.slot u.0.why old new (unread_rose u.0.slot u.0.why old new u.0.fault))
  handed_rose outcome old new (inr h) = tells_rose outcome old new h h.answer refl h.tells
