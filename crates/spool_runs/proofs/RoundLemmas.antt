-- What a round of handing on does to a spool.
use Rattle.std.proofs.Common.{arith, ◌≡◌, refl, sym, ap, subst, ◌∙◌, ℕ, ◌+◌, ◌≤◌, ◌⊎◌, inl, inr, List, [], ◌∷◌, ◌++◌, length, map, take, drop, append-nil, append_assoc, Option, Some, None, Result}
use Rattle.std.specs.Prelude.{IfSome}
use Rattle.std.specs.List.{AllByRecursion}
use Rattle.std.proofs.lemmas.List.{map-append}
use Rattle.fw_disk.specs.DiskView.{DiskView, Tape}
use Rattle.fw_disk.specs.Medium.{Medium, IsImage}
use Rattle.fw_disk.specs.Moments.{EachImage, Now}
use Rattle.fw_types.specs.declared.message.Message.{Message}
use Rattle.slot_bytes.specs.Layout.{Mail}
use Rattle.slot_bytes.specs.SlotView.{mail_view}
use Rattle.slot_bytes.specs.Reading.{Reading, reads}
use Rattle.slot_bytes.specs.Reading.Reading.{Whole, Aside}
use Rattle.spool_law.specs.Events.{after_all}
use Rattle.spool_law.specs.Images.{IsKept, IsWhole}
use Rattle.spool_law.specs.Runs.{Known, Runs, known_in}
use Rattle.spool_law.specs.Safe.{HasItsMessage}
use Rattle.spool_law.specs.World.{Letter, OfLetter, Use, World, letters}
use Rattle.spool_law.specs.World.Use.{Opened}
use Rattle.spool_law.proofs.RunLemmas.{runs_here}
use Rattle.spool_rack.specs.Opening.{HeldView, held_broken, held_full, held_slot}
use Rattle.spool_rack.specs.Store.{HasNoFull, HasTakenFull, PutsBroken, Queues, StoreView, put_aside, put_free, put_full, with_aside, with_broken, with_free, with_full, without_full}
use Rattle.spool_slots.specs.Media.{IsFull, IsSettled}
use Rattle.spool_slots.specs.States.{BrokenView, FullView, Keeps, SlotView}
use Rattle.spool_slots.proofs.MarkLemmas.{whole_image}
use Rattle.smapd_queue.specs.Meeting.{End, EndsSo, Meeting, PutsBy, TakesTurn, TakesTurns, last_turn}
use Rattle.smapd_queue.specs.Meeting.End.{AllTaken, NoneFull, Unlogged, Lacked}
use Rattle.smapd_queue.specs.Round.{HandsOn}
use Rattle.smapd_queue.specs.Slots.{IsFateOf, IsItsMessage, accepted_in}
use Rattle.smapd_queue.specs.Turns.{Fate, Turn, accepted_by, accepted_of}
use Rattle.smapd_queue.specs.Turns.Fate.{Freed, NotFreed, PutAside, NotAside, PutBack, Unread}
use Rattle.smapd_queue.specs.declared.round.Round.{Round}
use Rattle.smapd_queue.specs.declared.round.RoundFault.{RoundFault}
use Rattle.spool_runs.specs.OnDisks.{IsReachable}
use Rattle.spool_runs.proofs.GrownLemmas.{Grown, grown_moved}
use Rattle.spool_runs.proofs.RackLemmas.{Fits, IsFullOn, IsMoved, IsRack, moved_told}
use Rattle.spool_runs.proofs.ReachLemmas.{its_message}
use Rattle.spool_runs.proofs.StoreLemmas.{Grows, LentFull, full_to_aside, full_to_broken, full_to_free, full_to_full, grows_both, grows_same, lent_full, put_aside_queues, put_broken_queues, put_free_queues, put_full_queues}
use Rattle.spool_runs.proofs.TapeLemmas.{each_both}

-- ---- the message of a slot

full_whole : (m : Medium) → IsFull m → EachImage IsWhole m
full_whole m f image is = record { mail = f.m; is = whole_image f.m m f.settled_as image is }

same_mail : (a b : Mail) (image : List ℕ) → reads image ≡ Whole a → IsKept b image → a ≡ b
same_mail a b image whole (inl is) = let both : Whole a ≡ Whole b = sym whole ∙ is in cc
same_mail a b image whole (inr is) = let both : Whole a ≡ Aside b = sym whole ∙ is in absurd (cc)

-- the slot in front has a message of the spool's, which is the one on its disk
record IsOfLetter (w : World) (slot : FullView) : Type 0 where
  letter : Letter
  is : (w.slots slot.number).use_of ≡ Opened letter
  keeps : Keeps letter.mail slot
  tape : Tape
  told : slot.disk.told ≡ Some tape

now_of : (P : Medium → Type 0) (view : DiskView) (tape : Tape) → view.told ≡ Some tape → P tape.now → Now P view
now_of P view tape is h = subst (λ (o : Option Tape). IfSome o (λ (t : Tape). P t.now)) (sym is) h

now_at : (P : Medium → Type 0) (view : DiskView) (tape : Tape) → view.told ≡ Some tape → Now P view → P tape.now
now_at P view tape is h = subst (λ (o : Option Tape). IfSome o (λ (t : Tape). P t.now)) is h

of_letter : (w : World) (slot : FullView) (tape : Tape) → slot.disk.told ≡ Some tape → (w.slots slot.number).medium ≡ tape.now → IsFull tape.now → HasItsMessage (w.slots slot.number) → IsOfLetter w slot
of_letter w slot tape told fits full has =
    let m : Medium = (w.slots slot.number).medium in
    let kept : IsKept has.letter.mail tape.now.seen = has.kept tape.now.seen (subst (λ (x : Medium). IsImage x tape.now.seen) (sym fits) full.settled_as.sound) in
    let same : full.m ≡ has.letter.mail = same_mail full.m has.letter.mail tape.now.seen full.settled_as.read kept in
    record {
      letter = has.letter;
      is = has.is;
      keeps = now_of (IsSettled (Whole has.letter.mail)) slot.disk tape told (subst (λ (x : Mail). IsSettled (Whole x) tape.now) same full.settled_as);
      tape = tape;
      told = told;
    }

pub front_full : (P : FullView → Type 0) (slot : FullView) (xs : List FullView) → take 1 xs ≡ slot ∷ [] → AllByRecursion P xs → P slot × AllByRecursion P (drop 1 xs)
front_full P slot [] is all = absurd (cc)
front_full P slot (x ∷ xs) is all = let same : x ≡ slot = cc in (subst P same all.0, all.1)

-- ---- a turn

module _ (count : ℕ) (slot : FullView) (old lent : StoreView) (takes : HasTakenFull slot old lent) (w : World) (tapes : ℕ → Tape) (q : Queues) (reach : IsReachable w) (fits : Fits w tapes) (queues : old.queues ≡ Some q) (rack : IsRack count tapes q) where
  taken : LentFull slot q lent
  taken = lent_full slot old lent q takes queues

  rest_full : AllByRecursion IsFullOn (drop 1 q.full)
  rest_full = (front_full IsFullOn slot q.full taken.front rack.full).1

  here_full : IsFullOn slot
  here_full = (front_full IsFullOn slot q.full taken.front rack.full).0

  here_told : slot.disk.told ≡ Some (tapes slot.number)
  here_told = moved_told count tapes tapes (held_full slot) (held_full slot) q (with_full slot (without_full q)) (full_to_full q slot taken.front slot refl) rack

  here_letter : IsOfLetter w slot
  here_letter =
      let full = now_at IsFull slot.disk (tapes slot.number) here_told here_full in
      let whole : EachImage IsWhole (w.slots slot.number).medium = subst (EachImage IsWhole) (sym (fits slot.number)) (full_whole (tapes slot.number).now full) in
      of_letter w slot (tapes slot.number) here_told (fits slot.number) full (its_message w slot.number reach whole)

  abbrev here_known : Known
  here_known = known_in w slot.number

  here_of : OfLetter (λ l. Keeps l.mail slot) (w.slots slot.number).use_of
  here_of = subst (OfLetter (λ l. Keeps l.mail slot)) (sym here_letter.is) here_letter.keeps

  here_mail : (message : Message) → IsItsMessage message slot → here_letter.letter.mail ≡ mail_view message
  here_mail message its =
      sym (subst (λ (o : Option Tape). IfSome o (λ (t : Tape). mail_view message ≡ here_letter.letter.mail)) here_letter.told (its.1 here_letter.letter.mail here_letter.keeps))

  here_accepted : (accepted_in here_known).accepted ≡ w.accepted ++ here_letter.letter ∷ []
  here_accepted = ap (λ (u : Use). w.accepted ++ letters u) here_letter.is

  accepted_turn : (message : Message) (new : StoreView) (r : Queues) (held : HeldView) → IsItsMessage message slot → IsMoved (held_full slot) held q r → new.queues ≡ Some r → AllByRecursion IsFullOn r.full
      → Runs here_known slot.disk (accepted_in here_known) held.disk → Grown count [] (mail_view message ∷ []) w tapes new.queues
  accepted_turn message new r held its moved is full runs =
      subst (λ (m : Mail). Grown count [] (m ∷ []) w tapes new.queues) (here_mail message its)
      (grown_moved count (here_letter.letter ∷ []) w tapes q r new.queues (held_full slot) held (accepted_in here_known) fits rack moved is full runs (omega arith) here_accepted)

  other_turn : (new : StoreView) (r : Queues) (held : HeldView) → IsMoved (held_full slot) held q r → new.queues ≡ Some r → AllByRecursion IsFullOn r.full → Runs here_known slot.disk here_known held.disk → Grown count [] [] w tapes new.queues
  other_turn new r held moved is full runs =
      grown_moved count [] w tapes q r new.queues (held_full slot) held here_known fits rack moved is full runs (omega arith) (sym (append-nil w.accepted))

  back_turn : (new : StoreView) → new ≡ put_full slot lent → Grown count [] [] w tapes new.queues
  back_turn new is =
      other_turn new (with_full slot (without_full q)) (held_full slot) (full_to_full q slot taken.front slot refl) (put_full_queues slot lent new (without_full q) is taken.queues)
      (each_both IsFullOn (drop 1 q.full) (slot ∷ []) rest_full (here_full, tt)) (runs_here here_known slot.disk)

  unread_runs : (new : DiskView) → new.told ≡ slot.disk.told → Runs here_known slot.disk here_known new
  unread_runs new is = subst (λ (o : Option Tape). Runs here_known slot.disk here_known (record { told = o; faults = new.faults })) (sym is) (runs_here here_known slot.disk)

  fate_grown : (fate : Fate) (new : StoreView) → IsFateOf slot fate → PutsBy slot fate lent new → Grown count [] (map mail_view (accepted_by fate)) w tapes new.queues
  fate_grown (Freed message free) new so puts =
      accepted_turn message new (with_free free (without_full q)) (held_slot free) so.0 (full_to_free q slot taken.front free so.1.onward.number_is) (put_free_queues free lent new (without_full q) puts taken.queues) rest_full (so.1.events here_known here_of)
  fate_grown (NotFreed message broken) new so puts =
      accepted_turn message new (with_broken broken (without_full q)) (held_broken broken) so.0 (full_to_broken q slot taken.front broken so.1.broke.number_is) (put_broken_queues broken lent new (without_full q) puts taken.queues) rest_full (so.1.events here_known here_of)
  fate_grown (PutAside message aside) new so puts =
      other_turn new (with_aside aside (without_full q)) (held_slot aside) (full_to_aside q slot taken.front aside so.1.onward.number_is) (put_aside_queues aside lent new (without_full q) puts taken.queues) rest_full (so.1.events here_known)
  fate_grown (NotAside message broken) new so puts =
      other_turn new (with_broken broken (without_full q)) (held_broken broken) (full_to_broken q slot taken.front broken so.1.broke.number_is) (put_broken_queues broken lent new (without_full q) puts taken.queues) rest_full (so.1.events here_known)
  fate_grown (PutBack message) new so puts = back_turn new puts
  fate_grown (Unread broken) new so puts =
      other_turn new (with_broken broken (without_full q)) (held_broken broken) (full_to_broken q slot taken.front broken so.broke.number_is) (put_broken_queues broken lent new (without_full q) puts taken.queues) rest_full (unread_runs broken.disk so.told)

turn_grows : (count : ℕ) (turn : Turn) (old new : Meeting) → TakesTurn turn old new → Grows count [] (map mail_view (accepted_by turn.fate)) old.store new.store
turn_grows count turn old new t w tapes q reach fits queues rack =
    fate_grown count turn.slot old.store t.lent t.takes w tapes q reach fits queues rack turn.fate new.store t.slot_so t.puts

-- ---- a round

one_grows : (count : ℕ) (turn : Turn) (old new : Meeting) → TakesTurn turn old new → Grows count [] (map mail_view (accepted_of (turn ∷ []))) old.store new.store
one_grows count turn old new t = subst (λ (m : List Message). Grows count [] (map mail_view m) old.store new.store) (sym (append-nil (accepted_by turn.fate))) (turn_grows count turn old new t)

turns_grow : (count : ℕ) (turns : List Turn) (old new : Meeting) → TakesTurns turns old new → Grows count [] (map mail_view (accepted_of turns)) old.store new.store
turns_grow count [] old new is = grows_same count old.store new.store (ap (λ (m : Meeting). m.store.queues) is)
turns_grow count (turn ∷ turns) old new t =
    subst (λ (m : List Mail). Grows count [] m old.store new.store) (sym (map-append mail_view (accepted_by turn.fate) (accepted_of turns)))
    (grows_both count [] [] (map mail_view (accepted_by turn.fate)) (map mail_view (accepted_of turns)) old.store t.middle.store new.store (turn_grows count turn old t.middle t.takes) (turns_grow count turns _ new t.more))

lacked_grows : (count : ℕ) (slot : FullView) (old lent new : StoreView) → HasTakenFull slot old lent → new ≡ put_full slot lent → Grows count [] [] old new
lacked_grows count slot old lent new takes is w tapes q reach fits queues rack = back_turn count slot old lent takes w tapes q reach fits queues rack new is

end_grows : (count : ℕ) (ending : End) (old new : Meeting) → EndsSo ending old new → Grows count [] (map mail_view (accepted_of (last_turn ending))) old.store new.store
end_grows count AllTaken old new is = grows_same count old.store new.store (ap (λ (m : Meeting). m.store.queues) is)
end_grows count NoneFull old new h = grows_same count old.store new.store (ap (λ (s : StoreView). s.queues) h.none.is)
end_grows count (Unlogged turn) old new h =
    subst (λ (s : StoreView). Grows count [] (map mail_view (accepted_of (turn ∷ []))) old.store s) (sym h.store) (one_grows count turn old h.middle h.takes)
end_grows count (Lacked slot message) old new h = lacked_grows count slot old.store h.lent new.store h.takes h.puts

accepted_both : (a b : List Turn) → accepted_of (a ++ b) ≡ accepted_of a ++ accepted_of b
accepted_both [] b = refl
accepted_both (turn ∷ a) b = ap (λ (l : List Message). accepted_by turn.fate ++ l) (accepted_both a b) ∙ sym (append_assoc (accepted_by turn.fate) (accepted_of a) (accepted_of b))

pub round_grows : (count most : ℕ) (result : Result Round RoundFault) (old new : Meeting) (h : HandsOn most result old new) → Grows count [] (map mail_view (accepted_of (h.turns ++ last_turn h.ending))) old.store new.store
round_grows count most result old new h =
    let same : map mail_view (accepted_of (h.turns ++ last_turn h.ending)) ≡ map mail_view (accepted_of h.turns) ++ map mail_view (accepted_of (last_turn h.ending)) =
    ap (map mail_view) (accepted_both h.turns (last_turn h.ending)) ∙ map-append mail_view (accepted_of h.turns) (accepted_of (last_turn h.ending)) in
    subst (λ (m : List Mail). Grows count [] m old.store new.store) (sym same)
    (grows_both count [] [] (map mail_view (accepted_of h.turns)) (map mail_view (accepted_of (last_turn h.ending))) old.store h.middle.store new.store (turns_grow count h.turns old h.middle h.took) (end_grows count h.ending h.middle new h.ends))
