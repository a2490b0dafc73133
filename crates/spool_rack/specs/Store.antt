-- A store of slots as contracts see it, and what taking and putting do to it.
use Rattle.std.specs.Prelude.{◌≡◌, ℕ, ◌==◌, Bool, true, false, List, [], ◌∷◌, ◌++◌, take, drop, Option, Some, None, IfSome, option_map, if◌then◌else◌}
use Rattle.std.specs.List.{find}
use Rattle.fw_outside.specs.Counts.{Rose}
use Rattle.fw_disk.specs.Moments.{Now, EachImage}
use Rattle.slot_bytes.specs.Layout.{Mail}
use Rattle.spool_slots.specs.Images.{HasMessageBehind}
use Rattle.spool_slots.specs.States.{SlotView, FullView, BrokenView, Keeps, KeepsAside}

-- ---- what a store is

-- the slots that stand in it, each queue from its front on
pub record Queues : Type 0 where
  pub free : List SlotView
  pub full : List FullView
  pub aside : List SlotView
  pub broken : List BrokenView

-- a slot that was taken: its number, whether it was taken full, and the full slot, where the store tells it
pub record Loan : Type 0 where
  pub number : ℕ
  pub was_full : Bool
  pub taken : Option FullView

-- Of a store whose queues are shared: which pool it is of, how many of the pool's 2^64 parts it has, and the slots that
-- the pool was made of, none of which any call on slots changes; and what was put: the slots that it was first given
-- full; those that it took full and was given free; those that were set aside; and those that broke and came from a
-- `Full`.
pub record Handed : Type 0 where
  pub home : List (List ℕ)
  pub parts : ℕ
  pub began : Queues
  pub put : List FullView
  pub released : List Loan
  pub aside : List SlotView
  pub broken : List BrokenView

-- A rack tells its queues; a pass of a pool, whose queues are shared, keeps lists instead. The slots that were taken and
-- not yet put back, the latest first. How often no slot was free, none was full, and how often a slot was put broken.
pub record StoreView : Type 0 where
  pub queues : Option Queues
  pub handed : Option Handed
  pub out : List Loan
  pub no_free : ℕ
  pub no_full : ℕ
  pub broken : ℕ

-- ---- slots that are out

-- the slot of this number that was taken last
abbrev pub loan_of : ℕ → List Loan → Option Loan
loan_of n out = find (λ loan. loan.number == n) out

-- the others
abbrev pub struck : ℕ → List Loan → List Loan
struck n [] = []
struck n (loan ∷ out) = if loan.number == n then out else loan ∷ struck n out

-- a slot of this number is out, and this holds of it
abbrev pub OfLoan : (Loan → Type 0) → Option Loan → Type 0
OfLoan P None = ⊥
OfLoan P (Some loan) = P loan

abbrev pub IsOut : ℕ → List Loan → Type 0
IsOut n out = OfLoan (λ loan. Unit {0}) (loan_of n out)

-- it is out, and was taken full or not
abbrev pub WasTaken : Bool → ℕ → List Loan → Type 0
WasTaken full n out = OfLoan (λ loan. loan.was_full ≡ full) (loan_of n out)

-- where it was taken full, and with a message that is told, this holds of each message that it had
abbrev pub OfItsMessage : (Mail → Type 0) → ℕ → List Loan → Type 0
OfItsMessage P n out = IfSome (loan_of n out) (λ loan. IfSome loan.taken (λ full. (m : Mail) → Keeps m full → P m))

-- ---- taking

abbrev pub without_free : Queues → Queues
without_free q = record { free = drop 1 q.free; full = q.full; aside = q.aside; broken = q.broken }

abbrev pub without_full : Queues → Queues
without_full q = record { free = q.free; full = drop 1 q.full; aside = q.aside; broken = q.broken }

-- the free slot at the front was taken
pub record HasTakenFree (slot : SlotView) (old new : StoreView) : Type 0 where
  pub front : IfSome old.queues (λ q. take 1 q.free ≡ slot ∷ [])
  pub is : new ≡ record {
    queues = option_map without_free old.queues;
    handed = old.handed;
    out = record { number = slot.number; was_full = false; taken = None } ∷ old.out;
    no_free = old.no_free;
    no_full = old.no_full;
    broken = old.broken;
  }

-- no slot was free, which is counted
pub record HasNoFree (old new : StoreView) : Type 0 where
  pub none : IfSome old.queues (λ q. q.free ≡ [])
  pub count : ℕ
  pub rose : Rose old.no_free count
  pub is : new ≡ record old { no_free = count }

-- what taking a free slot answers and leaves
abbrev pub TakesFree : Option SlotView → StoreView → StoreView → Type 0
TakesFree None old new = HasNoFree old new
TakesFree (Some slot) old new = HasTakenFree slot old new

-- the full slot at the front was taken, and it is told where lists are kept
pub record HasTakenFull (slot : FullView) (old new : StoreView) : Type 0 where
  pub front : IfSome old.queues (λ q. take 1 q.full ≡ slot ∷ [])
  pub unread : slot.unread ≡ false
  pub is : new ≡ record {
    queues = option_map without_full old.queues;
    handed = old.handed;
    out = record { number = slot.number; was_full = true; taken = option_map (λ lists. slot) old.handed } ∷ old.out;
    no_free = old.no_free;
    no_full = old.no_full;
    broken = old.broken;
  }

-- no slot was full, which is counted
pub record HasNoFull (old new : StoreView) : Type 0 where
  pub none : IfSome old.queues (λ q. q.full ≡ [])
  pub count : ℕ
  pub rose : Rose old.no_full count
  pub is : new ≡ record old { no_full = count }

-- what taking a full slot answers and leaves
abbrev pub TakesFull : Option FullView → StoreView → StoreView → Type 0
TakesFull None old new = HasNoFull old new
TakesFull (Some slot) old new = HasTakenFull slot old new

-- ---- putting

abbrev pub with_free : SlotView → Queues → Queues
with_free slot q = record { free = q.free ++ slot ∷ []; full = q.full; aside = q.aside; broken = q.broken }

abbrev pub with_full : FullView → Queues → Queues
with_full slot q = record { free = q.free; full = q.full ++ slot ∷ []; aside = q.aside; broken = q.broken }

abbrev pub with_aside : SlotView → Queues → Queues
with_aside slot q = record { free = q.free; full = q.full; aside = q.aside ++ slot ∷ []; broken = q.broken }

abbrev pub with_broken : BrokenView → Queues → Queues
with_broken slot q = record { free = q.free; full = q.full; aside = q.aside; broken = q.broken ++ slot ∷ [] }

-- a slot that was taken full is released
abbrev pub given_free : Option Loan → Handed → Handed
given_free None lists = lists
given_free (Some loan) lists = if loan.was_full then record lists { released = lists.released ++ loan ∷ [] } else lists

-- one that was taken full and is given back full counts nowhere
abbrev pub given_full : FullView → Option Loan → Handed → Handed
given_full slot None lists = lists
given_full slot (Some loan) lists = if loan.was_full then lists else record lists { put = lists.put ++ slot ∷ [] }

abbrev pub given_aside : SlotView → Handed → Handed
given_aside slot lists = record lists { aside = lists.aside ++ slot ∷ [] }

abbrev pub given_broken : BrokenView → Handed → Handed
given_broken slot lists = if slot.from_full then record lists { broken = lists.broken ++ slot ∷ [] } else lists

-- the store after each put: the slot stands at the back, and is no longer out
abbrev pub put_free : SlotView → StoreView → StoreView
put_free slot s = record {
  queues = option_map (with_free slot) s.queues;
  handed = option_map (given_free (loan_of slot.number s.out)) s.handed;
  out = struck slot.number s.out;
  no_free = s.no_free;
  no_full = s.no_full;
  broken = s.broken;
}

abbrev pub put_full : FullView → StoreView → StoreView
put_full slot s = record {
  queues = option_map (with_full slot) s.queues;
  handed = option_map (given_full slot (loan_of slot.number s.out)) s.handed;
  out = struck slot.number s.out;
  no_free = s.no_free;
  no_full = s.no_full;
  broken = s.broken;
}

abbrev pub put_aside : SlotView → StoreView → StoreView
put_aside slot s = record {
  queues = option_map (with_aside slot) s.queues;
  handed = option_map (given_aside slot) s.handed;
  out = struck slot.number s.out;
  no_free = s.no_free;
  no_full = s.no_full;
  broken = s.broken;
}

-- a broken slot was put, which is counted
pub record PutsBroken (slot : BrokenView) (old new : StoreView) : Type 0 where
  pub count : ℕ
  pub rose : Rose old.broken count
  pub is : new ≡ record {
    queues = option_map (with_broken slot) old.queues;
    handed = option_map (given_broken slot) old.handed;
    out = struck slot.number old.out;
    no_free = old.no_free;
    no_full = old.no_full;
    broken = count;
  }

-- ---- when a slot may be put

-- full: it was read without a failure, and where it was taken full it has the same message
pub record MayPutFull (slot : FullView) (out : List Loan) : Type 0 where
  pub is_out : IsOut slot.number out
  pub read : slot.unread ≡ false
  pub message : OfItsMessage (λ m. Keeps m slot) slot.number out

-- aside: it was taken full, and has that message
pub record MayPutAside (slot : SlotView) (out : List Loan) : Type 0 where
  pub was_full : WasTaken true slot.number out
  pub message : OfItsMessage (λ m. KeepsAside m slot) slot.number out

-- broken: its disk failed, and it came from a `Full` exactly if it was taken full; then it has that message
pub record MayPutBroken (slot : BrokenView) (out : List Loan) : Type 0 where
  pub fault : slot.from_fault ≡ true
  pub was_full : WasTaken slot.from_full slot.number out
  pub message : OfItsMessage (λ m. Now (EachImage (HasMessageBehind m)) slot.disk) slot.number out

-- ---- messages put

abbrev pub full_of : StoreView → Option (List FullView)
full_of s = option_map (λ q. q.full) s.queues

-- these were put, too
abbrev pub with_put : List FullView → Handed → Handed
with_put slots lists = record lists { put = lists.put ++ slots }

-- In a call that takes nothing full, and doesn't try to, these were put full, in this order: they stand at the back of
-- the full queue, where it is told, and at the end of the list of those put, where lists are kept, of which nothing else
-- changed.
pub record PutGrew (slots : List FullView) (old new : StoreView) : Type 0 where
  pub queued : full_of new ≡ option_map (λ full. full ++ slots) (full_of old)
  pub listed : new.handed ≡ option_map (with_put slots) old.handed
  pub no_full : new.no_full ≡ old.no_full
