-- A slot more in a queue is one slot more.
use Rattle.std.proofs.Common.{◌≡◌, ◌+◌, [], ◌∷◌, arith, length-append}
use Rattle.spool_slots.specs.States.{SlotView, FullView}
use Rattle.spool_rack.specs.Store.{Queues, with_free, with_full}
use Rattle.spool_rack.specs.Stock.{count_of}
use Rattle.spool_pool.specs.Shelf.{ShelvedView, is_aside, is_broken}
use Rattle.spool_pool.specs.Closing.{with_shelved}

pub one_free : (slot : SlotView) (q : Queues) → count_of (with_free slot q) ≡ count_of q + 1
one_free slot q = omega (arith, length-append q.free (slot ∷ []))

pub one_full : (slot : FullView) (q : Queues) → count_of (with_full slot q) ≡ count_of q + 1
one_full slot q = omega (arith, length-append q.full (slot ∷ []))

pub one_shelved : (slot : ShelvedView) (q : Queues) → count_of (with_shelved slot q) ≡ count_of q + 1
one_shelved (is_aside slot) q = omega (arith, length-append q.aside (slot ∷ []))
one_shelved (is_broken slot) q = omega (arith, length-append q.broken (slot ∷ []))
