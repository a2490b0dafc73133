-- What follows of a round.
use Rattle.std.specs.Prelude.{◌≡◌, ℕ, ◌+◌, ◌⊎◌, List, IfSome}
use Rattle.std.specs.List.{AllByRecursion, Contains}
use Rattle.smapd_queue.specs.declared.round.Round.{Round}
use Rattle.smapd_queue.specs.Turns.{Turn}
use Rattle.smapd_queue.specs.Meeting.{Meeting}
use Rattle.smapd_queue.specs.Round.{NoneIsFull}

-- the numbers add up to the turns that there may be, or a slot was asked for and none was full
abbrev pub AddsUp : ℕ → Round → Meeting → Meeting → Type 0
AddsUp most round old new = (round.accepted + round.refused + round.failed + round.broken ≡ most) ⊎ NoneIsFull old.store new.store

-- each slot that was taken stood in the full queue at first, where that is told, just as it was taken
abbrev pub WereFull : List Turn → Meeting → Type 0
WereFull turns old = IfSome old.store.queues (λ q. AllByRecursion (λ turn. Contains q.full turn.slot) turns)
