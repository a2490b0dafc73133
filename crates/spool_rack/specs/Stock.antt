-- The slots of a rack, and room for them.
use Rattle.std.specs.Prelude.{ℕ, ◌+◌, [], length, Some, None}
use Rattle.spool_rack.specs.Store.{Queues, StoreView}

-- how many slots there are
abbrev pub count_of : Queues → ℕ
count_of q = length q.free + length q.full + length q.aside + length q.broken

abbrev pub no_slots : Queues
no_slots = record { free = []; full = []; aside = []; broken = [] }

-- slots, and for how many there is room
pub record StockView : Type 0 where
  pub queues : Queues
  pub room : ℕ

-- a rack with these slots, none of which is out, that counted nothing
abbrev pub rack_of : Queues → StoreView
rack_of q = record { queues = Some q; handed = None; out = []; no_free = 0; no_full = 0; broken = 0 }
