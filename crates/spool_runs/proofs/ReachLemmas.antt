-- What events lead to.
use Rattle.std.proofs.Common.{◌≡◌, refl, sym, ap, subst, ◌∙◌, ℕ, List, ◌++◌}
use Rattle.fw_disk.specs.Moments.{EachImage}
use Rattle.spool_law.specs.Events.{ArePossible, Event, after_all}
use Rattle.spool_law.specs.Images.{IsWhole}
use Rattle.spool_law.specs.Safe.{HasItsMessage}
use Rattle.spool_law.specs.World.{World, formatted}
use Rattle.spool_law.proofs.WholeLemmas.{whole_has_its_message}
use Rattle.spool_runs.specs.OnDisks.{IsReachable}
use Rattle.spool_runs.proofs.TapeLemmas.{after_both, possible_both}

-- events lead from one spool to another
pub record Reaches (w v : World) : Type 0 where
  pub events : List Event
  pub possible : ArePossible events w
  pub is : after_all events w ≡ v

pub reaches_all : (events : List Event) (w : World) → ArePossible events w → Reaches w (after_all events w)
reaches_all events w can = record { events = events; possible = can; is = refl }

pub reaches_both : (u v w : World) → Reaches u v → Reaches v w → Reaches u w
reaches_both u v w a b = record {
  events = a.events ++ b.events;
  possible = possible_both a.events b.events u a.possible (subst (ArePossible b.events) (sym a.is) b.possible);
  is = after_both a.events b.events u ∙ ap (after_all b.events) a.is ∙ b.is;
}

pub reached : (w v : World) → IsReachable w → Reaches w v → IsReachable v
reached w v a b =
    let both = reaches_both formatted w v (record { events = a.events; possible = a.possible; is = a.is }) b in
    record { events = both.events; possible = both.possible; is = both.is }

-- a slot of which each image is a message has one
pub its_message : (w : World) (n : ℕ) → IsReachable w → EachImage IsWhole (w.slots n).medium → HasItsMessage (w.slots n)
its_message w n reach whole =
    subst (λ (x : World). HasItsMessage (x.slots n)) reach.is
    (whole_has_its_message reach.events n reach.possible (subst (λ (x : World). EachImage IsWhole (x.slots n).medium) (sym reach.is) whole))
