-- What is told by the steps of a tally.
use Rattle.std.specs.Prelude.{◌+◌, true, false, List, [], ◌∷◌, ◌++◌, Option, Some, None}
use Rattle.spool_rack.specs.Store.{Loan, loan_of, struck}
use Rattle.spool_pool.specs.declared.tally.Link.{Link}
use Rattle.spool_pool.specs.declared.tally.Step.{Step}
use Rattle.spool_pool.specs.declared.tally.Step.TheVariants.{TookFree, TookFull, PutFree, PutFull, PutAside, PutBroken, Met}
use Rattle.spool_pool.specs.Events.{Event, TallyView, broken_by, filled_by, freed_by, shelved_by}

module _ {D : Type 0} where
  abbrev pub events_after : Step D → TallyView → TallyView → List Event
  events_after (TookFree slot) t other = t.events
  events_after (TookFull slot) t other = t.events
  events_after (PutFree slot) t other = t.events ++ freed_by (loan_of slot.value.number t.out)
  events_after (PutFull slot) t other = t.events ++ filled_by slot.value (loan_of slot.value.number t.out)
  events_after (PutAside slot) t other = t.events ++ shelved_by slot.value (loan_of slot.value.number t.out)
  events_after (PutBroken slot) t other = t.events ++ broken_by slot.value (loan_of slot.value.number t.out)
  events_after Met t other = t.events ++ other.events

  abbrev pub out_after : Step D → List Loan → List Loan
  out_after (TookFree slot) out = record { number = slot.value.number; was_full = false; taken = None } ∷ out
  out_after (TookFull slot) out = record { number = slot.value.number; was_full = true; taken = Some slot.value } ∷ out
  out_after (PutFree slot) out = struck slot.value.number out
  out_after (PutFull slot) out = struck slot.value.number out
  out_after (PutAside slot) out = struck slot.value.number out
  out_after (PutBroken slot) out = struck slot.value.number out
  out_after Met out = out

  abbrev pub after : Step D → TallyView → TallyView → TallyView
  after step t other = record { events = events_after step t other; out = out_after step t.out; steps = t.steps + other.steps + 1 }

  abbrev pub tally_of : Option (Link D) → TallyView
  tally_of None = record { events = []; out = []; steps = 0 }
  tally_of (Some link) = after link.step link.before.value.value link.other.value.value
