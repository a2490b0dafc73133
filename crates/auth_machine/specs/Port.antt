-- A book as a port.
use Rattle.std.specs.Prelude.{ℕ, ◌==◌, List, [], length, Option, Some, None, if◌then◌else◌}
use Rattle.auth_events.specs.Port.{Port, places}
use Rattle.auth_events.specs.declared.entry.Entry.{Entry}
use Rattle.auth_machine.specs.Book.{BookView}
use Rattle.auth_machine.specs.History.{Origin}

-- the limit, where so many entries are there
abbrev pub full_at : ℕ → List Entry → Option ℕ
full_at limit history = if length history == limit then Some limit else None

-- what stays as it was when the book was opened
pub record BookOrigin : Type 0 where
  -- the policy, and the records that were loaded
  pub origin : Origin
  -- how many entries fit
  pub limit : ℕ
  -- how often the keeper had failed
  pub failed_before : ℕ
  -- how often it had been called
  pub called_before : ℕ

abbrev pub book_origin : BookView → BookOrigin
book_origin book = record { origin = book.origin; limit = book.limit; failed_before = book.failed_before; called_before = book.called_before }

-- all entries are its own, it doesn't fail, and its history is its own
abbrev pub book_port : BookView → Port BookOrigin
book_port book = record {
  seen = book.history;
  mine = places (length book.history);
  full = full_at book.limit book.history;
  refused = book.refused;
  asks = book.asks;
  faults = 0;
  odd = 0;
  origin = book_origin book;
  home = [];
}
