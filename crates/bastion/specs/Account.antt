-- All that is said of a run by what it read and by its session, at once: one table, as it was read, one list of records, one
-- session.
use Rattle.std.specs.Prelude.{ℕ, Option}
use Rattle.bastion.specs.Basis.{Basis}
use Rattle.bastion.specs.Complete.{IsComplete}
use Rattle.bastion.specs.Headline.{Headlines}
use Rattle.bastion.specs.Run.{Run, line_went_by}
use Rattle.bastion.specs.Status.{IsStatus, RoseOf}
use Rattle.bastion.specs.Words.{LineView}
use Rattle.bastion.specs.WorldView.{Post, WorldView}

-- what a run went by
abbrev pub basis_of : (post : Post) (line : Option LineView) (status : ℕ) (old new : WorldView) → Run post line status old new → Basis
basis_of post line status old new ran = line_went_by post line ran.outcome old ran.middle ran.does

pub record Account (post : Post) (line : Option LineView) (answer : ℕ) (old new : WorldView) : Type 0 where
  -- what the run came to and did, and what its session did; a failure that it names was counted, or came to that session as something
  -- strange; its line in the log, and its status
  pub ran : Run post line answer old new
  -- by what the run went by, the replies that a client is told are those of a legal history, or the entries of a port to a server
  -- elsewhere; destinations are asked for as the table permits, and so on
  pub headline : Headlines post line (basis_of post line answer old new ran) ran.course answer old new
  -- the status is what that says, unless a device failed, there was no memory, or the session was answered something strange
  pub status : IsStatus post line (basis_of post line answer old new ran) ran.course answer old new
  -- where no count rose, all that it calls for was done whole, or the session was answered so
  pub complete : ¬ (RoseOf post line old new) → IsComplete post line (basis_of post line answer old new ran) ran.course answer old new
