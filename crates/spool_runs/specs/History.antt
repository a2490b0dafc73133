-- What runs over one spool come to, one after another, with crashes between them and behind some first of a run's events.
use Rattle.std.specs.Prelude.{◌≡◌, ℕ, ◌+◌, List, [], ◌∷◌, ◌++◌, map, take, ◌⊎◌}
use Rattle.std.specs.List.{AllByRecursion, Contains}
use Rattle.fw_disk.specs.DiskView.{DiskView}
use Rattle.slot_bytes.specs.Layout.{Mail}
use Rattle.spool_law.specs.Events.{Event, IsPossible, Step, after, after_all}
use Rattle.spool_law.specs.Events.Event.{At, Crash}
use Rattle.spool_law.specs.Events.Step.{Accept, Answer}
use Rattle.spool_law.specs.Safe.{Stands}
use Rattle.spool_law.specs.World.{World}
use Rattle.spool_runs.specs.OnDisks.{AreNumbered, AreOn, SpoolRun}

-- ---- runs, and crashes

-- How a run ended. `Finished`: it came to its end, and no crash behind that. `Crashed`: it came to its end, and then a crash, which
-- left these images of all slots. `CutOff`: a crash came within it, which left these.
pub data RunEnd : Type 0 where
  Finished : RunEnd
  Crashed : (ℕ → List ℕ) → RunEnd
  CutOff : (ℕ → List ℕ) → RunEnd

-- A run: the messages that it answers for and those that a mailer accepts in it if it comes to its end, the disks before it and
-- at its end, and how it ended.
pub record Episode : Type 0 where
  pub answered : List Mail
  pub accepted : List Mail
  pub old : List DiskView
  pub new : List DiskView
  pub ended : RunEnd

-- a crash came here, and left these images of all slots
pub record IsLeft (images : ℕ → List ℕ) (w v : World) : Type 0 where
  pub possible : IsPossible (Crash images) w
  pub is : v ≡ after (Crash images) w

-- some first of the events came, and then a crash
pub record IsCutOff (images : ℕ → List ℕ) (events : List Event) (w v : World) : Type 0 where
  pub front : List Event
  pub rest : List Event
  pub are : events ≡ front ++ rest
  pub left : IsLeft images (after_all front w) v

-- all events came, and maybe a crash behind them, or a crash cut them off
abbrev pub Leads : RunEnd → List Event → World → World → Type 0
Leads Finished events w v = v ≡ after_all events w
Leads (Crashed images) events w v = IsLeft images (after_all events w) v
Leads (CutOff images) events w v = IsCutOff images events w v

-- the slots stood on the run's disks, and the run leads from one spool to another
pub record Passes (episode : Episode) (w v : World) : Type 0 where
  pub stands : AreOn 0 w episode.old
  pub run : SpoolRun episode.answered episode.accepted episode.old episode.new w
  pub leads : Leads episode.ended run.events w v

-- one after another
abbrev pub Happens : List Episode → World → World → Type 0
Happens [] w v = v ≡ w
Happens (episode ∷ episodes) w v = (middle : World) × Passes episode w middle × Happens episodes middle v

-- ---- the messages that they answered for, and those that were accepted

abbrev pub is_answer : Step → ℕ
is_answer Answer = 1
is_answer _ = 0

abbrev pub is_accept : Step → ℕ
is_accept Accept = 1
is_accept _ = 0

-- how often a message was answered for among events, and how often one was accepted
abbrev pub answers_in : List Event → ℕ
answers_in [] = 0
answers_in (At n step ∷ events) = is_answer step + answers_in events
answers_in (Crash images ∷ events) = answers_in events

abbrev pub accepts_in : List Event → ℕ
accepts_in [] = 0
accepts_in (At n step ∷ events) = is_accept step + accepts_in events
accepts_in (Crash images ∷ events) = accepts_in events

-- of a run's messages those that were answered for in what came of it: all, or as many of the first as it had answered for when it
-- was cut off
abbrev pub answered_by : (ended : RunEnd) → List Mail → (events : List Event) (w v : World) → Leads ended events w v → List Mail
answered_by Finished mails events w v leads = mails
answered_by (Crashed images) mails events w v leads = mails
answered_by (CutOff images) mails events w v leads = take (answers_in leads.front) mails

-- and those that were accepted
abbrev pub accepted_by : (ended : RunEnd) → List Mail → (events : List Event) (w v : World) → Leads ended events w v → List Mail
accepted_by Finished mails events w v leads = mails
accepted_by (Crashed images) mails events w v leads = mails
accepted_by (CutOff images) mails events w v leads = take (accepts_in leads.front) mails

-- of all runs, in order
abbrev pub answered_of : (episodes : List Episode) (w v : World) → Happens episodes w v → List Mail
answered_of [] w v h = []
answered_of (episode ∷ episodes) w v h = answered_by episode.ended episode.answered h.1.run.events w h.0 h.1.leads ++ answered_of episodes h.0 v h.2

abbrev pub accepted_of : (episodes : List Episode) (w v : World) → Happens episodes w v → List Mail
accepted_of [] w v h = []
accepted_of (episode ∷ episodes) w v h = accepted_by episode.ended episode.accepted h.1.run.events w h.0 h.1.leads ++ accepted_of episodes h.0 v h.2

-- The spool's messages that were answered for are just these, in order: one of its own for each, with a number that no other has.
-- Each stands or was accepted; and those that were accepted are just those.
pub record AreSafe (answered accepted : List Mail) (w : World) : Type 0 where
  pub answered_are : map (λ l. l.mail) w.answered ≡ answered
  pub numbered : AreNumbered 0 w.answered w.begun
  pub safe : AllByRecursion (λ l. Contains w.accepted l ⊎ Stands l w) w.answered
  pub accepted_are : map (λ l. l.mail) w.accepted ≡ accepted
