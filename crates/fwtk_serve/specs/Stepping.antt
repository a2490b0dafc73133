-- What a worker does with one client, or where none comes; and how what all did is gathered.
-- No public clause cites these: they say what private functions do.
use Rattle.std.specs.Prelude.{◌≡◌, ◌⊎◌, ℕ, ◌+◌, ◌-◌, ◌^◌, min, count_by, if◌then◌else◌, Bool, List, [], ◌∷◌, ◌++◌, Option, Some}
use Rattle.acceptors.specs.AcceptorView.{AcceptorView, Comes, Ends, Fails, TakesBack, Visit}
use Rattle.auth_machine.specs.Port.{BookOrigin}
use Rattle.gate_rules.specs.Reading.{RuleBook}
use Rattle.gate_rules.specs.declared.service.Service.{Service}
use Rattle.spool_pool.specs.Known.{PoolView}
use Rattle.turn_lock.specs.Known.{Lock}
use Rattle.fwtk_serve.specs.Mailed.{Mailed}
use Rattle.fwtk_serve.specs.Meeting.{WorkerView}
use Rattle.fwtk_serve.specs.Passes.{AreOf}
use Rattle.fwtk_serve.specs.RulesFor.{rules_for}
use Rattle.fwtk_serve.specs.Sessions.{Both, Held, ServedView}
use Rattle.fwtk_serve.specs.declared.step.Step.{Step}
use Rattle.fwtk_serve.specs.declared.step.Step.TheVariants.{Served, Over, Short}

-- a session was held: what came of it in the mail store isn't told by what is returned
pub record Holds (rules : RuleBook) (lock : Lock BookOrigin) (first last : Both) (fresh back : Visit) (served : ServedView) : Type 0 where
  pub mailed : Mailed
  pub held : Held rules lock first last (record { fresh = fresh; back = back; served = served; mailed = mailed })

abbrev pub worker_with : AcceptorView → List ServedView → Bool → Option Both → WorkerView
worker_with door sessions short passes = record { door = door; sessions = sessions; short = short; passes = passes }

-- a worker has served a client that came, noted it, and given it back to its door
pub record ServesOne (rules : List (Service × RuleBook)) (lock : Lock BookOrigin) (pool : PoolView) (old new : WorkerView) (fresh : Visit) : Type 0 where
  pub first : Both
  pub last : Both
  pub had : old.passes ≡ Some first
  pub has : new.passes ≡ Some last
  pub own : AreOf lock pool last
  pub back : Visit
  pub served : ServedView
  pub holds : Holds (rules_for fresh.guest.service rules) lock first last fresh back served
  pub takes_back : TakesBack back old.door new.door
  pub sessions : new.sessions ≡ old.sessions ++ served ∷ []
  pub short : new.short ≡ old.short

-- the same worker at a door that is left so
abbrev pub at_door : WorkerView → AcceptorView → WorkerView
at_door worker door = record worker { door = door }

-- a client came, and was served
pub record ServesNext (rules : List (Service × RuleBook)) (lock : Lock BookOrigin) (pool : PoolView) (old new : WorkerView) : Type 0 where
  pub fresh : Visit
  pub came : AcceptorView
  pub comes : Comes fresh old.door came
  pub serves : ServesOne rules lock pool (at_door old came) new fresh

-- nobody came: no more come, or waiting failed
pub record IsToldEnd (old new : WorkerView) : Type 0 where
  pub door : AcceptorView
  pub told : Ends old.door door ⊎ Fails old.door door
  pub is : new ≡ at_door old door

-- what a step of a worker did; where memory was short, nothing
abbrev pub StepsAs : Step → List (Service × RuleBook) → Lock BookOrigin → PoolView → WorkerView → WorkerView → Type 0
StepsAs Served rules lock pool old new = ServesNext rules lock pool old new
StepsAs Over rules lock pool old new = IsToldEnd old new
StepsAs Short rules lock pool old new = new ≡ old

-- ---- gathering

-- how many of these workers were short of memory, as a count of 32 bits
abbrev pub workers_short : List WorkerView → ℕ
workers_short workers = min (count_by (λ worker. worker.short) workers) (2 ^ 32 - 1)

-- doors with the sessions of each, and how many of their workers wanted memory
pub record GatheredView : Type 0 where
  pub doors : List AcceptorView
  pub sessions : List (List ServedView)
  pub short : ℕ

abbrev pub gathered_with : List AcceptorView → List (List ServedView) → ℕ → GatheredView
gathered_with doors sessions short = record { doors = doors; sessions = sessions; short = short }

-- one worker more
abbrev pub with_worker : GatheredView → WorkerView → GatheredView
with_worker gathered worker = record {
  doors = gathered.doors ++ worker.door ∷ [];
  sessions = gathered.sessions ++ worker.sessions ∷ [];
  short = min (gathered.short + (if worker.short then 1 else 0)) (2 ^ 32 - 1);
}
