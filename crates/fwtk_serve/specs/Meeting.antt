-- The workers of a server, before and after their work.
use Rattle.std.specs.Prelude.{◌≡◌, Bool, false, List, [], ◌∷◌, Option, Some, None, map}
use Rattle.acceptors.specs.AcceptorView.{AcceptorView}
use Rattle.auth_machine.specs.Port.{BookOrigin}
use Rattle.gate_rules.specs.Reading.{RuleBook}
use Rattle.gate_rules.specs.declared.service.Service.{Service}
use Rattle.spool_pool.specs.Known.{PoolView}
use Rattle.turn_lock.specs.Known.{Lock}
use Rattle.fwtk_serve.specs.Passes.{AreOf}
use Rattle.fwtk_serve.specs.Sessions.{Both, ServedView, Sitting}
use Rattle.fwtk_serve.specs.Working.{Worked}

-- a worker: its door, the sessions so far, whether it wanted memory, and its passes, which it has but while it holds a session
pub record WorkerView : Type 0 where
  pub door : AcceptorView
  pub sessions : List ServedView
  pub short : Bool
  pub passes : Option Both

-- it has passes, of which this holds
abbrev pub HasPasses : (Both → Type 0) → Option Both → Type 0
HasPasses Holds None = ⊥
HasPasses Holds (Some both) = Holds both

-- it has held no session yet, and its passes know this
abbrev pub starting : AcceptorView → Both → WorkerView
starting door both = record { door = door; sessions = []; short = false; passes = Some both }

-- a worker begins: it has passes of the lock and the pool, and has held no session
pub record IsReady (lock : Lock BookOrigin) (pool : PoolView) (worker : WorkerView) : Type 0 where
  pub both : Both
  pub own : AreOf lock pool both
  pub is : worker ≡ starting worker.door both

-- a worker that began so has done its work
pub record HasWorked (rules : List (Service × RuleBook)) (lock : Lock BookOrigin) (pool : PoolView) (old new : WorkerView) : Type 0 where
  pub first : Both
  pub last : Both
  pub had : old.passes ≡ Some first
  pub has : new.passes ≡ Some last
  pub own : AreOf lock pool last
  pub sittings : List Sitting
  pub sessions : new.sessions ≡ map (λ sitting. sitting.served) sittings
  pub worked : Worked rules lock first last old.door (record { door = new.door; sittings = sittings; short = new.short })

abbrev pub HaveWorked : List (Service × RuleBook) → Lock BookOrigin → PoolView → List WorkerView → List WorkerView → Type 0
HaveWorked rules lock pool [] [] = Unit {0}
HaveWorked rules lock pool (old ∷ olds) (new ∷ news) = HasWorked rules lock pool old new × HaveWorked rules lock pool olds news
HaveWorked rules lock pool _ _ = ⊥

-- ---- meeting

abbrev pub with_passes : Option Both → List Both → List Both
with_passes None others = others
with_passes (Some both) others = both ∷ others

-- the passes of these workers
abbrev pub passes_of : List WorkerView → List Both
passes_of [] = []
passes_of (worker ∷ workers) = with_passes worker.passes (passes_of workers)

-- each worker has passes of the lock and the pool
abbrev pub HavePasses : Lock BookOrigin → PoolView → List WorkerView → Type 0
HavePasses lock pool [] = Unit {0}
HavePasses lock pool (worker ∷ workers) = HasPasses (AreOf lock pool) worker.passes × HavePasses lock pool workers
