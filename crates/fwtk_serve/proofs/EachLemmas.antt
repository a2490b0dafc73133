-- From each worker to all.
use Rattle.std.proofs.Common.{arith, ◌≡◌, sym, ap, subst, ◌∙◌, ℕ, zero, suc, ◌<◌, List, [], ◌∷◌, ◌++◌, length, take}
use Rattle.std.proofs.lemmas.List.{take_at}
use Rattle.std.specs.Prelude.{map, slice_index_or}
use mathlib.Core.List.{head-eq_of_cons-eq, tail-eq_of_cons-eq}
use Rattle.acceptors.specs.AcceptorView.{AcceptorView}
use Rattle.auth_machine.specs.Port.{BookOrigin}
use Rattle.gate_rules.specs.Reading.{RuleBook}
use Rattle.gate_rules.specs.declared.service.Service.{Service}
use Rattle.spool_pool.specs.Known.{PoolView}
use Rattle.turn_lock.specs.Known.{Lock}
use Rattle.fwtk_serve.specs.Meeting.{HasWorked, HaveWorked, IsReady, WorkerView, starting}
use Rattle.fwtk_serve.specs.Passes.{AreOf}
use Rattle.fwtk_serve.specs.Sessions.{Both}

module _ {W : Type 0} (view : W → WorkerView) (lock : Lock BookOrigin) (pool : PoolView) where
  -- a worker that was this one, and is that one now, has done its work
  pub record WorkedAt (rules : List (Service × RuleBook)) (x y : W) : Type 0 where
    pub old : W
    pub new : W
    pub old_is : old ≡ x
    pub new_is : new ≡ y
    pub worked : HasWorked rules lock pool (view old) (view new)

  worked_there : (rules : List (Service × RuleBook)) (x y : W) → WorkedAt rules x y → HasWorked rules lock pool (view x) (view y)
  worked_there rules x y h =
      subst (λ (w : W). HasWorked rules lock pool (view x) (view w)) h.new_is (subst (λ (w : W). HasWorked rules lock pool (view w) (view h.new)) h.old_is h.worked)

  -- each worker at its place has done its work
  pub all_worked : (rules : List (Service × RuleBook)) (xs ys : List W) → length ys ≡ length xs → ((i : ℕ) (d : W) → i < length xs → WorkedAt rules (slice_index_or xs i d) (slice_index_or ys i d))
      → HaveWorked rules lock pool (map view xs) (map view ys)
  all_worked rules [] [] same each = tt
  all_worked rules (x ∷ xs) (y ∷ ys) same each =
      (worked_there rules x y (each 0 x (omega arith)), all_worked rules xs ys (omega (arith, same)) (λ i d lt. each (suc i) d (omega (arith, lt))))
  all_worked rules [] (y ∷ ys) same each = absurd (omega (arith, same))
  all_worked rules (x ∷ xs) [] same each = absurd (omega (arith, same))

  ready_one : (worker : WorkerView) (door : AcceptorView) (first : Both) → AreOf lock pool first → worker ≡ starting door first → IsReady lock pool worker
  ready_one worker door first own is = record {
    both = first;
    own = own;
    is = is ∙ ap (λ (d : AcceptorView). starting d first) (sym (ap (λ (w : WorkerView). w.door) is));
  }

  -- each worker that begins is ready
  pub all_ready : (first : Both) (workers : List W) (doors : List AcceptorView) → AreOf lock pool first → map view workers ≡ map (λ (door : AcceptorView). starting door first) doors
      → (k : ℕ) (d : W) → k < length workers → IsReady lock pool (view (slice_index_or workers k d))
  all_ready first [] doors own is k d lt = absurd (omega (arith, lt))
  all_ready first (w ∷ ws) [] own is k d lt = absurd (cc)
  all_ready first (w ∷ ws) (door ∷ doors) own is zero d lt = ready_one (view w) door first own (head-eq_of_cons-eq is)
  all_ready first (w ∷ ws) (door ∷ doors) own is (suc k) d lt = all_ready first ws doors own (tail-eq_of_cons-eq is) k d (omega (arith, lt))

  -- the same of workers that are these
  pub ready_along : (xs ys : List W) → ys ≡ xs → ((k : ℕ) (d : W) → k < length xs → IsReady lock pool (view (slice_index_or xs k d))) → (k : ℕ) (d : W) → k < length ys → IsReady lock pool (view (slice_index_or ys k d))
  ready_along xs ys is ready = subst (λ (ws : List W). (k : ℕ) (d : W) → k < length ws → IsReady lock pool (view (slice_index_or ws k d))) (sym is) ready

  -- and of those behind a slice that was lent
  pub worked_along : (rules : List (Service × RuleBook)) (olds slice news rest : List W) (n : ℕ) → slice ≡ olds → HaveWorked rules lock pool (map view slice) (map view news) → length news ≡ n → HaveWorked rules lock pool (map view olds) (map view (take n (news ++ rest)))
  worked_along rules olds slice news rest n same worked len =
      subst (λ (ws : List W). HaveWorked rules lock pool (map view olds) (map view ws)) (sym (take_at news rest n len)) (subst (λ (ws : List W). HaveWorked rules lock pool (map view ws) (map view news)) same worked)
