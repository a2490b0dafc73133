-- Rows whose text is written in a buffer, and the places that they lead to.
use Rattle.std.proofs.Common.{◌≡◌, refl, sym, subst, List, ℕ, Bool, true, false, not, Option, Some, IfSome, IfOk, Result, Ok, Err, IsErrAnd}
use Rattle.fw_acts.specs.Acts.{Row, PlaceTable}
use Rattle.fw_acts.specs.Acts.Row.{At, Do}
use Rattle.fw_acts.specs.Ran.{Ran}
use Rattle.session_acts.specs.Acts.Act.{Deposit, Log, Say}
use Rattle.session_acts.specs.Met.{DepositDone, Met, Stops, acts}
use Rattle.session_acts.specs.World.{World}
use Rattle.session_acts.specs.declared.cause.Cause.{Cause}
use Rattle.session_acts.specs.declared.deposited.Deposited.{Deposited}
use Rattle.session_acts.proofs.Acting.{did, halted}

module _ {Origin P T : Type 0} {rows : PlaceTable (acts Origin) P} {at : T → Row (acts Origin) P} {old new : World Origin} {result : Result T Cause} {next : Row (acts Origin) P} where
  -- a text was told, that is the same as another
  pub told_as : {text other : List ℕ} → text ≡ other → Ran rows (Do (Say text) (λ done. next)) at old new result → Ran rows (Do (Say other) (λ done. next)) at old new result
  told_as same ran = subst (λ (t : List ℕ). Ran rows (Do (Say t) (λ done. next)) at old new result) same ran

  -- and so it is with a line of the log
  pub logged_as : {text other : List ℕ} {mid : World Origin} → text ≡ other → Met (Log text) (Ok tt) old mid → Ran rows next at mid new result → Ran rows (Do (Log other) (λ done. next)) at old new result
  logged_as {text} {other} {mid} same met rest = subst (λ (t : List ℕ). Ran rows (Do (Log t) (λ done. next)) at old new result) same (did met rest)

  pub log_halted : {text other : List ℕ} {cause : Cause} → text ≡ other → Stops (Log text) cause old new → IsErrAnd result (λ e. e ≡ cause) → Ran rows (Do (Log other) (λ done. next)) at old new result
  log_halted {text} {other} same stops is = subst (λ (t : List ℕ). Ran rows (Do (Log t) (λ done. next)) at old new result) same (halted stops is)

-- the place that a row leads to has what holds of it
pub at_form : {P : Type 0} (Holds : P → Type 0) {place : P} (result : Result (Option P) Cause) → Holds place → IfOk result (λ next. next ≡ Some place) → IfOk result (λ next. IfSome next Holds)
at_form {P} Holds {place} (Err cause) holds at = tt
at_form {P} Holds {place} (Ok next) holds at = subst (λ (n : Option P). IfSome n Holds) (sym at) holds

module _ {Origin P T : Type 0} {rows : PlaceTable (acts Origin) P} {at : T → Row (acts Origin) P} {old new : World Origin} {result : Result T Cause} where
  -- a text was told and then a place came to, that is the same as another
  pub tells_at : {text : List ℕ} {place other : P} → place ≡ other → Ran rows (Do (Say text) (λ done. At place)) at old new result → Ran rows (Do (Say text) (λ done. At other)) at old new result
  tells_at {text} {place} {other} same ran = subst (λ (p : P). Ran rows (Do (Say text) (λ done. At p)) at old new result) same ran

  -- a message was deposited, of the same sender and up to the same size
  pub deposited_as : {sender from : List ℕ} {rcpts : List (List ℕ)} {words : List ℕ} {most limit : ℕ} {deposited : Deposited} {mid : World Origin} {go : Deposited × List ℕ → Row (acts Origin) P} → sender ≡ from → most ≡ limit
      → (done : DepositDone sender rcpts words most deposited old mid) → Ran rows (go (deposited, done.data_heard)) at mid new result → Ran rows (Do (Deposit from rcpts words limit) go) at old new result
  deposited_as {sender} {from} {rcpts} {words} {most} {limit} {deposited} {mid} {go} same fits done rest =
      subst (λ (s : List ℕ). Ran rows (Do (Deposit s rcpts words limit) go) at old new result) same
      (subst (λ (n : ℕ). Ran rows (Do (Deposit sender rcpts words n) go) at old new result) fits (did done.met rest))

  pub deposit_halted : {sender from : List ℕ} {rcpts : List (List ℕ)} {words : List ℕ} {most limit : ℕ} {cause : Cause} {go : Deposited × List ℕ → Row (acts Origin) P} → sender ≡ from → most ≡ limit
      → Stops (Deposit sender rcpts words most) cause old new → IsErrAnd result (λ e. e ≡ cause) → Ran rows (Do (Deposit from rcpts words limit) go) at old new result
  deposit_halted {sender} {from} {rcpts} {words} {most} {limit} {cause} {go} same fits stops is =
      subst (λ (s : List ℕ). Ran rows (Do (Deposit s rcpts words limit) go) at old new result) same
      (subst (λ (n : ℕ). Ran rows (Do (Deposit sender rcpts words n) go) at old new result) fits (halted stops is))

-- there was memory, where none was lacking
pub had_true : (had : Bool) → false ≡ not had → had ≡ true
had_true true is = refl
had_true false is = absurd (cc)
