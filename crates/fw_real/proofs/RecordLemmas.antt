-- What a call did in an open database, by what it answers.
use Rattle.std.proofs.Common.{◌≡◌, ℕ, List, Option, Some, MatchOption, Result, Ok, Err, IfOk, IfErr, OnOk, refl, inr}
use Rattle.sqlite.specs.Order.{Row}
use Rattle.sqlite.specs.State.{State, HasCleanDisk}
use Rattle.fw_outside.specs.declared.keep_fault.KeepFault.{KeepFault}
use Rattle.fw_real.specs.Records.{Did, IsOpen, StaysClosedOrDid, shown_by}
use Rattle.fw_real.specs.Statements.{Runs}
use Rattle.fw_real.specs.declared.database.Database.{Database}

-- the database that was open, or one that was opened for the call
abbrev Was : List ℕ → Option Database → Database → Type 0
Was path old before = MatchOption old (IsOpen path before) (λ database. before ≡ database)

pub did_if_ok : {A : Type 0} (path : List ℕ) (what : A → State → State → Type 0) (result : Result A KeepFault) (old : Option Database) (before after : Database)
    → Was path old before → (HasCleanDisk (shown_by after) → IfOk result (λ a. what a (shown_by before) (shown_by after)))
    → IfOk result (λ a. Did path (what a) old (Some after))
did_if_ok path what (Ok a) old before after was did = record { before = before; after = after; was = was; is = refl; did = did }
did_if_ok path what (Err fault) old before after was did = tt

pub did_if_err : {A : Type 0} (path : List ℕ) (what : KeepFault → State → State → Type 0) (result : Result A KeepFault) (old : Option Database) (before after : Database)
    → Was path old before → (HasCleanDisk (shown_by after) → IfErr result (λ fault. what fault (shown_by before) (shown_by after)))
    → IfErr result (λ fault. StaysClosedOrDid path (what fault) old (Some after))
did_if_err path what (Ok a) old before after was did = tt
did_if_err path what (Err fault) old before after was did = inr (record { before = before; after = after; was = was; is = refl; did = did })

pub ran_if_ok : (text : List ℕ) (values : Row) (result : Result (Unit {0}) KeepFault) (old new : State)
    → Runs text values old new result → OnOk result (Runs text values old new (Ok (record {})))
ran_if_ok text values (Ok it) old new ran = ran
ran_if_ok text values (Err fault) old new ran = tt

pub ran_if_err : (text : List ℕ) (values : Row) (result : Result (Unit {0}) KeepFault) (old new : State)
    → Runs text values old new result → IfErr result (λ fault. Runs text values old new (Err fault))
ran_if_err text values (Ok it) old new ran = tt
ran_if_err text values (Err fault) old new ran = ran
