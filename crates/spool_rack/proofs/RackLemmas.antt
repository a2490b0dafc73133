-- Full slots that can be read, and slots that are out.
use Rattle.std.proofs.Common.{◌≡◌, ℕ, Bool, false, List, [], ◌∷◌, ◌++◌, take, drop, Option, Some, None, subst}
use Rattle.std.specs.List.{AllByRecursion}
use Rattle.spool_slots.specs.States.{FullView}
use Rattle.spool_rack.specs.Store.{Loan, IsOut, OfLoan, WasTaken, loan_of}

abbrev AreRead : List FullView → Type 0
AreRead slots = AllByRecursion (λ slot. slot.unread ≡ false) slots

first_is : (a b : FullView) (c d : List FullView) → a ∷ c ≡ b ∷ d → a ≡ b
first_is a b c d e = cc

pub first_read : (slots : List FullView) (slot : FullView) → AreRead slots → take 1 slots ≡ slot ∷ []
    → slot.unread ≡ false
first_read [] slot read e = absurd cc
first_read (s ∷ slots) slot read e = let is : s ≡ slot = first_is s slot [] [] e in subst (λ (x : FullView). x.unread ≡ false) is read.0

pub rest_read : (slots : List FullView) → AreRead slots → AreRead (drop 1 slots)
rest_read [] read = read
rest_read (s ∷ slots) read = read.1

pub more_read : (slots : List FullView) (slot : FullView) → AreRead slots → slot.unread ≡ false
    → AreRead (slots ++ slot ∷ [])
more_read [] slot read is = (is, tt)
more_read (s ∷ slots) slot read is = (read.0, more_read slots slot read.1 is)

out_if : (P : Loan → Type 0) (o : Option Loan) → OfLoan P o → OfLoan (λ loan. Unit {0}) o
out_if P None h = h
out_if P (Some loan) h = tt

-- a slot that was taken, full or not, is out
pub taken_out : (full : Bool) (n : ℕ) (out : List Loan) → WasTaken full n out → IsOut n out
taken_out full n out h = out_if (λ loan. loan.was_full ≡ full) (loan_of n out) h
