-- In which sessions the port was full.
use Rattle.std.specs.Prelude.{◌≡◌, ℕ, List, [], ◌∷◌, length, IfSome}
use Rattle.auth_events.specs.declared.entry.Entry.{Entry}
use Rattle.auth_machine.specs.Port.{BookOrigin}
use Rattle.gate_rules.specs.Reading.{RuleBook}
use Rattle.gate_rules.specs.declared.service.Service.{Service}
use Rattle.turn_lock.specs.Known.{Lock}
use Rattle.fwtk_serve.specs.Sessions.{Both, Sitting, WereServed}

-- a port is full with the limit of the book, and only where the history has so many entries
abbrev pub IsFullWith : Lock BookOrigin → (history : List Entry) → ℕ → Type 0
IsFullWith lock history told = (told ≡ lock.limit) × (length history ≡ lock.limit)

-- of each of these sessions the port is so where it is full
abbrev pub AreFullWith : (rules : List (Service × RuleBook)) (lock : Lock BookOrigin) (history : List Entry) (first last : Both) (sittings : List Sitting)
    → WereServed rules lock first last sittings → Type 0
AreFullWith rules lock history first last [] were = Unit {0}
AreFullWith rules lock history first last (sitting ∷ more) were =
    IfSome were.first.held.port.full (IsFullWith lock history) × AreFullWith rules lock history were.middle last more were.more
