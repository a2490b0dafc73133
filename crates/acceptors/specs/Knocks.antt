-- What came, by cases.
use Rattle.acceptors.specs.declared.caller.Knock.{Knock}
use Rattle.acceptors.specs.declared.caller.Knock.TheVariants.{Session, End, Failed}

-- what holds of a client that came
abbrev pub IfSession : {C : Type 0} → Knock C → (C → Type 0) → Type 0
IfSession (Session caller) Holds = Holds caller
IfSession End Holds = Unit {0}
IfSession Failed Holds = Unit {0}

-- what holds where no more come
abbrev pub IfEnd : {C : Type 0} → Knock C → Type 0 → Type 0
IfEnd (Session caller) Holds = Unit {0}
IfEnd End Holds = Holds
IfEnd Failed Holds = Unit {0}

-- what holds where waiting failed
abbrev pub IfFailed : {C : Type 0} → Knock C → Type 0 → Type 0
IfFailed (Session caller) Holds = Unit {0}
IfFailed End Holds = Unit {0}
IfFailed Failed Holds = Holds
