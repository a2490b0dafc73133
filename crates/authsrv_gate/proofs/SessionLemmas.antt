-- A session over a log that says nothing and a dialer that reaches nobody.
use Rattle.std.proofs.Common.{arith, ◌≡◌, refl, subst, ◌∙◌, Bool, true}
use Rattle.fw_outside.specs.Counts.{Rose}
use Rattle.fw_outside.specs.DialerView.{DialerView}
use Rattle.fw_types.specs.declared.ending.Ending.{Ending}
use Rattle.fw_types.specs.declared.ending.Ending.TheVariants.{Done, Denied, ClientFault, ServerFault, LogFault, AuthFault, Idle, NoRoute, Spent, NoMemory}
use Rattle.authsrv_gate.specs.Dialogue.{rows, session_row}
use Rattle.authsrv_gate.specs.Session.{is_own}
use Rattle.authsrv_gate.proofs.ServerlessLemmas.{keeps_serverless}
use Rattle.session_acts.specs.Dummies.{nowhere}
use Rattle.session_acts.specs.Serverless.{CausedAlone, TakesExactly}
use Rattle.session_acts.specs.Session.{Session}
use Rattle.session_acts.specs.World.{Devices}
use Rattle.session_acts.proofs.AloneLemmas.{session_alone, session_exact}
use Rattle.session_acts.proofs.ServerlessLemmas.{session_serverless}

pub never : Rose 0 0 → ⊥
never rose = let late = rose.1 in omega (arith, late)

pub own_by : {Origin : Type 0} (ending : Ending) (old new : Devices Origin) → CausedAlone ending old new → (Rose old.logs.faults new.logs.faults → ⊥) → is_own ending ≡ true
own_by (Denied line) old new caused unfailed = absurd caused
own_by ServerFault old new caused unfailed = absurd caused
own_by LogFault old new caused unfailed = absurd (unfailed caused)
own_by NoRoute old new caused unfailed = absurd caused
own_by Done old new caused unfailed = refl
own_by ClientFault old new caused unfailed = refl
own_by AuthFault old new caused unfailed = refl
own_by Idle old new caused unfailed = refl
own_by Spent old new caused unfailed = refl
own_by NoMemory old new caused unfailed = refl

-- what holds over a dialer that is as at first holds over `nowhere`
pub at_nowhere : {Origin : Type 0} (Holds : Devices Origin → Devices Origin → Type 0) (console : Bool) (old new : Devices Origin) (ending : Ending) → Session rows (session_row console) old new ending → old.dialer ≡ nowhere
    → Holds old new → Holds (record old { dialer = nowhere }) (record new { dialer = nowhere })
at_nowhere {Origin} Holds console old new ending session is holds =
    let now : new.dialer ≡ nowhere = session_serverless rows (session_row console) old new ending session (keeps_serverless Origin console) ∙ is in
    let first = subst (λ (d : DialerView). Holds (record old { dialer = d }) new) is holds in
    subst (λ (d : DialerView). Holds (record old { dialer = nowhere }) (record new { dialer = d })) now first

pub over_lent : {Origin : Type 0} (console : Bool) (old new : Devices Origin) (ending : Ending) → Session rows (session_row console) old new ending → old.dialer ≡ nowhere
    → CausedAlone ending (record old { dialer = nowhere }) (record new { dialer = nowhere })
over_lent {Origin} console old new ending session is =
    at_nowhere (λ (a : Devices Origin) (b : Devices Origin). CausedAlone ending a b) console old new ending session is (session_alone rows (session_row console) old new ending session (keeps_serverless Origin console))

pub exact : {Origin : Type 0} (console : Bool) (old new : Devices Origin) (ending : Ending) → Session rows (session_row console) old new ending → TakesExactly ending old new
exact {Origin} console old new ending session = session_exact rows (session_row console) old new ending session (keeps_serverless Origin console)
