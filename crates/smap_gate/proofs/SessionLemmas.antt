-- A session over a dialer that reaches nobody, and a port at which nobody can be asked.
use Rattle.std.proofs.Common.{arith, ◌≡◌, refl, subst, ◌∙◌, ◌⊎◌, inl, inr, true}
use Rattle.fw_outside.specs.Counts.{Rose}
use Rattle.fw_outside.specs.DialerView.{DialerView}
use Rattle.fw_types.specs.declared.ending.Ending.{Ending}
use Rattle.fw_types.specs.declared.ending.Ending.TheVariants.{Done, Denied, ClientFault, ServerFault, LogFault, AuthFault, Idle, NoRoute, Spent, NoMemory}
use Rattle.session_acts.specs.Dummies.{nowhere}
use Rattle.session_acts.specs.Serverless.{CausedAlone, TakesExactly}
use Rattle.session_acts.specs.Session.{Session}
use Rattle.session_acts.specs.World.{Devices}
use Rattle.session_acts.proofs.AloneLemmas.{session_alone, session_exact}
use Rattle.session_acts.proofs.ServerlessLemmas.{session_serverless}
use Rattle.smap_gate.specs.Dialogue.{smap_row, smap_rows}
use Rattle.smap_gate.specs.Ends.{is_own}
use Rattle.smap_gate.specs.Gate.{Gate}
use Rattle.smap_gate.proofs.ServerlessLemmas.{keeps_serverless}

pub never : Rose 0 0 ⊎ Rose 0 0 → ⊥
never (inl rose) = let late = rose.1 in omega (arith, late)
never (inr rose) = let late = rose.1 in omega (arith, late)

pub own_by : {Origin : Type 0} (ending : Ending) (old new : Devices Origin) → CausedAlone ending old new → (Rose old.port.faults new.port.faults ⊎ Rose old.port.odd new.port.odd → ⊥) → is_own ending ≡ true
own_by (Denied line) old new caused unfailed = absurd caused
own_by ServerFault old new caused unfailed = absurd caused
own_by AuthFault old new caused unfailed = absurd (unfailed caused)
own_by NoRoute old new caused unfailed = absurd caused
own_by LogFault old new caused unfailed = refl
own_by Done old new caused unfailed = refl
own_by ClientFault old new caused unfailed = refl
own_by Idle old new caused unfailed = refl
own_by Spent old new caused unfailed = refl
own_by NoMemory old new caused unfailed = refl

-- what holds over a dialer that is as at first holds over `nowhere`
pub at_nowhere : {Origin : Type 0} (Holds : Devices Origin → Devices Origin → Type 0) (gate : Gate) (old new : Devices Origin) (ending : Ending) → Session (smap_rows gate) smap_row old new ending → old.dialer ≡ nowhere
    → Holds old new → Holds (record old { dialer = nowhere }) (record new { dialer = nowhere })
at_nowhere {Origin} Holds gate old new ending session is holds =
    let now : new.dialer ≡ nowhere = session_serverless (smap_rows gate) smap_row old new ending session (keeps_serverless Origin gate) ∙ is in
    let first = subst (λ (d : DialerView). Holds (record old { dialer = d }) new) is holds in
    subst (λ (d : DialerView). Holds (record old { dialer = nowhere }) (record new { dialer = d })) now first

pub over_lent : {Origin : Type 0} (gate : Gate) (old new : Devices Origin) (ending : Ending) → Session (smap_rows gate) smap_row old new ending → old.dialer ≡ nowhere
    → CausedAlone ending (record old { dialer = nowhere }) (record new { dialer = nowhere })
over_lent {Origin} gate old new ending session is =
    at_nowhere (λ (a : Devices Origin) (b : Devices Origin). CausedAlone ending a b) gate old new ending session is (session_alone (smap_rows gate) smap_row old new ending session (keeps_serverless Origin gate))

pub exact : {Origin : Type 0} (gate : Gate) (old new : Devices Origin) (ending : Ending) → Session (smap_rows gate) smap_row old new ending → TakesExactly ending old new
exact {Origin} gate old new ending session = session_exact (smap_rows gate) smap_row old new ending session (keeps_serverless Origin gate)

-- a session at one gate is one at an equal one
pub as_gate : {Origin : Type 0} {old new : Devices Origin} {ending : Ending} {one other : Gate} → one ≡ other → Session (smap_rows one) smap_row old new ending → Session (smap_rows other) smap_row old new ending
as_gate {Origin} {old} {new} {ending} same session = subst (λ (gate : Gate). Session (smap_rows gate) smap_row old new ending) same session
