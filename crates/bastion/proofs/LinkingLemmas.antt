-- What a session of the plug comes to, by its ending.
use Rattle.std.proofs.Common.{◌≡◌, ◌∙◌, ℕ, [], refl, sym, ap, subst, inl, inr, ◌⊎◌, ◌==◌, Bool, true, false}
use Rattle.client_service.proofs.ConnLemmas.{conn_caused, conn_refused, conn_spent}
use Rattle.client_service.specs.Conn.{Causes, IsRefused, TakesBy}
use Rattle.client_service.specs.Kind.{kind_of}
use Rattle.client_service.specs.Kind.Kind.{Alone, Plugged}
use Rattle.auth_events.specs.Port.{Port}
use Rattle.fw_outside.specs.Counts.{Rose}
use Rattle.fw_types.specs.declared.ending.Ending.{Ending}
use Rattle.fw_types.specs.declared.ending.Ending.TheVariants.{Done, Denied, ClientFault, ServerFault, LogFault, AuthFault, Idle, NoRoute, Spent, NoMemory}
use Rattle.gate_rules.specs.Verdict.{verdict_of}
use Rattle.plug_gate.specs.Dummies.{no_port}
use Rattle.gate_rules.specs.declared.service.Service.TheVariants as services
use Rattle.gate_rules.specs.declared.verdict.Verdict.{Verdict}
use Rattle.gate_rules.specs.declared.verdict.Verdict.TheVariants.{Permit, Deny}
use Rattle.session_acts.specs.Causes.{LinkTookMost, TookMost, is_spent_ending, is_spent_or}
use Rattle.session_acts.specs.World.{Devices, devices_with, most_taken}
use Rattle.bastion.specs.Inputs.{Inputs}
use Rattle.bastion.specs.Linking.{Linked, devices_for}
use Rattle.bastion.specs.Outcome.{LinkRose, RoseFor, status_of}
use Rattle.bastion.specs.Status.{IsLinked, LinkSpent, TakesOver}
use Rattle.bastion.specs.WorldView.{WorldView}
use Rattle.bastion.specs.declared.outcome.Outcome.{Outcome}
use Rattle.bastion.specs.declared.outcome.Outcome.TheVariants.{Ended}
use Rattle.bastion.specs.declared.words.Caller.{Caller}
use Rattle.bastion.specs.declared.words.Command.TheVariants.{PlugGw}
use Rattle.bastion.proofs.AttendedLemmas.{denied_status, port_rose, spent_is}

-- the devices of a world, and a port
abbrev pub meeting : {Origin : Type 0} → Port Origin → WorldView → Devices Origin
meeting port world = devices_with port world.inputs.input world.output world.logs world.inputs.dialer world.inputs.clock world.inputs.dice

-- ---- what each ending has counted

permit_rose : (caller : Caller) (line : ℕ) (ending : Ending) (old new : WorldView) → Causes Plugged (Permit line) ending (devices_for old) (devices_for new) → LinkRose ending old new
permit_rose caller line Done old new h = tt
permit_rose caller line (Denied other) old new h = tt
permit_rose caller line ClientFault old new h = h
permit_rose caller line ServerFault old new h = h
permit_rose caller line LogFault old new h = h
permit_rose caller line AuthFault old new h = absurd h
permit_rose caller line Idle old new h = h
permit_rose caller line NoRoute old new h = h
permit_rose caller line Spent old new h = tt
permit_rose caller line NoMemory old new h = tt

-- the same of a client whom the rules deny, at whatever port
pub deny_rose : {Origin : Type 0} (port after : Port Origin) (line : ℕ) (ending : Ending) (old new : WorldView) → (Rose port.faults after.faults ⊎ Rose port.odd after.odd → ⊥) → Causes Alone (Deny line) ending (meeting port old) (meeting after new) → LinkRose ending old new
deny_rose port after line Done old new none h = tt
deny_rose port after line (Denied other) old new none h = tt
deny_rose port after line ClientFault old new none h = h
deny_rose port after line ServerFault old new none h = absurd h
deny_rose port after line LogFault old new none h = h
deny_rose port after line AuthFault old new none h = absurd (none h)
deny_rose port after line Idle old new none h = inl h
deny_rose port after line NoRoute old new none h = absurd h
deny_rose port after line Spent old new none h = tt
deny_rose port after line NoMemory old new none h = tt

causes_rose : (caller : Caller) (verdict : Verdict) (ending : Ending) (old new : WorldView) → Causes (kind_of (services.PlugGw caller.port) verdict) verdict ending (devices_for old) (devices_for new) → LinkRose ending old new
causes_rose caller (Permit line) ending old new h = permit_rose caller line ending old new h
causes_rose caller (Deny line) ending old new h = deny_rose no_port no_port line ending old new (λ rose. port_rose rose) h

linked_caused : (caller : Caller) (inputs : Inputs) (out : Outcome) (old new : WorldView) (h : Linked caller inputs out old new)
    → Causes (kind_of (services.PlugGw caller.port) (verdict_of inputs.rules caller.peer)) (verdict_of inputs.rules caller.peer) h.ending (devices_for old) (devices_for new)
linked_caused caller inputs out old new h = conn_caused (services.PlugGw caller.port) inputs.rules caller.peer (devices_for old) (devices_for new) h.ending h.serves

pub linked_rose : (caller : Caller) (inputs : Inputs) (out : Outcome) (old new : WorldView) → Linked caller inputs out old new → RoseFor (PlugGw caller) [] out old new
linked_rose caller inputs out old new h =
    subst (λ (o : Outcome). RoseFor (PlugGw caller) [] o old new) (sym h.comes) (causes_rose caller (verdict_of inputs.rules caller.peer) h.ending old new (linked_caused caller inputs out old new h))

-- ---- bytes

pub spent_status : (ending : Ending) (refused : Bool) → is_spent_or true ending ≡ true → (status_of (Ended ending refused) ≡ 6) ⊎ (status_of (Ended ending refused) ≡ 4)
spent_status Spent refused is = inl refl
spent_status ClientFault refused is = inr refl
spent_status ServerFault refused is = inr refl
spent_status Idle refused is = inr refl
spent_status Done refused is = absurd (cc)
spent_status (Denied line) refused is = absurd (cc)
spent_status LogFault refused is = absurd (cc)
spent_status AuthFault refused is = absurd (cc)
spent_status NoRoute refused is = absurd (cc)
spent_status NoMemory refused is = absurd (cc)

pub spent_alone : (ending : Ending) (refused : Bool) → is_spent_ending ending ≡ true → status_of (Ended ending refused) ≡ 6
spent_alone ending refused is = ap (λ (e : Ending). status_of (Ended e refused)) (spent_is ending is)

takes_so : (caller : Caller) (verdict : Verdict) (ending : Ending) (old new : WorldView) → TakesBy (kind_of (services.PlugGw caller.port) verdict) ending (devices_for old) (devices_for new) → TakesOver (status_of (Ended ending false)) old.inputs.input new.inputs.input
takes_so caller (Permit line) ending old new takes = record { took = takes.took; all = λ long. spent_status ending false (takes.all long) }
takes_so caller (Deny line) ending old new takes = record { took = takes.took; all = λ long. inl (spent_alone ending false (takes.all ∙ ap (λ (n : ℕ). n == most_taken) long)) }

pub linked_takes : (caller : Caller) (inputs : Inputs) (out : Outcome) (old new : WorldView) → Linked caller inputs out old new → TakesOver (status_of out) old.inputs.input new.inputs.input
linked_takes caller inputs out old new h =
    let Takes : Outcome → Type 0 = λ o. TakesOver (status_of o) old.inputs.input new.inputs.input in
    subst Takes (sym h.comes) (takes_so caller (verdict_of inputs.rules caller.peer) h.ending old new
    (conn_spent (services.PlugGw caller.port) inputs.rules caller.peer (devices_for old) (devices_for new) h.ending h.serves))

-- ---- the status

pub link_spent : {Origin : Type 0} (port : Port Origin) (new : WorldView) → LinkTookMost (meeting port new) → LinkSpent new.inputs.dialer
link_spent port new took = record { link = took.link; last = took.last; all = took.all }

linked_spent : (old new : WorldView) → TookMost (devices_for old).inlet (devices_for new).inlet ⊎ LinkTookMost (devices_for new) → TookMost old.inputs.input new.inputs.input ⊎ LinkSpent new.inputs.dialer
linked_spent old new (inl took) = inl took
linked_spent old new (inr took) = inr (link_spent no_port new took)

permit_status : (caller : Caller) (line : ℕ) (ending : Ending) (old new : WorldView) → Causes Plugged (Permit line) ending (devices_for old) (devices_for new)
    → ((status_of (Ended ending false) ≡ 4) ⊎ (status_of (Ended ending false) ≡ 5)) ⊎ IsLinked (Permit line) (status_of (Ended ending false)) old.inputs new.inputs
permit_status caller line Done old new h = inr (inl refl)
permit_status caller line (Denied other) old new h = absurd (cc)
permit_status caller line ClientFault old new h = inl (inl refl)
permit_status caller line ServerFault old new h = inl (inl refl)
permit_status caller line LogFault old new h = inl (inl refl)
permit_status caller line AuthFault old new h = inl (inl refl)
permit_status caller line Idle old new h = inl (inl refl)
permit_status caller line NoRoute old new h = inl (inl refl)
permit_status caller line Spent old new h = inr (inr (refl, linked_spent old new h))
permit_status caller line NoMemory old new h = inl (inr refl)

verdict_status_by : (caller : Caller) (verdict : Verdict) (ending : Ending) (old new : WorldView) → Causes (kind_of (services.PlugGw caller.port) verdict) verdict ending (devices_for old) (devices_for new) → IsRefused verdict ending
    → ((status_of (Ended ending false) ≡ 4) ⊎ (status_of (Ended ending false) ≡ 5)) ⊎ IsLinked verdict (status_of (Ended ending false)) old.inputs new.inputs
verdict_status_by caller (Permit line) ending old new caused refused = permit_status caller line ending old new caused
verdict_status_by caller (Deny line) ending old new caused refused = denied_status line ending false refused

pub linked_status : (caller : Caller) (inputs : Inputs) (out : Outcome) (old new : WorldView) → Linked caller inputs out old new
    → ((status_of out ≡ 4) ⊎ (status_of out ≡ 5)) ⊎ IsLinked (verdict_of inputs.rules caller.peer) (status_of out) old.inputs new.inputs
linked_status caller inputs out old new h =
    let By : Outcome → Type 0 = λ o. ((status_of o ≡ 4) ⊎ (status_of o ≡ 5)) ⊎ IsLinked (verdict_of inputs.rules caller.peer) (status_of o) old.inputs new.inputs in
    subst By (sym h.comes) (verdict_status_by caller (verdict_of inputs.rules caller.peer) h.ending old new (linked_caused caller inputs out old new h)
    (conn_refused (services.PlugGw caller.port) inputs.rules caller.peer (devices_for old) (devices_for new) h.ending h.serves))
