-- A client of a gateway: a session was held, or it was denied; and what that comes to, by its ending. What is the same of both
-- gateways stands here, for the rows that a session has by the number of the line that permits it.
use Rattle.std.proofs.Common.{◌≡◌, ◌∙◌, ◌<◌, ℕ, List, [], length, refl, sym, ap, subst, inl, inr, ◌⊎◌, Bool, true, false}
use Rattle.std.specs.Prelude.{if◌then◌else◌}
use Rattle.auth_events.specs.Port.{Port}
use Rattle.client_service.proofs.ConnLemmas.{conn_caused, conn_refused, denied_alone}
use Rattle.client_service.specs.Conn.{Causes, IsRefused, NotedIf}
use Rattle.client_service.specs.Decision.{decision_text}
use Rattle.client_service.specs.Endings.{ending_line}
use Rattle.client_service.specs.Gateways.{HeldAs, gate_devices}
use Rattle.client_service.specs.Kind.{Kind, kind_of}
use Rattle.client_service.specs.Kind.Kind.{Alone, Gated as ByGate}
use Rattle.client_service.specs.Meeting.{patient, timeout_of}
use Rattle.fw_acts.specs.Acts.{Row, PlaceTable}
use Rattle.fw_outside.specs.Counts.{Rose}
use Rattle.fw_outside.specs.SinkView.{SinkView}
use Rattle.fw_types.specs.declared.ending.Ending.{Ending}
use Rattle.fw_types.specs.declared.ending.Ending.TheVariants.{Done, Denied, ClientFault, ServerFault, LogFault, AuthFault, Idle, NoRoute, Spent, NoMemory}
use Rattle.fw_types.specs.declared.peer.Peer.{Peer}
use Rattle.gate_rules.specs.Reading.{RuleBook}
use Rattle.gate_rules.specs.Verdict.{verdict_of}
use Rattle.gate_rules.specs.declared.service.Service.{Service}
use Rattle.gate_rules.specs.declared.verdict.Verdict.{Verdict}
use Rattle.gate_rules.specs.declared.verdict.Verdict.TheVariants.{Permit, Deny}
use Rattle.session_acts.specs.Causes.{LinkTookMost, TookMost}
use Rattle.session_acts.specs.Deeds.{Deed}
use Rattle.session_acts.specs.Met.{acts}
use Rattle.session_acts.specs.Session.{deeds_of}
use Rattle.session_acts.specs.World.{Devices}
use Rattle.bastion.specs.Answering.{Answerer, OriginOf, PortView, port_at_first, port_of}
use Rattle.bastion.specs.AtGateway.{let_in}
use Rattle.bastion.specs.Basis.{Course, no_course, of_session}
use Rattle.bastion.specs.Gating.{Gated, Over, devices_over}
use Rattle.bastion.specs.Inputs.{Inputs}
use Rattle.bastion.specs.Outcome.{AuthRose, EndsRose, GateRose, WasStrange, status_of}
use Rattle.bastion.specs.Status.{IsFullAt, IsPassed, LinkSpent}
use Rattle.bastion.specs.Talk.{was_refused}
use Rattle.bastion.specs.WorldView.{WorldView}
use Rattle.bastion.specs.declared.outcome.Outcome.{Outcome}
use Rattle.bastion.specs.declared.outcome.Outcome.TheVariants.{Ended}
use Rattle.bastion.specs.declared.words.Authorities.{Authorities}
use Rattle.bastion.specs.declared.words.Authorities.TheVariants.{Records, Remote}
use Rattle.remote_port.specs.Link.{failures}
use Rattle.remote_port.specs.Remote.{RemoteOrigin}
use Rattle.bastion.proofs.AnsweringLemmas.{first_even, first_unrefused, over_comes}
use Rattle.bastion.proofs.AttendedLemmas.{denied_status, port_rose}
use Rattle.bastion.proofs.DenialLemmas.{OfDenial}
use Rattle.bastion.proofs.LinkingLemmas.{link_spent}
use Rattle.bastion.proofs.StrangeLemmas.{no_rise}
use Rattle.bastion.proofs.TalkLemmas.{TakesMore, strayed, takes_more, was}
use Rattle.std.specs.Prelude.{Option, Some}

-- ---- what a client came to

-- the rules permit the peer
pub record IsLetIn {Origin P : Type 0} (relays : Bool) (service : Service) (rows : ℕ → PlaceTable (acts Origin) P) (first : ℕ → Row (acts Origin) P) (verdict : Verdict) (rules : RuleBook) (peer : Peer) (old new : Devices Origin) (ending : Ending) : Type 0 where
  pub line : ℕ
  pub permitted : verdict ≡ Permit line
  pub logs : SinkView
  pub held : HeldAs relays (decision_text (Permit line) service peer) (rows line) (first line) ending (patient (timeout_of rules) (gate_devices old)) (gate_devices (record new { logs = logs }))
  pub noted : NotedIf (ending_line service peer ending) logs new.logs

-- or the rules deny it
abbrev pub OfCaller : {Origin P : Type 0} → Bool → Service → (ℕ → List ℕ) → (ℕ → PlaceTable (acts Origin) P) → (ℕ → Row (acts Origin) P) → Verdict → RuleBook → Peer → Devices Origin → Devices Origin → Ending → Type 0
OfCaller relays service words rows first verdict rules peer old new ending = IsLetIn relays service rows first verdict rules peer old new ending ⊎ OfDenial service words false verdict peer old new ending

-- the devices as the client met them
abbrev pub begun_for : (authorities : Authorities) → Inputs → Answerer authorities → WorldView → Devices (OriginOf authorities)
begun_for authorities inputs before world = devices_over world (port_at_first authorities inputs before)

-- and as it left them
abbrev pub ended_for : (authorities : Authorities) → PortView authorities → WorldView → Devices (OriginOf authorities)
ended_for authorities view world = devices_over world (port_of authorities view)

-- ---- what its session did, where one was held

abbrev pub held_course : {Origin P : Type 0} (relays : Bool) (text : List ℕ) (rows : PlaceTable (acts Origin) P) (first : Row (acts Origin) P) (ending : Ending) (old new : Devices Origin) → HeldAs relays text rows first ending old new → Course
held_course relays text rows first ending old new (inl fails) = no_course
held_course relays text rows first ending old new (inr session) = of_session (deeds_of session.held) ending

abbrev pub caller_course : {Origin P : Type 0} (relays : Bool) (service : Service) (words : ℕ → List ℕ) (rows : ℕ → PlaceTable (acts Origin) P) (first : ℕ → Row (acts Origin) P) (verdict : Verdict) (rules : RuleBook) (peer : Peer) (old new : Devices Origin) (ending : Ending)
    → OfCaller relays service words rows first verdict rules peer old new ending → Course
caller_course relays service words rows first verdict rules peer old new ending (inl s) =
    held_course relays (decision_text (Permit s.line) service peer) (rows s.line) (first s.line) ending (patient (timeout_of rules) (gate_devices old)) (gate_devices (record new { logs = s.logs })) s.held
caller_course relays service words rows first verdict rules peer old new ending (inr d) = no_course

-- ---- what each ending has counted

permit_rose : {Origin : Type 0} (authorities : Authorities) (deeds : List Deed) (line : ℕ) (ending : Ending) (old new : WorldView) (first last : Port Origin) → (Rose first.faults last.faults ⊎ Rose first.odd last.odd → AuthRose authorities deeds old new)
    → Causes ByGate (Permit line) ending (devices_over old first) (devices_over new last) → GateRose authorities deeds ending old new
permit_rose authorities deeds line Done old new first last auth h = tt
permit_rose authorities deeds line (Denied other) old new first last auth h = tt
permit_rose authorities deeds line ClientFault old new first last auth h = h
permit_rose authorities deeds line ServerFault old new first last auth h = h
permit_rose authorities deeds line LogFault old new first last auth h = h
permit_rose authorities deeds line AuthFault old new first last auth h = auth h
permit_rose authorities deeds line Idle old new first last auth h = h
permit_rose authorities deeds line NoRoute old new first last auth h = absurd h
permit_rose authorities deeds line Spent old new first last auth h = tt
permit_rose authorities deeds line NoMemory old new first last auth h = tt

deny_rose : {Origin : Type 0} (authorities : Authorities) (deeds : List Deed) (line : ℕ) (ending : Ending) (old new : WorldView) (first last : Port Origin) → IsRefused (Deny line) ending → Causes Alone (Deny line) ending (devices_over old first) (devices_over new last)
    → GateRose authorities deeds ending old new
deny_rose authorities deeds line ending old new first last (inl denied) h = subst (λ (e : Ending). GateRose authorities deeds e old new) (sym denied) tt
deny_rose authorities deeds line ending old new first last (inr fault) h =
    subst (λ (e : Ending). GateRose authorities deeds e old new) (sym fault) (subst (λ (e : Ending). Causes Alone (Deny line) e (devices_over old first) (devices_over new last)) fault h)

-- what a port counted is what its ends did, or something strange
some_ends : (before after : RemoteOrigin) (old new : Option RemoteOrigin) → old ≡ Some before → new ≡ Some after → Rose (failures before.source before.sink) (failures after.source after.sink) → EndsRose old new
some_ends before after old new was is rose = subst (λ (o : Option RemoteOrigin). EndsRose o new) (sym was) (subst (λ (o : Option RemoteOrigin). EndsRose (Some before) o) (sym is) rose)

auth_rose : (authorities : Authorities) (inputs : Inputs) (before : Answerer authorities) (view : PortView authorities) (ending : Ending) (out : Outcome) (old new : WorldView) (deeds : List Deed) → Over authorities inputs before view ending out old new
    → (Rose (port_at_first authorities inputs before).odd (port_of authorities view).odd → WasStrange deeds)
    → Rose (port_at_first authorities inputs before).faults (port_of authorities view).faults ⊎ Rose (port_at_first authorities inputs before).odd (port_of authorities view).odd → AuthRose authorities deeds old new
auth_rose Records inputs before view ending out old new deeds over strange rose = port_rose rose
auth_rose Remote inputs before view ending out old new deeds over strange (inl faults) =
    inl (some_ends before (record { source = view.link.source; sink = view.link.sink }) old.inputs.remote new.inputs.remote over.there over.back.0 faults)
auth_rose Remote inputs before view ending out old new deeds over strange (inr odd) = inr (strange odd)

-- ---- the status

-- a session that came to its end, by whether a request was refused
done_passed : (authorities : Authorities) (deeds : List Deed) (line : ℕ) (refused : Bool) (old new : WorldView) → (refused ≡ true → IsFullAt authorities deeds old.inputs new.inputs) → IsPassed authorities (Permit line) deeds (if refused then 6 else 0) old.inputs new.inputs
done_passed authorities deeds line true old new full = inr (refl, inl (inr (full refl)))
done_passed authorities deeds line false old new full = inl refl

spent_passed : {Origin : Type 0} (authorities : Authorities) (deeds : List Deed) (old new : WorldView) (first last : Port Origin) → TookMost (devices_over old first).inlet (devices_over new last).inlet ⊎ LinkTookMost (devices_over new last)
    → (TookMost old.inputs.input new.inputs.input ⊎ IsFullAt authorities deeds old.inputs new.inputs) ⊎ LinkSpent new.inputs.dialer
spent_passed authorities deeds old new first last (inl took) = inl (inl took)
spent_passed authorities deeds old new first last (inr took) = inr (link_spent last new took)

permit_status : {Origin : Type 0} (authorities : Authorities) (deeds : List Deed) (line : ℕ) (ending : Ending) (refused : Bool) (old new : WorldView) (first last : Port Origin) → (refused ≡ true → IsFullAt authorities deeds old.inputs new.inputs)
    → Causes ByGate (Permit line) ending (devices_over old first) (devices_over new last)
    → ((status_of (Ended ending refused) ≡ 4) ⊎ (status_of (Ended ending refused) ≡ 5)) ⊎ IsPassed authorities (Permit line) deeds (status_of (Ended ending refused)) old.inputs new.inputs
permit_status authorities deeds line Done refused old new first last full h = inr (done_passed authorities deeds line refused old new full)
permit_status authorities deeds line (Denied other) refused old new first last full h = absurd (cc)
permit_status authorities deeds line ClientFault refused old new first last full h = inl (inl refl)
permit_status authorities deeds line ServerFault refused old new first last full h = inl (inl refl)
permit_status authorities deeds line LogFault refused old new first last full h = inl (inl refl)
permit_status authorities deeds line AuthFault refused old new first last full h = inl (inl refl)
permit_status authorities deeds line Idle refused old new first last full h = inl (inl refl)
permit_status authorities deeds line NoRoute refused old new first last full h = inl (inl refl)
permit_status authorities deeds line Spent refused old new first last full h = inr (inr (refl, spent_passed authorities deeds old new first last h))
permit_status authorities deeds line NoMemory refused old new first last full h = inl (inr refl)

unrisen : (n : ℕ) → Rose n n → n ≡ 0 → ⊥
unrisen n rose none = no_rise (subst (λ (k : ℕ). Rose k k) none rose)

never : (b : Bool) → b ≡ false → b ≡ true → ⊥
never true is was_so = absurd (cc)
never false is was_so = absurd (cc)

-- where a request was refused, there were more than fit, or a server elsewhere answered so
full_at : (authorities : Authorities) (inputs : Inputs) (before : Answerer authorities) (view : PortView authorities) (ending : Ending) (out : Outcome) (old new : WorldView) (deeds : List Deed) → Over authorities inputs before view ending out old new
    → TakesMore (length (port_of authorities view).seen) old.inputs.clock new.inputs.clock → (port_of authorities view).refused ≡ was_refused deeds → (port_of authorities view).refused ≡ true → IsFullAt authorities deeds old.inputs new.inputs
full_at Records inputs before view ending out old new deeds over takes same refused = record { moments = takes.moments; told = takes.told; many = subst (λ (n : ℕ). n < length takes.moments) (over.full refused) takes.many }
full_at Remote inputs before view ending out old new deeds over takes same refused = sym same ∙ refused

-- ---- a client, whose causes are those of a gateway's

module _ {P : Type 0} (authorities : Authorities) (relays : Bool) (service : Service) (words : ℕ → List ℕ) (rows : ℕ → PlaceTable (acts (OriginOf authorities)) P) (first : ℕ → Row (acts (OriginOf authorities)) P) (peer : Peer) (inputs : Inputs) (out : Outcome) (old new : WorldView) (h : Gated authorities service peer inputs out old new)
    (gates : (line : ℕ) → Causes (kind_of service (Permit line)) (Permit line) h.ending (begun_for authorities inputs h.before old) (ended_for authorities h.view new) → Causes ByGate (Permit line) h.ending (begun_for authorities inputs h.before old) (ended_for authorities h.view new)) where
  abbrev begun : Devices (OriginOf authorities)
  begun = begun_for authorities inputs h.before old

  abbrev ended : Devices (OriginOf authorities)
  ended = ended_for authorities h.view new

  abbrev fresh : Port (OriginOf authorities)
  fresh = port_at_first authorities inputs h.before

  abbrev left : Port (OriginOf authorities)
  left = port_of authorities h.view

  abbrev So : Type 0
  So = OfCaller relays service words rows first (verdict_of inputs.rules peer) inputs.rules peer begun ended h.ending

  abbrev course_by : So → Course
  course_by so = caller_course relays service words rows first (verdict_of inputs.rules peer) inputs.rules peer begun ended h.ending so

  caused : Causes (kind_of service (verdict_of inputs.rules peer)) (verdict_of inputs.rules peer) h.ending begun ended
  caused = conn_caused service inputs.rules peer begun ended h.ending h.serves

  refused_by : (line : ℕ) → verdict_of inputs.rules peer ≡ Deny line → IsRefused (Deny line) h.ending
  refused_by line denied = subst (λ (v : Verdict). IsRefused v h.ending) denied (conn_refused service inputs.rules peer begun ended h.ending h.serves)

  abbrev Held : ℕ → SinkView → Type 0
  Held line logs = HeldAs relays (decision_text (Permit line) service peer) (rows line) (first line) h.ending (patient (timeout_of inputs.rules) (gate_devices begun)) (gate_devices (record ended { logs = logs }))

  abbrev course_at : (line : ℕ) (logs : SinkView) → Held line logs → Course
  course_at line logs held = held_course relays (decision_text (Permit line) service peer) (rows line) (first line) h.ending (patient (timeout_of inputs.rules) (gate_devices begun)) (gate_devices (record ended { logs = logs })) held

  -- something strange was counted where the session was answered so
  strange_at : (line : ℕ) (logs : SinkView) (held : Held line logs) → Rose fresh.odd left.odd → WasStrange (course_at line logs held).deeds
  strange_at line logs (inl fails) rose =
      let same : left.odd ≡ fresh.odd = ap (λ (d : Devices (OriginOf authorities)). d.port.odd) fails.same in
      absurd (unrisen fresh.odd (subst (λ (n : ℕ). Rose fresh.odd n) same rose) (first_even authorities inputs h.before))
  strange_at line logs (inr session) rose =
      strayed authorities (rows line) (first line) (let_in service inputs peer line (gate_devices begun)) (gate_devices (record ended { logs = logs })) h.ending session inputs h.before h.view refl refl rose

  held_rose : (line : ℕ) (logs : SinkView) (held : Held line logs) → Causes ByGate (Permit line) h.ending begun ended → GateRose authorities (course_at line logs held).deeds h.ending old new
  held_rose line logs held causes =
      permit_rose authorities (course_at line logs held).deeds line h.ending old new fresh left
      (auth_rose authorities inputs h.before h.view h.ending out old new (course_at line logs held).deeds h.over (strange_at line logs held)) causes

  pub caller_rose : (so : So) → GateRose authorities (course_by so).deeds h.ending old new
  caller_rose (inl s) = held_rose s.line s.logs s.held (gates s.line (subst (λ (v : Verdict). Causes (kind_of service v) v h.ending begun ended) s.permitted caused))
  caller_rose (inr d) =
      let causes : Causes (kind_of service (Deny d.line)) (Deny d.line) h.ending begun ended = subst (λ (v : Verdict). Causes (kind_of service v) v h.ending begun ended) d.denied caused in
      deny_rose authorities [] d.line h.ending old new fresh left (refused_by d.line d.denied) (subst (λ (k : Kind). Causes k (Deny d.line) h.ending begun ended) (denied_alone service d.line) causes)

  full_by : (line : ℕ) (logs : SinkView) (held : Held line logs) → left.refused ≡ true → IsFullAt authorities (course_at line logs held).deeds old.inputs new.inputs
  full_by line logs (inl fails) refused = absurd (never left.refused (ap (λ (d : Devices (OriginOf authorities)). d.port.refused) fails.same ∙ first_unrefused authorities inputs h.before) refused)
  full_by line logs (inr session) refused =
      let starts : Devices (OriginOf authorities) = let_in service inputs peer line (gate_devices begun) in
      let leaves : Devices (OriginOf authorities) = gate_devices (record ended { logs = logs }) in
      full_at authorities inputs h.before h.view h.ending out old new (deeds_of session.held) h.over (takes_more authorities (rows line) (first line) starts leaves h.ending session inputs h.before h.view refl refl refused)
      (was authorities (rows line) (first line) starts leaves h.ending session inputs h.before h.view refl refl) refused

  abbrev By : Verdict → List Deed → Type 0
  By verdict deeds = ((status_of (Ended h.ending left.refused) ≡ 4) ⊎ (status_of (Ended h.ending left.refused) ≡ 5)) ⊎ IsPassed authorities verdict deeds (status_of (Ended h.ending left.refused)) old.inputs new.inputs

  status_by : (so : So) → By (verdict_of inputs.rules peer) (course_by so).deeds
  status_by (inl s) =
      let causes = subst (λ (v : Verdict). Causes (kind_of service v) v h.ending begun ended) s.permitted caused in
      let deeds : List Deed = (course_at s.line s.logs s.held).deeds in
      subst (λ (v : Verdict). By v deeds) (sym s.permitted) (permit_status authorities deeds s.line h.ending left.refused old new fresh left (full_by s.line s.logs s.held) (gates s.line causes))
  status_by (inr d) = subst (λ (v : Verdict). By v []) (sym d.denied) (denied_status d.line h.ending left.refused (refused_by d.line d.denied))

  pub caller_status : (so : So) → ((status_of out ≡ 4) ⊎ (status_of out ≡ 5)) ⊎ IsPassed authorities (verdict_of inputs.rules peer) (course_by so).deeds (status_of out) old.inputs new.inputs
  caller_status so =
      subst (λ (o : Outcome). ((status_of o ≡ 4) ⊎ (status_of o ≡ 5)) ⊎ IsPassed authorities (verdict_of inputs.rules peer) (course_by so).deeds (status_of o) old.inputs new.inputs) (sym (over_comes inputs h.ending out old new authorities h.before h.view h.over)) (status_by so)
