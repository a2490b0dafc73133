-- What a session of the authentication server comes to, by its ending.
use Rattle.std.proofs.Common.{◌≡◌, ◌<◌, ℕ, [], length, refl, sym, ◌∙◌, ap, subst, inl, inr, arith, ◌⊎◌, ◌==◌, Bool, true, false}
use Rattle.std.specs.Prelude.{if◌then◌else◌}
use Rattle.auth_machine.specs.Book.{BookView}
use Rattle.auth_machine.specs.Port.{BookOrigin}
use Rattle.fw_outside.proofs.CountLemmas.{grew_none}
use Rattle.fw_outside.specs.Counts.{Grew, Rose}
use Rattle.fw_outside.specs.DialerView.{DialerView}
use Rattle.fw_outside.specs.SourceView.{SourceView}
use Rattle.fw_types.specs.declared.ending.Ending.{Ending}
use Rattle.fw_types.specs.declared.ending.Ending.TheVariants.{Done, Denied, ClientFault, ServerFault, LogFault, AuthFault, Idle, NoRoute, Spent, NoMemory}
use Rattle.fw_types.specs.declared.peer.Peer.{Peer}
use Rattle.gate_rules.specs.Reading.{RuleBook}
use Rattle.gate_rules.specs.Verdict.{verdict_of}
use Rattle.gate_rules.specs.declared.service.Service.TheVariants.{Authsrv}
use Rattle.gate_rules.specs.declared.verdict.Verdict.{Verdict}
use Rattle.gate_rules.specs.declared.verdict.Verdict.TheVariants.{Permit, Deny}
use Rattle.session_acts.specs.Causes.{is_spent_ending}
use Rattle.session_acts.specs.Serverless.{CausedAlone, TakesExactly}
use Rattle.session_acts.specs.Dummies.{nowhere}
use Rattle.session_acts.specs.World.{Devices, most_taken}
use Rattle.session_acts.proofs.DeviceLemmas.{by_nothing}
use Rattle.client_service.specs.Conn.{Causes, IsRefused}
use Rattle.client_service.specs.Kind.Kind.{Alone}
use Rattle.bastion.specs.Inputs.{Inputs}
use Rattle.bastion.specs.Outcome.{CountRose, EndingRose, status_of}
use Rattle.bastion.specs.Serving.{Attended, Serves, book_at_first, devices_at, most_entries, origin_of}
use Rattle.bastion.specs.Status.{IsFull, IsHeld, IsServed, TakesIn}
use Rattle.bastion.specs.WorldView.{WorldView}
use Rattle.bastion.specs.declared.outcome.Outcome.{Outcome}
use Rattle.bastion.specs.declared.outcome.Outcome.TheVariants.{Ended}
use Rattle.bastion.specs.declared.words.Client.{Client}
use Rattle.client_service.proofs.ConnLemmas.{conn_caused, conn_refused, conn_spent, console_caused, console_spent}
use Rattle.bastion.proofs.SessionLemmas.{serves_takes}
use Rattle.bastion.proofs.StrangeLemmas.{no_rise}

pub port_rose : {A : Type 0} → Rose 0 0 ⊎ Rose 0 0 → A
port_rose (inl rose) = no_rise rose
port_rose (inr rose) = no_rise rose

-- ---- what each ending has counted

caused_rose : (ending : Ending) (old new : WorldView) (first last : BookView) (dialer : DialerView) → CausedAlone ending (devices_at old first nowhere) (devices_at new last dialer) → EndingRose ending old new
caused_rose Done old new first last dialer h = tt
caused_rose (Denied line) old new first last dialer h = tt
caused_rose ClientFault old new first last dialer h = h
caused_rose ServerFault old new first last dialer h = h
caused_rose LogFault old new first last dialer h = h
caused_rose AuthFault old new first last dialer h = port_rose h
caused_rose Idle old new first last dialer h = h
caused_rose NoRoute old new first last dialer h = h
caused_rose Spent old new first last dialer h = tt
caused_rose NoMemory old new first last dialer h = tt

causes_rose : (verdict : Verdict) (ending : Ending) (old new : WorldView) (first last : BookView) (dialer : DialerView) → Causes Alone verdict ending (devices_at old first nowhere) (devices_at new last dialer) → EndingRose ending old new
causes_rose verdict (Denied line) old new first last dialer h = tt
causes_rose verdict ending old new first last dialer h = caused_rose ending old new first last dialer h

serves_rose : (console : Bool) (rules : RuleBook) (peer : Peer) (ending : Ending) (old new : WorldView) (first last : BookView) (dialer : DialerView)
    → Serves console rules peer (devices_at old first nowhere) (devices_at new last dialer) ending → EndingRose ending old new
serves_rose true rules peer ending old new first last dialer h =
    caused_rose ending old new first last dialer (console_caused Authsrv peer (devices_at old first nowhere) (devices_at new last dialer) ending h)
serves_rose false rules peer ending old new first last dialer h =
    causes_rose (verdict_of rules peer) ending old new first last dialer (conn_caused Authsrv rules peer (devices_at old first nowhere) (devices_at new last dialer) ending h)

pub attended_rose : (client : Client) (inputs : Inputs) (out : Outcome) (old new : WorldView) → Attended client inputs out old new → CountRose out old new
attended_rose client inputs out old new h =
    subst (λ (o : Outcome). CountRose o old new) (sym h.over.comes)
    (serves_rose client.console inputs.rules client.peer h.ending old new (book_at_first (origin_of inputs) most_entries h.before) h.book h.dialer h.serves)

-- ---- bytes

pub spent_is : (ending : Ending) → is_spent_ending ending ≡ true → ending ≡ Spent
spent_is Spent is = refl
spent_is Done is = absurd (cc)
spent_is (Denied line) is = absurd (cc)
spent_is ClientFault is = absurd (cc)
spent_is ServerFault is = absurd (cc)
spent_is LogFault is = absurd (cc)
spent_is AuthFault is = absurd (cc)
spent_is Idle is = absurd (cc)
spent_is NoRoute is = absurd (cc)
spent_is NoMemory is = absurd (cc)

serves_spent : (console : Bool) (rules : RuleBook) (peer : Peer) (old new : Devices BookOrigin) (ending : Ending) → Serves console rules peer old new ending → TakesExactly ending old new
serves_spent true rules peer old new ending h = console_spent Authsrv peer old new ending h
serves_spent false rules peer old new ending h = conn_spent Authsrv rules peer old new ending h

pub attended_takes : (client : Client) (inputs : Inputs) (out : Outcome) (old new : WorldView) → Attended client inputs out old new → TakesIn (status_of out) old.inputs.input new.inputs.input
attended_takes client inputs out old new h =
    let takes = serves_spent client.console inputs.rules client.peer (devices_at old (book_at_first (origin_of inputs) most_entries h.before) nowhere) (devices_at new h.book h.dialer) h.ending h.serves in
    let six : h.ending ≡ Spent → status_of out ≡ 6 = λ spent. ap status_of (h.over.comes ∙ ap (λ (e : Ending). Ended e h.book.refused) spent) in
    record { took = takes.took; all = λ long. six (spent_is h.ending (takes.all ∙ ap (λ (n : ℕ). n == most_taken) long)) }

pub takes_same : (status : ℕ) (old new : SourceView) → new ≡ old → TakesIn status old new
takes_same status old new is = record { took = record { bytes = []; most = omega (arith); grew = subst (λ (s : SourceView). Grew 0 old.amount s.amount) (sym is) (grew_none old.amount); is = ap (λ (s : SourceView). s.taken) is ∙ by_nothing old.taken }; all = λ long. absurd (omega (arith, long)) }

-- ---- the status

-- a session that came to its end, or to a limit, by whether a request was refused
held_limit : (refused : Bool) (book : BookView) (old new : WorldView) → refused ≡ book.refused → (book.refused ≡ true → IsFull old.inputs new.inputs) → IsHeld (if refused then 6 else 0) old.inputs new.inputs
held_limit true book old new is full = inr (refl, inr (full (sym is)))
held_limit false book old new is full = inl refl

-- the status of a session's ending: as held, 4, or 5
abbrev ByEnding : ℕ → WorldView → WorldView → Type 0
ByEnding status old new = ((status ≡ 4) ⊎ (status ≡ 5)) ⊎ IsHeld status old.inputs new.inputs

ending_by : (ending : Ending) (book : BookView) (old new : WorldView) (first : BookView) (dialer : DialerView) → (book.refused ≡ true → IsFull old.inputs new.inputs)
    → CausedAlone ending (devices_at old first nowhere) (devices_at new book dialer) → ByEnding (status_of (Ended ending book.refused)) old new
ending_by Done book old new first dialer full h = inr (held_limit book.refused book old new refl full)
ending_by (Denied line) book old new first dialer full h = absurd h
ending_by ClientFault book old new first dialer full h = inl (inl refl)
ending_by ServerFault book old new first dialer full h = inl (inl refl)
ending_by LogFault book old new first dialer full h = inl (inl refl)
ending_by AuthFault book old new first dialer full h = inl (inl refl)
ending_by Idle book old new first dialer full h = inl (inl refl)
ending_by NoRoute book old new first dialer full h = inl (inl refl)
ending_by Spent book old new first dialer full h = inr (inr (refl, inl h))
ending_by NoMemory book old new first dialer full h = inl (inr refl)

pub denied_status : (line : ℕ) (ending : Ending) (refused : Bool) → IsRefused (Deny line) ending → ((status_of (Ended ending refused) ≡ 4) ⊎ (status_of (Ended ending refused) ≡ 5)) ⊎ (status_of (Ended ending refused) ≡ 1)
denied_status line ending refused (inl denied) = inr (ap (λ (e : Ending). status_of (Ended e refused)) denied)
denied_status line ending refused (inr fault) = inl (inl (ap (λ (e : Ending). status_of (Ended e refused)) fault))

causes_permit : (line : ℕ) (ending : Ending) (old new : Devices BookOrigin) → Causes Alone (Permit line) ending old new → CausedAlone ending old new
causes_permit line (Denied other) old new h = absurd (cc)
causes_permit line Done old new h = h
causes_permit line ClientFault old new h = h
causes_permit line ServerFault old new h = h
causes_permit line LogFault old new h = h
causes_permit line AuthFault old new h = h
causes_permit line Idle old new h = h
causes_permit line NoRoute old new h = h
causes_permit line Spent old new h = h
causes_permit line NoMemory old new h = h

verdict_by : (verdict : Verdict) (ending : Ending) (book : BookView) (old new : WorldView) (first : BookView) (dialer : DialerView) → (book.refused ≡ true → IsFull old.inputs new.inputs)
    → Causes Alone verdict ending (devices_at old first nowhere) (devices_at new book dialer) → IsRefused verdict ending → ((status_of (Ended ending book.refused) ≡ 4) ⊎ (status_of (Ended ending book.refused) ≡ 5)) ⊎ IsServed false verdict (status_of (Ended ending book.refused)) old.inputs new.inputs
verdict_by (Permit line) ending book old new first dialer full h refused = ending_by ending book old new first dialer full (causes_permit line ending (devices_at old first nowhere) (devices_at new book dialer) h)
verdict_by (Deny line) ending book old new first dialer full h refused = denied_status line ending book.refused refused

serves_by : (console : Bool) (rules : RuleBook) (peer : Peer) (ending : Ending) (book : BookView) (old new : WorldView) (first : BookView) (dialer : DialerView) → (book.refused ≡ true → IsFull old.inputs new.inputs)
    → Serves console rules peer (devices_at old first nowhere) (devices_at new book dialer) ending
    → ((status_of (Ended ending book.refused) ≡ 4) ⊎ (status_of (Ended ending book.refused) ≡ 5)) ⊎ IsServed console (verdict_of rules peer) (status_of (Ended ending book.refused)) old.inputs new.inputs
serves_by true rules peer ending book old new first dialer full h =
    ending_by ending book old new first dialer full (console_caused Authsrv peer (devices_at old first nowhere) (devices_at new book dialer) ending h)
serves_by false rules peer ending book old new first dialer full h =
    verdict_by (verdict_of rules peer) ending book old new first dialer full (conn_caused Authsrv rules peer (devices_at old first nowhere) (devices_at new book dialer) ending h)
    (conn_refused Authsrv rules peer (devices_at old first nowhere) (devices_at new book dialer) ending h)

attended_full : (client : Client) (inputs : Inputs) (out : Outcome) (old new : WorldView) (h : Attended client inputs out old new) → h.book.refused ≡ true → IsFull old.inputs new.inputs
attended_full client inputs out old new h refused =
    let takes = serves_takes client.console inputs client.peer h.before old new h.book h.dialer h.ending out h.over h.serves refused in
    record { moments = takes.moments; told = takes.told; many = subst (λ (n : ℕ). n < length takes.moments) (h.over.full refused) takes.many }

pub attended_status : (client : Client) (inputs : Inputs) (out : Outcome) (old new : WorldView) → Attended client inputs out old new
    → ((status_of out ≡ 4) ⊎ (status_of out ≡ 5)) ⊎ IsServed client.console (verdict_of inputs.rules client.peer) (status_of out) old.inputs new.inputs
attended_status client inputs out old new h =
    let By : Outcome → Type 0 = λ o. ((status_of o ≡ 4) ⊎ (status_of o ≡ 5)) ⊎ IsServed client.console (verdict_of inputs.rules client.peer) (status_of o) old.inputs new.inputs in
    subst By (sym h.over.comes) (serves_by client.console inputs.rules client.peer h.ending h.book old new (book_at_first (origin_of inputs) most_entries h.before) h.dialer (attended_full client inputs out old new h) h.serves)
