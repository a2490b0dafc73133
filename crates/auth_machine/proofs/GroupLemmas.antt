-- Wizards of a group change nothing outside of it.
use Rattle.std.proofs.Common.{◌≡◌, ◌≢◌, ℕ, ◌+◌, ◌⊎◌, inl, inr, Bool, true, false, cond, not, ◌&&◌, List, [], ◌∷◌, ◌++◌, length, Option, Some, None, Err, IfSome, option_map, refl, sym, ap, subst, ◌∙◌}
use Rattle.std.proofs.Common as common
use Rattle.std.specs.Str.{bytes_eq}
use Rattle.std.proofs.lemmas.Slice.Eq.{bytes_eq-Decides}
use Rattle.auth_records.specs.Spelling.{Fields}
use Rattle.auth_events.specs.declared.denial.Denial.TheVariants as denials
use Rattle.auth_events.specs.declared.entry.Entry.{Entry}
use Rattle.auth_events.specs.declared.request.Request.{Request}
use Rattle.auth_events.specs.declared.request.Request.TheVariants as requests
use Rattle.auth_machine.specs.History.{IsLegal, Origin, after}
use Rattle.auth_machine.specs.Laws.{HasRankOf, IsGroupWizard, IsNewcomer, IsOutOfReach}
use Rattle.auth_machine.specs.Logins.{phase_of}
use Rattle.auth_machine.specs.Policy.{PolicyView}
use Rattle.auth_machine.specs.Powers.{covers, is_name_in, is_super, name_in_phase, over_all, own_power, power_of, reachable, record_of, same_group, user_of, wizard_power}
use Rattle.auth_machine.specs.State.{State, at_moment, record_at, session_of}
use Rattle.auth_machine.specs.declared.power.Power.TheVariants.{Nobody, Members, Everybody}
use Rattle.auth_machine.specs.declared.session.Phase.{Phase}
use Rattle.auth_machine.specs.declared.session.Phase.TheVariants.{In, Waiting}
use Rattle.auth_machine.specs.declared.session.Session.{Session}
use Rattle.auth_machine.proofs.ActLemmas.{AddsTo, altered, power_for}
use Rattle.auth_machine.proofs.RecordLemmas.{Awaited, RecordMoves, last_moves}
use Rattle.auth_machine.proofs.RecordLemmas.RecordMoves.{becomes, enters, fails, made, removed, same, uses}

-- ---- the power

wizard_is : (s : State) (sid : ℕ) (user : List ℕ) (group : Option (List ℕ)) (wizard : IsGroupWizard s sid user group) → power_of s wizard.session ≡ Some (Members group)
wizard_is s sid user group wizard =
    ap (λ (b : Bool). cond b (Some Everybody) (option_map (λ u. wizard_power u.wiz u.group) (user_of s wizard.session))) wizard.console
    ∙ ap (λ (phase : Phase). option_map (λ u. wizard_power u.wiz u.group) (record_of (name_in_phase phase) s.records)) wizard.phase
    ∙ ap (λ (found : Option Fields). option_map (λ u. wizard_power u.wiz u.group) found) wizard.own_there
    ∙ ap (λ w. Some (wizard_power w wizard.own.group)) wizard.wiz
    ∙ ap (λ (g : Option (List ℕ)). Some (Members g)) wizard.group_is

-- over which records a session with the power over a group has it
covered : (group : Option (List ℕ)) (f g : Fields) → reachable (Some (Members group)) (Some f) ≡ common.Ok g → covers (Members group) f ≡ true
covered group f g is = choose (covers (Members group) f) refl is
  where
    choose : (b : Bool) → covers (Members group) f ≡ b → cond b (common.Ok f) (Err denials.NotWizard) ≡ common.Ok g → covers (Members group) f ≡ true
    choose true e h = e
    choose false e h = absurd (cc)

module _ (s : State) (session : Session) (user : List ℕ) (group : Option (List ℕ)) (phase : session.phase ≡ In user) (power : power_of s session ≡ Some (Members group)) where
  by_power : (f : Fields) → reachable (power_of s session) (Some f) ≡ common.Ok f → covers (Members group) f ≡ true
  by_power f is = covered group f f (subst (λ p. reachable p (Some f) ≡ common.Ok f) power is)

  never_super : {A : Type 0} → (f : Fields) → reachable (option_map over_all (power_of s session)) (Some f) ≡ common.Ok f → A
  never_super f is =
      let e : reachable (Some Nobody) (Some f) ≡ common.Ok f = subst (λ p. reachable (option_map over_all p) (Some f) ≡ common.Ok f) power is in
      absurd (cc)

  by_own : (k : List ℕ) (f : Fields) → bytes_eq user k ≡ false → reachable (own_power s session k) (Some f) ≡ common.Ok f → covers (Members group) f ≡ true
  by_own k f other is =
      let named : is_name_in session.phase k ≡ false = ap (λ (p : Phase). is_name_in p k) phase ∙ other in
      by_power f (subst (λ (b : Bool). reachable (cond b (option_map (λ p. Everybody) (power_of s session)) (power_of s session)) (Some f) ≡ common.Ok f) named is)

  by_request : (request : Request) (k : List ℕ) (f : Fields) → bytes_eq user k ≡ false → reachable (power_for s session request k) (Some f) ≡ common.Ok f → covers (Members group) f ≡ true
  by_request (requests.Group _ _) k f other is = never_super f is
  by_request (requests.Wiz _) k f other is = never_super f is
  by_request (requests.Unwiz _) k f other is = never_super f is
  by_request (requests.Superwiz _) k f other is = never_super f is
  by_request (requests.Password _ _ _) k f other is = by_own k f other is
  by_request (requests.Otp _ _ _ _) k f other is = by_own k f other is
  by_request _ k f other is = by_power f is

  same_rank : (request : Request) (k : List ℕ) (f : Fields) → reachable (power_for s session request k) (Some f) ≡ common.Ok f → HasRankOf f (altered request f)
  same_rank (requests.Group _ _) k f is = never_super f is
  same_rank (requests.Wiz _) k f is = never_super f is
  same_rank (requests.Unwiz _) k f is = never_super f is
  same_rank (requests.Superwiz _) k f is = never_super f is
  same_rank (requests.Enable name) k f is = record { wiz = refl; group_is = refl }
  same_rank (requests.Disable name) k f is = record { wiz = refl; group_is = refl }
  same_rank (requests.Proto name proto) k f is = record { wiz = refl; group_is = refl }
  same_rank (requests.Password name salt hash) k f is = record { wiz = refl; group_is = refl }
  same_rank (requests.Otp name number word_seed kept) k f is = record { wiz = refl; group_is = refl }
  same_rank (requests.Expire name until) k f is = record { wiz = refl; group_is = refl }
  same_rank _ k f is = record { wiz = refl; group_is = refl }

not_covered : (group : Option (List ℕ)) (f : Fields) → IsOutOfReach group f → covers (Members group) f ≡ true → ⊥
not_covered group f out is = choose (same_group group f.group) (is_super f.wiz) out is
  where
    choose : (a b : Bool) → (a ≡ false) ⊎ (b ≡ true) → a && not b ≡ true → ⊥
    choose true true out is = cc
    choose false b out is = cc
    choose true false (inl e) is = cc
    choose true false (inr e) is = cc

-- ---- one step

module _ (policy : PolicyView) (s : State) (entry : Entry) (user : List ℕ) (group : Option (List ℕ)) (wizard : IsGroupWizard s entry.sid user group) (k : List ℕ) where
  one_session : (session : Session) → session_of entry.sid s.sessions ≡ Some session → wizard.session ≡ session
  one_session session there = let e = wizard.there in cc

  power_is : (session : Session) → session_of entry.sid s.sessions ≡ Some session → power_of s session ≡ Some (Members group)
  power_is session there = subst (λ x. power_of s x ≡ Some (Members group)) (one_session session there) (wizard_is s entry.sid user group wizard)

  phase_is : (session : Session) → session_of entry.sid s.sessions ≡ Some session → session.phase ≡ In user
  phase_is session there = subst (λ (x : Session). x.phase ≡ In user) (one_session session there) wizard.phase

  not_waiting : (f : Fields) → Awaited policy s k entry f → ⊥
  not_waiting f awaited =
      let a : phase_of entry.sid s ≡ Some wizard.session.phase = ap (λ (found : Option Session). option_map (λ x. x.phase) found) wizard.there in
      let b : phase_of entry.sid s ≡ Some (Waiting k) = awaited.phase in
      let c = wizard.phase in
      cc

  other_stays : (old new : Option Fields) → RecordMoves policy s k entry old new → bytes_eq user k ≡ false → (f : Fields) → old ≡ Some f → IsOutOfReach group f → new ≡ Some f
  other_stays old new (same _ never) other f is out = is
  other_stays old new (made long to session request there adds) other f is out = absurd (cc)
  other_stays old new (removed g session request reply there power) other f is out =
      let one : f ≡ g = cc in
      let far : IsOutOfReach group g = subst (IsOutOfReach group) one out in
      absurd (not_covered group g far (by_power s session user group (phase_is session there) (power_is session there) g power))
  other_stays old new (becomes g session to reply there power) other f is out =
      let one : f ≡ g = cc in
      let far : IsOutOfReach group g = subst (IsOutOfReach group) one out in
      absurd (not_covered group g far (by_request s session user group (phase_is session there) (power_is session there) entry.request k g other power))
  other_stays old new (fails g awaited never) other f is out = absurd (not_waiting g awaited)
  other_stays old new (enters g awaited reply proto) other f is out = absurd (not_waiting g awaited)
  other_stays old new (uses g otp w awaited reply word chain) other f is out = absurd (not_waiting g awaited)

  adds_here : (session : Session) (to : Option (List ℕ)) → session_of entry.sid s.sessions ≡ Some session → AddsTo (power_of s session) to → to ≡ group
  adds_here session to there adds = subst (λ p. AddsTo p to) (power_is session there) adds

  newcomer : (old new : Option Fields) → RecordMoves policy s k entry old new → old ≡ None → IfSome new (IsNewcomer group)
  newcomer old new (same _ never) is = subst (λ found. IfSome found (IsNewcomer group)) (sym is) tt
  newcomer old new (made long to session request there adds) is = record { group_is = adds_here session to there adds; wiz = refl; enabled = refl }
  newcomer old new (removed g session request reply there power) is = tt
  newcomer old new (becomes g session to reply there power) is = absurd (cc)
  newcomer old new (fails g awaited never) is = absurd (cc)
  newcomer old new (enters g awaited reply proto) is = absurd (cc)
  newcomer old new (uses g otp w awaited reply word chain) is = absurd (cc)

  rank_stays : (old new : Option Fields) → RecordMoves policy s k entry old new → (f : Fields) → old ≡ Some f → IfSome new (HasRankOf f)
  rank_stays old new (same _ never) f is = subst (λ found. IfSome found (HasRankOf f)) (sym is) (record { wiz = refl; group_is = refl })
  rank_stays old new (made long to session request there adds) f is = absurd (cc)
  rank_stays old new (removed g session request reply there power) f is = tt
  rank_stays old new (becomes g session to reply there power) f is =
      let one : g ≡ f = cc in
      subst (λ (h : Fields). HasRankOf h (altered entry.request g)) one (same_rank s session user group (phase_is session there) (power_is session there) entry.request k g power)
  rank_stays old new (fails g awaited never) f is = absurd (not_waiting g awaited)
  rank_stays old new (enters g awaited reply proto) f is = absurd (not_waiting g awaited)
  rank_stays old new (uses g otp w awaited reply word chain) f is = absurd (not_waiting g awaited)

-- ---- after a history

later_wizard : (s : State) (at sid : ℕ) (user : List ℕ) (group : Option (List ℕ)) → IsGroupWizard s sid user group → IsGroupWizard (at_moment at s) sid user group
later_wizard s at sid user group w =
    record { session = w.session; there = w.there; console = w.console; phase = w.phase; own = w.own; own_there = w.own_there; wiz = w.wiz; group_is = w.group_is }

turned : (m n : List ℕ) → bytes_eq m n ≡ false → bytes_eq n m ≡ false
turned m n other = choose (bytes_eq n m) refl
  where
    choose : (b : Bool) → bytes_eq n m ≡ b → bytes_eq n m ≡ false
    choose true e =
        let one : n ≡ m = (bytes_eq-Decides n m).0 e in
        let f : bytes_eq m n ≡ true = (bytes_eq-Decides m n).1 (sym one) in
        absurd (cc)
    choose false e = e

pub others_stay : (origin : Origin) (before : List Entry) (entry : Entry) (user name : List ℕ) (group : Option (List ℕ)) (f : Fields) → IsLegal origin (before ++ entry ∷ [])
    → IsGroupWizard (after origin before) entry.sid user group → record_at name (after origin before).records ≡ Some f → bytes_eq name user ≡ false → IsOutOfReach group f
    → record_at name (after origin (before ++ entry ∷ [])).records ≡ Some f
others_stay origin before entry user name group f legal wizard there other out =
    other_stays origin.policy (at_moment entry.at (after origin before)) entry user group (later_wizard (after origin before) entry.at entry.sid user group wizard) name _ _
    (last_moves origin before entry name legal) (turned name user other) f there out

pub new_ones_are_newcomers : (origin : Origin) (before : List Entry) (entry : Entry) (user name : List ℕ) (group : Option (List ℕ)) → IsLegal origin (before ++ entry ∷ [])
    → IsGroupWizard (after origin before) entry.sid user group → record_at name (after origin before).records ≡ None
    → IfSome (record_at name (after origin (before ++ entry ∷ [])).records) (IsNewcomer group)
new_ones_are_newcomers origin before entry user name group legal wizard none =
    newcomer origin.policy (at_moment entry.at (after origin before)) entry user group (later_wizard (after origin before) entry.at entry.sid user group wizard) name _ _
    (last_moves origin before entry name legal) none

pub ranks_stay : (origin : Origin) (before : List Entry) (entry : Entry) (user name : List ℕ) (group : Option (List ℕ)) (f : Fields) → IsLegal origin (before ++ entry ∷ [])
    → IsGroupWizard (after origin before) entry.sid user group → record_at name (after origin before).records ≡ Some f
    → IfSome (record_at name (after origin (before ++ entry ∷ [])).records) (HasRankOf f)
ranks_stay origin before entry user name group f legal wizard there =
    rank_stays origin.policy (at_moment entry.at (after origin before)) entry user group (later_wizard (after origin before) entry.at entry.sid user group wizard) name _ _
    (last_moves origin before entry name legal) f there
