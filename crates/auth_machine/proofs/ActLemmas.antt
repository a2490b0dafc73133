-- What a request can change, case by case.
use Rattle.std.proofs.Common.{◌≡◌, ◌≢◌, ℕ, Bool, true, false, cond, not, ◌||◌, ◌&&◌, List, [], ◌∷◌, Option, Some, None, Result, Err, is_some, option_map, nat_eq, nat_lt, refl, sym, ap, subst, ◌∙◌}
use Rattle.std.proofs.Common as common
use Rattle.auth_records.specs.Spelling.{Fields}
use Rattle.auth_records.specs.declared.record.Wiz.TheVariants as wizards
use Rattle.auth_events.specs.declared.denial.Denial.{Denial}
use Rattle.auth_events.specs.declared.denial.Denial.TheVariants as denials
use Rattle.auth_events.specs.declared.request.Request.{Request}
use Rattle.auth_events.specs.declared.request.Request.TheVariants as requests
use Rattle.auth_events.specs.declared.request.OpService.{OpService}
use Rattle.fw_types.specs.declared.host.Host.{Host}
use Rattle.auth_machine.specs.Answer.{Answer}
use Rattle.auth_machine.specs.Answer.Answer.{Denied}
use Rattle.auth_machine.specs.Login.{answers_only}
use Rattle.auth_machine.specs.Policy.{PolicyView}
use Rattle.auth_machine.specs.Powers.{add_user, adds, adds_to, deletes, disabled, done_with, enabled, list, lists, new_user, asks_operation, operation_by, over_all, own_power, power_of, reachable, shows, shows_some, stores, user_of, with_expiry, with_group, with_otp, with_password, with_proto, with_wiz}
use Rattle.auth_machine.specs.State.{State, Change, record_at, session_of}
use Rattle.auth_machine.specs.Step.{change_of, closes, in_session, opens}
use Rattle.auth_machine.specs.declared.power.Power.{Power}
use Rattle.auth_machine.specs.declared.power.Power.TheVariants.{Nobody, Members, Everybody}
use Rattle.auth_machine.specs.declared.session.Session.{Session}
use Rattle.auth_machine.proofs.LoginActs.{Asks, Responds, of_authenticate, of_respond}

-- ---- the other requests

-- the name of the record that a request is to change
abbrev pub target : Request → Option (List ℕ)
target (requests.Enable name) = Some name
target (requests.Disable name) = Some name
target (requests.Group name group) = Some name
target (requests.Proto name proto) = Some name
target (requests.Password name salt hash) = Some name
target (requests.Otp name number word_seed kept) = Some name
target (requests.Wiz name) = Some name
target (requests.Unwiz name) = Some name
target (requests.Superwiz name) = Some name
target (requests.Expire name until) = Some name
target _ = None

-- what it is to become
abbrev pub altered : Request → Fields → Fields
altered (requests.Enable name) f = enabled f
altered (requests.Disable name) f = disabled f
altered (requests.Group name group) f = with_group group f
altered (requests.Proto name proto) f = with_proto proto f
altered (requests.Password name salt hash) f = with_password salt hash f
altered (requests.Otp name number word_seed kept) f = with_otp (record { number = number; word_seed = word_seed; kept = kept }) f
altered (requests.Wiz name) f = with_wiz wizards.Group f
altered (requests.Unwiz name) f = with_wiz wizards.None f
altered (requests.Superwiz name) f = with_wiz wizards.Super f
altered (requests.Expire name until) f = with_expiry until f
altered _ f = f

-- the power that it takes
abbrev pub power_for : State → Session → Request → List ℕ → Option Power
power_for s session (requests.Group _ _) name = option_map over_all (power_of s session)
power_for s session (requests.Wiz _) name = option_map over_all (power_of s session)
power_for s session (requests.Unwiz _) name = option_map over_all (power_of s session)
power_for s session (requests.Superwiz _) name = option_map over_all (power_of s session)
power_for s session (requests.Password _ _ _) name = own_power s session name
power_for s session (requests.Otp _ _ _ _) name = own_power s session name
power_for s session _ name = power_of s session

-- the group of whom this power adds
abbrev pub AddsTo : Option Power → Option (List ℕ) → Type 0
AddsTo (Some (Members group)) to = to ≡ group
AddsTo (Some Everybody) to = to ≡ None
AddsTo (Some Nobody) to = ⊥
AddsTo None to = ⊥

-- requests that are no login and no end
abbrev pub is_other : Request → Bool
is_other (requests.Open console) = false
is_other (requests.Authenticate name) = false
is_other (requests.Response hash word) = false
is_other requests.Close = false
is_other _ = true

pub data Administers (s : State) (session : Session) : Request → Change → Type 0 where
  nothing : (request : Request) (a : Answer) → Administers s session request (answers_only a)
  makes : (name long : List ℕ) (group : Option (List ℕ)) → record_at name s.records ≡ None → AddsTo (power_of s session) group
      → Administers s session (requests.Adduser name long) (stores (new_user name long group))
  removes : (name : List ℕ) (f : Fields) → record_at name s.records ≡ Some f → reachable (power_of s session) (record_at name s.records) ≡ common.Ok f
      → Administers s session (requests.Deluser name) (deletes f)
  alters : (request : Request) (name : List ℕ) (f : Fields) → target request ≡ Some name → record_at name s.records ≡ Some f
      → reachable (power_for s session request name) (record_at name s.records) ≡ common.Ok f → Administers s session request (stores (altered request f))

-- what is reached is there
reached_there : (power : Option Power) (found : Option Fields) (f : Fields) → reachable power found ≡ common.Ok f → found ≡ Some f
reached_there None found f is = absurd (cc)
reached_there (Some Nobody) found f is = absurd (cc)
reached_there (Some (Members group)) None f is = absurd (cc)
reached_there (Some Everybody) None f is = absurd (cc)
reached_there (Some (Members group)) (Some g) f is = choose _ is
  where
    choose : (b : Bool) → cond b (common.Ok g) (Err denials.NotWizard) ≡ common.Ok f → Some g ≡ Some f
    choose true e = cc
    choose false e = absurd (cc)
reached_there (Some Everybody) (Some g) f is = cc

module _ (s : State) (session : Session) where
  of_altering : (request : Request) (name : List ℕ) (r : Result Fields Denial) → target request ≡ Some name → reachable (power_for s session request name) (record_at name s.records) ≡ r
      → Administers s session request (done_with r (λ f. stores (altered request f)))
  of_altering request name (Err d) to is = nothing request (Denied d)
  of_altering request name (common.Ok f) to is = alters request name f to (reached_there (power_for s session request name) _ f is) is

  of_showing : (request : Request) (r : Result Fields Denial) → Administers s session request (done_with r shows)
  of_showing request (Err d) = nothing request (Denied d)
  of_showing request (common.Ok f) = nothing request _

  of_removing : (name : List ℕ) (r : Result Fields Denial) → reachable (power_of s session) (record_at name s.records) ≡ r
      → Administers s session (requests.Deluser name) (done_with r deletes)
  of_removing name (Err d) is = nothing (requests.Deluser name) (Denied d)
  of_removing name (common.Ok f) is = removes name f (reached_there (power_of s session) _ f is) is

  of_adds_to : (group : Option (List ℕ)) (name long : List ℕ) (found : Option Fields) → record_at name s.records ≡ found → AddsTo (power_of s session) group
      → Administers s session (requests.Adduser name long) (adds_to group name long found)
  of_adds_to group name long (Some f) there to = nothing _ (Denied denials.Exists)
  of_adds_to group name long None there to = makes name long group there to

  of_adds : (power : Option Power) (name long : List ℕ) → power_of s session ≡ power → Administers s session (requests.Adduser name long) (adds power name long (record_at name s.records))
  of_adds None name long is = nothing _ (Denied denials.NotIn)
  of_adds (Some Nobody) name long is = nothing _ (Denied denials.NotWizard)
  of_adds (Some (Members group)) name long is = of_adds_to group name long (record_at name s.records) refl (rw is refl)
  of_adds (Some Everybody) name long is = of_adds_to None name long (record_at name s.records) refl (rw is refl)

  of_add_user : (name long : List ℕ) → Administers s session (requests.Adduser name long) (add_user s session name long)
  unfolding add_user
  of_add_user name long = of_adds (power_of s session) name long refl

  of_shown : (request : Request) (found : Option Fields) → Administers s session request (shows_some found)
  of_shown request None = nothing request (Denied denials.NoSuch)
  of_shown request (Some f) = nothing request _

  of_lists : (power : Option Power) (request : Request) (told : Option (List ℕ)) → Administers s session request (lists power told s.records)
  of_lists None request told = nothing request (Denied denials.NotIn)
  of_lists (Some Nobody) request told = nothing request (Denied denials.NotWizard)
  of_lists (Some (Members group)) request told = of_shown request _
  of_lists (Some Everybody) request told = of_shown request _

  of_list : (request : Request) (told : Option (List ℕ)) → Administers s session request (list s session told)
  unfolding list
  of_list request told = of_lists (power_of s session) request told

  of_operation : (policy : PolicyView) (request : Request) (service : OpService) (host : Host) → Administers s session request (asks_operation policy s session service host)
  unfolding asks_operation
  of_operation policy request service host = choose (user_of s session)
    where
      choose : (user : Option Fields) → Administers s session request (operation_by policy s.moment service host user)
      choose None = nothing request (Denied denials.NotIn)
      choose (Some user) = nothing request _

-- ---- all requests

pub data Happens (policy : PolicyView) (s : State) (place sid : ℕ) : Request → Change → Type 0 where
  opening : (console : Bool) → Happens policy s place sid (requests.Open console) (opens place console)
  absent : (request : Request) → session_of sid s.sessions ≡ None → Happens policy s place sid request (answers_only (Denied denials.Closed))
  asking : (name : List ℕ) (session : Session) (change : Change) → session_of sid s.sessions ≡ Some session → Asks policy s session name change
      → Happens policy s place sid (requests.Authenticate name) change
  responding : (hash : List ℕ) (word : Option ℕ) (session : Session) (change : Change) → session_of sid s.sessions ≡ Some session → Responds policy s session word change
      → Happens policy s place sid (requests.Response hash word) change
  administering : (request : Request) (session : Session) (change : Change) → session_of sid s.sessions ≡ Some session → is_other request ≡ true → Administers s session request change
      → Happens policy s place sid request change
  closing : (session : Session) → session_of sid s.sessions ≡ Some session → Happens policy s place sid requests.Close closes

module _ (policy : PolicyView) (s : State) (place sid : ℕ) where
  within : (request : Request) (act : Session → Change) (found : Option Session) → session_of sid s.sessions ≡ found
      → ((session : Session) → session_of sid s.sessions ≡ Some session → Happens policy s place sid request (act session))
      → Happens policy s place sid request (in_session found act)
  within request act None there h = absent request there
  within request act (Some session) there h = h session there

  other : (request : Request) (act : Session → Change) → is_other request ≡ true → ((session : Session) → Administers s session request (act session))
      → Happens policy s place sid request (in_session (session_of sid s.sessions) act)
  other request act is h = within request act (session_of sid s.sessions) refl (λ session there. administering request session (act session) there is (h session))

  altering : (request : Request) (name : List ℕ) → is_other request ≡ true → target request ≡ Some name
      → Happens policy s place sid request (in_session (session_of sid s.sessions) (λ session. done_with (reachable (power_for s session request name) (record_at name s.records)) (λ f. stores (altered request f))))
  altering request name is to = other request _ is (λ session. of_altering s session request name _ to refl)

  pub happens : (request : Request) → Happens policy s place sid request (change_of policy s place sid request)
  happens (requests.Open console) = opening console
  happens (requests.Authenticate name) =
      within (requests.Authenticate name) _ (session_of sid s.sessions) refl (λ session there. asking name session _ there (of_authenticate policy s session name))
  happens (requests.Response hash word) =
      within (requests.Response hash word) _ (session_of sid s.sessions) refl (λ session there. responding hash word session _ there (of_respond policy s session hash word))
  happens (requests.Operation service host) = other (requests.Operation service host) _ refl (λ session. of_operation s session policy _ service host)
  happens (requests.Adduser name long) = other (requests.Adduser name long) _ refl (λ session. of_add_user s session name long)
  happens (requests.Deluser name) = other (requests.Deluser name) _ refl (λ session. of_removing s session name _ refl)
  happens (requests.Enable name) = altering (requests.Enable name) name refl refl
  happens (requests.Disable name) = altering (requests.Disable name) name refl refl
  happens (requests.Group name group) = altering (requests.Group name group) name refl refl
  happens (requests.Proto name proto) = altering (requests.Proto name proto) name refl refl
  happens (requests.Password name salt hash) = altering (requests.Password name salt hash) name refl refl
  happens (requests.Otp name number word_seed kept) = altering (requests.Otp name number word_seed kept) name refl refl
  happens (requests.Wiz name) = altering (requests.Wiz name) name refl refl
  happens (requests.Unwiz name) = altering (requests.Unwiz name) name refl refl
  happens (requests.Superwiz name) = altering (requests.Superwiz name) name refl refl
  happens (requests.Expire name until) = altering (requests.Expire name until) name refl refl
  happens (requests.Display name) = other (requests.Display name) _ refl (λ session. of_showing s session _ _)
  happens (requests.List told) = other (requests.List told) _ refl (λ session. of_list s session _ told)
  happens requests.Close = within requests.Close _ (session_of sid s.sessions) refl (λ session there. closing session there)
