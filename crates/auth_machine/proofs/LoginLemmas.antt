-- What is said of a login is so.
use Rattle.std.proofs.Common.{◌≡◌, ℕ, suc, ◌+◌, ◌<◌, true, false, List, [], ◌∷◌, ◌++◌, length, Option, Some, None, is_some, refl, ap, subst, ◌∙◌, arith}
use Rattle.auth_events.specs.declared.entry.Entry.{Entry}
use Rattle.auth_events.specs.declared.request.Request.TheVariants as requests
use Rattle.auth_machine.specs.History.{AreSteps, IsLegal, Origin, after, after_entries, after_entry}
use Rattle.auth_machine.specs.Logins.{HasNone, IsLogin, IsNaming, LoginStands, SomeLoginStands, is_end, is_naming, is_own_request, phase_of}
use Rattle.auth_machine.specs.Policy.{PolicyView}
use Rattle.auth_machine.specs.State.{State, first_state}
use Rattle.auth_machine.specs.declared.session.Phase.{Phase}
use Rattle.auth_machine.specs.declared.session.Phase.TheVariants.{In, Waiting}
use Rattle.auth_machine.proofs.EntriesLemmas.{after_joined, parts_before, parts_behind}
use Rattle.auth_machine.proofs.PhaseLemmas.{Moves, step_moves}
use Rattle.auth_machine.proofs.PhaseLemmas.Moves.{closed, failed, fooled, logs_in, missing, opened, same, turned_away, waits}
use Rattle.auth_machine.proofs.SaidLemmas.{login_is_said, login_no_naming, naming_end, own_naming}

-- ---- what is said is so

-- no other user was named
OnlyNames : List ℕ → Option Phase → Type 0
OnlyNames name (Some (In other)) = other ≡ name
OnlyNames name (Some (Waiting other)) = other ≡ name
OnlyNames name _ = Unit {0}

-- a session has the number of an earlier place
IsEarlier : ℕ → ℕ → Option Phase → Type 0
IsEarlier sid place p = is_some p ≡ true → sid < place

module _ (sid : ℕ) (name : List ℕ) (place : ℕ) (entry : Entry) where
  earlier_next : (p q : Option Phase) → Moves sid place entry p q → IsEarlier sid place p → IsEarlier sid (suc place) q
  unfolding IsEarlier
  earlier_next p q (same _ end out) h = λ some. let k : sid < place = h some in omega arith
  earlier_next p q (missing out) h = λ some. absurd (cc)
  earlier_next p q (opened _ is out) h = λ some. omega (arith, is)
  earlier_next p q (turned_away _ naming) h = λ some. let k : sid < place = h refl in omega arith
  earlier_next p q (failed _ no_in out) h = λ some. let k : sid < place = h refl in omega arith
  earlier_next p q (waits _ other own request) h = λ some. let k : sid < place = h refl in omega arith
  earlier_next p q (fooled _ naming) h = λ some. let k : sid < place = h refl in omega arith
  earlier_next p q (logs_in other login) h = λ some. let k : sid < place = h refl in omega arith
  earlier_next p q (closed _ end out) h = λ some. absurd (cc)

  -- after the session named the user
  named_next : (p q : Option Phase) → Moves sid place entry p q → IsNaming sid name entry → OnlyNames name q
  unfolding OnlyNames
  named_next p q (same _ end out) named = let e : is_own_request sid is_end entry ≡ true = naming_end sid entry (own_naming sid name entry named) in absurd (cc)
  named_next p q (missing out) named = tt
  named_next p q (opened _ is out) named = tt
  named_next p q (turned_away _ naming) named = tt
  named_next p q (failed _ no_in out) named = tt
  named_next p q (waits _ other own request) named = let e : entry.request ≡ requests.Authenticate name = named.1 in cc
  named_next p q (fooled _ naming) named = tt
  named_next p q (logs_in other login) named =
      let a = own_naming sid name entry named in
      let b = login_no_naming sid entry login in
      absurd (cc)
  named_next p q (closed _ end out) named = tt

  -- while it names nobody else
  only_next : (p q : Option Phase) → Moves sid place entry p q → is_own_request sid is_naming entry ≡ false → OnlyNames name p → OnlyNames name q
  unfolding OnlyNames
  only_next p q (same _ end out) none only = only
  only_next p q (missing out) none only = tt
  only_next p q (opened _ is out) none only = tt
  only_next p q (turned_away _ naming) none only = tt
  only_next p q (failed _ no_in out) none only = tt
  only_next p q (waits _ other own request) none only = let e = own_naming sid other entry (own, request) in absurd (cc)
  only_next p q (fooled _ naming) none only = tt
  only_next p q (logs_in other login) none only = only
  only_next p q (closed _ end out) none only = tt

  -- when a response is answered Ok
  login_next : (p q : Option Phase) → Moves sid place entry p q → IsLogin sid entry → OnlyNames name p → q ≡ Some (In name)
  unfolding OnlyNames
  login_next p q (same _ end out) login only = absurd (out login)
  login_next p q (missing out) login only = absurd (out login)
  login_next p q (opened _ is out) login only = absurd (out login)
  login_next p q (turned_away _ naming) login only = let e = login_no_naming sid entry login in absurd (cc)
  login_next p q (failed _ no_in out) login only = absurd (out login)
  login_next p q (waits _ other own request) login only =
      let a = own_naming sid other entry (own, request) in
      let b = login_no_naming sid entry login in
      absurd (cc)
  login_next p q (fooled _ naming) login only = let e = login_no_naming sid entry login in absurd (cc)
  login_next p q (logs_in other _) login only = ap (λ (n : List ℕ). Some (In n)) only
  login_next p q (closed _ end out) login only = let e = login.1 in absurd (cc)

  -- while nothing ends the login
  stands_next : (p q : Option Phase) → Moves sid place entry p q → is_own_request sid is_end entry ≡ false → p ≡ Some (In name) → sid < place → q ≡ Some (In name)
  stands_next p q (same _ end out) none is early = is
  stands_next p q (missing out) none is early = absurd (cc)
  stands_next p q (opened _ here out) none is early = absurd (omega (arith, here))
  stands_next p q (turned_away _ naming) none is early = let e = naming_end sid entry naming in absurd (cc)
  stands_next p q (failed was no_in out) none is early = let e : was ≡ In name = cc in absurd (no_in name e)
  stands_next p q (waits _ other own request) none is early = let e = naming_end sid entry (own_naming sid other entry (own, request)) in absurd (cc)
  stands_next p q (fooled _ naming) none is early = let e = naming_end sid entry naming in absurd (cc)
  stands_next p q (logs_in other login) none is early = absurd (cc)
  stands_next p q (closed _ end out) none is early = absurd (cc)

module _ (policy : PolicyView) (sid : ℕ) (name : List ℕ) where
  earlier_after : (entries : List Entry) (place : ℕ) (s : State) → IsEarlier sid place (phase_of sid s) → AreSteps policy s place entries
      → IsEarlier sid (place + length entries) (phase_of sid (after_entries policy s place entries))
  earlier_after [] place s h steps = let e : place + 0 ≡ place = omega arith in rw e h
  earlier_after (entry ∷ entries) place s h steps =
      let e : place + suc (length entries) ≡ suc place + length entries = omega arith in
      rw e (earlier_after entries (suc place) (after_entry policy s place entry) (earlier_next sid name place entry _ _ (step_moves policy s place entry steps.0 sid) h) steps.1)

  only_after : (entries : List Entry) (place : ℕ) (s : State) → OnlyNames name (phase_of sid s) → AreSteps policy s place entries → HasNone sid is_naming entries
      → OnlyNames name (phase_of sid (after_entries policy s place entries))
  only_after [] place s h steps none = h
  only_after (entry ∷ entries) place s h steps none =
      only_after entries (suc place) (after_entry policy s place entry) (only_next sid name place entry _ _ (step_moves policy s place entry steps.0 sid) none.0 h) steps.1 none.1

  stands_after : (entries : List Entry) (place : ℕ) (s : State) → phase_of sid s ≡ Some (In name) → sid < place → AreSteps policy s place entries → HasNone sid is_end entries
      → phase_of sid (after_entries policy s place entries) ≡ Some (In name)
  stands_after [] place s h early steps none = h
  stands_after (entry ∷ entries) place s h early steps none =
      let later : sid < suc place = omega arith in
      stands_after entries (suc place) (after_entry policy s place entry) (stands_next sid name place entry _ _ (step_moves policy s place entry steps.0 sid) none.0 h early) later steps.1 none.1

  -- from the naming on
  from_naming : (naming : Entry) (between : List Entry) (response : Entry) (since : List Entry) (place : ℕ) (s : State) → IsEarlier sid place (phase_of sid s)
      → AreSteps policy s place (naming ∷ (between ++ (response ∷ since))) → IsNaming sid name naming → HasNone sid is_naming between → IsLogin sid response → HasNone sid is_end since
      → phase_of sid (after_entries policy s place (naming ∷ (between ++ (response ∷ since)))) ≡ Some (In name)
  unfolding IsEarlier
  from_naming naming between response since place s early steps named last login stands =
      let s1 = after_entry policy s place naming in
      let s2 = after_entries policy s1 (suc place) between in
      let there = suc place + length between in
      let s3 = after_entry policy s2 there response in
      let early1 : IsEarlier sid (suc place) (phase_of sid s1) = earlier_next sid name place naming _ _ (step_moves policy s place naming steps.0 sid) early in
      let steps2 = parts_before policy s1 (suc place) between (response ∷ since) steps.1 in
      let rest = parts_behind policy s1 (suc place) between (response ∷ since) steps.1 in
      let early2 : IsEarlier sid there (phase_of sid s2) = earlier_after between (suc place) s1 early1 steps2 in
      let early3 : IsEarlier sid (suc there) (phase_of sid s3) = earlier_next sid name there response _ _ (step_moves policy s2 there response rest.0 sid) early2 in
      let only1 = named_next sid name place naming _ _ (step_moves policy s place naming steps.0 sid) named in
      let only2 = only_after between (suc place) s1 only1 steps2 last in
      let in3 : phase_of sid s3 ≡ Some (In name) = login_next sid name there response _ _ (step_moves policy s2 there response rest.0 sid) login only2 in
      let early : sid < suc there = early3 (ap is_some in3) in
      ap (phase_of sid) (after_joined policy s1 (suc place) between (response ∷ since)) ∙ stands_after since (suc there) s3 in3 early rest.1 stands

none_first : (sid : ℕ) → IsEarlier sid 0 None
unfolding IsEarlier
none_first sid = λ some. absurd (cc)

pub login_is_so : (origin : Origin) (history : List Entry) (sid : ℕ) (name : List ℕ) → IsLegal origin history → LoginStands sid name history → phase_of sid (after origin history) ≡ Some (In name)
login_is_so origin history sid name legal said =
    let rest = said.naming ∷ (said.between ++ (said.response ∷ said.since)) in
    let legal2 : AreSteps origin.policy (first_state origin.records) 0 (said.before ++ rest) = subst (IsLegal origin) said.is legal in
    let first = parts_before origin.policy (first_state origin.records) 0 said.before rest legal2 in
    let behind = parts_behind origin.policy (first_state origin.records) 0 said.before rest legal2 in
    let early = earlier_after origin.policy sid name said.before 0 (first_state origin.records) (none_first sid) first in
    ap (λ h. phase_of sid (after origin h)) said.is ∙ ap (phase_of sid) (after_joined origin.policy (first_state origin.records) 0 said.before rest)
    ∙ from_naming origin.policy sid name said.naming said.between said.response said.since (0 + length said.before) (after origin said.before) early behind said.named said.named_last said.answered said.stands

-- ---- who it is

module _ (sid place : ℕ) (entry : Entry) where
  someone_next : (p q : Option Phase) → Moves sid place entry p q → IsLogin sid entry → (name : List ℕ) × (q ≡ Some (In name))
  someone_next p q (same _ end out) login = absurd (out login)
  someone_next p q (missing out) login = absurd (out login)
  someone_next p q (opened _ is out) login = absurd (out login)
  someone_next p q (turned_away _ naming) login = let e = login_no_naming sid entry login in absurd (cc)
  someone_next p q (failed _ no_in out) login = absurd (out login)
  someone_next p q (waits _ other own request) login =
      let a = own_naming sid other entry (own, request) in
      let b = login_no_naming sid entry login in
      absurd (cc)
  someone_next p q (fooled _ naming) login = let e = login_no_naming sid entry login in absurd (cc)
  someone_next p q (logs_in name _) login = (name, refl)
  someone_next p q (closed _ end out) login = let e = login.1 in absurd (cc)

from_login : (policy : PolicyView) (sid : ℕ) (response : Entry) (since : List Entry) (place : ℕ) (s : State) → IsEarlier sid place (phase_of sid s) → AreSteps policy s place (response ∷ since)
    → IsLogin sid response → HasNone sid is_end since → (name : List ℕ) × (phase_of sid (after_entries policy s place (response ∷ since)) ≡ Some (In name))
unfolding IsEarlier
from_login policy sid response since place s early steps login stands =
    let s2 = after_entry policy s place response in
    let moves = step_moves policy s place response steps.0 sid in
    let someone = someone_next sid place response (phase_of sid s) (phase_of sid s2) moves login in
    let early2 : IsEarlier sid (suc place) (phase_of sid s2) = earlier_next sid someone.0 place response (phase_of sid s) (phase_of sid s2) moves early in
    let below : sid < suc place = early2 (ap is_some someone.1) in
    (someone.0, stands_after policy sid someone.0 since (suc place) s2 someone.1 below steps.1 stands)

pub login_is_someone : (origin : Origin) (history : List Entry) (sid : ℕ) → IsLegal origin history → SomeLoginStands sid history → (name : List ℕ) × LoginStands sid name history
login_is_someone origin history sid legal said =
    let rest = said.response ∷ said.since in
    let legal2 : AreSteps origin.policy (first_state origin.records) 0 (said.before ++ rest) = subst (IsLegal origin) said.is legal in
    let first = parts_before origin.policy (first_state origin.records) 0 said.before rest legal2 in
    let behind = parts_behind origin.policy (first_state origin.records) 0 said.before rest legal2 in
    let early = earlier_after origin.policy sid [] said.before 0 (first_state origin.records) (none_first sid) first in
    let someone = from_login origin.policy sid said.response said.since (0 + length said.before) (after origin said.before) early behind said.answered said.stands in (
      someone.0,
      login_is_said origin history sid someone.0 legal
          (ap (λ h. phase_of sid (after origin h)) said.is ∙ ap (phase_of sid) (after_joined origin.policy (first_state origin.records) 0 said.before rest) ∙ someone.1),
    )
