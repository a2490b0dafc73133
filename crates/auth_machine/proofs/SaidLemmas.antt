-- A session that is logged in is said to be so.
use Rattle.std.proofs.Common.{◌≡◌, ℕ, Bool, true, false, ◌&&◌, List, [], ◌∷◌, ◌++◌, Option, Some, None, nat_eq, refl, ap, subst, ◌∙◌, eq-eqb}
use Rattle.std.specs.List.{AllByRecursion}
use Rattle.std.proofs.lemmas.List.{append_assoc}
use Rattle.auth_events.specs.declared.entry.Entry.{Entry}
use Rattle.auth_events.specs.declared.request.Request.{Request}
use Rattle.auth_events.specs.declared.request.Request.TheVariants as requests
use Rattle.auth_machine.specs.History.{IsLegal, Origin, after, after_entry}
use Rattle.auth_machine.specs.Logins.{HasNone, IsLogin, IsNaming, LoginStands, is_end, is_naming, is_own_request, is_response, phase_of}
use Rattle.auth_machine.specs.State.{first_state}
use Rattle.auth_machine.specs.declared.session.Phase.{Phase}
use Rattle.auth_machine.specs.declared.session.Phase.TheVariants.{Bogus, Idle, In, Waiting}
use Rattle.auth_machine.proofs.EntriesLemmas.{reaches}
use Rattle.auth_machine.proofs.PhaseLemmas.{Moves, step_moves}
use Rattle.auth_machine.proofs.PhaseLemmas.Moves.{closed, failed, fooled, logs_in, missing, opened, same, turned_away, waits}

-- ---- kinds of entries

unnamed_end : (sid : ℕ) (entry : Entry) → is_own_request sid is_end entry ≡ false → is_own_request sid is_naming entry ≡ false
unnamed_end sid entry h = choose (nat_eq entry.sid sid) entry.request h
  where
    choose : (b : Bool) (request : Request) → b && is_end request ≡ false → b && is_naming request ≡ false
    choose false request h = refl
    choose true (requests.Authenticate name) h = absurd (cc)
    choose true (requests.Close) h = refl
    choose true _ h = refl

pub naming_end : (sid : ℕ) (entry : Entry) → is_own_request sid is_naming entry ≡ true → is_own_request sid is_end entry ≡ true
naming_end sid entry h = choose (nat_eq entry.sid sid) entry.request h
  where
    choose : (b : Bool) (request : Request) → b && is_naming request ≡ true → b && is_end request ≡ true
    choose false request h = h
    choose true (requests.Authenticate name) h = refl
    choose true (requests.Close) h = refl
    choose true _ h = absurd (cc)

pub own_naming : (sid : ℕ) (name : List ℕ) (entry : Entry) → IsNaming sid name entry → is_own_request sid is_naming entry ≡ true
own_naming sid name entry named =
    ap (λ (b : Bool). b && is_naming entry.request) (eq-eqb entry.sid sid named.0) ∙ ap is_naming named.1

pub login_no_naming : (sid : ℕ) (entry : Entry) → IsLogin sid entry → is_own_request sid is_naming entry ≡ false
login_no_naming sid entry login = ap (λ (b : Bool). b && is_naming entry.request) (eq-eqb entry.sid sid login.0) ∙ choose entry.request login.1
  where
    choose : (request : Request) → is_response request ≡ true → is_naming request ≡ false
    choose (requests.Authenticate name) h = absurd (cc)
    choose _ h = refl

all_more : (P : Entry → Type 0) (xs : List Entry) (x : Entry) → AllByRecursion P xs → P x → AllByRecursion P (xs ++ x ∷ [])
all_more P [] x all one = (one, tt)
all_more P (y ∷ xs) x all one = (all.0, all_more P xs x all.1 one)

-- ---- what is so is said

-- the session has named this user last
record Names (sid : ℕ) (name : List ℕ) (done : List Entry) : Type 0 where
  before : List Entry
  naming : Entry
  between : List Entry
  is : done ≡ before ++ (naming ∷ between)
  named : IsNaming sid name naming
  named_last : HasNone sid is_naming between

Says : ℕ → List Entry → Option Phase → Type 0
Says sid done (Some (In name)) = LoginStands sid name done
Says sid done (Some (Waiting name)) = Names sid name done
Says sid done _ = Unit {0}

module _ (sid place : ℕ) (entry : Entry) (done : List Entry) where
  longer : (before : List Entry) (naming : Entry) (between : List Entry) → done ≡ before ++ (naming ∷ between) → done ++ entry ∷ [] ≡ before ++ (naming ∷ (between ++ entry ∷ []))
  longer before naming between is = ap (λ xs. xs ++ entry ∷ []) is ∙ append_assoc before (naming ∷ between) (entry ∷ [])

  says_more : (p : Option Phase) → is_own_request sid is_end entry ≡ false → Says sid done p → Says sid (done ++ entry ∷ []) p
  unfolding Says
  says_more None end says = tt
  says_more (Some Idle) end says = tt
  says_more (Some Bogus) end says = tt
  says_more (Some (Waiting name)) end says =
      record {
        before = says.before;
        naming = says.naming;
        between = says.between ++ entry ∷ [];
        is = longer says.before says.naming says.between says.is;
        named = says.named;
        named_last = all_more (λ e. is_own_request sid is_naming e ≡ false) says.between entry says.named_last (unnamed_end sid entry end);
      }
  says_more (Some (In name)) end says =
      record {
        before = says.before;
        naming = says.naming;
        between = says.between;
        response = says.response;
        since = says.since ++ entry ∷ [];
        is = longer says.before says.naming (says.between ++ (says.response ∷ says.since)) says.is
            ∙ ap (λ xs. says.before ++ (says.naming ∷ xs)) (append_assoc says.between (says.response ∷ says.since) (entry ∷ []));
        named = says.named;
        named_last = says.named_last;
        answered = says.answered;
        stands = all_more (λ e. is_own_request sid is_end e ≡ false) says.since entry says.stands end;
      }

  says_next : (p q : Option Phase) → Moves sid place entry p q → Says sid done p → Says sid (done ++ entry ∷ []) q
  unfolding Says
  says_next p q (same _ end out) says = says_more p end says
  says_next p q (missing out) says = tt
  says_next p q (opened _ is out) says = tt
  says_next p q (turned_away _ naming) says = tt
  says_next p q (failed _ no_in out) says = tt
  says_next p q (waits _ name own request) says =
      record { before = done; naming = entry; between = []; is = refl; named = (own, request); named_last = tt }
  says_next p q (fooled _ naming) says = tt
  says_next p q (logs_in name login) says =
      record {
        before = says.before;
        naming = says.naming;
        between = says.between;
        response = entry;
        since = [];
        is = longer says.before says.naming says.between says.is;
        named = says.named;
        named_last = says.named_last;
        answered = login;
        stands = tt;
      }
  says_next p q (closed _ end out) says = tt

says_read : (sid : ℕ) (name : List ℕ) (done : List Entry) (p : Option Phase) → p ≡ Some (In name) → Says sid done p → LoginStands sid name done
unfolding Says
says_read sid name done p is says = subst (Says sid done) is says

says_first : (sid : ℕ) → Says sid [] None
unfolding Says
says_first sid = tt

pub login_is_said : (origin : Origin) (history : List Entry) (sid : ℕ) (name : List ℕ) → IsLegal origin history → phase_of sid (after origin history) ≡ Some (In name) → LoginStands sid name history
login_is_said origin history sid name legal is =
    let all = reaches origin.policy (λ done place s. Says sid done (phase_of sid s))
    (λ done place s entry says step. says_next sid place entry done (phase_of sid s) (phase_of sid (after_entry origin.policy s place entry)) (step_moves origin.policy s place entry step sid) says)
    [] history 0 (first_state origin.records) (says_first sid) legal in
    says_read sid name history (phase_of sid (after origin history)) is all.1
