-- Sessions by their numbers.
use Rattle.std.proofs.Common.{◌≡◌, ℕ, Bool, true, false, cond, not, List, [], ◌∷◌, ◌++◌, Option, Some, None, nat_eq, refl, sym, ap, subst, ◌∙◌, eq-eqb}
use Rattle.std.proofs.lemmas.Bool.{eqb-true}
use Rattle.auth_machine.specs.State.{session_of, sessions_after, without_session}
use Rattle.auth_machine.specs.declared.record_change.SessionChange.TheVariants.{Become, End}
use Rattle.auth_machine.specs.declared.session.Session.{Session}

-- ---- sessions by their numbers

pub found_sid : (sid : ℕ) (xs : List Session) (x : Session) → session_of sid xs ≡ Some x → x.sid ≡ sid
found_sid sid [] x is = absurd (cc)
found_sid sid (y ∷ xs) x is = choose (nat_eq y.sid sid) refl is (found_sid sid xs x)
  where
    choose : (b : Bool) → nat_eq y.sid sid ≡ b → cond b (Some y) (session_of sid xs) ≡ Some x → (session_of sid xs ≡ Some x → x.sid ≡ sid) → x.sid ≡ sid
    choose true e is rest = let same : y ≡ x = cc in subst (λ (z : Session). z.sid ≡ sid) same (eqb-true y.sid sid e)
    choose false e is rest = rest is

own_gone : (sid : ℕ) (xs ys : List Session) → session_of sid (without_session sid xs ++ ys) ≡ session_of sid ys
own_gone sid [] ys = refl
own_gone sid (x ∷ xs) ys = choose (nat_eq x.sid sid) refl (own_gone sid xs ys)
  where
    choose : (b : Bool) → nat_eq x.sid sid ≡ b → session_of sid (without_session sid xs ++ ys) ≡ session_of sid ys
        → session_of sid (cond (not b) (x ∷ without_session sid xs) (without_session sid xs) ++ ys) ≡ session_of sid ys
    choose true e rest = rest
    choose false e rest = ap (λ (b : Bool). cond b (Some x) (session_of sid (without_session sid xs ++ ys))) e ∙ rest

others_stay : (k sid : ℕ) (xs ys : List Session) → nat_eq k sid ≡ false → session_of sid ys ≡ None → session_of sid (without_session k xs ++ ys) ≡ session_of sid xs
others_stay k sid [] ys other none = none
others_stay k sid (x ∷ xs) ys other none = choose (nat_eq x.sid k) refl (others_stay k sid xs ys other none)
  where
    choose : (b : Bool) → nat_eq x.sid k ≡ b → session_of sid (without_session k xs ++ ys) ≡ session_of sid xs
        → session_of sid (cond (not b) (x ∷ without_session k xs) (without_session k xs) ++ ys) ≡ cond (nat_eq x.sid sid) (Some x) (session_of sid xs)
    choose true e rest =
        let same : x.sid ≡ k = eqb-true x.sid k e in
        rest ∙ sym (ap (λ (b : Bool). cond b (Some x) (session_of sid xs)) (ap (λ (n : ℕ). nat_eq n sid) same ∙ other))
    choose false e rest = ap (λ (found : Option Session). cond (nat_eq x.sid sid) (Some x) found) rest

without_is : (k : ℕ) (xs : List Session) → without_session k xs ≡ without_session k xs ++ []
without_is k [] = refl
without_is k (x ∷ xs) = choose (not (nat_eq x.sid k)) (without_is k xs)
  where
    choose : (b : Bool) → without_session k xs ≡ without_session k xs ++ [] → cond b (x ∷ without_session k xs) (without_session k xs) ≡ cond b (x ∷ without_session k xs) (without_session k xs) ++ []
    choose true rest = ap (λ zs. x ∷ zs) rest
    choose false rest = rest

pub itself : (n : ℕ) → nat_eq n n ≡ true
itself n = eq-eqb n n refl

-- what the session of a number becomes
pub became_own : (x : Session) (sid k : ℕ) (xs : List Session) → x.sid ≡ sid → session_of sid (sessions_after (Become x) k xs) ≡ Some x
became_own x sid k xs is =
    subst (λ (n : ℕ). session_of n (without_session x.sid xs ++ (x ∷ [])) ≡ Some x) is
    (own_gone x.sid xs (x ∷ []) ∙ ap (λ (b : Bool). cond b (Some x) None) (itself x.sid))

pub became_other : (x : Session) (sid k : ℕ) (xs : List Session) → nat_eq x.sid sid ≡ false → session_of sid (sessions_after (Become x) k xs) ≡ session_of sid xs
became_other x sid k xs other = others_stay x.sid sid xs (x ∷ []) other (ap (λ (b : Bool). cond b (Some x) None) other)

pub ended_own : (sid : ℕ) (xs : List Session) → session_of sid (sessions_after End sid xs) ≡ None
ended_own sid xs = rw (without_is sid xs) (own_gone sid xs [])

pub ended_other : (k sid : ℕ) (xs : List Session) → nat_eq k sid ≡ false → session_of sid (sessions_after End k xs) ≡ session_of sid xs
ended_other k sid xs other = rw (without_is k xs) (others_stay k sid xs [] other refl)
