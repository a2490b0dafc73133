-- The rules that are chosen are those of the service.
use Rattle.std.proofs.Common.{◌≡◌, sym, subst, ap, refl, All, ℕ, Bool, true, false, cond, List, [], ◌∷◌, Option, Some, None}
use Rattle.std.proofs.lemmas.Bool.{eqb-true}
use Rattle.std.proofs.lemmas.List.Elements.{All-head, All-tail}
use Rattle.acceptors.specs.AcceptorView.{HasSessions}
use Rattle.client_service.specs.Conn.{IsServed}
use Rattle.client_service.specs.PlugService.{AreRulesOf}
use Rattle.fw_types.specs.declared.peer.Peer.{Peer}
use Rattle.gate_rules.specs.Reading.{RuleBook}
use Rattle.gate_rules.specs.Verdict.{verdict_of}
use Rattle.gate_rules.specs.declared.service.Service.{Service}
use Rattle.gate_rules.specs.declared.service.Service.TheVariants.{Netacl, TnGw, FtpGw, PlugGw, Smap, Authsrv}
use Rattle.gate_rules.specs.declared.verdict.Verdict.TheVariants.{Deny}
use Rattle.fwtk_serve.specs.RulesFor.{MayServe, first_for, found_or_none, is_same_service, no_rules, rules_for}

-- what an empty table says is said by a table to each service
pub none_served : (service : Service) → HasSessions service → IsServed service no_rules
none_served (Netacl label) has = absurd has
none_served TnGw has = tt
none_served FtpGw has = tt
none_served (PlugGw port) has = record { lines = []; read = refl }
none_served Smap has = tt
none_served Authsrv has = tt

-- where a service has no rules, each peer is denied by line 0
pub unruled : (service : Service) (rules : List (Service × RuleBook)) (peer : Peer) → first_for service rules ≡ None → verdict_of (rules_for service rules) peer ≡ Deny 0
unfolding verdict_of
unruled service rules peer none = ap (λ (found : Option (Service × RuleBook)). verdict_of (found_or_none found) peer) none

-- rules of the same service are the service's
same_served : (one other : Service) (book : RuleBook) → HasSessions other → is_same_service one other ≡ true → IsServed one book → IsServed other book
same_served one (Netacl label) book has same served = absurd has
same_served one TnGw book has same served = tt
same_served one FtpGw book has same served = tt
same_served one Smap book has same served = tt
same_served one Authsrv book has same served = tt
same_served (PlugGw a) (PlugGw b) book has same served = subst (λ (n : ℕ). AreRulesOf (PlugGw n) book) (sym (eqb-true b a same)) served
same_served (Netacl label) (PlugGw b) book has same served = absurd served
same_served TnGw (PlugGw b) book has same served = absurd (cc)
same_served FtpGw (PlugGw b) book has same served = absurd (cc)
same_served Smap (PlugGw b) book has same served = absurd (cc)
same_served Authsrv (PlugGw b) book has same served = absurd (cc)

choose : (service : Service) (one : Service × RuleBook) (rest : Option (Service × RuleBook)) → HasSessions service → IsServed one.0 one.1 → IsServed service (found_or_none rest)
    → (same : Bool) → is_same_service one.0 service ≡ same → IsServed service (found_or_none (cond same (Some one) rest))
choose service one rest has served later true is = same_served one.0 service one.1 has is served
choose service one rest has served later false is = later

-- the first of the service, or none
pub chosen_served : (service : Service) (rules : List (Service × RuleBook)) → HasSessions service → All MayServe rules → IsServed service (rules_for service rules)
chosen_served service [] has may = none_served service has
chosen_served service (one ∷ more) has may =
    choose service one (first_for service more) has (All-head MayServe one more may).served (chosen_served service more has (All-tail MayServe one more may))
    (is_same_service one.0 service) refl
