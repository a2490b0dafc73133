-- From the rules of each service to what the table says of a server's services.
use Rattle.std.proofs.Common.{◌≡◌, ◌∙◌, ◌≤◌, ◌-◌, List, [], ◌∷◌, ◌++◌, ap, refl, sym, subst, true, length, take, drop, get_or, arith, append_assoc, append-nil}
use Rattle.std.specs.Prelude.{All, IfOk, Result, Ok, Err}
use Rattle.std.proofs.lemmas.List.{take_rest}
use Rattle.std.proofs.lemmas.List.Elements.{All-cons, All-head, All-nil, All-tail}
use Rattle.auth_machine.specs.Policy.{PolicyView, policy_of}
use Rattle.bastion.specs.Reading.{ReadsLines}
use Rattle.bastion.specs.declared.outcome.Outcome.{Outcome}
use Rattle.bastion.specs.declared.outcome.Outcome.TheVariants.{Unread, NoMemory}
use Rattle.bastion.specs.declared.outcome.Refusal.TheVariants.{Rule}
use Rattle.bastion_ready.specs.Inputs.{AddsRules, IsSaidOf, SiteRules, both_of, ruled_by, rules_of_each, site_rules_of, whose}
use Rattle.bastion_ready.specs.Words.{is_for_server}
use Rattle.client_service.specs.PlugService.{AreRulesOf}
use Rattle.fwtk_serve.specs.RulesFor.{MayServe}
use Rattle.gate_rules.specs.Reading.{RuleBook, rules_of}
use Rattle.gate_rules.specs.declared.fault.RuleFault.{RuleFault}
use Rattle.gate_rules.specs.declared.service.Service.{Service}
use Rattle.netperm_table.specs.declared.line.Line.{Line}
use Rattle.gate_rules.specs.declared.service.Service.TheVariants.{Netacl, TnGw, FtpGw, PlugGw, Smap, Authsrv}

abbrev pub RulesRead : Type 0
RulesRead = Result (List (Service × RuleBook)) RuleFault

-- some services with their rules, and then these
abbrev pub onto : List (Service × RuleBook) → RulesRead → RulesRead
onto ruled (Ok more) = Ok (ruled ++ more)
onto ruled (Err fault) = Err fault

pub onto_none : (read : RulesRead) → onto [] read ≡ read
onto_none (Ok ruled) = refl
onto_none (Err fault) = refl

pub onto_more : (ruled : List (Service × RuleBook)) (service : Service) (rules : RuleBook) (said : Result RuleBook RuleFault) (more : RulesRead) → said ≡ Ok rules → onto ruled (ruled_by service said more) ≡ onto (ruled ++ (service, rules) ∷ []) more
onto_more ruled service rules said (Ok more) is =
    ap (λ (r : Result RuleBook RuleFault). onto ruled (ruled_by service r (Ok more))) is ∙ ap (λ (rs : List (Service × RuleBook)). Ok rs) (sym (append_assoc ruled ((service, rules) ∷ []) more))
onto_more ruled service rules said (Err fault) is = ap (λ (r : Result RuleBook RuleFault). onto ruled (ruled_by service r (Err fault))) is

pub onto_end : (ruled : List (Service × RuleBook)) → onto ruled (Ok []) ≡ Ok ruled
onto_end ruled = ap (λ (rs : List (Service × RuleBook)). Ok rs) (append-nil ruled)

-- what stops the reading of a service's rules stops that of all
pub onto_stop : (ruled : List (Service × RuleBook)) (service : Service) (said : Result RuleBook RuleFault) (more whole : RulesRead) (outcome : Outcome) → onto ruled (ruled_by service said more) ≡ whole → ReadsLines said (Err outcome) → ReadsLines whole (Err outcome)
onto_stop ruled service said more whole (Unread (Rule fault)) is stops = sym is ∙ ap (λ (r : Result RuleBook RuleFault). onto ruled (ruled_by service r more)) stops
onto_stop ruled service said more whole (NoMemory step) is stops = stops
onto_stop ruled service said more whole outcome is stops = absurd stops

-- ---- one service more

-- the services are the first one and the rest
pub next_services : (services : List Service) (service : Service) (lines : List Line) → 1 ≤ length services → service ≡ get_or services 0 service
    → rules_of_each services lines ≡ ruled_by service (rules_of service lines) (rules_of_each (take (length services - 1) (drop 1 services)) lines)
next_services [] service lines some is = absurd (omega (arith, some))
next_services (first ∷ more) service lines some is =
    rw (take_rest (first ∷ more) 1) (ap (λ (s : Service). ruled_by s (rules_of s lines) (rules_of_each more lines)) (sym is))

pub adds_so_far : (services rest : List Service) (service : Service) (lines : List Line) (old new : List (Service × RuleBook)) → rules_of_each services lines ≡ ruled_by service (rules_of service lines) (rules_of_each rest lines) → AddsRules service lines old new
    → onto new (rules_of_each rest lines) ≡ onto old (rules_of_each services lines)
adds_so_far services rest service lines old new first adds =
    ap (λ (ruled : List (Service × RuleBook)). onto ruled (rules_of_each rest lines)) adds.is ∙ sym (onto_more old service adds.rules (rules_of service lines) (rules_of_each rest lines) adds.read) ∙ sym (ap (onto old) first)

pub stops_so : (services rest : List Service) (service : Service) (lines : List Line) (ruled : List (Service × RuleBook)) (whole : RulesRead) (outcome : Outcome) → rules_of_each services lines ≡ ruled_by service (rules_of service lines) (rules_of_each rest lines) → onto ruled (rules_of_each services lines) ≡ whole
    → ReadsLines (rules_of service lines) (Err outcome) → ReadsLines whole (Err outcome)
stops_so services rest service lines ruled whole outcome first is stops =
    onto_stop ruled service (rules_of service lines) (rules_of_each rest lines) whole outcome (sym (ap (onto ruled) first) ∙ is) stops

-- ---- and what the authentication server goes by

pub both_read : (each : RulesRead) (said : Result PolicyView RuleFault) (rules : List (Service × RuleBook)) (policy : PolicyView) → each ≡ Ok rules → said ≡ Ok policy → both_of each said ≡ Ok (record { rules = rules; policy = policy })
both_read each said rules policy one other = ap (λ (e : RulesRead). both_of e said) one ∙ ap (λ (p : Result PolicyView RuleFault). both_of (Ok rules) p) other

pub policy_stops : (each : RulesRead) (said : Result PolicyView RuleFault) (rules : List (Service × RuleBook)) (outcome : Outcome) → each ≡ Ok rules → ReadsLines said (Err outcome) → ReadsLines (both_of each said) (Err outcome)
policy_stops each said rules (Unread (Rule fault)) one stops = ap (λ (e : RulesRead). both_of e said) one ∙ ap (λ (p : Result PolicyView RuleFault). both_of (Ok rules) p) stops
policy_stops each said rules (NoMemory step) one stops = stops
policy_stops each said rules outcome one stops = absurd stops

pub rules_stop : (each : RulesRead) (said : Result PolicyView RuleFault) (outcome : Outcome) → ReadsLines each (Err outcome) → ReadsLines (both_of each said) (Err outcome)
rules_stop each said (Unread (Rule fault)) stops = ap (λ (e : RulesRead). both_of e said) stops
rules_stop each said (NoMemory step) stops = stops
rules_stop each said outcome stops = absurd stops

-- ---- whose the rules are, and that they may be served

front_whose : (service : Service) (more : List Service) (said : Result RuleBook RuleFault) (others : RulesRead) → IfOk others (λ ruled. whose ruled ≡ more) → IfOk (ruled_by service said others) (λ ruled. whose ruled ≡ service ∷ more)
front_whose service more (Ok rules) (Ok ruled) is = ap (λ (names : List Service). service ∷ names) is
front_whose service more (Ok rules) (Err fault) is = tt
front_whose service more (Err fault) others is = tt

each_whose : (services : List Service) (lines : List Line) → IfOk (rules_of_each services lines) (λ ruled. whose ruled ≡ services)
each_whose [] lines = refl
each_whose (service ∷ more) lines = front_whose service more (rules_of service lines) (rules_of_each more lines) (each_whose more lines)

-- the rules of a service may be served, where its clients may
may_serve : (service : Service) (rules : RuleBook) → is_for_server service ≡ true → AreRulesOf service rules → MayServe (service, rules)
may_serve (Netacl label) rules may are = absurd (cc)
may_serve TnGw rules may are = record { served = tt }
may_serve FtpGw rules may are = record { served = tt }
may_serve (PlugGw port) rules may are = record { served = are }
may_serve Smap rules may are = record { served = tt }
may_serve Authsrv rules may are = record { served = tt }

front_may : (service : Service) (lines : List Line) (said : Result RuleBook RuleFault) (others : RulesRead) → rules_of service lines ≡ said → is_for_server service ≡ true → IfOk others (All MayServe) → IfOk (ruled_by service said others) (All MayServe)
front_may service lines (Ok rules) (Ok ruled) is may all =
    All-cons MayServe (service, rules) ruled (may_serve service rules may (record { lines = lines; read = is })) all
front_may service lines (Ok rules) (Err fault) is may all = tt
front_may service lines (Err fault) others is may all = tt

each_may : (services : List Service) (lines : List Line) → All (λ s. is_for_server s ≡ true) services → IfOk (rules_of_each services lines) (All MayServe)
each_may [] lines all = All-nil MayServe
each_may (service ∷ more) lines all =
    front_may service lines (rules_of service lines) (rules_of_each more lines) refl (All-head (λ s. is_for_server s ≡ true) service more all) (each_may more lines (All-tail (λ s. is_for_server s ≡ true) service more all))

of_both : (P : List (Service × RuleBook) → Type 0) (each : RulesRead) (said : Result PolicyView RuleFault) → IfOk each P → IfOk (both_of each said) (λ site. P site.rules)
of_both P (Ok ruled) (Ok policy) h = h
of_both P (Ok ruled) (Err fault) h = tt
of_both P (Err fault) said h = tt

-- what holds of the rules of each service, whatever the lines, holds of those that are said
of_said : (P : List (Service × RuleBook) → Type 0) (services : List Service) (site : SiteRules) → ((lines : List Line) → IfOk (rules_of_each services lines) P) → IsSaidOf services site → P site.rules
of_said P services site each said =
    subst (λ (read : Result SiteRules RuleFault). IfOk read (λ s. P s.rules)) said.read (of_both P (rules_of_each services said.lines) (policy_of said.lines) (each said.lines))

pub whose_said : (services : List Service) (site : SiteRules) → IsSaidOf services site → whose site.rules ≡ services
whose_said services site said = of_said (λ ruled. whose ruled ≡ services) services site (each_whose services) said

pub may_said : (services : List Service) (site : SiteRules) → All (λ s. is_for_server s ≡ true) services → IsSaidOf services site → All MayServe site.rules
may_said services site all said = of_said (All MayServe) services site (λ lines. each_may services lines all) said

-- what was read of the lines of a table is said by them
pub said_by : (services : List Service) (lines : List Line) (result : Result SiteRules Outcome) → ReadsLines (site_rules_of services lines) result → IfOk result (IsSaidOf services)
said_by services lines (Ok site) is = record { lines = lines; read = is }
said_by services lines (Err outcome) is = tt
