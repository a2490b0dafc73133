-- A line that permits has options, and one of the plug a destination among them.
use Rattle.std.proofs.Common.{◌≡◌, ℕ, Bool, true, false, ◌&&◌, ◌||◌, List, [], ◌∷◌, ◌++◌, refl, sym, ap, subst, cond}
use Rattle.std.specs.Prelude.{◌==◌, IsSome, find, filter, is_none, is_some, Option, Some, None, Result, Ok, Err}
use Rattle.std.specs.List.{list_any}
use Rattle.std.specs.Option.{option_map}
use Rattle.std.proofs.lemmas.Bool.{eq-eqb}
use Rattle.std.proofs.lemmas.List.{append-nil}
use Rattle.fw_types.specs.Port.{port_of}
use Rattle.fw_types.specs.declared.dest.Dest.{Dest}
use Rattle.fw_types.specs.declared.peer.Peer.{Peer}
use Rattle.host_pattern.specs.Pattern.{Written}
use Rattle.host_pattern.specs.declared.word.Word.{Word}
use Rattle.netperm_table.specs.declared.line.Line.{Line}
use Rattle.gate_rules.specs.Attribute.{attribute_named, is_for}
use Rattle.gate_rules.specs.Lists.{hosts_in, mapped, options_in, patterns_of}
use Rattle.gate_rules.specs.Options.{options_of}
use Rattle.gate_rules.specs.Reading.{RuleBook, book_of, closed, effect_as, effect_of, effect_then, is_of, plug_effect, rules_of, ruled, where_ours, with_effect, with_target}
use Rattle.gate_rules.specs.Service.{keyword}
use Rattle.gate_rules.specs.Settings.{set_to}
use Rattle.gate_rules.specs.Verdict.{decided_by, options_at, rule_matches, verdict_of}
use Rattle.gate_rules.specs.declared.attribute.Attribute.{Attribute}
use Rattle.gate_rules.specs.declared.attribute.Attribute.TheVariants as attribute
use Rattle.gate_rules.specs.declared.fault.RuleFault.{RuleFault}
use Rattle.gate_rules.specs.declared.fault.Why.{Why}
use Rattle.gate_rules.specs.declared.fault.Why.TheVariants.{MissingValue}
use Rattle.gate_rules.specs.declared.line_effect.LineEffect.{LineEffect}
use Rattle.gate_rules.specs.declared.line_effect.LineEffect.TheVariants.{Nothing, Ruled, Set}
use Rattle.gate_rules.specs.declared.options.Options.{Options}
use Rattle.gate_rules.specs.declared.rule.Rule.{Rule}
use Rattle.gate_rules.specs.declared.service.Service.{Service}
use Rattle.gate_rules.specs.declared.service.Service.TheVariants.{Authsrv, FtpGw, Netacl, PlugGw, Smap, TnGw}
use Rattle.gate_rules.specs.declared.setting.Setting.{Setting}
use Rattle.gate_rules.specs.declared.verdict.Verdict.{Verdict}
use Rattle.gate_rules.specs.declared.verdict.Verdict.TheVariants.{Permit, Deny}
use Rattle.client_service.specs.Conn.{IsServed}
use Rattle.client_service.specs.Options.{OptionsFor}
use Rattle.client_service.specs.PlugService.{target_in, target_of}

-- a rule that permits has a destination
abbrev IsTargeted : Rule → Type 0
IsTargeted rule = rule.permits ≡ true → IsSome rule.options.plug_to

abbrev EffectTargets : LineEffect → Type 0
EffectTargets Nothing = Unit {0}
EffectTargets (Ruled rule) = IsTargeted rule
EffectTargets (Set assigned) = Unit {0}

abbrev AllTargeted : List Rule → Type 0
AllTargeted [] = Unit {0}
AllTargeted (rule ∷ rules) = IsTargeted rule × AllTargeted rules

-- ---- one line

-- what a line says, and what lines are read as
abbrev says : LineEffect → Result LineEffect Why
says effect = Ok effect

abbrev reads : RuleBook → Result RuleBook RuleFault
reads book = Ok book

targets_same : (a b : LineEffect) → says a ≡ says b → EffectTargets a → EffectTargets b
targets_same a b is h = let same : a ≡ b = cc in subst EffectTargets same h

where_targets : (ours : Bool) (rule : Rule) → IsSome rule.options.plug_to → EffectTargets (where_ours ours (Ruled rule))
where_targets true rule h = λ permits. h
where_targets false rule h = tt

-- a rule is made only of options with a destination
ruled_targets : (number : ℕ) (ours : Bool) (hosts : Result (List Written) Why) (options : Result Options Why) (effect : LineEffect) → mapped (where_ours ours) (ruled number true hosts (with_target options)) ≡ Ok effect → EffectTargets effect
ruled_targets number ours (Err why) options effect is = absurd (cc)
ruled_targets number ours (Ok hosts) (Err why) effect is = absurd (cc)
ruled_targets number ours (Ok hosts) (Ok options) effect is = by options.plug_to refl is
  where
    by : (target : Option Dest) → options.plug_to ≡ target → mapped (where_ours ours) (ruled number true (Ok hosts) (cond (is_none target) (Err MissingValue) (Ok options))) ≡ Ok effect → EffectTargets effect
    by None same e = absurd (cc)
    by (Some dest) same e =
        targets_same (where_ours ours (Ruled (record { line = number; permits = true; hosts = hosts; options = options }))) effect e
        (where_targets ours (record { line = number; permits = true; hosts = hosts; options = options }) (ap is_some same))

plug_targets : (service : Service) (number : ℕ) (port : Option ℕ) (words : List Word) (effect : LineEffect) → plug_effect service number port words ≡ Ok effect → EffectTargets effect
plug_targets service number None words effect is = absurd (cc)
plug_targets service number (Some port) words effect is = ruled_targets number _ (patterns_of (hosts_in words)) (options_of service port (options_in words)) effect is

port_targets : (at number : ℕ) (words : List Word) (effect : LineEffect) → effect_as attribute.Port (PlugGw at) number words ≡ Ok effect → EffectTargets effect
port_targets at number [] effect is = absurd (cc)
port_targets at number (word ∷ words) effect is = plug_targets (PlugGw at) number (port_of word.text) words effect is

nothing_targets : (effect : LineEffect) → says Nothing ≡ says effect → EffectTargets effect
nothing_targets effect is = targets_same Nothing effect is tt

setting_targets : (which : Setting) (number : ℕ) (value : Result ℕ Why) (effect : LineEffect) → mapped (λ (v : ℕ). Set (record { which = which; value = v; line = number })) value ≡ Ok effect → EffectTargets effect
setting_targets which number (Err why) effect is = absurd (cc)
setting_targets which number (Ok value) effect is = targets_same (Set (record { which = which; value = value; line = number })) effect is tt

sets_targets : (ours : Bool) (which : Setting) (at number : ℕ) (words : List Word) (effect : LineEffect) → effect_as (cond ours (attribute.Sets which) attribute.Other) (PlugGw at) number words ≡ Ok effect → EffectTargets effect
sets_targets true which at number words effect is = setting_targets which number (set_to which words) effect is
sets_targets false which at number words effect is = nothing_targets effect is

-- of the lines that make rules only those with a port are for the plug
as_targets : (named : Attribute) (at number : ℕ) (words : List Word) (effect : LineEffect) → effect_as (cond (is_for (PlugGw at) named) named attribute.Other) (PlugGw at) number words ≡ Ok effect → EffectTargets effect
as_targets attribute.Permit at number words effect is = nothing_targets effect is
as_targets attribute.Deny at number words effect is = nothing_targets effect is
as_targets attribute.Port at number words effect is = port_targets at number words effect is
as_targets (attribute.Sets which) at number words effect is = sets_targets (is_for (PlugGw at) (attribute.Sets which)) which at number words effect is
as_targets attribute.Operation at number words effect is = nothing_targets effect is
as_targets attribute.Other at number words effect is = nothing_targets effect is

line_targets : (at : ℕ) (line : Line) (effect : LineEffect) → effect_of (PlugGw at) line ≡ Ok effect → EffectTargets effect
unfolding effect_of
line_targets at line effect is = as_targets (attribute_named line.attribute) at line.number line.words effect is

-- ---- all lines

with_targets : (effect : LineEffect) (book : RuleBook) → EffectTargets effect → AllTargeted book.rules → AllTargeted (with_effect effect book).rules
with_targets Nothing book one more = more
with_targets (Ruled rule) book one more = (one, more)
with_targets (Set assigned) book one more = more

rules_same : (a b : RuleBook) → reads a ≡ reads b → AllTargeted a.rules → AllTargeted b.rules
rules_same a b is h = let same : a ≡ b = cc in subst (λ (book : RuleBook). AllTargeted book.rules) same h

then_targets : (number : ℕ) (effect : Result LineEffect Why) (more : Result RuleBook RuleFault) (book : RuleBook) → ((one : LineEffect) → effect ≡ Ok one → EffectTargets one) → ((rest : RuleBook) → more ≡ Ok rest → AllTargeted rest.rules)
    → effect_then number effect more ≡ Ok book → AllTargeted book.rules
then_targets number (Err why) more book one rest is = absurd (cc)
then_targets number (Ok effect) (Err fault) book one rest is = absurd (cc)
then_targets number (Ok effect) (Ok more) book one rest is = rules_same (with_effect effect more) book is (with_targets effect more (one effect refl) (rest more refl))

book_targets : (at : ℕ) (lines : List Line) (book : RuleBook) → book_of (PlugGw at) lines ≡ Ok book → AllTargeted book.rules
book_targets at [] book is = rules_same (record { rules = []; settings = [] }) book is tt
book_targets at (line ∷ lines) book is =
    then_targets line.number (effect_of (PlugGw at) line) (book_of (PlugGw at) lines) book (line_targets at line) (book_targets at lines) is

closed_targets : (read : Result RuleBook RuleFault) (rules : RuleBook) → ((book : RuleBook) → read ≡ Ok book → AllTargeted book.rules) → closed [] read ≡ Ok rules → AllTargeted rules.rules
closed_targets (Err fault) rules all is = absurd (cc)
closed_targets (Ok book) rules all is = rules_same (record book { rules = book.rules ++ [] }) rules is (subst AllTargeted (sym (append-nil book.rules)) (all book refl))

rules_targets : (at : ℕ) (lines : List Line) (rules : RuleBook) → rules_of (PlugGw at) lines ≡ Ok rules → AllTargeted rules.rules
rules_targets at lines rules is =
    closed_targets (book_of (PlugGw at) (filter (is_of (keyword (PlugGw at))) lines)) rules (book_targets at (filter (is_of (keyword (PlugGw at))) lines)) is

-- ---- the line that permits

-- a line with this number permits
abbrev permits_at : ℕ → Rule → Bool
permits_at line rule = rule.permits && rule.line == line

either_true : (a b : Bool) → b ≡ true → (a || b) ≡ true
either_true true b e = refl
either_true false b e = e

-- the first that matches permits, and so a line with its number does
permits_here : (line : ℕ) (permits : Bool) (number : ℕ) → cond permits (Permit number) (Deny number) ≡ Permit line → (permits && number == line) ≡ true
permits_here line true number is = let same : number ≡ line = cc in eq-eqb number line same
permits_here line false number is = absurd (cc)

permits_by : (line : ℕ) (rule : Rule) (matches any : Bool) (more : Option Rule) → (decided_by more ≡ Permit line → any ≡ true) → decided_by (cond matches (Some rule) more) ≡ Permit line → (permits_at line rule || any) ≡ true
permits_by line rule true any more later is = let here = permits_here line rule.permits rule.line is in rw here refl
permits_by line rule false any more later is = either_true (permits_at line rule) any (later is)

permits_one : (peer : Peer) (line : ℕ) (rules : List Rule) → decided_by (find (rule_matches peer) rules) ≡ Permit line → list_any (permits_at line) rules ≡ true
permits_one peer line [] is = absurd (cc)
permits_one peer line (rule ∷ rules) is = permits_by line rule (rule_matches peer rule) (list_any (permits_at line) rules) (find (rule_matches peer) rules) (permits_one peer line rules) is

-- and that has a destination
permits_so : (permits same : Bool) → (permits && same) ≡ true → permits ≡ true
permits_so true same is = refl
permits_so false same is = absurd (cc)

targeted_by : (line : ℕ) (rule : Rule) (found any : Bool) (more : Option Rule) → permits_at line rule ≡ found → IsTargeted rule → (any ≡ true → IsSome (target_in (option_map (λ (r : Rule). r.options) more))) → (found || any) ≡ true
    → IsSome (target_in (option_map (λ (r : Rule). r.options) (cond found (Some rule) more)))
targeted_by line rule true any more is one later h = one (permits_so rule.permits (rule.line == line) is)
targeted_by line rule false any more is one later h = later h

one_targeted : (line : ℕ) (rules : List Rule) → AllTargeted rules → list_any (permits_at line) rules ≡ true → IsSome (target_in (option_map (λ (rule : Rule). rule.options) (find (permits_at line) rules)))
one_targeted line [] all any = absurd (cc)
one_targeted line (rule ∷ rules) all any = targeted_by line rule (permits_at line rule) (list_any (permits_at line) rules) (find (permits_at line) rules) refl all.0 (one_targeted line rules all.1) any

plug_targeted : (at line : ℕ) (lines : List Line) (rules : RuleBook) (peer : Peer) → rules_of (PlugGw at) lines ≡ Ok rules → verdict_of rules peer ≡ Permit line → IsSome (target_of rules line)
unfolding verdict_of
plug_targeted at line lines rules peer read is = one_targeted line rules.rules (rules_targets at lines rules read) (permits_one peer line rules.rules is)

target_by : (at : ℕ) (lines : List Line) (rules : RuleBook) (peer : Peer) → rules_of (PlugGw at) lines ≡ Ok rules → (verdict : Verdict) → verdict_of rules peer ≡ verdict → OptionsFor verdict (PlugGw at) rules
target_by at lines rules peer read (Permit line) is = plug_targeted at line lines rules peer read is
target_by at lines rules peer read (Deny line) is = tt

-- a line of `tn-gw` or `ftp-gw` that permits is one of the rules
found_by : (rule : Rule) (found any : Bool) (more : Option Rule) → (any ≡ true → IsSome (option_map (λ (r : Rule). r.options) more)) → (found || any) ≡ true → IsSome (option_map (λ (r : Rule). r.options) (cond found (Some rule) more))
found_by rule true any more later is = refl
found_by rule false any more later is = later is

one_found : (line : ℕ) (rules : List Rule) → list_any (permits_at line) rules ≡ true → IsSome (option_map (λ (rule : Rule). rule.options) (find (permits_at line) rules))
one_found line [] any = absurd (cc)
one_found line (rule ∷ rules) any = found_by rule (permits_at line rule) (list_any (permits_at line) rules) (find (permits_at line) rules) (one_found line rules) any

permit_found : (line : ℕ) (rules : RuleBook) (peer : Peer) → verdict_of rules peer ≡ Permit line → IsSome (options_at rules line)
unfolding verdict_of
permit_found line rules peer is = one_found line rules.rules (permits_one peer line rules.rules is)

options_by : (rules : RuleBook) (peer : Peer) (verdict : Verdict) → verdict_of rules peer ≡ verdict → OptionsFor verdict TnGw rules
options_by rules peer (Permit line) is = permit_found line rules peer is
options_by rules peer (Deny line) is = tt

ftp_options : (rules : RuleBook) (peer : Peer) (verdict : Verdict) → verdict_of rules peer ≡ verdict → OptionsFor verdict FtpGw rules
ftp_options rules peer (Permit line) is = permit_found line rules peer is
ftp_options rules peer (Deny line) is = tt

-- `authsrv` needs none
none_needed : (verdict : Verdict) (rules : RuleBook) → OptionsFor verdict Authsrv rules
none_needed (Permit line) rules = tt
none_needed (Deny line) rules = tt

-- nor does `smap`
unlimited : (verdict : Verdict) (rules : RuleBook) → OptionsFor verdict Smap rules
unlimited (Permit line) rules = tt
unlimited (Deny line) rules = tt

-- so it is for whom the rules of a service permit
pub served_options : (service : Service) (rules : RuleBook) (peer : Peer) → IsServed service rules → OptionsFor (verdict_of rules peer) service rules
served_options Authsrv rules peer served = none_needed (verdict_of rules peer) rules
served_options TnGw rules peer served = options_by rules peer (verdict_of rules peer) refl
served_options (PlugGw at) rules peer served = target_by at served.lines rules peer served.read (verdict_of rules peer) refl
served_options (Netacl label) rules peer served = absurd served
served_options FtpGw rules peer served = ftp_options rules peer (verdict_of rules peer) refl
served_options Smap rules peer served = unlimited (verdict_of rules peer) rules
