-- What a word of a line shows stays, whatever words follow.
use Rattle.std.proofs.Common.{◌≡◌, ℕ, zero, suc, ◌+◌, Bool, true, false, List, [], ◌∷◌, ◌++◌, length, map, take, refl, sym, ap, ◌∙◌, arith, inl, inr}
use Rattle.std.specs.Prelude.{◌⊎◌, ◌==◌, cond, if◌then◌else◌, is_none, Option, Some, None, Result, Ok, Err}
use Rattle.std.specs.List.{list_any, position_or_len}
use Rattle.std.proofs.lemmas.List.{drop_all}
use Rattle.fw_types.specs.Port.{port_of}
use Rattle.host_pattern.specs.Pattern.{Written}
use Rattle.host_pattern.specs.declared.word.Word.{Word}
use Rattle.netperm_table.specs.declared.line.Line.{Line}
use Rattle.gate_rules.specs.declared.attribute.Attribute.{Attribute}
use Rattle.gate_rules.specs.declared.attribute.Attribute.TheVariants as attribute
use Rattle.gate_rules.specs.declared.fault.Why.{Why}
use Rattle.gate_rules.specs.declared.fault.Why.TheVariants.{MissingValue, OpenBrace, BadNumber, BadWord}
use Rattle.gate_rules.specs.declared.line_effect.LineEffect.TheVariants.{Nothing}
use Rattle.gate_rules.specs.declared.options.Options.{Options}
use Rattle.gate_rules.specs.declared.option_kind.OptionKind.{OptionKind}
use Rattle.gate_rules.specs.declared.option_kind.OptionKind.TheVariants as kind
use Rattle.gate_rules.specs.declared.parsed_option.ParsedOption.{ParsedOption}
use Rattle.gate_rules.specs.declared.parsed_option.ParsedOption.TheVariants as is
use Rattle.gate_rules.specs.declared.service.Service.{Service}
use Rattle.gate_rules.specs.declared.setting.Setting.{Setting}
use Rattle.gate_rules.specs.Attribute.{attribute_of}
use Rattle.gate_rules.specs.Lists.{and_then, hosts_alone, hosts_in, is_close, is_open, is_option, list_width, mapped, members_of, options_in, patterns_of, verbs_of}
use Rattle.gate_rules.specs.Operation.{is_gateway_or_star, is_holder, is_name_or_star, operation_at, operation_hosts, operation_of, read_operation}
use Rattle.gate_rules.specs.Options.{builder_of, built, finished, no_options, option_at, option_kind_of, option_of_kind, option_then, options_after, options_of, width_at, width_by}
use Rattle.gate_rules.specs.Reading.{deny_effect, effect_as, effect_of, permit_effect, plug_effect, plug_rule, port_effect, ruled, where_ours, with_target}
use Rattle.gate_rules.specs.Service.{plug_port}
use Rattle.gate_rules.specs.Settings.{set_to, value_alone, value_of}
use Rattle.gate_rules.specs.Why.{is_shown}
use Rattle.gate_rules.proofs.OptionsBuilderLemmas.{after_drop}
use Rattle.gate_rules.proofs.HoursLemmas.{hosts_and_hours_stay}
use Rattle.gate_rules.proofs.StaysLemmas.{Stays, good_stays, unshown_stays, same_stays, mapped_stays, patterns_stay, NoOption, SomeOption, further, split, hosts_stay}

-- lists of options

record SameList (words more : List Word) : Type 0 where
  members : members_of (words ++ more) ≡ members_of words
  width : list_width (words ++ more) ≡ list_width words

record Unshown {X : Type 0} (read : Result X Why) : Type 0 where
  why : Why
  is : read ≡ Err why
  none : is_shown why ≡ false

any_more : (words more : List Word) → list_any is_close words ≡ true
    → (list_any is_close (words ++ more) ≡ true) × (position_or_len is_close (words ++ more) ≡ position_or_len is_close words) × (take (position_or_len is_close (words ++ more)) (words ++ more) ≡ take (position_or_len is_close words) words)
any_more [] more h = absurd (cc)
any_more (w ∷ words) more h = by (is_close w) refl (any_more words more)
  where
    by : (v : Bool) → is_close w ≡ v
        → (list_any is_close words ≡ true → (list_any is_close (words ++ more) ≡ true) × (position_or_len is_close (words ++ more) ≡ position_or_len is_close words) × (take (position_or_len is_close (words ++ more)) (words ++ more) ≡ take (position_or_len is_close words) words))
        → (list_any is_close (w ∷ (words ++ more)) ≡ true) × (position_or_len is_close (w ∷ (words ++ more)) ≡ position_or_len is_close (w ∷ words)) × (take (position_or_len is_close (w ∷ (words ++ more))) (w ∷ (words ++ more)) ≡ take (position_or_len is_close (w ∷ words)) (w ∷ words))
    by true e rest = (rw e refl, rw e refl, rw e refl)
    by false e rest =
        let p = rest (rw e at h) in
        let one : list_any is_close (words ++ more) ≡ true = p.0 in
        let place : position_or_len is_close (words ++ more) ≡ position_or_len is_close words = p.1 in
        let front : take (position_or_len is_close (words ++ more)) (words ++ more) ≡ take (position_or_len is_close words) words = p.2 in
        (rw e one, rw e (ap (λ n. 1 + n) place), rw (e, further (position_or_len is_close (words ++ more)), further (position_or_len is_close words)) (ap (λ ws. w ∷ ws) front))

list_more : (words more : List Word) → SameList words more ⊎ Unshown (members_of words)
list_more [] more = inr record { why = MissingValue; is = refl; none = refl }
list_more (w ∷ words) more = by (is_open w) refl (list_any is_close words) refl
  where
    close : (v : Bool) → is_close w ≡ v → is_open w ≡ false → SameList (w ∷ words) more
    close true e shut = record { members = rw (shut, e) refl; width = rw shut refl }
    close false e shut = record { members = rw (shut, e) refl; width = rw shut refl }

    by : (v : Bool) → is_open w ≡ v → (closes : Bool) → list_any is_close words ≡ closes → SameList (w ∷ words) more ⊎ Unshown (members_of (w ∷ words))
    by false e closes h = inl (close (is_close w) refl e)
    by true e false h = inr record { why = OpenBrace; is = rw (e, h) refl; none = refl }
    by true e true h =
        let p = any_more words more h in
        inl record { members = rw (e, p.0, h) (ap Ok p.2); width = rw e (ap (λ n. n + 2) p.1) }

-- an option, and what more words make of it
data OptionMore (first second : Result ParsedOption Why) (width longer all : ℕ) : Type 0 where
  Same : second ≡ first → longer ≡ width → OptionMore first second width longer all
  Fault : Stays first second → (why : Why) → first ≡ Err why → OptionMore first second width longer all
  Whole : (option : ParsedOption) → first ≡ Ok option → width ≡ all → OptionMore first second width longer all

after_unshown : {X Y : Type 0} (next : X → Result Y Why) (read : Result X Why) → Unshown read → Unshown (and_then next read)
after_unshown next read u = record { why = u.why; is = ap (and_then next) u.is; none = u.none }

mapped_unshown : {X Y : Type 0} (f : X → Y) (read : Result X Why) → Unshown read → Unshown (mapped f read)
mapped_unshown f read u = record { why = u.why; is = ap (mapped f) u.is; none = u.none }

unshown : (first second : Result ParsedOption Why) (width longer all : ℕ) → Unshown first → OptionMore first second width longer all
unshown first second width longer all u = Fault (rw u.is (unshown_stays _ u.why second u.none)) u.why u.is

list_option : {X : Type 0} (make : X → ParsedOption) (next : List Word → Result X Why) (words more : List Word)
    → OptionMore (mapped make (and_then next (members_of words))) (mapped make (and_then next (members_of (words ++ more)))) (list_width words) (list_width (words ++ more)) (length words)
list_option make next words more = by (list_more words more)
  where
    by : SameList words more ⊎ Unshown (members_of words) → OptionMore (mapped make (and_then next (members_of words))) (mapped make (and_then next (members_of (words ++ more)))) (list_width words) (list_width (words ++ more)) (length words)
    by (inl same) = Same (ap (λ members. mapped make (and_then next members)) same.members) same.width
    by (inr u) = unshown _ _ _ _ _ (mapped_unshown make (and_then next (members_of words)) (after_unshown next (members_of words) u))

kind_more : (kind : OptionKind) (words more : List Word) → OptionMore (option_of_kind kind words) (option_of_kind kind (words ++ more)) (width_by kind words) (width_by kind (words ++ more)) (length words)
kind_more kind.Exec [] more = unshown _ _ _ _ _ record { why = MissingValue; is = refl; none = refl }
kind_more kind.Exec (w ∷ words) more = Whole (is.Exec (map (λ (one : Word). one.text) (w ∷ words))) refl refl
kind_more kind.Dest words more = list_option is.Dest patterns_of words more
kind_more kind.Auth words more = Same refl refl
kind_more kind.AuthVerbs words more = list_option is.Auth verbs_of words more
kind_more kind.AuthAll words more = Same refl refl
kind_more kind.Extnd words more = Same refl refl
kind_more kind.Deny words more = list_option is.Deny verbs_of words more
kind_more kind.Log words more = list_option is.Log verbs_of words more
kind_more kind.PlugTo [] more = unshown _ _ _ _ _ record { why = MissingValue; is = refl; none = refl }
kind_more kind.PlugTo (w ∷ words) more = Same refl refl
kind_more kind.Port [] more = unshown _ _ _ _ _ record { why = MissingValue; is = refl; none = refl }
kind_more kind.Port (w ∷ words) more = Same refl refl

option_more : (service : Service) (w : Word) (words more : List Word) → OptionMore (option_at service w words) (option_at service w (words ++ more)) (width_at service w words) (width_at service w (words ++ more)) (length words)
unfolding option_at width_at
option_more service w words more = by (is_option w) refl (option_kind_of service w.text) refl
  where
    by : (v : Bool) → is_option w ≡ v → (known : Option OptionKind) → option_kind_of service w.text ≡ known → OptionMore (option_at service w words) (option_at service w (words ++ more)) (width_at service w words) (width_at service w (words ++ more)) (length words)
    by false e known h = rw e (Fault (same_stays _ _ BadWord) BadWord refl)
    by true e None h = rw (e, h) (Same refl refl)
    by true e (Some kind) h = rw (e, h) (kind_more kind words more)

after_all : (service : Service) (n : ℕ) (words : List Word) → n ≡ length words → options_after service n words ≡ Ok []
unfolding options_after
after_all service n words e = after_drop service n words ∙ ap (options_after service 0) (drop_all n words (omega arith))

then_stays : (one : Result ParsedOption Why) (rest longer : Result (List ParsedOption) Why) → Stays rest longer → Stays (option_then one rest) (option_then one longer)
then_stays (Err why) rest longer stays = same_stays _ _ why
then_stays (Ok option) rest longer stays = mapped_stays (λ options. option ∷ options) (λ options. option ∷ options) rest longer stays

fault_stays : (first second : Result ParsedOption Why) (rest longer : Result (List ParsedOption) Why) (why : Why) → first ≡ Err why → Stays first second → Stays (option_then first rest) (option_then second longer)
unfolding Stays
fault_stays first second rest longer why is stays cause shown e =
    let same : why ≡ cause = (let e = rw is at e in (cc)) in
    let here : second ≡ Err cause = stays cause shown (is ∙ ap Err same) in
    rw here refl

options_stay : (service : Service) (n : ℕ) (words more : List Word) → Stays (options_after service n words) (options_after service n (words ++ more))
unfolding options_after
options_stay service n [] more = good_stays [] (options_after service n more)
options_stay service (suc n) (w ∷ words) more = options_stay service n words more
options_stay service zero (w ∷ words) more = by (option_more service w words more) (options_stay service (width_at service w words) words more)
  where
    by : OptionMore (option_at service w words) (option_at service w (words ++ more)) (width_at service w words) (width_at service w (words ++ more)) (length words)
        → Stays (options_after service (width_at service w words) words) (options_after service (width_at service w words) (words ++ more))
        → Stays (option_then (option_at service w words) (options_after service (width_at service w words) words)) (option_then (option_at service w (words ++ more)) (options_after service (width_at service w (words ++ more)) (words ++ more)))
    by (Same same width) rest = rw (same, width) (then_stays (option_at service w words) (options_after service (width_at service w words) words) (options_after service (width_at service w words) (words ++ more)) rest)
    by (Fault stays why is) rest = fault_stays (option_at service w words) (option_at service w (words ++ more)) (options_after service (width_at service w words) words) (options_after service (width_at service w (words ++ more)) (words ++ more)) why is stays
    by (Whole option is width) rest =
        let none = after_all service (width_at service w words) words width in
        rw (is, none) (good_stays (option ∷ []) (option_then (option_at service w (words ++ more)) (options_after service (width_at service w (words ++ more)) (words ++ more))))

said_stays : (service : Service) (port : ℕ) (words more : List Word) → Stays (options_of service port words) (options_of service port (words ++ more))
unfolding options_of built
said_stays service port words more =
    mapped_stays (finished port) (finished port) (built service words) (built service (words ++ more)) (mapped_stays builder_of builder_of (options_after service 0 words) (options_after service 0 (words ++ more)) (options_stay service 0 words more))

-- lines that permit or deny

ruled_hosts : (number : ℕ) (permits : Bool) (hosts longer : Result (List Written) Why) (options later : Result Options Why) → Stays hosts longer
    → ((why : Why) → is_shown why ≡ true → options ≡ Err why → ⊥) → Stays (ruled number permits hosts options) (ruled number permits longer later)
unfolding Stays
ruled_hosts number permits (Ok hosts) longer (Ok options) later stays none why shown e = absurd (cc)
ruled_hosts number permits (Ok hosts) longer (Err other) later stays none why shown e = absurd (none why shown (let same : other ≡ why = cc in ap Err same))
ruled_hosts number permits (Err other) longer options later stays none why shown e =
    let is : longer ≡ Err why = stays why shown (let same : other ≡ why = cc in ap Err same) in
    rw is refl

ruled_options : (number : ℕ) (permits : Bool) (hosts : Result (List Written) Why) (options longer : Result Options Why) → Stays options longer → Stays (ruled number permits hosts options) (ruled number permits hosts longer)
unfolding Stays
ruled_options number permits (Err other) options longer stays why shown e = e
ruled_options number permits (Ok hosts) (Ok options) longer stays why shown e = absurd (cc)
ruled_options number permits (Ok hosts) (Err other) longer stays why shown e =
    let is : longer ≡ Err why = stays why shown (let same : other ≡ why = cc in ap Err same) in
    rw is refl

-- by how the options are taken, where no option is no fault of a word
ruled_stays : (number : ℕ) (permits : Bool) (taken : List Word → Result Options Why) (words more : List Word)
    → ((options longer : List Word) → Stays (taken options) (taken (options ++ longer))) → ((why : Why) → is_shown why ≡ true → taken [] ≡ Err why → ⊥)
    → Stays (ruled number permits (patterns_of (hosts_in words)) (taken (options_in words))) (ruled number permits (patterns_of (hosts_in (words ++ more))) (taken (options_in (words ++ more))))
ruled_stays number permits taken words more stays none = by (split words more)
  where
    by : NoOption words more ⊎ SomeOption words more → Stays (ruled number permits (patterns_of (hosts_in words)) (taken (options_in words))) (ruled number permits (patterns_of (hosts_in (words ++ more))) (taken (options_in (words ++ more))))
    by (inl rest) = rw (rest.hosts, rest.options, rest.longer) (ruled_hosts number permits (patterns_of words) (patterns_of (words ++ hosts_in more)) (taken []) (taken (options_in (words ++ more))) (patterns_stay words (hosts_in more)) none)
    by (inr rest) = rw (rest.hosts, rest.options, rest.longer) (ruled_options number permits (patterns_of (hosts_in words)) (taken (rest.first ∷ rest.others)) (taken (rest.first ∷ (rest.others ++ more))) (stays (rest.first ∷ rest.others) more))

no_option_good : (service : Service) (port : ℕ) (why : Why) → is_shown why ≡ true → options_of service port [] ≡ Err why → ⊥
unfolding options_of built options_after
no_option_good service port why shown e = absurd (cc)

permit_stays : (service : Service) (number : ℕ) (words more : List Word) → Stays (permit_effect service number words) (permit_effect service number (words ++ more))
permit_stays service number words more = ruled_stays number true (options_of service 0) words more (said_stays service 0) (no_option_good service 0)

no_options_good : (why : Why) → is_shown why ≡ true → Ok no_options ≡ Err why → ⊥
no_options_good why shown e = absurd (cc)

deny_stays : (number : ℕ) (words more : List Word) → Stays (deny_effect number words) (deny_effect number (words ++ more))
deny_stays number words more = ruled_hosts number false (hosts_alone words) (hosts_alone (words ++ more)) (Ok no_options) (Ok no_options) (hosts_stay words more) no_options_good

target_err : (other : Why) (longer : Result Options Why) → Stays {X = Options} (Err other) longer → Stays {X = Options} (Err other) (with_target longer)
unfolding Stays
target_err other longer stays why shown e = let is : longer ≡ Err why = stays why shown e in rw is refl

target_stays : (options longer : Result Options Why) → Stays options longer → Stays (with_target options) (with_target longer)
target_stays (Ok options) longer stays = by (is_none options.plug_to)
  where
    by : (v : Bool) → Stays {X = Options} (cond v (Err MissingValue) (Ok options)) (with_target longer)
    by true = unshown_stays _ MissingValue (with_target longer) refl
    by false = good_stays options (with_target longer)
target_stays (Err other) longer stays = target_err other longer stays

no_target_good : (service : Service) (port : ℕ) (why : Why) → is_shown why ≡ true → with_target (options_of service port []) ≡ Err why → ⊥
unfolding options_of built options_after
no_target_good service port why shown e = let same : MissingValue ≡ why = cc in let shown = rw (sym same) at shown in absurd (cc)

plug_stays : (service : Service) (number : ℕ) (port : Option ℕ) (words more : List Word) → Stays (plug_effect service number port words) (plug_effect service number port (words ++ more))
plug_stays service number None words more = same_stays _ _ BadNumber
plug_stays service number (Some port) words more =
    mapped_stays (where_ours (port == plug_port service)) (where_ours (port == plug_port service)) (plug_rule service number port words) (plug_rule service number port (words ++ more))
    (ruled_stays number true (λ options. with_target (options_of service port options)) words more (λ options longer. target_stays (options_of service port options) (options_of service port (options ++ longer)) (said_stays service port options longer)) (no_target_good service port))

port_stays : (service : Service) (number : ℕ) (words more : List Word) → Stays (port_effect service number words) (port_effect service number (words ++ more))
port_stays service number [] more = unshown_stays _ MissingValue (port_effect service number more) refl
port_stays service number (w ∷ words) more = plug_stays service number (port_of w.text) words more

-- settings and operations

value_stays : (value : Result ℕ Why) (words more : List Word) → Stays (value_alone value words) (value_alone value (words ++ more))
value_stays (Err why) words more = same_stays _ _ why
value_stays (Ok value) [] more = good_stays value (value_alone (Ok value) more)
value_stays (Ok value) (w ∷ words) more = same_stays _ _ BadWord

set_stays : (which : Setting) (words more : List Word) → Stays (set_to which words) (set_to which (words ++ more))
set_stays which [] more = unshown_stays _ MissingValue (set_to which more) refl
set_stays which (w ∷ words) more = value_stays (value_of which w.text) words more

tested_stays : (passes : Bool) (rest longer : Result (List Written) Why) → Stays rest longer → Stays (if passes then rest else Err BadWord) (if passes then longer else Err BadWord)
tested_stays true rest longer stays = stays
tested_stays false rest longer stays = same_stays _ _ BadWord

operation_hosts_stay : (words more : List Word) → Stays (operation_hosts words) (operation_hosts (words ++ more))
operation_hosts_stay [] more = unshown_stays _ MissingValue (operation_hosts more) refl
operation_hosts_stay (w ∷ words) more = hosts_and_hours_stay (w ∷ words) more

operation_at_stays : (words more : List Word) → Stays (operation_at words) (operation_at (words ++ more))
operation_at_stays [] more = unshown_stays _ MissingValue (operation_at more) refl
operation_at_stays (w ∷ words) more = tested_stays (is_gateway_or_star w.text) (operation_hosts words) (operation_hosts (words ++ more)) (operation_hosts_stay words more)

operation_of_stays : (words more : List Word) → Stays (operation_of words) (operation_of (words ++ more))
operation_of_stays [] more = unshown_stays _ MissingValue (operation_of more) refl
operation_of_stays (w ∷ words) more = tested_stays (is_name_or_star w.text) (operation_at words) (operation_at (words ++ more)) (operation_at_stays words more)

operation_stays : (words more : List Word) → Stays (read_operation words) (read_operation (words ++ more))
operation_stays [] more = unshown_stays _ MissingValue (read_operation more) refl
operation_stays (w ∷ words) more = tested_stays (is_holder w.text) (operation_of words) (operation_of (words ++ more)) (operation_of_stays words more)

-- lines

line_stays : (what : Attribute) (service : Service) (number : ℕ) (words more : List Word) → Stays (effect_as what service number words) (effect_as what service number (words ++ more))
line_stays attribute.Permit service number words more = permit_stays service number words more
line_stays attribute.Deny service number words more = deny_stays number words more
line_stays attribute.Port service number words more = port_stays service number words more
line_stays (attribute.Sets which) service number words more = mapped_stays _ _ (set_to which words) (set_to which (words ++ more)) (set_stays which words more)
line_stays attribute.Operation service number words more = mapped_stays _ _ (read_operation words) (read_operation (words ++ more)) (operation_stays words more)
line_stays attribute.Other service number words more = good_stays Nothing (Ok Nothing)

pub leftmost : (service : Service) (line : Line) (more : List Word) (why : Why) → is_shown why ≡ true → effect_of service line ≡ Err why → effect_of service (record line { words = line.words ++ more }) ≡ Err why
unfolding effect_of Stays
leftmost service line more why shown e = line_stays (attribute_of service line.attribute) service line.number line.words more why shown e
