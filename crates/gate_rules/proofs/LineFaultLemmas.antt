-- What is wrong with a line, by what is wrong with its parts.
use Rattle.std.proofs.Common.{◌≡◌, ℕ, Bool, true, false, List, refl, sym, ap, ◌∙◌}
use Rattle.std.specs.Prelude.{◌==◌, is_ok, is_some, Option, Some, None, Result, Ok, Err}
use Rattle.std.specs.Option.{option_or}
use Rattle.std.specs.Result.{result_err}
use Rattle.fw_types.specs.declared.host.Host.{Host}
use Rattle.host_pattern.specs.Pattern.{Written}
use Rattle.host_pattern.specs.declared.word.Word.{Word}
use Rattle.gate_rules.specs.declared.fault.Why.{Why}
use Rattle.gate_rules.specs.declared.line_effect.LineEffect.TheVariants.{Nothing}
use Rattle.gate_rules.specs.declared.options.Options.{Options}
use Rattle.gate_rules.specs.declared.options_builder.OptionsBuilder.{OptionsBuilder}
use Rattle.gate_rules.specs.declared.service.Service.{Service}
use Rattle.gate_rules.specs.declared.setting.Setting.{Setting}
use Rattle.gate_rules.specs.Faults.{target_among, target_fault}
use Rattle.gate_rules.specs.Lists.{hosts_alone, hosts_in, mapped, options_in, patterns_of}
use Rattle.gate_rules.specs.Options.{built, finished, no_options, options_of}
use Rattle.gate_rules.specs.Reading.{deny_effect, plug_effect, plug_rule, ruled, setting_effect, where_ours, with_target}
use Rattle.gate_rules.specs.Service.{plug_port}
use Rattle.gate_rules.specs.Settings.{set_to}

pub mapped_fault : {X Y : Type 0} (f : X → Y) (r : Result X Why) → result_err (mapped f r) ≡ result_err r
mapped_fault f (Ok x) = refl
mapped_fault f (Err why) = refl

pub no_fault : {X : Type 0} (r : Result X Why) → None ≡ result_err r → is_ok r ≡ true
no_fault (Ok x) e = refl
no_fault (Err why) e = absurd (cc)

pub good_fault : {X : Type 0} (r : Result X Why) (x : X) → Ok x ≡ r → None ≡ result_err r
good_fault (Ok y) x e = refl
good_fault (Err why) x e = absurd (cc)

pub bad_fault : {X : Type 0} (r : Result X Why) (why : Why) → Err why ≡ r → Some why ≡ result_err r
bad_fault (Ok y) why e = absurd (cc)
bad_fault (Err other) why e = cc

pub ruled_fault : (number : ℕ) (permits : Bool) (hosts : Result (List Written) Why) (options : Result Options Why)
    → option_or (result_err hosts) (result_err options) ≡ result_err (ruled number permits hosts options)
ruled_fault number permits (Err why) options = refl
ruled_fault number permits (Ok hosts) (Err why) = refl
ruled_fault number permits (Ok hosts) (Ok options) = refl

or_none : {X : Type 0} (o : Option X) → option_or o None ≡ o
or_none None = refl
or_none (Some x) = refl

pub denied_fault : (number : ℕ) (words : List Word) → result_err (hosts_alone words) ≡ result_err (deny_effect number words)
denied_fault number words = sym (or_none (result_err (hosts_alone words))) ∙ ruled_fault number false (hosts_alone words) (Ok no_options)

among_fault : (r : Result OptionsBuilder Why) → result_err (mapped (λ (b : OptionsBuilder). is_some b.target) r) ≡ result_err r
among_fault r = mapped_fault (λ (b : OptionsBuilder). is_some b.target) r

pub options_fault : (service : Service) (port : ℕ) (words : List Word) → result_err (target_among service words) ≡ result_err (options_of service port words)
unfolding target_among options_of
options_fault service port words = among_fault (built service words) ∙ sym (mapped_fault (finished port) (built service words))

pub options_good : (service : Service) (port : ℕ) (words : List Word) (has : Bool) → Ok has ≡ target_among service words → None ≡ result_err (options_of service port words)
options_good service port words has e = good_fault (target_among service words) has e ∙ options_fault service port words

pub options_bad : (service : Service) (port : ℕ) (words : List Word) (why : Why) → Err why ≡ target_among service words → Some why ≡ result_err (options_of service port words)
options_bad service port words why e = bad_fault (target_among service words) why e ∙ options_fault service port words

missed : (port : ℕ) (r : Result OptionsBuilder Why) → target_fault (mapped (λ (b : OptionsBuilder). is_some b.target) r) ≡ result_err (with_target (mapped (finished port) r))
missed port (Err why) = refl
missed port (Ok builder) = by builder.target refl
  where
    by : (target : Option Host) → builder.target ≡ target → target_fault (Ok (is_some builder.target)) ≡ result_err (with_target (Ok (finished port builder)))
    by None e = rw e refl
    by (Some host) e = rw e refl

target_missed : (service : Service) (port : ℕ) (words : List Word) → target_fault (target_among service words) ≡ result_err (with_target (options_of service port words))
unfolding target_among options_of
target_missed service port words = missed port (built service words)

pub plug_fault : (service : Service) (number port : ℕ) (words : List Word)
    → option_or (result_err (patterns_of (hosts_in words))) (target_fault (target_among service (options_in words))) ≡ result_err (plug_effect service number (Some port) words)
plug_fault service number port words =
    ap (option_or (result_err (patterns_of (hosts_in words)))) (target_missed service port (options_in words))
    ∙ ruled_fault number true (patterns_of (hosts_in words)) (with_target (options_of service port (options_in words)))
    ∙ sym (mapped_fault (where_ours (port == plug_port service)) (plug_rule service number port words))

pub setting_fault : (which : Setting) (number : ℕ) (words : List Word) → result_err (set_to which words) ≡ result_err (setting_effect which number words)
setting_fault which number words = sym (mapped_fault _ (set_to which words))

pub operation_good : (hosts : Result (List Written) Why) → None ≡ result_err hosts → Ok Nothing ≡ mapped (λ (_ : List Written). Nothing) hosts
operation_good (Ok hosts) e = refl
operation_good (Err why) e = absurd (cc)

pub operation_bad : (hosts : Result (List Written) Why) (why : Why) → Some why ≡ result_err hosts → Err why ≡ mapped (λ (_ : List Written). Nothing) hosts
operation_bad (Ok hosts) why e = absurd (cc)
operation_bad (Err other) why e = cc
