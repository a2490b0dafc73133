-- Whether there is a target among options, one option further.
use Rattle.std.proofs.Common.{◌≡◌, ℕ, ◌+◌, ◌<◌, ◌≤◌, Bool, true, false, ◌||◌, List, length, drop, get_or, refl, ◌∙◌, ap, arith}
use Rattle.std.specs.Prelude.{is_some, Option, Some, None, Result, Ok, Err}
use Rattle.std.specs.Option.{option_or}
use Rattle.std.specs.Result.{result_err}
use Rattle.std.proofs.lemmas.List.{drop_all, drop-drop}
use Rattle.host_pattern.specs.Pattern.{Written}
use Rattle.host_pattern.specs.declared.word.Word.{Word}
use Rattle.gate_rules.specs.declared.options_builder.OptionsBuilder.{OptionsBuilder}
use Rattle.gate_rules.specs.declared.fault.Why.{Why}
use Rattle.gate_rules.specs.declared.parsed_option.ParsedOption.{ParsedOption}
use Rattle.gate_rules.specs.declared.parsed_option.ParsedOption.TheVariants as is
use Rattle.gate_rules.specs.declared.service.Service.{Service}
use Rattle.gate_rules.specs.Faults.{is_target, target_among}
use Rattle.gate_rules.specs.Lists.{mapped}
use Rattle.gate_rules.specs.Options.{builder_of, built, first, option_then, options_after, option_at, target_by, width_at}
use Rattle.gate_rules.proofs.OptionsBuilderLemmas.{after_drop, begins, here}

pub no_list_fault : (list : Result (List Written) Why) → None ≡ result_err list → Ok false ≡ mapped is_target (mapped is.Dest list)
no_list_fault (Ok patterns) e = refl
no_list_fault (Err why) e = absurd (cc)

pub list_fault : (list : Result (List Written) Why) (why : Why) → Some why ≡ result_err list → Err why ≡ mapped is_target (mapped is.Dest list)
list_fault (Ok patterns) why e = absurd (cc)
list_fault (Err other) why e = cc

-- whether there is a target among some options, or among others
abbrev pub told_from : Bool → Result (List ParsedOption) Why → Result Bool Why
told_from has options = mapped (λ more. has || is_some (first target_by more)) options

or_same : {X : Type 0} (has : Bool) (one more : Option X) → ((has || is_some one) || is_some more) ≡ (has || is_some (option_or one more))
or_same true one more = refl
or_same false None None = refl
or_same false None (Some x) = refl
or_same false (Some x) more = refl

or_false : (b : Bool) → (b || false) ≡ b
or_false true = refl
or_false false = refl

told_more : (has : Bool) (option : ParsedOption) (options : Result (List ParsedOption) Why) → told_from (has || is_target option) options ≡ told_from has (option_then (Ok option) options)
told_more has option (Ok more) = ap Ok (or_same has (target_by option) (first target_by more))
told_more has option (Err why) = refl

told_all : (options : Result (List ParsedOption) Why) → told_from false options ≡ mapped (λ (b : OptionsBuilder). is_some b.target) (mapped builder_of options)
told_all (Ok options) = refl
told_all (Err why) = refl

-- at the beginning
pub told_start : (service : Service) (words : List Word) → told_from false (options_after service 0 words) ≡ target_among service words
unfolding target_among built
told_start service words = told_all (options_after service 0 words)

-- one option further
pub told_next : (service : Service) (words : List Word) (at : ℕ) (has target : Bool) (word : Word)
    → at < length words → word ≡ get_or words at word → Ok target ≡ mapped is_target (option_at service word (drop (at + 1) words))
    → told_from (has || target) (options_after service 0 (drop (at + (1 + width_at service word (drop (at + 1) words))) words)) ≡ told_from has (options_after service 0 (drop at words))
told_next service words at has target word lt e read = by (option_at service word (drop (at + 1) words)) read now
  where
    later : options_after service (width_at service word (drop (at + 1) words)) (drop (at + 1) words) ≡ options_after service 0 (drop (at + (1 + width_at service word (drop (at + 1) words))) words)
    later =
        let width = width_at service word (drop (at + 1) words) in
        after_drop service width (drop (at + 1) words) ∙ ap (options_after service 0) (drop-drop width (at + 1) words ∙ ap (λ n. drop n words) (omega arith))

    now : options_after service 0 (drop at words) ≡ option_then (option_at service word (drop (at + 1) words)) (options_after service 0 (drop (at + (1 + width_at service word (drop (at + 1) words))) words))
    now = ap (options_after service 0) (here words at word lt e) ∙ begins service word (drop (at + 1) words) ∙ ap (option_then (option_at service word (drop (at + 1) words))) later

    by : (r : Result ParsedOption Why) → Ok target ≡ mapped is_target r
        → options_after service 0 (drop at words) ≡ option_then r (options_after service 0 (drop (at + (1 + width_at service word (drop (at + 1) words))) words))
        → told_from (has || target) (options_after service 0 (drop (at + (1 + width_at service word (drop (at + 1) words))) words)) ≡ told_from has (options_after service 0 (drop at words))
    by (Ok option) read now =
        let same : target ≡ is_target option = cc in
        rw (same, now) (told_more has option (options_after service 0 (drop (at + (1 + width_at service word (drop (at + 1) words))) words)))
    by (Err why) read now = absurd (cc)

-- an option that can't be read
pub told_fault : (service : Service) (words : List Word) (at : ℕ) (has : Bool) (word : Word) (why : Why)
    → at < length words → word ≡ get_or words at word → Err why ≡ mapped is_target (option_at service word (drop (at + 1) words))
    → Err why ≡ told_from has (options_after service 0 (drop at words))
told_fault service words at has word why lt e read = by (option_at service word (drop (at + 1) words)) read now
  where
    now : options_after service 0 (drop at words) ≡ option_then (option_at service word (drop (at + 1) words)) (options_after service (width_at service word (drop (at + 1) words)) (drop (at + 1) words))
    now = ap (options_after service 0) (here words at word lt e) ∙ begins service word (drop (at + 1) words)

    by : (r : Result ParsedOption Why) → Err why ≡ mapped is_target r
        → options_after service 0 (drop at words) ≡ option_then r (options_after service (width_at service word (drop (at + 1) words)) (drop (at + 1) words))
        → Err why ≡ told_from has (options_after service 0 (drop at words))
    by (Ok option) read now = absurd (cc)
    by (Err other) read now = rw now (let same : why ≡ other = cc in ap Err same)

-- at the end
pub told_end : (service : Service) (words : List Word) (at : ℕ) (has : Bool) → length words ≤ at → told_from has (options_after service 0 (drop at words)) ≡ Ok has
unfolding options_after
told_end service words at has le = rw (drop_all at words le) (ap Ok (or_false has))
