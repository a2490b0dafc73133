-- Options one after the other, and what they say together.
use Rattle.std.proofs.Common.{◌≡◌, ℕ, zero, suc, ◌+◌, ◌<◌, ◌≤◌, Bool, true, false, ◌||◌, List, [], ◌∷◌, length, drop, get_or, refl, sym, ◌∙◌, ap, arith}
use Rattle.std.specs.Prelude.{Option, Some, None, Result, Ok, Err}
use Rattle.std.specs.Option.{option_or}
use Rattle.std.proofs.lemmas.List.{drop_more, drop_all, drop-drop}
use Rattle.host_pattern.specs.declared.word.Word.{Word}
use Rattle.gate_rules.specs.declared.options_builder.OptionsBuilder.{OptionsBuilder}
use Rattle.gate_rules.specs.declared.fault.Why.{Why}
use Rattle.gate_rules.specs.declared.parsed_option.ParsedOption.{ParsedOption}
use Rattle.gate_rules.specs.declared.parsed_option.ParsedOption.TheVariants as is
use Rattle.gate_rules.specs.declared.service.Service.{Service}
use Rattle.gate_rules.specs.Lists.{mapped}
use Rattle.gate_rules.specs.Options.{added, builder_of, built, option_then, options_after, option_at, width_at}

-- what some options say, and then others
abbrev pub merged : OptionsBuilder → OptionsBuilder → OptionsBuilder
merged some more = record {
  exec = option_or some.exec more.exec;
  dest = option_or some.dest more.dest;
  auth = option_or some.auth more.auth;
  authall = some.authall || more.authall;
  extnd = some.extnd || more.extnd;
  deny = option_or some.deny more.deny;
  log = option_or some.log more.log;
  target = option_or some.target more.target;
  port = option_or some.port more.port;
}

abbrev pub drafted_from : OptionsBuilder → Result (List ParsedOption) Why → Result OptionsBuilder Why
drafted_from builder options = mapped (λ more. merged builder (builder_of more)) options

or_some : {X : Type 0} (o : Option X) (x : X) (more : Option X) → option_or (option_or o (Some x)) more ≡ option_or o (Some x)
or_some None x more = refl
or_some (Some y) x more = refl

or_none : {X : Type 0} (o : Option X) → option_or o None ≡ o
or_none None = refl
or_none (Some x) = refl

or_true : (b more : Bool) → (true || more) ≡ (b || true)
or_true true more = refl
or_true false more = refl

or_false : (b : Bool) → (b || false) ≡ b
or_false true = refl
or_false false = refl

-- one option more comes before the others
merged_added : (builder : OptionsBuilder) (option : ParsedOption) (more : List ParsedOption) → merged (added builder option) (builder_of more) ≡ merged builder (builder_of (option ∷ more))
merged_added builder (is.Exec words) more = let e = or_some builder.exec words (builder_of more).exec in rw e refl
merged_added builder (is.Dest patterns) more = let e = or_some builder.dest patterns (builder_of more).dest in rw e refl
merged_added builder (is.Auth verbs) more = let e = or_some builder.auth verbs (builder_of more).auth in rw e refl
merged_added builder is.AuthAll more = let e = or_true builder.authall (builder_of more).authall in rw (← e) refl
merged_added builder is.Extnd more = let e = or_true builder.extnd (builder_of more).extnd in rw (← e) refl
merged_added builder (is.Deny verbs) more = let e = or_some builder.deny verbs (builder_of more).deny in rw e refl
merged_added builder (is.Log verbs) more = let e = or_some builder.log verbs (builder_of more).log in rw e refl
merged_added builder (is.PlugTo host) more = let e = or_some builder.target host (builder_of more).target in rw e refl
merged_added builder (is.Port port) more = let e = or_some builder.port port (builder_of more).port in rw e refl

merged_nothing : (builder : OptionsBuilder) → merged builder (builder_of []) ≡ builder
merged_nothing builder =
    let a = or_none builder.exec in
    let b = or_none builder.dest in
    let c = or_none builder.auth in
    let d = or_false builder.authall in
    let e = or_false builder.extnd in
    let f = or_none builder.deny in
    let g = or_none builder.log in
    let h = or_none builder.target in
    let i = or_none builder.port in
    rw (a, b, c, d, e, f, g, h, i) refl

from_added : (builder : OptionsBuilder) (option : ParsedOption) (more : Result (List ParsedOption) Why) → drafted_from (added builder option) more ≡ drafted_from builder (mapped (λ options. option ∷ options) more)
from_added builder option (Ok more) = ap Ok (merged_added builder option more)
from_added builder option (Err why) = refl

mapped_same : {X Y : Type 0} (f g : X → Y) → ((x : X) → f x ≡ g x) → (r : Result X Why) → mapped f r ≡ mapped g r
mapped_same f g same (Ok x) = ap Ok (same x)
mapped_same f g same (Err why) = refl

-- the options after some words
pub after_drop : (service : Service) (n : ℕ) (words : List Word) → options_after service n words ≡ options_after service 0 (drop n words)
unfolding options_after
after_drop service zero words = refl
after_drop service (suc n) [] = refl
after_drop service (suc n) (word ∷ words) = after_drop service n words

pub begins : (service : Service) (word : Word) (words : List Word) → options_after service 0 (word ∷ words) ≡ option_then (option_at service word words) (options_after service (width_at service word words) words)
unfolding options_after
begins service word words = refl

pub here : (words : List Word) (at : ℕ) (word : Word) → at < length words → word ≡ get_or words at word → drop at words ≡ word ∷ drop (at + 1) words
here words at word lt e = drop_more words at word lt ∙ ap (λ x. x ∷ drop (at + 1) words) (sym e)

-- at the beginning
pub from_start : (service : Service) (words : List Word) → drafted_from (builder_of []) (options_after service 0 words) ≡ built service words
unfolding built
from_start service words = mapped_same (λ more. merged (builder_of []) (builder_of more)) builder_of (λ more. refl) (options_after service 0 words)

-- one option further
pub from_next : (service : Service) (words : List Word) (at : ℕ) (builder : OptionsBuilder) (word : Word) (option : ParsedOption)
    → at < length words → word ≡ get_or words at word → option_at service word (drop (at + 1) words) ≡ Ok option
    → drafted_from (added builder option) (options_after service 0 (drop (at + (1 + width_at service word (drop (at + 1) words))) words)) ≡ drafted_from builder (options_after service 0 (drop at words))
from_next service words at builder word option lt e read =
    let rest : List Word = drop (at + 1) words in
    let width : ℕ = width_at service word rest in
    let place : drop width rest ≡ drop (at + (1 + width)) words = drop-drop width (at + 1) words ∙ ap (λ n. drop n words) (omega arith) in
    let later : options_after service width rest ≡ options_after service 0 (drop (at + (1 + width)) words) = after_drop service width rest ∙ ap (options_after service 0) place in
    let now : options_after service 0 (drop at words) ≡ mapped (λ options. option ∷ options) (options_after service width rest) =
    ap (options_after service 0) (here words at word lt e) ∙ begins service word rest ∙ ap (λ r. option_then r (options_after service width rest)) read in
    ap (drafted_from (added builder option)) (sym later) ∙ from_added builder option (options_after service width rest) ∙ ap (drafted_from builder) (sym now)

-- an option that can't be read
pub from_fault : (service : Service) (words : List Word) (at : ℕ) (builder : OptionsBuilder) (word : Word) (why : Why)
    → at < length words → word ≡ get_or words at word → option_at service word (drop (at + 1) words) ≡ Err why
    → drafted_from builder (options_after service 0 (drop at words)) ≡ Err why
from_fault service words at builder word why lt e read =
    let rest : List Word = drop (at + 1) words in
    let now : options_after service 0 (drop at words) ≡ Err why =
    ap (options_after service 0) (here words at word lt e) ∙ begins service word rest ∙ ap (λ r. option_then r (options_after service (width_at service word rest) rest)) read in
    ap (drafted_from builder) now

-- at the end
pub from_end : (service : Service) (words : List Word) (at : ℕ) (builder : OptionsBuilder) → length words ≤ at → drafted_from builder (options_after service 0 (drop at words)) ≡ Ok builder
unfolding options_after
from_end service words at builder le = rw (drop_all at words le) (ap Ok (merged_nothing builder))
