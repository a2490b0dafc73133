-- Where the lines of the authentication server can be read, none about operations is lost.
use Rattle.std.proofs.Common.{◌≡◌, ℕ, Bool, true, false, ◌&&◌, ◌||◌, List, [], ◌∷◌, refl, sym, ◌∙◌, ap}
use Rattle.std.specs.Prelude.{cond, filter, map, is_ok, Option, Some, None, Result, Ok, Err, codes}
use Rattle.std.specs.List.{cons_option}
use Rattle.std.specs.Option.{option_map}
use Rattle.std.specs.Result.{result_ok}
use Rattle.std.specs.Str.{bytes_eq}
use Rattle.std.proofs.lemmas.Slice.Eq.{bytes_eq-Decides}
use Rattle.gate_rules.specs.Attribute.{attribute_of, is_operation}
use Rattle.gate_rules.specs.Hours.{hours_of_operation}
use Rattle.gate_rules.specs.Lists.{mapped}
use Rattle.gate_rules.specs.Operation.{is_holder, is_name_or_star, read_operation, operation_of}
use Rattle.gate_rules.specs.OperationHosts.{hosts_of_operation, is_about_operations}
use Rattle.gate_rules.specs.Reading.{RuleBook, book_of, closed, is_of, operation_effect, rules_of, effect_as, effect_of, effect_then}
use Rattle.gate_rules.specs.Service.{keyword}
use Rattle.gate_rules.specs.declared.attribute.Attribute.TheVariants.{Operation}
use Rattle.gate_rules.specs.declared.fault.RuleFault.{RuleFault}
use Rattle.gate_rules.specs.declared.hours.Hours.{Hours}
use Rattle.gate_rules.specs.declared.fault.Why.{Why}
use Rattle.gate_rules.specs.declared.fault.Why.TheVariants.{MissingValue, BadWord}
use Rattle.gate_rules.specs.declared.line_effect.LineEffect.{LineEffect}
use Rattle.gate_rules.specs.declared.line_effect.LineEffect.TheVariants.{Nothing}
use Rattle.gate_rules.specs.declared.service.Service.TheVariants.{Authsrv}
use Rattle.host_pattern.specs.Pattern.{Written}
use Rattle.host_pattern.specs.declared.word.Word.{Word}
use Rattle.netperm_table.specs.declared.line.Line.{Line}
use Rattle.auth_machine.specs.Operations.{line_by, operation_line, operation_lines}
use Rattle.auth_machine.specs.declared.operation.OperationLine.{OperationLine}

both : (a b : Bool) → (a && b) ≡ true → (a ≡ true) × (b ≡ true)
both true b h = (refl, h)
both false b h = (h, absurd (cc))

either : (P : Type 0) (a b : Bool) → (a || b) ≡ true → (a ≡ true → P) → (b ≡ true → P) → P
either P true b h one other = one refl
either P false b h one other = other h

-- attributes

at_text : (text one : List ℕ) → bytes_eq text one ≡ true → attribute_of Authsrv one ≡ Operation → attribute_of Authsrv text ≡ Operation
at_text text one same is = ap (attribute_of Authsrv) ((bytes_eq-Decides text one).0 same) ∙ is

operation_attribute : (text : List ℕ) → is_operation text ≡ true → attribute_of Authsrv text ≡ Operation
operation_attribute text h =
    either (attribute_of Authsrv text ≡ Operation) (bytes_eq text (codes "permit-operation")) (bytes_eq text (codes "deny-operation")) h
    (λ e. at_text text (codes "permit-operation") e refl) (λ e. at_text text (codes "deny-operation") e refl)

said_operation : (line : Line) → is_operation line.attribute ≡ true → effect_of Authsrv line ≡ operation_effect line.words
unfolding effect_of
said_operation line h = ap (λ a. effect_as a Authsrv line.number line.words) (operation_attribute line.attribute h)

words_read : (words : List Word) → is_ok (operation_effect words) ≡ true → is_ok (read_operation words) ≡ true
words_read words h = by (read_operation words) h
  where
    by : (r : Result (List Written) Why) → is_ok (mapped (λ hosts. Nothing) r) ≡ true → is_ok r ≡ true
    by (Ok hosts) h = refl
    by (Err why) h = h

-- words

with_hosts : (number : ℕ) (permits : Bool) (a b c : Word) (words : List Word) (r : Result (List Written) Why) (hours : Option Hours) → is_ok r ≡ true
    → option_map (λ said. said.number) (line_by number permits (a ∷ b ∷ c ∷ words) (result_ok r) hours) ≡ Some number
with_hosts number permits a b c words (Ok hosts) hours h = refl
with_hosts number permits a b c words (Err why) hours h = absurd (cc)

unless_bad : (P : Type 0) (a : Bool) (r : Result (List Written) Why) → (is_ok r ≡ true → P) → is_ok (cond a r (Err BadWord)) ≡ true → P
unless_bad P true r f h = f h
unless_bad P false r f h = absurd (cc)

has_number : (number : ℕ) (permits : Bool) (words : List Word) (hours : Option Hours) → is_ok (read_operation words) ≡ true
    → option_map (λ said. said.number) (line_by number permits words (result_ok (read_operation words)) hours) ≡ Some number
has_number number permits [] hours h = absurd (cc)
has_number number permits (a ∷ []) hours h = unless_bad _ (is_holder a.text) (Err MissingValue) (λ e. absurd (cc)) h
has_number number permits (a ∷ b ∷ []) hours h =
    unless_bad _ (is_holder a.text) (operation_of (b ∷ [])) (λ e. unless_bad _ (is_name_or_star b.text) (Err MissingValue) (λ f. absurd (cc)) e) h
has_number number permits (a ∷ b ∷ c ∷ words) hours h = with_hosts number permits a b c words (read_operation (a ∷ b ∷ c ∷ words)) hours h

-- lines

other : (line : Line) → is_about_operations line ≡ false → operation_line line ≡ None
unfolding hosts_of_operation
other line e = rw e refl

ours : (line : Line) → is_about_operations line ≡ true → is_ok (effect_of Authsrv line) ≡ true → option_map (λ said. said.number) (operation_line line) ≡ Some line.number
unfolding hosts_of_operation
ours line e h =
    let about : is_operation line.attribute ≡ true = (both _ _ e).1 in
    let read : is_ok (operation_effect line.words) ≡ true = ap is_ok (sym (said_operation line about)) ∙ h in
    rw e (has_number line.number (bytes_eq line.attribute (codes "permit-operation")) line.words (hours_of_operation line) (words_read line.words read))

with_one : (said : Option OperationLine) (number : ℕ) (more : List OperationLine) → option_map (λ line. line.number) said ≡ Some number
    → map (λ line. line.number) (cons_option said more) ≡ number ∷ map (λ line. line.number) more
with_one None number more h = absurd (cc)
with_one (Some line) number more h = let e : line.number ≡ number = cc in rw e refl

good_so_far : (number : ℕ) (said : Result LineEffect Why) (book : Result RuleBook RuleFault) → is_ok (effect_then number said book) ≡ true → (is_ok said ≡ true) × (is_ok book ≡ true)
good_so_far number (Err why) book h = absurd (cc)
good_so_far number (Ok said) (Err fault) h = absurd (cc)
good_so_far number (Ok said) (Ok book) h = (refl, refl)

rest_read : (here : Bool) (line : Line) (rest : List Line) → is_ok (book_of Authsrv (cond here (line ∷ rest) rest)) ≡ true → is_ok (book_of Authsrv rest) ≡ true
rest_read true line rest h = (good_so_far line.number (effect_of Authsrv line) (book_of Authsrv rest) h).1
rest_read false line rest h = h

line_read : (here : Bool) (line : Line) (rest : List Line) → here ≡ true → is_ok (book_of Authsrv (cond here (line ∷ rest) rest)) ≡ true → is_ok (effect_of Authsrv line) ≡ true
line_read true line rest e h = (good_so_far line.number (effect_of Authsrv line) (book_of Authsrv rest) h).0
line_read false line rest e h = absurd (cc)

each_by : (line : Line) (lines : List Line) (about : Bool) → is_about_operations line ≡ about → is_ok (book_of Authsrv (filter (is_of (keyword Authsrv)) (line ∷ lines))) ≡ true
    → map (λ said. said.number) (operation_lines lines) ≡ map (λ line. line.number) (filter is_about_operations lines)
    → map (λ said. said.number) (operation_lines (line ∷ lines)) ≡ map (λ line. line.number) (filter is_about_operations (line ∷ lines))
each_by line lines false e h later = rw (e, other line e) later
each_by line lines true e h later =
    let read = line_read (is_of (keyword Authsrv) line) line (filter (is_of (keyword Authsrv)) lines) (both _ _ e).0 h in
    with_one (operation_line line) line.number (operation_lines lines) (ours line e read) ∙ ap (λ more. line.number ∷ more) later ∙ rw e refl

each : (lines : List Line) → is_ok (book_of Authsrv (filter (is_of (keyword Authsrv)) lines)) ≡ true
    → map (λ said. said.number) (operation_lines lines) ≡ map (λ line. line.number) (filter is_about_operations lines)
each [] h = refl
each (line ∷ lines) h = each_by line lines (is_about_operations line) refl h (each lines (rest_read (is_of (keyword Authsrv) line) line (filter (is_of (keyword Authsrv)) lines) h))

pub has_each : (lines : List Line) (book : RuleBook) → rules_of Authsrv lines ≡ Ok book
    → map (λ said. said.number) (operation_lines lines) ≡ map (λ line. line.number) (filter is_about_operations lines)
has_each lines book h = by (book_of Authsrv (filter (is_of (keyword Authsrv)) lines)) (each lines) h
  where
    by : (r : Result RuleBook RuleFault) → (is_ok r ≡ true → map (λ said. said.number) (operation_lines lines) ≡ map (λ line. line.number) (filter is_about_operations lines))
        → closed [] r ≡ Ok book → map (λ said. said.number) (operation_lines lines) ≡ map (λ line. line.number) (filter is_about_operations lines)
    by (Ok read) f h = f refl
    by (Err fault) f h = absurd (cc)
