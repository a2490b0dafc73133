-- The lines that a run writes to the log and prints.
use Rattle.std.specs.Prelude.{ℕ, List, [], ◌∷◌, ◌++◌, flat_map, Option, Some, None, codes}
use Rattle.std.specs.Fmt.{decimal}
use Rattle.client_service.specs.Decision.{verdict_line, verdict_word}
use Rattle.gate_rules.specs.Reading.{RuleBook}
use Rattle.gate_rules.specs.Verdict.{options_at}
use Rattle.gate_rules.specs.declared.options.Options.{Options}
use Rattle.gate_rules.specs.declared.verdict.Verdict.{Verdict}
use Rattle.gate_rules.specs.declared.verdict.Verdict.TheVariants.{Permit, Deny}

-- a name, and words that each come after a space
abbrev pub words_line : List ℕ → List (List ℕ) → List ℕ
words_line name words = name ++ flat_map (λ w. 32 ∷ w) words ++ codes "\n"

-- that line where there are words, and nothing where there are none
abbrev pub some_line : List ℕ → List (List ℕ) → List ℕ
some_line name [] = []
some_line name (word ∷ words) = words_line name (word ∷ words)

-- the line of a verdict: `permit line N`
abbrev pub verdict_text : Verdict → List ℕ
verdict_text verdict = verdict_word verdict ++ codes " line " ++ decimal (verdict_line verdict) ++ codes "\n"

abbrev pub exec_in : Option Options → List (List ℕ)
exec_in None = []
exec_in (Some options) = options.exec

-- the words of the program that a verdict starts: those of the permit line that decided, where it has some
abbrev pub program_of : RuleBook → Verdict → List (List ℕ)
program_of rules (Permit line) = exec_in (options_at rules line)
program_of rules (Deny line) = []

-- how a program ended: `ended N`
abbrev pub ended_text : ℕ → List ℕ
ended_text status = codes "ended " ++ decimal status ++ codes "\n"

-- what `netacl` prints: the verdict, and the program with its words, where the permit line that decided has one
abbrev pub print_text : RuleBook → Verdict → List ℕ
print_text rules (Permit line) = verdict_text (Permit line) ++ some_line (codes "exec") (exec_in (options_at rules line))
print_text rules (Deny line) = verdict_text (Deny line)
