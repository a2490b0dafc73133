-- What a verdict comes to, by the rules that made it.
-- No public clause cites these: they say what private functions answer.
use Rattle.std.specs.Prelude.{◌≡◌, ◌⊎◌}
use Rattle.gate_rules.specs.Reading.{RuleBook}
use Rattle.gate_rules.specs.declared.verdict.Verdict.{Verdict}
use Rattle.gate_rules.specs.declared.verdict.Verdict.TheVariants.{Permit, Deny}
use Rattle.bastion.specs.TableReport.{report_text}
use Rattle.bastion.specs.Texts.{print_text, program_of}
use Rattle.bastion.specs.Works.{Announced, AnnouncedRun, Shown}
use Rattle.bastion.specs.WorldView.{WorldView}
use Rattle.bastion.specs.declared.outcome.Outcome.{Outcome}
use Rattle.bastion.specs.declared.outcome.Outcome.TheVariants.{NoMemory}
use Rattle.bastion.specs.declared.outcome.Step.TheVariants.{Print}
use Rattle.bastion.specs.declared.words.Query.{Query}

-- this was done; or nothing, for want of memory
abbrev pub OrLacks : Outcome → WorldView → WorldView → Type 0 → Type 0
OrLacks outcome old new Done = ((outcome ≡ NoMemory Print) × (new ≡ old)) ⊎ Done

abbrev pub Permits : Query → Verdict → RuleBook → Outcome → WorldView → WorldView → Type 0
Permits query verdict rules outcome old new = OrLacks outcome old new (Announced query verdict (print_text rules verdict) outcome old new)

-- only a permission may want memory
abbrev pub Decides : Query → Verdict → RuleBook → Outcome → WorldView → WorldView → Type 0
Decides query (Permit line) rules outcome old new = Permits query (Permit line) rules outcome old new
Decides query (Deny line) rules outcome old new = Announced query (Deny line) (print_text rules (Deny line)) outcome old new

-- the same, and then the program is started that the line names
abbrev pub RunsBy : Query → Verdict → RuleBook → Outcome → WorldView → WorldView → Type 0
RunsBy query verdict rules outcome old new = AnnouncedRun query verdict (print_text rules verdict) (program_of rules verdict) outcome old new

abbrev pub PermitsRun : Query → Verdict → RuleBook → Outcome → WorldView → WorldView → Type 0
PermitsRun query verdict rules outcome old new = OrLacks outcome old new (RunsBy query verdict rules outcome old new)

abbrev pub DecidesRun : Query → Verdict → RuleBook → Outcome → WorldView → WorldView → Type 0
DecidesRun query (Permit line) rules outcome old new = PermitsRun query (Permit line) rules outcome old new
DecidesRun query (Deny line) rules outcome old new = RunsBy query (Deny line) rules outcome old new

abbrev pub Reveals : Verdict → RuleBook → Outcome → WorldView → WorldView → Type 0
Reveals verdict rules outcome old new = OrLacks outcome old new (Shown verdict (report_text rules verdict) outcome old new)

abbrev pub Reports : Verdict → RuleBook → Outcome → WorldView → WorldView → Type 0
Reports (Permit line) rules outcome old new = Reveals (Permit line) rules outcome old new
Reports (Deny line) rules outcome old new = Shown (Deny line) (report_text rules (Deny line)) outcome old new
