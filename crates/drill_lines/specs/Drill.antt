-- What a drill comes to: how often the rules of the lines that are drawn permit and deny the peers that are drawn behind them.
use Rattle.std.specs.Prelude.{ℕ, ◌*◌, ◌==◌, Bool, true, false, not, List, take, drop, map, ◌++◌, codes, Result, Ok, Err}
use Rattle.std.specs.Fmt.{decimal}
use Rattle.std.specs.List.{count_by}
use Rattle.fw_types.specs.declared.peer.Peer.{Peer}
use Rattle.gate_rules.specs.Reading.{RuleBook, rules_of}
use Rattle.gate_rules.specs.Verdict.{verdict_of}
use Rattle.gate_rules.specs.declared.fault.RuleFault.{RuleFault}
use Rattle.gate_rules.specs.declared.service.Service.TheVariants.{TnGw}
use Rattle.gate_rules.specs.declared.verdict.Verdict.{Verdict}
use Rattle.gate_rules.specs.declared.verdict.Verdict.TheVariants.{Permit, Deny}
use Rattle.netperm_table.specs.Table.{table_of}
use Rattle.netperm_table.specs.declared.line.Line.{Line}
use Rattle.netperm_table.specs.declared.table_fault.TableFault.{TableFault}
use Rattle.drill_lines.specs.Draws.{draws, lines_text, peers_of}
use Rattle.drill_lines.specs.declared.plan.Drill.{Drill}
use Rattle.drill_lines.specs.declared.drill_fault.DrillFault.{DrillFault}
use Rattle.drill_lines.specs.declared.drill_fault.DrillFault.TheVariants as faults
use Rattle.drill_lines.specs.declared.tally.Tally.{Tally}

-- three draws for each line, and behind them two for each peer
abbrev pub all_draws : Drill → List ℕ
all_draws drill = draws (5 * drill.count) drill.start

abbrev pub table_text : Drill → List ℕ
table_text drill = lines_text (take (3 * drill.count) (all_draws drill))

abbrev pub peers_asked : Drill → List Peer
peers_asked drill = peers_of (drop (3 * drill.count) (all_draws drill))

-- ---- the rules

abbrev pub or_rule_fault : Result RuleBook RuleFault → Result RuleBook DrillFault
or_rule_fault (Ok rules) = Ok rules
or_rule_fault (Err fault) = Err (faults.Rule fault)

abbrev pub rules_by : Result (List Line) TableFault → Result RuleBook DrillFault
rules_by (Ok lines) = or_rule_fault (rules_of TnGw lines)
rules_by (Err fault) = Err (faults.Table fault)

-- the rules of `tn-gw` in a table with this text, or the first line that can't be read
abbrev pub rules_in : List ℕ → Result RuleBook DrillFault
rules_in text = rules_by (table_of text)

-- ---- the counts

abbrev pub is_permit : Verdict → Bool
is_permit (Permit line) = true
is_permit (Deny line) = false

-- a line denies
abbrev pub is_denial : Verdict → Bool
is_denial (Permit line) = false
is_denial (Deny line) = not (line == 0)

-- no line fits
abbrev pub is_unmatched : Verdict → Bool
is_unmatched (Permit line) = false
is_unmatched (Deny line) = line == 0

abbrev pub tally_of : List Verdict → Tally
tally_of verdicts = record { permits = count_by is_permit verdicts; denials = count_by is_denial verdicts; unmatched = count_by is_unmatched verdicts }

abbrev pub tallied : List Peer → Result RuleBook DrillFault → Result Tally DrillFault
tallied peers (Ok rules) = Ok (tally_of (map (verdict_of rules) peers))
tallied peers (Err fault) = Err fault

-- the counts of all verdicts, or the first line that can't be read
unfoldable pub drilled : Drill → Result Tally DrillFault
drilled drill = tallied (peers_asked drill) (rules_in (table_text drill))

-- ---- what is printed

abbrev pub tally_text : Drill → Tally → List ℕ
tally_text drill tally =
    codes "drill " ++ decimal drill.start ++ codes " " ++ decimal drill.count ++ codes " permit " ++ decimal tally.permits ++ codes " deny " ++ decimal tally.denials ++ codes " none " ++ decimal tally.unmatched ++ codes "\n"
