-- What the rules of a service decide of a peer, and what they say besides.
use Rattle.std.specs.Prelude.{ℕ, Bool, true, ◌+◌, ◌==◌, ◌&&◌, List, [], ◌∷◌, find, length, take, Option, Some, None, if◌then◌else◌}
use Rattle.std.specs.List.{position_or_len, sum_by}
use Rattle.std.specs.Option.{option_map}
use Rattle.fw_types.specs.Dest.{party_of}
use Rattle.fw_types.specs.declared.dest.Dest.{Dest}
use Rattle.fw_types.specs.declared.peer.Peer.{Peer}
use Rattle.host_pattern.specs.Pattern.{Written}
use Rattle.host_pattern.specs.PatternList.{list_matches, patterns_tested}
use Rattle.gate_rules.specs.declared.options.Options.{Options}
use Rattle.gate_rules.specs.declared.rule.Rule.{Rule}
use Rattle.gate_rules.specs.declared.setting.Setting.{Setting}
use Rattle.gate_rules.specs.declared.verdict.Verdict.{Verdict}
use Rattle.gate_rules.specs.declared.verdict.Verdict.TheVariants.{Permit, Deny}
use Rattle.gate_rules.specs.Bucket.{bucket}
use Rattle.gate_rules.specs.Reading.{RuleBook}
use Rattle.gate_rules.specs.Settings.{is_same}

-- what the first matching rule says, and a denial by line 0 where none matches
abbrev pub decided_by : Option Rule → Verdict
decided_by None = Deny 0
decided_by (Some rule) = if rule.permits then Permit rule.line else Deny rule.line

-- the host list of the rule matches the peer
abbrev pub rule_matches : Peer → Rule → Bool
rule_matches peer rule = list_matches rule.hosts peer

-- the first rule whose host list matches the peer decides. Kept by `Rules::verdict` (`answer`); body: `verdict_by` of
-- src/merging.rt.
unfoldable pub verdict_of : RuleBook → Peer → Verdict
verdict_of book peer = decided_by (find (rule_matches peer) book.rules)

-- how many patterns the host lists have
abbrev pub pattern_count : List Rule → ℕ
pattern_count [] = 0
pattern_count (rule ∷ rules) = length rule.hosts + pattern_count rules

-- the rules that are tried of a list: those up to the first whose host list matches, which is the last of them, or all
abbrev pub tried : Peer → List Rule → List Rule
tried peer rules = take (position_or_len (rule_matches peer) rules + 1) rules

-- how many patterns are tested: of each rule that is tried, as many as its list takes
unfoldable pub rules_steps : Peer → List Rule → ℕ
rules_steps peer rules = sum_by (λ rule. patterns_tested rule.hosts peer) (tried peer rules)

-- only the rules of the peer's bucket are tried
abbrev pub verdict_steps : RuleBook → Peer → ℕ
verdict_steps book peer = rules_steps peer (bucket peer book.rules)

-- the options of the permit line with this number
abbrev pub options_at : RuleBook → ℕ → Option Options
options_at book line = option_map (λ rule. rule.options) (find (λ rule. rule.permits && rule.line == line) book.rules)

-- the value and the line of the first line that sets it
abbrev pub setting_of : RuleBook → Setting → Option (ℕ × ℕ)
setting_of book which = option_map (λ set. (set.value, set.line)) (find (λ set. is_same set.which which) book.settings)

-- whether the list of `-dest` matches, where there is one
abbrev pub list_allows : Option (List Written) → Peer → Bool
list_allows None party = true
list_allows (Some patterns) party = list_matches patterns party

-- how many of its patterns are tested
abbrev pub list_steps : Option (List Written) → Peer → ℕ
list_steps None party = 0
list_steps (Some patterns) party = patterns_tested patterns party

-- how many patterns that list has
abbrev pub list_length : Option (List Written) → ℕ
list_length None = 0
list_length (Some patterns) = length patterns

-- how many patterns are tested to know whether the options let a client go to a destination
abbrev pub destination_steps : Options → Dest → ℕ
destination_steps options dest = list_steps options.dest (party_of dest)

-- whether the options let a client go to a destination
abbrev pub allows : Options → Dest → Bool
allows options dest = list_allows options.dest (party_of dest)
