-- Small drills, computed.
use Rattle.std.proofs.Common.{◌≡◌, Ok, refl}
use Rattle.std.specs.Prelude.{codes}
use Rattle.std.specs.Fmt.{digits}
use Rattle.host_pattern.specs.Glob.{glob}
use Rattle.host_pattern.specs.Party.{body_matches}
use Rattle.host_pattern.specs.Pattern.{parsed}
use Rattle.host_pattern.specs.PatternList.{list_matches}
use Rattle.gate_rules.specs.Lists.{patterns_of}
use Rattle.gate_rules.specs.Options.{built, options_after, options_of}
use Rattle.gate_rules.specs.Reading.{effect_of}
use Rattle.gate_rules.specs.Verdict.{verdict_of}
use Rattle.drill_lines.specs.Drill.{drilled, table_text}

pub first_table : table_text (record { start = 1; count = 2 }) ≡ codes "tn-gw: permit-hosts 12.1.*\ntn-gw: deny-hosts 13.3.*\n"
unfolding digits
first_table = refl

pub small_table : table_text (record { start = 643; count = 4 }) ≡ codes "tn-gw: deny-hosts 11.5.*\ntn-gw: permit-hosts 13.0.*\ntn-gw: permit-hosts 11.6.*\ntn-gw: deny-hosts 11.6.*\n"
unfolding digits
small_table = refl

pub small_counts : drilled (record { start = 643; count = 4 }) ≡ Ok (record { permits = 1; denials = 2; unmatched = 1 })
unfolding drilled digits verdict_of list_matches body_matches glob effect_of patterns_of parsed options_of built options_after
small_counts = refl
