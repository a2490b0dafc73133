use Rattle.table_rows.proofs.patterns.pattern_says.Given as goal

abbrev pub ghosts-pattern_matches : goal.ghosts-pattern_matches
ghosts-pattern_matches a = record { name = a.blank.name; parts = a.blank.parts }
