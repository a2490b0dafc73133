use Rattle.table_rows.proofs.patterns.list_says.Given as goal

abbrev pub ghosts-list_matches : goal.ghosts-list_matches
ghosts-list_matches a = record { name = a.blank.name; parts = a.blank.parts }
