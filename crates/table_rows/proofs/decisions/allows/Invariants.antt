use Rattle.table_rows.proofs.decisions.allows.Given as goal

abbrev pub ghosts-allows_by : goal.ghosts-allows_by
ghosts-allows_by a = record { name = a.blank.name; parts = a.blank.parts }
