use Rattle.ftp_gate.proofs.destinations.is_allowed.Given as goal

abbrev pub ghosts-allows_in : goal.ghosts-allows_in
ghosts-allows_in a = record { name = a.blank.name; parts = a.blank.parts }
