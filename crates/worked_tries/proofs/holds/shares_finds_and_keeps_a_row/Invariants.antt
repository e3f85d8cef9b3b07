use Rattle.worked_tries.proofs.holds.shares_finds_and_keeps_a_row.Given as goal

abbrev pub ghosts-counted : goal.ghosts-counted
ghosts-counted g a = record { name = a.blank.name; parts = a.blank.parts }
