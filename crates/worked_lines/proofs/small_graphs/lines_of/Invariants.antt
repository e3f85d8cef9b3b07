use Rattle.worked_lines.proofs.small_graphs.lines_of.Given as goal

abbrev pub ghosts-counted-W-Ledger : goal.ghosts-counted-W-Ledger
ghosts-counted-W-Ledger a = record { name = a.blank.name; parts = a.blank.parts }

abbrev pub ghosts-counted-V-Ledger : goal.ghosts-counted-V-Ledger
ghosts-counted-V-Ledger a = record { name = a.other.name; parts = a.other.parts }
