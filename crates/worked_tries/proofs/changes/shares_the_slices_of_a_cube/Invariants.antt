use Rattle.worked_tries.proofs.changes.shares_the_slices_of_a_cube.Given as goal

abbrev pub ghosts-counted-W-Ledger : goal.ghosts-counted-W-Ledger
ghosts-counted-W-Ledger g a = record { name = a.blank.name; parts = a.blank.parts }

abbrev pub ghosts-counted-V-Ledger : goal.ghosts-counted-V-Ledger
ghosts-counted-V-Ledger g a = record { name = a.other.name; parts = a.other.parts }
