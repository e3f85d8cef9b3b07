use Rattle.worked_tries.proofs.retained.grows_beside_a_star_of_a_thousand.Given as goal

abbrev pub ghosts-counted-W-Ledger : goal.ghosts-counted-W-Ledger
ghosts-counted-W-Ledger a = record { name = a.blank.name; parts = a.blank.parts }

abbrev pub ghosts-counted-V-Ledger : goal.ghosts-counted-V-Ledger
ghosts-counted-V-Ledger a = record { name = a.other.name; parts = a.other.parts }
