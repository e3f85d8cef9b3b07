use Rattle.worked_tries.proofs.views.read_by.Given as goal

abbrev pub ghosts-reads_of_tables-W-Ledger : goal.ghosts-reads_of_tables-W-Ledger
ghosts-reads_of_tables-W-Ledger g a = record { name = a.blank.name; parts = a.blank.parts }

abbrev pub ghosts-reads_of_tables-V-Ledger : goal.ghosts-reads_of_tables-V-Ledger
ghosts-reads_of_tables-V-Ledger g a = record { name = a.other.name; parts = a.other.parts }
