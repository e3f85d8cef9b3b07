use Rattle.worked_graphs.proofs.stores.keeps_a_graph_through_batches.Given as goal

abbrev pub ghosts-told-W-Ledger : goal.ghosts-told-W-Ledger
ghosts-told-W-Ledger g a = record { name = a.blank.name; parts = a.blank.parts }

abbrev pub ghosts-told-V-Ledger : goal.ghosts-told-V-Ledger
ghosts-told-V-Ledger g a = record { name = a.other.name; parts = a.other.parts }

abbrev pub ghosts-told-2-W-Ledger : goal.ghosts-told-2-W-Ledger
ghosts-told-2-W-Ledger g a = record { name = a.blank.name; parts = a.blank.parts }

abbrev pub ghosts-told-2-V-Ledger : goal.ghosts-told-2-V-Ledger
ghosts-told-2-V-Ledger g a = record { name = a.other.name; parts = a.other.parts }
