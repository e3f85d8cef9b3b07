use Rattle.graph_store.proofs.look_up.is_used.Given as goal

abbrev pub ghosts-is_used_by : goal.ghosts-is_used_by
ghosts-is_used_by a = record { name = a.blank.name; parts = a.blank.parts }
