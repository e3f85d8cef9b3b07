use Rattle.worked_tries.proofs.views.slices_of_a_graph_with_diagonals.Given as goal

abbrev pub ghosts-masks_of_list : goal.ghosts-masks_of_list
ghosts-masks_of_list g a = record { name = a.blank.name; parts = a.blank.parts }
