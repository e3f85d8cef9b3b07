use Rattle.worked_tries.proofs.logs.undoes_a_change.Given as goal

abbrev pub ghosts-counted_undone : goal.ghosts-counted_undone
ghosts-counted_undone g a = record { name = a.blank.name; parts = a.blank.parts }
