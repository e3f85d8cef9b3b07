use Rattle.worked_tries.proofs.logs.settles_a_change.Given as goal

abbrev pub ghosts-counted_settled : goal.ghosts-counted_settled
ghosts-counted_settled g a = record { name = a.blank.name; parts = a.blank.parts }
