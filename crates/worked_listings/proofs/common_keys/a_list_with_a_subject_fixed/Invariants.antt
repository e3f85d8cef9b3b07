use Rattle.worked_listings.proofs.common_keys.a_list_with_a_subject_fixed.Given as goal

abbrev pub ghosts-behind : goal.ghosts-behind
ghosts-behind g a = record { name = a.blank.name; parts = a.blank.parts }
