use Rattle.worked_listings.proofs.common_keys.three.Given as goal

abbrev pub ghosts-of_three : goal.ghosts-of_three
ghosts-of_three a = record { name = a.blank.name; parts = a.blank.parts }
