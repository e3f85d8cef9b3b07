use Rattle.worked_listings.proofs.common_keys.two.Given as goal

abbrev pub ghosts-of_two : goal.ghosts-of_two
ghosts-of_two a = record { name = a.blank.name; parts = a.blank.parts }
