use Rattle.worked_listings.proofs.listed_rows.listed.Given as goal

abbrev pub ghosts-values : goal.ghosts-values
ghosts-values a = record { name = a.blank.name; parts = a.blank.parts }
