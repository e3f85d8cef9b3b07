use Rattle.worked_maps.proofs.maps.a_map_of_a_hundred_thousand_keys.Given as goal

abbrev pub ghosts-figures : goal.ghosts-figures
ghosts-figures g a = record { name = a.blank.name; parts = a.blank.parts }
