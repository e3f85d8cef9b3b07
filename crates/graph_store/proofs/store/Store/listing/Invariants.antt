use Rattle.graph_store.proofs.store.Store.listing.Given as goal

abbrev pub ghosts-made : goal.ghosts-made
ghosts-made g a = record { name = a.blank.name; parts = a.blank.parts }
