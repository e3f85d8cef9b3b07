-- A root that is held is there.
use Rattle.trie_context.specs.declared.root.Root.{Root}
use Rattle.trie_context.specs.declared.root.Root.TheVariants.{Empty, One, Many}
use Rattle.trie_context.specs.declared.tables.Tables.{Tables}
use Rattle.trie_context.specs.MoveLaws.{held_there}
use Rattle.trie_context.specs.Roots.{IsHeld}
use Rattle.trie_view.specs.Places.{IsRootThere}

pub held_root_there : (t : Tables) (root : Root) → IsHeld t root → IsRootThere t root
held_root_there t Empty held = tt
held_root_there t (One triple) held = tt
held_root_there t (Many row) held = held_there t 3 row held
