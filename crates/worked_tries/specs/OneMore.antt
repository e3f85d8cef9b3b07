-- A graph before and after one triple is put into it.
use Rattle.std.specs.Prelude.{◌≡◌, ℕ, ◌<◌, ◌^◌, List}
use Rattle.std.specs.Ordering.{nat_cmp}
use Rattle.std.specs.FinSet as set
use Rattle.hypertrie_model.specs.Sets.{single}
use Rattle.trie_context.specs.declared.root.Root.{Root}
use Rattle.trie_context.specs.declared.tables.Tables.{Tables}
use Rattle.trie_context.specs.Holds.{CountsRiseBy}
use Rattle.trie_context.specs.Roots.{root_set, IsHeld}
use Rattle.trie_context.specs.RootShape.{OnlyRootHeld}
use Rattle.trie_change.specs.Rooms.{CountsUpTo}

-- the root's hold is the only one, and there is room for one more triple
pub record IsReady (t : Tables) (root : Root) : Type 0 where
  pub held : IsHeld t root
  pub only : OnlyRootHeld t root
  pub counts : CountsUpTo t (2 ^ 96)
  pub size : set.len (root_set t root) < 536870912

-- the triple is there beside what was there before, and the root's hold is still the only one
pub record HasGrown (t u : Tables) (old new : Root) (triple : List ℕ) : Type 0 where
  pub set : root_set u new ≡ set.union (root_set t old) (single nat_cmp triple)
  pub only : OnlyRootHeld u new
  pub counts : CountsRiseBy t u (λ _ _. 2 ^ 65)
