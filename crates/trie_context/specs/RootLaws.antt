-- The set of a graph stays where the rows of its tables do.
use Rattle.std.specs.Prelude.{◌≡◌, ℕ, refl}
use Rattle.trie_context.specs.declared.root.Root.{Root}
use Rattle.trie_context.specs.declared.root.Root.TheVariants.{Empty, One, Many}
use Rattle.trie_context.specs.declared.tables.Tables.{Tables}
use Rattle.trie_context.specs.Holds.{RowsStay}
use Rattle.trie_context.specs.Kept.{AreKept}
use Rattle.trie_context.specs.MoveLaws.{there_row}
use Rattle.trie_context.specs.StayLaws.{sets_stay}
use Rattle.trie_context.specs.Roots.{root_set, IsHeld}

pub root_set_stays : (mixed : ℕ → ℕ → ℕ → ℕ → ℕ) (t u : Tables) → AreKept mixed t → RowsStay t u → (root : Root) → IsHeld t root → root_set u root ≡ root_set t root
root_set_stays mixed t u kept stay Empty held = refl
root_set_stays mixed t u kept stay (One triple) held = refl
root_set_stays mixed t u kept stay (Many row) held = let s = there_row t 3 row held in sets_stay mixed t u kept stay 3 row s.0 s.1
