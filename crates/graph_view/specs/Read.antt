-- What is known of tables that are read with a dictionary, and of a graph of these tables.
use Rattle.std.specs.Prelude.{ℕ, Bool, is_some, Option, None, Some}
use Rattle.std.specs.Ordering.{nat_cmp}
use Rattle.std.specs.FinMap as finite
use Rattle.hypertrie_model.specs.IdSets.{IdSet}
use Rattle.hypertrie_model.specs.Sets.{empty}
use Rattle.term_dict.specs.Dict.{Terms, IsOneToOne}
use Rattle.trie_context.specs.declared.root.Root.{Root}
use Rattle.trie_context.specs.declared.tables.Tables.{Tables}
use Rattle.trie_context.specs.Kept.{AreKept}
use Rattle.trie_context.specs.Roots.{root_set}
use Rattle.trie_view.specs.Places.{IsRootThere}
use Rattle.graph_image.specs.Images.{AreKnown}

-- whether the dictionary has a term for the Id
abbrev pub has_id : Terms → ℕ → Bool
has_id terms id = is_some (finite.get terms id)

-- the set of an operand, and no tuple where there is none
abbrev pub set_in : {O : Type 0} → (O → IdSet) → Option O → IdSet
set_in tuples None = empty nat_cmp
set_in tuples (Some o) = tuples o

-- the tables are kept, and no two Ids have one term
pub record AreRead (t : Tables) (terms : Terms) : Type 0 where
  pub mixed : ℕ → ℕ → ℕ → ℕ → ℕ
  pub kept : AreKept mixed t
  pub one : IsOneToOne terms

-- the root's row is there, and its triples have Ids of the dictionary
pub record IsRead (t : Tables) (root : Root) (terms : Terms) : Type 0 where
  pub there : IsRootThere t root
  pub known : AreKnown terms (root_set t root)
