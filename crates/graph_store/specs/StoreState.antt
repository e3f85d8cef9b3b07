-- What contracts see of a store, and its graph.
use Rattle.std.specs.Prelude.{ℕ, ◌≤◌, refl}
use Rattle.std.specs.Coded.{Coded, code_by, coded×, coded_ℕ}
use Rattle.std.specs.FinMap as map
use Rattle.std.specs.FinSet as set
use Rattle.hypertrie_model.specs.IdSets.{IdSet}
use Rattle.rdf_model.specs.Graph.{Graph, coded_term}
use Rattle.term_dict.specs.Dict.{Terms}
use Rattle.trie_context.specs.declared.root.Root.{Root}
use Rattle.trie_context.specs.contracts.root.Root as root
use Rattle.trie_context.specs.declared.tables.Tables.{Tables}
use Rattle.trie_context.specs.contracts.tables.Tables as tables
use Rattle.trie_context.specs.Roots.{root_set}
use Rattle.trie_context.specs.RootShape.{OnlyRootHeld}
use Rattle.graph_image.specs.Images.{graph_of, terms_of, AreKnown, HasExactly}
use Rattle.ntriples_model.specs.Proper.{AreProper}

-- the dictionary, the tables of the graph, its root, and how many triples it may have
pub record StoreState : Type 0 where
  pub dict : Terms
  pub tables : Tables
  pub root : Root
  pub max : ℕ

abbrev pub state_code : Coded StoreState
state_code =
    code_by (Terms × (Tables × (Root × ℕ))) (coded× (map.code coded_ℕ coded_term) (coded× tables.the_row.coded (coded× root.the_row.coded coded_ℕ))) (λ s. (s.dict, (s.tables, (s.root, s.max))))
    (λ p. record { dict = p.0; tables = p.1.0; root = p.1.1.0; max = p.1.1.1 }) (λ _. refl)

-- the triples of Ids that the root stands for
abbrev pub triples_of : StoreState → IdSet
triples_of s = root_set s.tables s.root

-- the graph: these triples, read through the dictionary
abbrev pub graph : StoreState → Graph
graph s = graph_of s.dict (triples_of s)

-- the dictionary has exactly the terms of the graph
abbrev pub IsSettled : StoreState → Type 0
IsSettled s = HasExactly s.dict (terms_of (graph s))

-- the greatest number of triples that a store may be set to
abbrev pub most_triples : ℕ
most_triples = 500000000

-- what holds of every store, beside that its tables are kept and its dictionary is one to one
pub record IsSoundStore (dict : Terms) (tables : Tables) (root : Root) (max : ℕ) : Type 0 where
  -- only the root's row is held
  pub only : OnlyRootHeld tables root
  -- the dictionary has the Ids of the triples
  pub known : AreKnown dict (root_set tables root)
  pub proper : AreProper (graph_of dict (root_set tables root))
  pub few : set.len (root_set tables root) ≤ most_triples
  pub limit : max ≤ most_triples
