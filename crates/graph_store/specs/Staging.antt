-- Triples that are staged, with the terms that came with them, and triples that are marked.
use Rattle.std.specs.Prelude.{◌≡◌, ◌⊎◌, ℕ, ◌+◌, ◌<◌, ◌≤◌, ◌||◌, not, Bool, true, false, List, [], ◌∷◌, IsSome, Some, refl, if◌then◌else◌}
use Rattle.std.specs.Prelude.{map as map_list}
use Rattle.std.specs.Coded.{Coded, code_by, coded×, coded_ℕ, coded_list}
use Rattle.std.specs.FinMap as map
use Rattle.std.specs.FinSet as set
use Rattle.hypertrie_model.specs.IdSets.{IdSet}
use Rattle.hypertrie_model.specs.Changes.{IsChange}
use Rattle.rdf_model.specs.Terms.{Term, Triple}
use Rattle.rdf_model.specs.Graph.{Graph}
use Rattle.trie_depth.specs.declared.id.Id.{Id}
use Rattle.trie_depth.specs.declared.id.Trip.{Trip}
use Rattle.graph_image.specs.Images.{graph_of, terms_of, AreKnown, HasExactly, IsUsed, is_among, without}
use Rattle.ntriples_model.specs.Proper.{AreProper}
use Rattle.graph_store.specs.StoreState.{StoreState, triples_of, graph, most_triples}

-- the staged triples, and the Ids of the terms that were added for them
pub record Staging : Type 0 where
  pub triples : IdSet
  pub added : List ℕ

abbrev pub staging_code : Coded Staging
staging_code = code_by (IdSet × List ℕ) (coded× (set.code (coded_list coded_ℕ)) (coded_list coded_ℕ)) (λ b. (b.triples, b.added)) (λ p. record { triples = p.0; added = p.1 }) (λ _. refl)

abbrev pub nothing_staged : Staging
nothing_staged = record { triples = set.empty; added = [] }

abbrev pub numbers : List Id → List ℕ
numbers ids = map_list (λ id. id.0) ids

-- the staged triples as a graph
abbrev pub staged_graph : StoreState → Staging → Graph
staged_graph s b = graph_of s.dict b.triples

-- the staged triples with one more, unless the graph has it
abbrev pub with_new : Graph → Graph → Triple → Graph
with_new G staged t = if set.contains G t then staged else set.insert staged t

-- one triple more is staged, unless the graph has it
abbrev pub StagesOne : StoreState → Staging → StoreState → Staging → Triple → Type 0
StagesOne s b t c triple = staged_graph t c ≡ with_new (graph s) (staged_graph s b) triple

-- whether the graph or the staged triples have the triple
abbrev pub is_held : StoreState → Staging → Triple → Bool
is_held s b triple = set.contains (graph s) triple || set.contains (staged_graph s b) triple

-- no Id stands twice in the list
abbrev pub AreDistinct : List ℕ → Type 0
AreDistinct [] = Unit {0}
AreDistinct (id ∷ ids) = (is_among ids id ≡ false) × AreDistinct ids

-- the Ids of all triples, as they stand there
abbrev pub ids_of_all : List Trip → List Id
ids_of_all [] = []
ids_of_all (t ∷ ts) = t.0 ∷ t.1 ∷ t.2 ∷ ids_of_all ts

-- each Id that a tuple of the set has is in the list
abbrev pub HasUsed : List ℕ → IdSet → Type 0
HasUsed ids H = (id : ℕ) → IsUsed H id → is_among ids id ≡ true

-- each Id in the list is one that a tuple of the set has
abbrev pub HasOnlyUsed : List ℕ → IdSet → Type 0
HasOnlyUsed ids H = (id : ℕ) → is_among ids id ≡ true → IsUsed H id

-- the staged triples are some that this store may put in
pub record Fits (s : StoreState) (b : Staging) : Type 0 where
  -- the dictionary has their Ids
  pub known : AreKnown s.dict b.triples
  pub proper : AreProper (staged_graph s b)
  -- the graph has none of them
  pub new : IsChange true (triples_of s) b.triples
  -- the dictionary has exactly the terms of the graph and of the staged triples
  pub exactly : HasExactly s.dict (terms_of (set.union (graph s) (staged_graph s b)))
  -- the added Ids are those of the terms that the graph doesn't have, each once
  pub added : (id : ℕ) (t : Term) → map.get s.dict id ≡ Some t → is_among b.added id ≡ not (set.contains (terms_of (graph s)) t)
  pub there : (id : ℕ) → is_among b.added id ≡ true → IsSome (map.get s.dict id)
  pub once : AreDistinct b.added
  pub few : set.len (graph s) + set.len (staged_graph s b) ≤ most_triples

-- the store before anything was staged: the added terms are out again
abbrev pub before : StoreState → Staging → StoreState
before s b = record s { dict = without s.dict b.added }

-- there is no place for the triple: the graph alone has more than it may have, or the triple is new and the graph and the staged triples
-- are together as many as it may have
abbrev pub IsFull : StoreState → Staging → Triple → Type 0
IsFull s b t = (s.max < set.len (graph s)) ⊎ ((set.contains (graph s) t ≡ false) × (set.contains (staged_graph s b) t ≡ false) × (s.max ≤ set.len (graph s) + set.len (staged_graph s b)))

-- the graph has each of the marked triples
abbrev pub AreMarked : StoreState → IdSet → Type 0
AreMarked s marked = IsChange false (triples_of s) marked

-- the marked triples with one more, if the graph has it
abbrev pub with_marked : Graph → Graph → Triple → Graph
with_marked G marked t = if set.contains G t then set.insert marked t else marked

-- the marked triples as a graph
abbrev pub marked_graph : StoreState → IdSet → Graph
marked_graph s marked = graph_of s.dict marked

-- one triple more is marked, if the graph has it
abbrev pub MarksOne : StoreState → IdSet → IdSet → Triple → Type 0
MarksOne s marked more triple = marked_graph s more ≡ with_marked (graph s) (marked_graph s marked) triple
