-- Room for counts to rise, and edges in hand.
use Rattle.std.specs.Prelude.{◌≡◌, ℕ, ◌+◌, ◌<◌, ◌≤◌, ◌^◌, cond, List, [], ◌∷◌, Option, None, Some, IfSome, IsSome}
use Rattle.std.specs.Ordering.{nat_cmp}
use Rattle.std.specs.FinMap as map
use Rattle.std.specs.FinSet as set
use Rattle.hypertrie_model.specs.IdSets.{IdSet}
use Rattle.hypertrie_model.specs.Sets.{has, empty}
use Rattle.hypertrie_model.specs.Slices.{slice}
use Rattle.hypertrie_model.specs.Unions.{union_over}
use Rattle.hypertrie_model.specs.Changes.{after, IsChange}
use Rattle.trie_depth.specs.declared.id.Id.{Id}
use Rattle.edge_map.specs.declared.edge.Edge.{Edge}
use Rattle.edge_map.specs.declared.edge.Edge.TheVariants.{Key}
use Rattle.edge_map.specs.Edges.{Edges}
use Rattle.trie_node.specs.Sets.{edge_set}
use Rattle.trie_context.specs.declared.tables.Tables.{Tables}
use Rattle.trie_context.specs.Rows.{row_of, node_of, set_of}
use Rattle.trie_context.specs.Holds.{count_of, holds_of}
use Rattle.trie_context.specs.FitEdges.{FitsAt, set_at, StandsAt, option_leads}
use Rattle.trie_change.specs.declared.change.Change.{Change}
use Rattle.trie_change.specs.Changes.{grows}

-- every count may rise by so much
abbrev pub LeavesRoom : Tables → ℕ → Type 0
LeavesRoom t n = (d r : ℕ) → count_of (row_of t d r) + n < 2 ^ 100

-- no edge, or one that fits the depth
abbrev pub FitsSome : Tables → ℕ → Option Edge → Type 0
FitsSome t d o = IfSome o (FitsAt t d)

-- each edge of the map fits the depth
abbrev pub AllFit : Tables → ℕ → Edges → Type 0
AllFit t d m = (k : ℕ) → FitsSome t d (map.get m k)

-- how many of the changes' edges lead to a row
abbrev pub changes_lead : List (Id × Option Edge) → ℕ → ℕ
changes_lead [] r = 0
changes_lead (c ∷ cs) r = option_leads c.1 r + changes_lead cs r

-- each key of the set under itself
abbrev pub AreKeys : IdSet → Edges → Type 0
AreKeys S m = (k : ℕ) → map.get m k ≡ cond (has S (k ∷ [])) (Some (Key (record { 0 = k }))) None

-- the map's edges stand for the slices at a position
abbrev pub AreSlicesAt : Tables → ℕ → IdSet → ℕ → Edges → Type 0
AreSlicesAt t d H i m = (k : ℕ) → StandsAt t d (slice nat_cmp H i k) (map.get m k)

-- what the old edge under each key stands for may be changed by the batch's slice at the key
abbrev pub AreChanges : Change → Tables → ℕ → Edges → IdSet → Type 0
AreChanges change t d old B = (k : ℕ) → IsChange (grows change) (set_at t d (map.get old k)) (slice nat_cmp B 0 k)

-- each edge stands for what the old edge under its key stood for, changed by the batch's slice at the key
abbrev pub AreChanged : Change → Tables → Tables → ℕ → Edges → IdSet → Edges → Type 0
AreChanged change t u d old B m = (k : ℕ) → StandsAt u d (after (grows change) (set_at t d (map.get old k)) (slice nat_cmp B 0 k)) (map.get m k)

-- the changed sets have sizes of 64 bits
abbrev pub AreSmallAfter : Change → Tables → ℕ → Edges → IdSet → Type 0
AreSmallAfter change t d old B = (k : ℕ) → set.len (after (grows change) (set_at t d (map.get old k)) (slice nat_cmp B 0 k)) < 2 ^ 64

-- the triples of a row of depth three, none where there is no row
abbrev pub row_set_at : Tables → Option ℕ → IdSet
row_set_at t None = empty nat_cmp
row_set_at t (Some r) = set_of t 3 r

-- no row, or one that is there
abbrev pub IsRowThere : Tables → Option ℕ → Type 0
IsRowThere t o = IfSome o (λ r. IsSome (row_of t 3 r))

-- the tuples of a map by its edges into depth d
abbrev pub first_set : Tables → ℕ → Edges → IdSet
first_set t d m = union_over m (edge_set (set_of t d))

-- no count is more than this
abbrev pub CountsUpTo : Tables → ℕ → Type 0
CountsUpTo t most = (d r : ℕ) → count_of (row_of t d r) ≤ most

-- each row with a hold beside the given ones is there as it was, and stands for the same set
abbrev pub HeldStay : Tables → Tables → (ℕ → ℕ → ℕ) → Type 0
HeldStay t u beside = (d r : ℕ) → beside d r < holds_of t d r → (node_of u d r ≡ node_of t d r) × (set_of u d r ≡ set_of t d r)
