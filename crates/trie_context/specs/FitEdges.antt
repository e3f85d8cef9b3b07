-- Edges that a row of the tables may have, and what they stand for.
use Rattle.std.specs.Prelude.{ℕ, zero, suc, Option, None, Some}
use Rattle.std.specs.Ordering.{nat_cmp}
use Rattle.hypertrie_model.specs.IdSets.{IdSet}
use Rattle.hypertrie_model.specs.Sets.{empty}
use Rattle.edge_map.specs.declared.edge.Edge.{Edge}
use Rattle.trie_node.specs.Sets.{edge_set, leads}
use Rattle.trie_node.specs.Forms.{IsPairEdge, IsTripleEdge, StandsFor}
use Rattle.trie_context.specs.declared.tables.Tables.{Tables}
use Rattle.trie_context.specs.Rows.{set_of}

-- an edge into depth d that a row one depth above may have: it stands for a set that is there
abbrev pub FitsAt : Tables → ℕ → Edge → Type 0
FitsAt t zero e = ⊥
FitsAt t (suc zero) e = IsPairEdge (set_of t 1) e
FitsAt t (suc (suc d)) e = IsTripleEdge (set_of t (suc (suc d))) e

-- the set that an edge into depth d stands for, empty where there is none
abbrev pub set_at : Tables → ℕ → Option Edge → IdSet
set_at t d None = empty nat_cmp
set_at t d (Some e) = edge_set (set_of t d) e

-- no edge where the set is empty, and else an edge that stands for it
abbrev pub StandsAt : Tables → ℕ → IdSet → Option Edge → Type 0
StandsAt t d S o = StandsFor (FitsAt t d) (set_of t d) S o

-- 1 where there is an edge that leads to the row
abbrev pub option_leads : Option Edge → ℕ → ℕ
option_leads None r = 0
option_leads (Some e) r = leads e r
