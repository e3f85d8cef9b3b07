use Rattle.std.proofs.Common.{◌≡◌, ◌+◌, ◌*◌, ◌<◌, ℕ, length}
use Rattle.trie_node.specs.Sets.{edges_in}
use Rattle.trie_context.specs.Rows.{table_at}
use Rattle.trie_context.specs.Holds.{at_depth, nothing, CountsRiseBy, RowsStay}
use Rattle.trie_context.specs.Kept.{AreMoved}
use Rattle.trie_context.proofs.WalkLemmas.{edges_along}
use Rattle.trie_context.proofs.release.+release.Given as goal

abbrev pub decreases-release_row : goal.decreases-release_row
decreases-release_row g l = 4 * l.depth

abbrev pub decreases-release_edge : goal.decreases-release_edge
decreases-release_edge g l = 4 * l.depth + 1

abbrev pub decreases-release_map : goal.decreases-release_map
decreases-release_map g l = 4 * l.depth + 2

abbrev pub decreases-release_edges : goal.decreases-release_edges
decreases-release_edges g l = 4 * l.depth + 3

-- what is left of the map is still held
abbrev pub invariant-release_map-loop-edge : goal.invariant-release_map-loop-edge
invariant-release_map-loop-edge g l =
    AreMoved g.M.Mix.mixed l.fn.tables l.tables (at_depth l.depth (edges_along l.walk)) (at_depth l.depth (edges_in l.edges))
    × RowsStay l.tables l.fn.tables
    × ((d : ℕ) → l.depth < d → table_at l.tables d ≡ table_at l.fn.tables d)
    × CountsRiseBy l.fn.tables l.tables nothing

abbrev pub decreases-release_map-loop-edge : goal.decreases-release_map-loop-edge
decreases-release_map-loop-edge g l = length l.walk
