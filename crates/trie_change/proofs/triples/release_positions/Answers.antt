use Rattle.std.proofs.Common.{◌+◌, arith}
use Rattle.trie_node.specs.Sets.{edges_in}
use Rattle.trie_change.proofs.PositionLemmas.{left_held}
use Rattle.trie_change.proofs.triples.release_positions.Goals as goal

pub release_map-requires-2 : goal.release_map-requires-2
release_map-requires-2 g c = record { held = left_held (edges_in c.args.first.now) (edges_in c.args.second.now) c.release_map.ensures.moved (λ r. omega (arith, c.requires r)) }

pub release_map-requires-3 : goal.release_map-requires-3
release_map-requires-3 g c = record {
  held = left_held (edges_in c.args.second.now) (edges_in c.args.third.now) c.release_map-2.ensures.moved
      (left_held (edges_in c.args.first.now) (λ r. edges_in c.args.second.now r + edges_in c.args.third.now r) c.release_map.ensures.moved c.requires);
}
