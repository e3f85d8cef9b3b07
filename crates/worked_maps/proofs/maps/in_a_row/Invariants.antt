use Rattle.edge_map.specs.Entries.{KeysRise}
use Rattle.edge_map.proofs.ChunkLemmas.{Below}
use Rattle.worked_maps.proofs.maps.in_a_row.Given as goal

abbrev pub invariant-loop-key : goal.invariant-loop-key
invariant-loop-key l = KeysRise l.changes.items × Below l.key l.changes.items
