use Rattle.std.proofs.Common.{ap, arith, length, is_some}
use Rattle.trie_context.proofs.WalkLemmas.{walked_edges, walked_length}
use Rattle.trie_context.proofs.RetainLemmas.{retained_none, retained_room, next_there, retained_next, retained_moved, retained_counts, retained_few}
use Rattle.trie_context.proofs.retain.retain_map.Goals as goal

pub loop-edge-init : goal.loop-edge-init
loop-edge-init g c =
    let m = c.args.edges.now in
    let all = c.walk-walk.result in
    let size = walked_length m all c.walk-walk.ensures.entries in (
      retained_none g.M.Mix.mixed c.args.tables.now c.requires.kept c.args.depth m all (walked_edges m all c.walk-walk.ensures.entries) size c.walk-walk.ensures.there,
      omega (arith, size),
      omega (arith, size, c.walk-walk.ensures.few),
    )

pub retain_edge-requires-clause-there : goal.retain_edge-requires-clause-there
retain_edge-requires-clause-there g c =
    next_there g.M.Mix.mixed c.args.tables.now c.loop-edge.tables c.args.depth c.args.edges.now c.loop-edge.walk c.loop-edge.invariant.0 _ c.next.new.self c.in-Some.ensures.next c.requires.there

pub retain_edge-requires-clause-room : goal.retain_edge-requires-clause-room
retain_edge-requires-clause-room g c =
    retained_room g.M.Mix.mixed c.args.tables.now c.loop-edge.tables c.args.depth c.args.edges.now c.loop-edge.walk c.loop-edge.invariant.0 _ c.next.new.self c.in-Some.ensures.next c.requires.room c.loop-edge.invariant.2

pub loop-edge-preserved : goal.loop-edge-preserved
loop-edge-preserved g c =
    let one = ap length c.in-Some.ensures.next in (
      retained_next g.M.Mix.mixed c.args.tables.now c.loop-edge.tables c.args.depth c.args.edges.now c.loop-edge.walk c.loop-edge.invariant.0 _ c.next.new.self c.in-Some.ensures.next
          c.retain_edge.new.tables c.retain_edge.ensures.moved c.retain_edge.ensures.counts c.retain_edge.ensures.stay,
      omega (arith, c.loop-edge.invariant.1, c.tick.ensures, one),
      c.loop-edge.invariant.2,
    )

pub returns-clause-moved : goal.returns-clause-moved
returns-clause-moved g c = retained_moved g.M.Mix.mixed c.args.tables.now c.loop-edge.tables c.args.depth c.args.edges.now c.loop-edge.walk c.loop-edge.invariant.0 (c.next.ensures.end (ap is_some c.in_default.is))

pub returns-clause-counts : goal.returns-clause-counts
returns-clause-counts g c = retained_counts g.M.Mix.mixed c.args.tables.now c.loop-edge.tables c.args.depth c.args.edges.now c.loop-edge.walk c.loop-edge.invariant.0 (c.next.ensures.end (ap is_some c.in_default.is))

pub returns-clause-few : goal.returns-clause-few
returns-clause-few g c = retained_few g.M.Mix.mixed c.args.tables.now c.loop-edge.tables c.args.depth c.args.edges.now c.loop-edge.walk c.loop-edge.invariant.0 c.loop-edge.invariant.2

pub returns-clause-ticks : goal.returns-clause-ticks
returns-clause-ticks g c = let none = ap length (c.next.ensures.end (ap is_some c.in_default.is)) in omega (arith, c.loop-edge.invariant.1, none)
