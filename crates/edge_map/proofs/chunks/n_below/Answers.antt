use Rattle.std.proofs.Common.{rules, arith, get_or, []}
use Rattle.std.proofs.Math.Dec.{ltb}
use Rattle.std.proofs.lemmas.List.Sorted.{IsPartitionPoint-from_clause}
use Rattle.std.specs.List.Sorted.{IsPartitionedBy}
use Rattle.edge_map.specs.Chunks.{first_key}
use Rattle.edge_map.proofs.PlaceLemmas.{ltb_true, ltb_is, ltb_not}
use Rattle.edge_map.proofs.ChunkLemmas.{some_of, first_parts, begin_below}
use Rattle.edge_map.proofs.chunks.n_below.Goals as goal

pub returns-then-is_above : goal.returns-then-is_above
returns-then-is_above c = begin_below c.args.from.0 c.args.near c.args.chunks.now (some_of _ c.requires.sized) c.requires.rising c.if-near-chunks.true (c.last_is_below.ensures c.if-last_is_below.true) (c.is_above.ensures c.if-is_above.true)

pub returns : goal.returns
returns c =
    let cs = c.args.chunks.now in
    let from = c.args.from.0 in
    let parted : IsPartitionedBy (λ e. ltb (first_key e) from) cs = λ i j d le lt before. ltb_true _ _ (let u = first_parts 0 cs (some_of _ c.requires.sized) c.requires.rising i j d le lt in let v = ltb_is (first_key (get_or cs j d)) from before in omega arith) in
    let point = IsPartitionPoint-from_clause (λ e. ltb (first_key e) from) cs _ c.partition_point.ensures.partitioned parted (λ a r q k. search rules) in
    record {
      within = c.partition_point.ensures.bound;
      before = λ k lt. ltb_is _ _ (point.0 k [] (let b = c.partition_point.ensures.bound in omega (arith, lt, b)) lt);
      behind = λ lt. ltb_not _ _ (point.1 c.partition_point.result [] (omega arith) lt);
    }
