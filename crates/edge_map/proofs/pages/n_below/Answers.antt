use Rattle.std.proofs.Common.{rules, arith, get_or, subst, []}
use Rattle.std.proofs.Math.Dec.{ltb}
use Rattle.std.proofs.lemmas.List.Sorted.{IsPartitionPoint-from_clause}
use Rattle.std.specs.List.Sorted.{IsPartitionedBy}
use Rattle.edge_map.specs.Entries.{KeysRise}
use Rattle.edge_map.specs.Chunks.{first_key}
use Rattle.edge_map.specs.Pages.{by_page}
use Rattle.edge_map.proofs.PlaceLemmas.{ltb_is, ltb_not}
use Rattle.edge_map.proofs.ChunkLemmas.{begin_below}
use Rattle.edge_map.proofs.PageLemmas.{length_by, flat_paged, first_by, some_by, page_parts}
use Rattle.edge_map.proofs.pages.n_below.Goals as goal

pub returns-then-is_above : goal.returns-then-is_above
returns-then-is_above c =
    let ps = c.args.pages.now in
    let size = length_by ps in
    let within = c.if-near-pages.true in
    begin_below c.args.from.0 c.args.near (by_page ps) (some_by ps c.requires.sized c.requires.full) (subst KeysRise (flat_paged ps) c.requires.rising) (omega (arith, within, size)) (c.last_is_below.ensures c.if-last_is_below.true) (λ lt. c.is_above.ensures c.if-is_above.true (omega (arith, lt, size)))

pub returns : goal.returns
returns c =
    let ps = c.args.pages.now in
    let from = c.args.from.0 in
    let size = length_by ps in
    let parted : IsPartitionedBy (λ p. ltb (first_key (get_or p 0 [])) from) ps = page_parts from ps c.requires.sized c.requires.full c.requires.rising in
    let point = IsPartitionPoint-from_clause (λ p. ltb (first_key (get_or p 0 [])) from) ps _ c.partition_point.ensures.partitioned parted (λ a r q k. search rules) in
    record {
      within = let b = c.partition_point.ensures.bound in omega (arith, b, size);
      before = λ k lt. let key = first_by ps k c.requires.sized in let below = ltb_is _ _ (point.0 k [] (let b = c.partition_point.ensures.bound in omega (arith, lt, b)) lt) in omega (arith, key, below);
      behind = λ lt. let key = first_by ps c.partition_point.result c.requires.sized in let above = ltb_not _ _ (point.1 c.partition_point.result [] (omega arith) (omega (arith, lt, size))) in omega (arith, key, above);
    }
