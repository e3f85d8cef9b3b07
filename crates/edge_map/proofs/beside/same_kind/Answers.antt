use Rattle.std.proofs.Common.{ap, arith}
use Rattle.std.proofs.lemmas.Slice.Eq.{slice_eq-Decides}
use Rattle.edge_map.specs.Packing.{edges_of}
use Rattle.edge_map.proofs.SameLemmas.{same_keys, same_rows, told_of}
use Rattle.edge_map.proofs.beside.same_kind.Goals as goal

pub returns-in-Keys-Keys : goal.returns-in-Keys-Keys
returns-in-Keys-Keys c keys =
    told_of _ _ _ _ _ (ap (edges_of keys) c.in-Keys-Keys.is-0) (ap (edges_of keys) c.in-Keys-Keys.is-1)
    (same_keys c.in-Keys-Keys.keys.items c.in-Keys-Keys.others.items c.eq.result (slice_eq-Decides (λ a b. grind arith) _ _ _ c.eq.ensures))

pub returns-in-Rows-Rows : goal.returns-in-Rows-Rows
returns-in-Rows-Rows c keys =
    told_of _ _ _ _ _ (ap (edges_of keys) c.in-Rows-Rows.is-0) (ap (edges_of keys) c.in-Rows-Rows.is-1)
    (same_rows c.in-Rows-Rows.rows.items c.in-Rows-Rows.others.items c.eq-in-Rows-Rows.result (slice_eq-Decides (λ a b. grind arith) _ _ _ c.eq-in-Rows-Rows.ensures))
