use Rattle.std.proofs.lemmas.Slice.Eq.{slice_eq-Decides}
use Rattle.std.proofs.Common.{arith, sym}
use Rattle.edge_map.specs.Packing.{edges_of}
use Rattle.edge_map.proofs.SameLemmas.{same_zipped, other_zipped, told_of}
use Rattle.edge_map.proofs.packed.Packed.same.Goals as goal

pub returns-then-edges : goal.returns-then-edges
returns-then-edges c =
    told_of _ _ _ _ _ (sym c.self.view_is) (sym c.other.view_is)
    (same_zipped c.self.inside.keys.items c.other.inside.keys.items (λ keys. edges_of keys c.self.inside.beside) (λ keys. edges_of keys c.other.inside.beside) c.eq.result
    (slice_eq-Decides (λ a b. grind arith) _ _ _ c.eq.ensures) (λ keys. (c.in_ok-edges.ensures keys).0 c.if-edges.true) c.self.invariant c.other.invariant)

pub returns-else-edges : goal.returns-else-edges
returns-else-edges c =
    told_of _ _ _ _ _ (sym c.self.view_is) (sym c.other.view_is)
    (other_zipped c.self.inside.keys.items c.other.inside.keys.items (λ keys. edges_of keys c.self.inside.beside) (λ keys. edges_of keys c.other.inside.beside) c.in_ok-edges.edges
    c.if-edges.false (λ keys. c.in_ok-edges.ensures keys) c.self.invariant c.other.invariant)
