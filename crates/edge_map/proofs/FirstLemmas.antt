-- The first entry of a list.
use Rattle.std.specs.Prelude.{◌≡◌, ◌<◌, List, [], ◌∷◌, length}
use Rattle.std.proofs.Common.{ap, arith, get_or}
use Rattle.trie_depth.specs.declared.id.Id.{Id}
use Rattle.edge_map.specs.declared.edge.Edge.{Edge}
use Rattle.edge_map.specs.Chunks.{first_key}

-- the first entry has the least key
pub first_at : (es : List (Id × Edge)) (x : Id × Edge) → 0 < length es → ((d : Id × Edge) → x ≡ get_or es 0 d) → x.0.0 ≡ first_key es
first_at [] x some is = absurd (omega arith)
first_at (e ∷ es) x some is = ap (λ y. y.0.0) (is e)
