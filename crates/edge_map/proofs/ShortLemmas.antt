-- Maps of at most one chunk.
use Rattle.std.specs.Prelude.{◌≡◌, ℕ, ◌+◌, ◌<◌, ◌≤◌, List, [], ◌∷◌, ◌++◌, length, refl}
use Rattle.std.proofs.Common.{sym, ◌∙◌, ap, subst, arith, get_or, drop}
use Rattle.std.proofs.lemmas.List.{append-nil}
use Rattle.trie_depth.specs.declared.id.Id.{Id}
use Rattle.edge_map.specs.declared.edge.Edge.{Edge}
use Rattle.edge_map.specs.Entries.{KeysRise}
use Rattle.edge_map.specs.Chunks.{flat, chunk_of, AreSized, IsMap}
use Rattle.edge_map.proofs.ChunkLemmas.{drop_here}

pub flat_short : (es : List (Id × Edge)) → flat (chunk_of es) ≡ es
flat_short [] = refl
flat_short (e ∷ es) = append-nil (e ∷ es)

-- the entries of a map of at most one chunk rise, and are at most 256
pub short_rises : (es : List (Id × Edge)) (cs : List (List (Id × Edge))) → chunk_of es ≡ cs → IsMap cs → KeysRise es
short_rises es cs is map = subst KeysRise (ap flat (sym is) ∙ flat_short es) map.rising

sized_short : (es : List (Id × Edge)) → AreSized (chunk_of es) → length es ≤ 256
sized_short [] s = omega arith
sized_short (e ∷ es) s = s.1

pub short_is_few : (es : List (Id × Edge)) (cs : List (List (Id × Edge))) → chunk_of es ≡ cs → IsMap cs → length es ≤ 256
short_is_few es cs is map = sized_short es (subst AreSized (sym is) map.chunks.sized)

-- the next entry of what is left of one list before another
pub next_here : {X : Type 0} (x : X) (es rest : List X) (i : ℕ) → i < length es → ((d : X) → x ≡ get_or es i d) → drop i es ++ rest ≡ x ∷ (drop (i + 1) es ++ rest)
next_here x es rest i lt item =
    let own = drop_here x es [] i lt item in
    let plain = append-nil es in
    ap (λ xs. xs ++ rest) (ap (drop i) (sym plain) ∙ own ∙ ap (λ xs. x ∷ drop (i + 1) xs) plain)
