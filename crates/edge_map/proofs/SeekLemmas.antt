-- The first entry whose key isn't below another, among entries that are gone over one by one.
use Rattle.std.specs.Prelude.{◌≡◌, ℕ, ◌+◌, ◌<◌, ◌≤◌, cond, List, length, map, None, Some}
use Rattle.std.proofs.Common.{sym, ◌∙◌, ap, drop, get_or}
use Rattle.std.proofs.lemmas.List.{drop_more, drop_all}
use Rattle.trie_depth.specs.declared.id.Id.{Id}
use Rattle.edge_map.specs.declared.edge.Edge.{Edge}
use Rattle.edge_map.specs.Chunks.{seek_in}
use Rattle.edge_map.proofs.PlaceLemmas.{ltb_true, ltb_false}

module _ {X : Type 0} (f : X → Id × Edge) (xs : List X) (from i : ℕ) (d : X) where
  pub seek_here : i < length xs → from ≤ (f (get_or xs i d)).0.0 → seek_in from (map f xs) ≡ seek_in from (map f (drop i xs)) → Some (f (get_or xs i d)) ≡ seek_in from (map f xs)
  seek_here lt le so_far = sym (so_far ∙ ap (λ ys. seek_in from (map f ys)) (drop_more xs i d lt) ∙ ap (λ b. cond b (seek_in from (map f (drop (i + 1) xs))) (Some (f (get_or xs i d)))) (ltb_false (f (get_or xs i d)).0.0 from le))

  pub seek_on : i < length xs → (f (get_or xs i d)).0.0 < from → seek_in from (map f xs) ≡ seek_in from (map f (drop i xs)) → seek_in from (map f xs) ≡ seek_in from (map f (drop (i + 1) xs))
  seek_on lt below so_far = so_far ∙ ap (λ ys. seek_in from (map f ys)) (drop_more xs i d lt) ∙ ap (λ b. cond b (seek_in from (map f (drop (i + 1) xs))) (Some (f (get_or xs i d)))) (ltb_true (f (get_or xs i d)).0.0 from below)

  pub seek_end : length xs ≤ i → seek_in from (map f xs) ≡ seek_in from (map f (drop i xs)) → None ≡ seek_in from (map f xs)
  seek_end le so_far = sym (so_far ∙ ap (λ ys. seek_in from (map f ys)) (drop_all i xs le))
