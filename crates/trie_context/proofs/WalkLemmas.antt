-- The edges that are left on a walk along a map.
use Rattle.std.specs.Prelude.{◌≡◌, ℕ, suc, ◌+◌, List, [], ◌∷◌, length, refl}
use Rattle.std.proofs.Common.{◌∙◌, ap, subst, arith}
use Rattle.std.specs.List.{All}
use Rattle.std.specs.FinMap as map
use Rattle.hypertrie_model.specs.Folds.{combined, sum_over, fold_over}
use Rattle.trie_depth.specs.declared.id.Id.{Id}
use Rattle.edge_map.specs.declared.edge.Edge.{Edge}
use Rattle.edge_map.specs.Edges.{Edges}
use Rattle.edge_map.specs.Entries.{numbered}
use Rattle.trie_node.specs.Sets.{leads, edges_in}

-- how many edges of the entries lead to row r
abbrev pub edges_along : List (Id × Edge) → ℕ → ℕ
edges_along [] r = 0
edges_along (e ∷ es) r = leads e.1 r + edges_along es r

along_sum : (es : List (Id × Edge)) (r : ℕ) → combined (λ a b. a + b) 0 (λ _ e. leads e r) (numbered es) ≡ edges_along es r
along_sum [] r = refl
along_sum (e ∷ es) r = ap (λ n. leads e.1 r + n) (along_sum es r)

-- the whole walk has the edges of the map
pub walked_edges : (m : Edges) (es : List (Id × Edge)) → map.entries m ≡ numbered es → (r : ℕ) → edges_in m r ≡ edges_along es r
unfolding sum_over fold_over
walked_edges m es is r = ap (combined (λ a b. a + b) 0 (λ _ e. leads e r)) is ∙ along_sum es r

numbered_length : (es : List (Id × Edge)) → length (numbered es) ≡ length es
numbered_length [] = refl
numbered_length (e ∷ es) = ap suc (numbered_length es)

pub walked_length : (m : Edges) (es : List (Id × Edge)) → map.entries m ≡ numbered es → map.len m ≡ length es
walked_length m es is = map.len-entries m ∙ ap length is ∙ numbered_length es

-- what holds of each entry holds of the next one, and of each behind it
module _ (P : Id × Edge → Type 0) (es rest : List (Id × Edge)) (e : Id × Edge) (next : es ≡ e ∷ rest) (all : All P es) where
  here : All P (e ∷ rest)
  here = subst (All P) next all

  pub next_has : P e
  next_has = here 0 e (omega arith)

  pub rest_have : All P rest
  rest_have k d lt = here (suc k) d (omega arith)
