-- A walk over the entries of a map of edges.
use Rattle.std.specs.Prelude.{◌≡◌, ◌≢◌, ℕ, suc, ◌+◌, ◌<◌, ◌≤◌, ◌&&◌, Bool, true, false, cond, T, List, [], ◌∷◌, refl, None, Some}
use Rattle.std.proofs.Common.{◌∙◌, ap, subst, arith}
use Rattle.std.specs.declared.cmp.Ordering.{Ordering}
use Rattle.std.specs.declared.cmp.Ordering.TheVariants.{Less, Equal, Greater}
use Rattle.std.specs.Cmp.{nat_cmp_total as total, ranked}
use Rattle.std.specs.Ordering.{nat_cmp, is_lt}
use Rattle.std.specs.FinMap as map
use Rattle.std.specs.FinMap.{is_sorted, find, nat_cmp-IsAntisymmetric as exact}
use Rattle.std.specs.FinMap.Entries.{below_all}
use Rattle.hypertrie_model.specs.IdSets.{IdSet}
use Rattle.hypertrie_model.specs.SetLaws.{tied-itself, tied-apart}
use Rattle.hypertrie_model.specs.Unions.{union_over}
use Rattle.trie_depth.specs.declared.id.Id.{Id}
use Rattle.edge_map.specs.declared.edge.Edge.{Edge}
use Rattle.edge_map.specs.Edges.{Edges}
use Rattle.edge_map.specs.Entries.{RiseFrom, numbered}
use Rattle.rdf_model.specs.Terms.{Text}
use Rattle.graph_lines.specs.Walks.{AddsTexts}
use Rattle.graph_lines.proofs.WalkLemmas.{Walked, walked_none}
use Rattle.graph_lines.proofs.MapLemmas.{map_done, map_next}

-- ---- keys that rise

split : (a b : Bool) → T (a && b) → T a × T b
split true b p = (tt, p)
split false b p = absurd p

lower : (x y : ℕ) → T (is_lt (nat_cmp x y)) → suc x ≤ y
lower x y h = by (nat_cmp x y) refl h where
  by : (r : Ordering) → r ≡ nat_cmp x y → T (is_lt r) → suc x ≤ y
  by Less e t = let lt : x < y = ranked x y Less e in omega arith
  by Equal e t = absurd t
  by Greater e t = absurd t

rise_behind : (k : ℕ) (es : List (Id × Edge)) → T (below_all nat_cmp k (numbered es)) → T (is_sorted nat_cmp (numbered es)) → RiseFrom (suc k) es
rise_behind k [] below sorted = tt
rise_behind k (e ∷ es) below sorted =
    let first = split _ _ below in
    let rest = split _ _ sorted in
    (lower k e.0.0 first.0, rise_behind e.0.0 es rest.0 rest.1)

rise : (es : List (Id × Edge)) → T (is_sorted nat_cmp (numbered es)) → RiseFrom 0 es
rise [] sorted = tt
rise (e ∷ es) sorted = let rest = split _ _ sorted in (omega arith, rise_behind e.0.0 es rest.0 rest.1)

found_skip : (e : Id × Edge) (es : List (Id × Edge)) (k : ℕ) → k ≢ e.0.0 → find nat_cmp k (numbered (e ∷ es)) ≡ find nat_cmp k (numbered es)
found_skip e es k ne = ap (λ b. cond b (Some e.1) (find nat_cmp k (numbered es))) (tied-apart exact k e.0.0 ne)

found_below : (from : ℕ) (es : List (Id × Edge)) (k : ℕ) → RiseFrom from es → k < from → find nat_cmp k (numbered es) ≡ None
found_below from [] k h lt = refl
found_below from (e ∷ es) k h lt = found_skip e es k (λ is. omega (arith, h.0)) ∙ found_below (suc e.0.0) es k h.1 (omega (arith, h.0))

-- ---- what is left of a map

-- from this key on the map has these entries, and no other
pub record AreLeft (m : Edges) (from : ℕ) (es : List (Id × Edge)) : Type 0 where
  pub rising : RiseFrom from es
  pub agrees : (k : ℕ) → from ≤ k → map.get m k ≡ find nat_cmp k (numbered es)

all_left : (m : Edges) (es : List (Id × Edge)) → map.entries m ≡ numbered es → AreLeft m 0 es
all_left m es is = record {
  rising = rise es (subst (λ xs. T (is_sorted nat_cmp xs)) is (map.entries_sorted m));
  agrees = λ k le. map.get-entries m k ∙ ap (find nat_cmp k) is;
}

module _ (m : Edges) (from : ℕ) (e : Id × Edge) (es : List (Id × Edge)) (left : AreLeft m from (e ∷ es)) where
  first_there : map.get m e.0.0 ≡ Some e.1
  first_there = left.agrees e.0.0 left.rising.0 ∙ ap (λ b. cond b (Some e.1) (find nat_cmp e.0.0 (numbered es))) (tied-itself total e.0.0)

  first_least : (q : ℕ) → from ≤ q → q < e.0.0 → map.get m q ≡ None
  first_least q le lt = left.agrees q le ∙ found_skip e es q (λ is. omega arith) ∙ found_below (suc e.0.0) es q left.rising.1 (omega arith)

  rest_left : AreLeft m (e.0.0 + 1) es
  rest_left = record {
    rising = subst (λ n. RiseFrom n es) (let is : suc e.0.0 ≡ e.0.0 + 1 = omega arith in is) left.rising.1;
    agrees = λ k le. left.agrees k (omega (arith, left.rising.0)) ∙ found_skip e es k (λ is. omega arith);
  }

-- ---- the texts of the entries that were passed

module _ (m : Edges) (f : Edge → IdSet) (text : List ℕ → Text) (old : List Text) where
  -- these entries are left, and the texts of the others' tuples are there
  abbrev pub WalkedTo : List (Id × Edge) → List Text → Type 0
  WalkedTo es now = (from : ℕ) × AreLeft m from es × Walked text (union_over m f) from old now

  pub walk_none : (es : List (Id × Edge)) → map.entries m ≡ numbered es → WalkedTo es old
  walk_none es is = (0, all_left m es is, walked_none text (union_over m f) old)

  pub walk_done : (es : List (Id × Edge)) (now : List Text) → es ≡ [] → WalkedTo es now → AddsTexts text (union_over m f) old now
  walk_done es now none walked = map_done m f text old now walked.0 (λ k le. walked.1.agrees k le ∙ ap (λ xs. find nat_cmp k (numbered xs)) none) walked.2

  module _ (all es : List (Id × Edge)) (e : Id × Edge) (next : all ≡ e ∷ es) (mid : List Text) (walked : WalkedTo all mid) where
    left : AreLeft m walked.0 (e ∷ es)
    left = subst (AreLeft m walked.0) next walked.1

    pub walk_there : map.get m e.0.0 ≡ Some e.1
    walk_there = first_there m walked.0 e es left

    pub walk_next : (under : List ℕ → Text) → ((t : List ℕ) → under t ≡ text (e.0.0 ∷ t)) → (now : List Text) → AddsTexts under (f e.1) mid now → WalkedTo es now
    walk_next under same now adds = (
      e.0.0 + 1,
      rest_left m walked.0 e es left,
      map_next m f text under e.0.0 e.1 walk_there same walked.0 left.rising.0 (first_least m walked.0 e es left) old mid now walked.2 adds,
    )
