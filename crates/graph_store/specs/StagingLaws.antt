-- Nothing staged fits a settled store, and nothing is marked in it.
use Rattle.std.specs.Prelude.{◌≡◌, ◌≤◌, not, Bool, true, false, refl}
use Rattle.std.proofs.Common.{sym, ◌∙◌, ap, subst, arith}
use Rattle.std.specs.Ordering.{nat_cmp}
use Rattle.std.specs.Cmp.Lexicographic.{slice_cmp}
use Rattle.std.specs.FinSet as set
use Rattle.hypertrie_model.specs.SetInduction.{union_empty}
use Rattle.rdf_model.specs.Graph.{triple_cmp, triples_total, exact_triples}
use Rattle.graph_image.specs.Images.{terms_of, HasExactly}
use Rattle.graph_image.specs.ImageLaws.{graph_of-empty}
use Rattle.graph_image.specs.DictLaws.{without-none}
use Rattle.graph_store.specs.StoreState.{StoreState, graph, IsSettled, most_triples}
use Rattle.graph_store.specs.Staging.{nothing_staged, staged_graph, Fits, before, AreMarked}

nothing_there : (b : Bool) → b ≡ false → b ≡ true → ⊥
nothing_there b e f = let g : false ≡ true = sym e ∙ f in cc

none_staged : (s : StoreState) → staged_graph s nothing_staged ≡ set.empty
none_staged s = graph_of-empty s.dict

same_graph : (s : StoreState) → set.union (graph s) (staged_graph s nothing_staged) ≡ graph s
same_graph s = ap (set.union (graph s)) (none_staged s) ∙ union_empty triples_total exact_triples (graph s)

pub fits_nothing : (s : StoreState) → IsSettled s → set.len (graph s) ≤ most_triples → Fits s nothing_staged
fits_nothing s settled few = record {
  known = λ t e. absurd (nothing_there _ (set.contains-empty (slice_cmp nat_cmp) t) e);
  proper = λ t e. absurd (nothing_there _ (ap (λ G. set.contains G t) (none_staged s) ∙ set.contains-empty triple_cmp t) e);
  new = λ t e. absurd (nothing_there _ (set.contains-empty (slice_cmp nat_cmp) t) e);
  exactly = subst (λ G. HasExactly s.dict (terms_of G)) (sym (same_graph s)) settled;
  added = λ id t e. sym (ap not (settled.into id t e));
  there = λ id e. absurd (nothing_there false refl e);
  once = tt;
  few =
      let n = ap set.len (none_staged s) ∙ set.len-empty triple_cmp in
      omega (arith, n, few);
}

pub before_nothing : (s : StoreState) → before s nothing_staged ≡ s
before_nothing s i = record { dict = without-none s.dict i; tables = s.tables; root = s.root; max = s.max }

pub marked_nothing : (s : StoreState) → AreMarked s set.empty
marked_nothing s t e = absurd (nothing_there _ (set.contains-empty (slice_cmp nat_cmp) t) e)
