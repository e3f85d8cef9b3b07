-- The empty store.
use Rattle.std.proofs.Common.{◌≡◌, ◌∙◌, ℕ, None, Some, false, true, sym, ap, arith}
use Rattle.std.specs.Ordering.{nat_cmp}
use Rattle.std.specs.Cmp.Lexicographic.{slice_cmp}
use Rattle.std.specs.FinSet as set
use Rattle.std.specs.FinMap as map
use Rattle.rdf_model.specs.Terms.{Triple}
use Rattle.rdf_model.specs.Graph.{triple_cmp}
use Rattle.term_dict.specs.Dict.{Terms}
use Rattle.trie_context.specs.declared.root.Root.TheVariants.{Empty}
use Rattle.trie_context.specs.Rows.{no_tables, row_of}
use Rattle.trie_context.specs.Holds.{holds_of, count_of}
use Rattle.trie_context.specs.RowLaws.{empty_at}
use Rattle.graph_image.specs.Images.{graph_of, terms_of, HasExactly}
use Rattle.graph_image.specs.ImageLaws.{graph_of-empty}
use Rattle.graph_image.specs.TermLaws.{term_in}
use Rattle.graph_store.specs.StoreState.{IsSoundStore}

no_holds : (d r : ℕ) → holds_of no_tables d r ≡ 0
no_holds d r =
    let n : count_of (row_of no_tables d r) ≡ 0 = ap count_of (ap (λ m. map.get m r) (empty_at d) ∙ map.get-empty nat_cmp r) in
    omega (arith, n)

none_in : (t : Triple) → set.contains (set.empty {R = triple_cmp}) t ≡ true → ⊥
none_in t e = let f : false ≡ true = sym (set.contains-empty triple_cmp t) ∙ e in cc

pub empty_sound : (terms : Terms) → IsSoundStore terms no_tables Empty 10000000
empty_sound terms = record {
  only = no_holds;
  known = λ t e. absurd (let f : false ≡ true = sym (set.contains-empty (slice_cmp nat_cmp) t) ∙ e in let g : ⊥ = cc in g);
  proper = λ t e. absurd (none_in t (ap (λ G. set.contains G t) (sym (graph_of-empty terms)) ∙ e));
  few = let n = set.len-empty (slice_cmp nat_cmp) in omega (arith, n);
  limit = omega arith;
}

pub empty_settled : (terms : Terms) → terms ≡ map.empty → HasExactly terms (terms_of (graph_of terms set.empty))
empty_settled terms none = record {
  onto = λ t e.
      let at = term_in (graph_of terms set.empty) t e in
      absurd (none_in at.triple (ap (λ G. set.contains G at.triple) (sym (graph_of-empty terms)) ∙ at.there));
  into = λ id t e. absurd (let f : None ≡ Some t = sym (ap (λ m. map.get m id) none ∙ map.get-empty nat_cmp id) ∙ e in let g : ⊥ = cc in g);
}
