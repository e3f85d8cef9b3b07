-- The lines of a set of known triples of Ids are the lines of the graph that it stands for.
use Rattle.std.specs.Prelude.{◌≡◌, ℕ, ◌||◌, true, List, [], ◌∷◌, ◌++◌}
use Rattle.std.specs.Prelude.{map as each}
use Rattle.std.proofs.Common.{refl, sym, ◌∙◌, ap, subst, append_assoc}
use Rattle.std.proofs.lemmas.List.{length-map}
use Rattle.std.specs.FinSet as set
use Rattle.std.specs.List.{list_any}
use Rattle.std.specs.Ordering.{eq_by_cmp, nat_cmp}
use Rattle.std.specs.Cmp.Lexicographic.{slice_cmp}
use Rattle.hypertrie_model.specs.IdSets.{IdSet}
use Rattle.hypertrie_model.specs.Sets.{has}
use Rattle.hypertrie_model.specs.SetLaws.{or_right, tied-itself}
use Rattle.rdf_model.specs.Terms.{Text, Triple}
use Rattle.rdf_model.specs.Graph.{Graph, triples_total, exact_triples}
use Rattle.rdf_model.specs.Texts.{dump_line}
use Rattle.rdf_model.specs.Dumps.{AreTriplesOf}
use Rattle.term_dict.specs.Dict.{Terms, IsOneToOne}
use Rattle.set_image.specs.ImageLaws.{image-from_list}
use Rattle.graph_image.specs.Images.{triple_at, graph_of, IsKnown, AreKnown}
use Rattle.graph_image.specs.ImageLaws.{tuples_total, tuples_exact, len-graph_of}
use Rattle.graph_lines.specs.Walks.{AddsTexts, line_behind}

module _ (terms : Terms) where
  line_known : (t : List ℕ) → IsKnown terms t → line_behind terms [] t ≡ dump_line (triple_at terms t)
  line_known t k = subst (λ u. line_behind terms [] u ≡ dump_line (triple_at terms u)) (sym k.is) (simp append_assoc)

  lines_known : (ts : List (List ℕ)) → ((t : List ℕ) → list_any (eq_by_cmp (slice_cmp nat_cmp) t) ts ≡ true → IsKnown terms t) → each (line_behind terms []) ts ≡ each dump_line (each (triple_at terms) ts)
  lines_known [] known = refl
  lines_known (t ∷ ts) known = λ i.
      line_known t (known t (ap (λ b. b || list_any (eq_by_cmp (slice_cmp nat_cmp) t) ts) (tied-itself tuples_total t))) i
      ∷ lines_known ts (λ u there. known u (or_right (eq_by_cmp (slice_cmp nat_cmp) u t) (list_any (eq_by_cmp (slice_cmp nat_cmp) u) ts) there)) i

-- the triples of a graph, with their lines
abbrev pub HasLines : Graph → List Text → Type 0
HasLines G lines = (triples : List Triple) × AreTriplesOf G triples × (lines ≡ each dump_line triples)

pub lines_read : (terms : Terms) → IsOneToOne terms → (H : IdSet) → AreKnown terms H → (before : Text) (old now : List Text) → before ≡ [] → old ≡ [] → AddsTexts (line_behind terms before) H old now → HasLines (graph_of terms H) now
lines_read terms one H known before old now nothing none added =
    let ts = added.0 in
    let members = added.1 in (
      each (triple_at terms) ts,
      record {
        all = sym (image-from_list tuples_total tuples_exact triples_total exact_triples (triple_at terms) ts) ∙ ap (graph_of terms) members.all;
        once = length-map ts (triple_at terms) ∙ members.once ∙ sym (len-graph_of terms one H known);
      },
      added.2 ∙ (λ i. none i ++ each (line_behind terms (nothing i)) ts) ∙ lines_known terms ts (λ t there. known t (ap (λ S. has S t) (sym members.all) ∙ set.contains-from_list tuples_total ts t ∙ there)),
    )
