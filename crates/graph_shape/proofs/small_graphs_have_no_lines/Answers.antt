use Rattle.std.proofs.Common.{◌≡◌, ◌∙◌, ◌<◌, [], refl, sym, ap, arith}
use Rattle.std.proofs.lemmas.Cmp.{lists_total}
use Rattle.std.specs.FinSet as set
use Rattle.std.specs.FinSet.{slice_cmp-IsAntisymmetric}
use Rattle.hypertrie_model.specs.Shapes.{row_cmp, shape}
use Rattle.hypertrie_model.specs.ShapeRows.{rows_total, rows_exact, in_shape}
use Rattle.hypertrie_model.specs.SetLaws.{and_both}
use Rattle.hypertrie_model.specs.Members.{contains-kept, no_members}
use Rattle.rdf_model.specs.Terms.{Triple}
use Rattle.rdf_model.specs.Graph.{Graph, term_cmp, terms_total, exact_terms, triples_total, exact_triples}
use Rattle.set_image.specs.OneToOneLaws.{len-image}
use Rattle.rdf_model.specs.Sorting.{sorted_texts}
use Rattle.rdf_model.specs.MemberLaws.{members_in_order}
use Rattle.graph_shape.specs.GraphShapes.{tuple_of, tuples_of, row_line, has_line, line_rows, shape_lines}
use Rattle.graph_shape.proofs.small_graphs_have_no_lines.Goals as goal

-- as many tuples as triples
as_many : (G : Graph) → set.len (tuples_of G) ≡ set.len G
as_many G = len-image triples_total exact_triples (lists_total terms_total) (slice_cmp-IsAntisymmetric exact_terms) tuple_of G (λ t _ u _ same. by u t same) where
  by : (u t : Triple) → tuple_of u ≡ tuple_of t → u ≡ t
  by u t same =
      let s : u.s ≡ t.s = cc in
      let p : u.p ≡ t.p = cc in
      let o : u.o ≡ t.o = cc in
      λ i. record { s = s i; p = p i; o = o i }

no_rows : (G : Graph) → set.len G < 2 → line_rows G ≡ set.empty
no_rows G few = no_members (rows_total terms_total exact_terms) (rows_exact terms_total exact_terms) (line_rows G) (λ row there.
    let of_shape = (and_both (set.contains (shape term_cmp (tuples_of G)) row) (has_line row) (sym (contains-kept (rows_total terms_total exact_terms) (rows_exact terms_total exact_terms) (shape term_cmp (tuples_of G)) has_line row) ∙ there)).0 in
    let large = (in_shape terms_total exact_terms (tuples_of G) row.depth row.tuples row.count of_shape).0 in
    omega (arith, as_many G))

pub returns : goal.returns
unfolding shape_lines
returns c G few =
    ap (sorted_texts row_line) (no_rows G few)
    ∙ sym (members_in_order (rows_total terms_total exact_terms) (rows_exact terms_total exact_terms) row_line set.empty [] (record { all = refl; once = sym (set.len-empty (row_cmp term_cmp)) }))
