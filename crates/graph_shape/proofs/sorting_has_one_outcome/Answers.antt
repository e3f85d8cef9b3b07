use Rattle.std.proofs.Common.{◌++◌, ap, sym, codes, decimal}
use Rattle.std.proofs.lemmas.Cmp.{lists_total}
use Rattle.std.specs.FinSet.{slice_cmp-IsAntisymmetric}
use Rattle.hypertrie_model.specs.ShapeRows.{rows_total, rows_exact}
use Rattle.rdf_model.specs.Graph.{terms_total, exact_terms}
use Rattle.graph_shape.specs.GraphShapes.{member_text, tabbed, depth_name, row_line, line_rows, shape_lines}
use Rattle.rdf_model.specs.MemberLaws.{members_sorted}
use Rattle.graph_shape.proofs.sorting_has_one_outcome.Goals as goal

pub returns-clause-lines : goal.returns-clause-lines
unfolding shape_lines
returns-clause-lines c G rows lines members moved sorted = members_sorted (rows_total terms_total exact_terms) (rows_exact terms_total exact_terms) row_line (line_rows G) rows lines members moved sorted

pub returns-clause-row : goal.returns-clause-row
returns-clause-row c row members texts are moved sorted =
    ap (λ ts. depth_name row.depth ++ codes "\t" ++ decimal row.count ++ tabbed ts) (sym (members_sorted (lists_total terms_total) (slice_cmp-IsAntisymmetric exact_terms) member_text row.tuples members texts are moved sorted))
