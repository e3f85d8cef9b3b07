use Rattle.std.proofs.lemmas.Cmp.{nat_cmp_total}
use Rattle.std.specs.FinSet.{nat_cmp-IsAntisymmetric}
use Rattle.rdf_model.specs.Graph.{terms_total, exact_terms}
use Rattle.tuple_image.specs.RowImages.{reads_shape}
use Rattle.graph_shape.proofs.shapes_are_read.Goals as goal

pub returns : goal.returns
returns c known term one H over = reads_shape nat_cmp_total nat_cmp-IsAntisymmetric terms_total exact_terms term known one H over
