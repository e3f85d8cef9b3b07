use Rattle.rdf_model.specs.Graph.{triples_total, exact_triples}
use Rattle.rdf_model.specs.MemberLaws.{sorted_texts_only}
use Rattle.rdf_model.specs.Texts.{dump_line}
use Rattle.rdf_model.proofs.dumps_by_sorting.Goals as goal

pub returns : goal.returns
returns c = sorted_texts_only triples_total exact_triples dump_line
