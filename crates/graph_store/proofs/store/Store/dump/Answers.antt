use Rattle.std.proofs.Common.{◌≡◌, IfOk, subst}
use Rattle.std.proofs.lemmas.Result.{IfOk-weaker}
use Rattle.rdf_model.specs.Texts.{dump_line}
use Rattle.rdf_model.specs.Graph.{Graph, triples_total, exact_triples}
use Rattle.rdf_model.specs.Dumps.{dump_lines}
use Rattle.rdf_model.specs.MemberLaws.{sorted_texts_only}
use Rattle.graph_image.specs.Images.{graph_of}
use Rattle.graph_store.specs.StoreState.{graph}
use Rattle.graph_store.proofs.store.Store.dump.Goals as goal

pub returns-clause-value : goal.returns-clause-value
returns-clause-value g c = subst (λ (G : Graph). IfOk c.dump.result (λ lines. lines ≡ dump_lines G)) (λ j. graph_of (c.view.ensures.terms j) (c.view.ensures.triples j)) c.dump.ensures

pub returns-clause-sorted : goal.returns-clause-sorted
returns-clause-sorted g c =
    IfOk-weaker c.dump.result _ _ (λ lines e. (sorted_texts_only triples_total exact_triples dump_line (graph c.args.self.now) lines).1 e) (returns-clause-value g c)
