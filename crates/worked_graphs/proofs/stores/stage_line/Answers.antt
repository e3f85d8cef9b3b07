use Rattle.std.proofs.Common.{◌∙◌, ap, Some, []}
use Rattle.rdf_term.specs.Seen.{lent_triple, lent_triples}
use Rattle.ntriples_model.specs.ProperLaws.{proper_line}
use Rattle.worked_graphs.proofs.stores.stage_line.Goals as goal

pub stage-requires-clause-proper : goal.stage-requires-clause-proper
stage-requires-clause-proper g c =
    proper_line c.texts_stand_for_their_terms.ensures c.lines_by_productions.ensures [] tt c.args.line.now (lent_triple c.in-Ok-Some.triple)
    (c.in-Ok-Some.ensures.said ∙ ap (λ o. Some (lent_triples o)) c.in-Ok-Some.field-0-is)
