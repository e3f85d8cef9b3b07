use Rattle.std.proofs.Common.{refl}
use Rattle.rdf_term.specs.Seen.{lent_triple}
use Rattle.run_model.specs.Loads.{saying_of}
use Rattle.line_batch.proofs.BatchLemmas.{triple_marked}
use Rattle.line_batch.proofs.batch.mark_triple.Goals as goal

pub returns-in-Ok-clause-triple : goal.returns-in-Ok-clause-triple
returns-in-Ok-clause-triple g c = λ number body n h.
    triple_marked c.args.store.now body c.args.taken.now h (saying_of (lent_triple c.args.triple)) (lent_triple c.args.triple) c.mark.new.taken refl (c.mark.ensures.there h.there) c.in-Ok.ensures.marked
