use Rattle.std.proofs.Common.{◌∙◌, ap, sym, refl}
use Rattle.std.specs.Prelude.{Err}
use Rattle.rdf_term.specs.Seen.{lent_triple}
use Rattle.run_model.specs.Loads.{saying_of}
use Rattle.line_batch.proofs.BatchLemmas.{triple_full, triple_staged}
use Rattle.line_batch.proofs.batch.stage_triple.Goals as goal

pub returns-in-Ok-clause-triple : goal.returns-in-Ok-clause-triple
returns-in-Ok-clause-triple g c = λ s body n h.
    triple_staged s body c.args.store.now c.args.staged.now h (saying_of (lent_triple c.args.triple)) (lent_triple c.args.triple) refl c.stage.new.self c.stage.new.staged
    (λ full. let bad = sym c.in-Ok.is ∙ c.stage.ensures.full.1 full in let f : ⊥ = cc in f)
    c.stage.ensures.fits c.stage.ensures.before c.stage.ensures.graph c.in-Ok.ensures.staged

pub returns-in-Err-Full-clause-triple : goal.returns-in-Err-Full-clause-triple
returns-in-Err-Full-clause-triple g c = λ s body n h.
    triple_full s body c.args.store.now c.args.staged.now h (saying_of (lent_triple c.args.triple)) (lent_triple c.args.triple) refl c.args.number n
    (c.stage.ensures.full.0 (c.in-Err-Full.is ∙ ap Err c.in-Err-Full.field-0-is))
