use Rattle.std.proofs.Common.{◌∙◌, sym, arith, below_more, length}
use Rattle.std.proofs.lemmas.List.Sums.{prefix_len_is}
use Rattle.rdf_term.specs.Body.{fits_of}
use Rattle.rdf_term.proofs.body.run_len_by_bytes.Goals as goal

pub returns-then-not-fits : goal.returns-then-not-fits
returns-then-not-fits c =
    sym (prefix_len_is (fits_of c.args.form) c.args.bytes.now c.loop-i.i 0 (omega arith) c.loop-i.invariant (λ here. sym c.fits.ensures ∙ c.if-not-fits.true))

pub returns : goal.returns
returns c =
    sym (prefix_len_is (fits_of c.args.form) c.args.bytes.now (length c.args.bytes.now) 0 (omega arith) (λ k h. c.loop-i.invariant k (omega arith)) (λ here. absurd (omega arith)))

pub loop-i-preserved : goal.loop-i-preserved
loop-i-preserved c = below_more _ _ c.loop-i.invariant (sym c.fits.ensures ∙ c.if-not-fits.false)
