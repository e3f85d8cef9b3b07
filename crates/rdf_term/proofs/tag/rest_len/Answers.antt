use Rattle.std.proofs.Common.{◌∙◌, sym, arith}
use Rattle.rdf_term.proofs.TagLemmas.{fit_more, part_more, tag_ends, tag_to_end}
use Rattle.rdf_term.proofs.tag.rest_len.Goals as goal

pub loop-i-preserved-then-fits : goal.loop-i-preserved-then-fits
loop-i-preserved-then-fits c = fit_more _ c.loop-i.digits c.loop-i.i c.loop-i.invariant c.loop-i-test.true (sym c.fits.ensures ∙ c.if-fits.true)

pub returns-then-not-begins_part-clause-rest : goal.returns-then-not-begins_part-clause-rest
returns-then-not-begins_part-clause-rest c =
    tag_ends _ c.loop-i.digits c.loop-i.i c.loop-i.invariant c.loop-i-test.true (sym c.fits.ensures ∙ c.if-fits.false) (sym c.begins_part.ensures ∙ c.if-not-begins_part.true)

pub loop-i-preserved : goal.loop-i-preserved
loop-i-preserved c =
    part_more _ c.loop-i.digits c.loop-i.i c.loop-i.invariant c.loop-i-test.true (sym c.fits.ensures ∙ c.if-fits.false) (sym c.begins_part.ensures ∙ c.if-not-begins_part.false)

pub returns-clause-rest : goal.returns-clause-rest
returns-clause-rest c = tag_to_end _ c.loop-i.digits c.loop-i.i c.loop-i.invariant (omega arith)
