use Rattle.std.proofs.Common.{◌≡◌}
use Rattle.std.specs.Prelude.{Option, Some, None}
use Rattle.rdf_model.specs.Terms.{Triple}
use Rattle.ntriples_model.specs.Line.{said}
use Rattle.ntriples_model.proofs.Lines.{lines_are_productions}
use Rattle.ntriples_model.proofs.TermTexts.{texts_stand}
use Rattle.ntriples_model.specs.ProperLaws.{proper_line}
use Rattle.rdf_term.specs.Seen.{lent_triples}
use Rattle.line_batch.specs.Batches.{IsProperSaying}
use Rattle.line_batch.proofs.batch.said.Goals as goal

pub returns-in-Ok-clause-proper : goal.returns-in-Ok-clause-proper
returns-in-Ok-clause-proper c = of (lent_triples c.in-Ok.triple) c.in-Ok.ensures.said where
  of : (read : Option Triple) → said c.args.scope.now c.in_ok-line.field-0.now ≡ Some read → IsProperSaying (Some read)
  of None is = tt
  of (Some triple) is = proper_line texts_stand lines_are_productions c.args.scope.now c.requires.scope.letters c.in_ok-line.field-0.now triple is
