-- Answers of the program as those of the definitions.
use Rattle.run_model.specs.Answers as model
use Rattle.graph_shape.specs.GraphShapes.{Figures}
use Rattle.graph_store.specs.declared.Stats.{Stats}
use Rattle.answer_text.specs.Seen.{refusal_of}
use Rattle.line_batch.specs.declared.answer.Answer.{Answer}
use Rattle.line_batch.specs.declared.answer.Answer.TheVariants as answer

abbrev pub figures_seen : Stats → Figures
figures_seen s = record { triples = s.triples; terms = s.terms; two = s.two; one = s.one }

abbrev pub answer_of : Answer → model.Answer
answer_of (answer.New c) = model.Done (model.New c.changed c.now)
answer_of (answer.Gone c) = model.Done (model.Gone c.changed c.now)
answer_of (answer.Dumped lines) = model.Dumped lines
answer_of (answer.Counted stats) = model.Counted (figures_seen stats)
answer_of (answer.Shaped lines) = model.Shaped lines
answer_of (answer.Refused cause) = model.Refused (refusal_of cause)
