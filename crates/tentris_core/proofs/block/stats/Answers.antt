use Rattle.std.proofs.Common.{refl}
use Rattle.script_model.specs.Commands as script
use Rattle.run_model.specs.Answers.{Counted}
use Rattle.line_batch.specs.Seen.{answer_of}
use Rattle.line_batch.specs.declared.answer.Answer.TheVariants as answer
use Rattle.tentris_core.proofs.BlockLemmas.{answer_step}
use Rattle.tentris_core.proofs.block.stats.Goals as goal

pub returns : goal.returns
returns g c = λ A sound. answer_step A c.args.store.now script.Stats (answer_of (answer.Counted c.stats.result)) sound refl
    (refl, λ i. Counted (record { triples = c.stats.ensures.triples i; terms = c.stats.ensures.terms i; two = c.stats.ensures.two i; one = c.stats.ensures.one i })) refl
