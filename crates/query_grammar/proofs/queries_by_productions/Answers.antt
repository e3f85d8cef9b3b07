use Rattle.query_grammar.specs.BlockFront.{triples_of}
use Rattle.query_grammar.proofs.Complete.{block_found}
use Rattle.query_grammar.proofs.Outlines.{tests_outlines}
use Rattle.query_grammar.proofs.Sound.{block_meant}
use Rattle.query_grammar.proofs.queries_by_productions.Goals as goal

pub returns-clause-outlines : goal.returns-clause-outlines
returns-clause-outlines c = tests_outlines

pub returns-clause-triples : goal.returns-clause-triples
unfolding triples_of
returns-clause-triples c = λ ts ps. (block_found ts ps, block_meant ts ps)
