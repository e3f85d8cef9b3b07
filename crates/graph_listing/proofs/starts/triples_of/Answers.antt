use Rattle.std.proofs.Common.{sym, ◌∙◌}
use Rattle.graph_view.specs.ReadLaws.{triples_known}
use Rattle.graph_view.specs.Views.{triples_in}
use Rattle.graph_listing.proofs.PartLemmas.{no_triples, all_triples}
use Rattle.graph_listing.proofs.starts.triples_of.Goals as goal

pub returns-then-len-eq0 : goal.returns-then-len-eq0
returns-then-len-eq0 c =
    let g = c.args.graph in
    no_triples g.all.dict.now (triples_in g) (triples_known g.all.tables.now g.all.dict.now g.root.now g.known) (sym c.len.ensures ∙ c.if-len-eq0.true)

pub returns : goal.returns
returns c =
    let g = c.args.graph in
    all_triples g.all.dict.now (triples_in g) c.operand.result (triples_known g.all.tables.now g.all.dict.now g.root.now g.known) (λ e. c.if-len-eq0.false (c.len.ensures ∙ e)) c.operand.ensures.set c.operand.ensures.depth
