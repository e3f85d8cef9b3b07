use Rattle.std.proofs.Common.{◌≡◌, ◌≤◌, ◌+◌, ◌∙◌, sym, ap, arith, rules}
use Rattle.std.specs.FinSet as set
use Rattle.rdf_term.specs.Seen.{lent_triple}
use Rattle.graph_store.specs.StoreState.{graph}
use Rattle.graph_store.specs.Staging.{staged_graph}
use Rattle.graph_store.proofs.FullLemmas.{there_already, new_full}
use Rattle.graph_store.proofs.store.Store.stage.Goals as goal

pub overflow_add-now : goal.overflow_add-now
overflow_add-now g c = omega (arith, c.triples-now.ensures.few, c.triples-now.ensures.value, c.n_staged.ensures, c.requires.fits.few)

pub returns-then-is_there-clause-staged : goal.returns-then-is_there-clause-staged
returns-then-is_there-clause-staged g c = there_already (graph c.args.self.now) (staged_graph c.args.self.now c.args.staged.now) (lent_triple c.args.triple) (sym c.is_there.ensures ∙ c.if-is_there.true)

pub returns-then-now-n_staged-clause-full : goal.returns-then-now-n_staged-clause-full
returns-then-now-n_staged-clause-full g c =
    let max : c.self.inside.max ≡ c.args.self.now.max = ap (λ s. s.max) c.self.view_is in
    let most : c.args.self.now.max ≤ set.len (graph c.args.self.now) + set.len (staged_graph c.args.self.now c.args.staged.now) = omega (arith, max, c.if-now-n_staged.true, c.triples-now.ensures.value, c.n_staged.ensures) in
    (λ _. new_full c.args.self.now c.args.staged.now (lent_triple c.args.triple) (sym c.is_there.ensures ∙ c.if-is_there.false) most, λ _. search rules)
