use Rattle.std.proofs.Common.{sym, subst}
use Rattle.trie_context.specs.declared.root.Root.TheVariants.{Empty}
use Rattle.graph_image.specs.ImageLaws.{graph_of-empty}
use Rattle.graph_store.specs.StoreState.{IsSoundStore}
use Rattle.graph_store.proofs.EmptyLemmas.{empty_sound, empty_settled}
use Rattle.graph_store.proofs.store.Store.seeded.Goals as goal

pub invariant_of-result : goal.invariant_of-result
invariant_of-result g c = subst (λ t. IsSoundStore c.seeded.result t Empty 10000000) (sym c.new.ensures) (empty_sound c.seeded.result)

pub returns-clause-graph : goal.returns-clause-graph
returns-clause-graph g c = graph_of-empty c.seeded.result

pub returns-clause-settled : goal.returns-clause-settled
returns-clause-settled g c = empty_settled c.seeded.result c.seeded.ensures
