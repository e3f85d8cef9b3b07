use Rattle.std.proofs.Common.{◌≡◌, ap, ◌∙◌, Some, is_some, arith}
use Rattle.std.specs.FinMap as map
use Rattle.edge_map.specs.declared.edge.Edge.TheVariants.{Key, Node as ToRow}
use Rattle.trie_change.specs.PairLaws.{some_at, single_node, full_node, large_apart, large_row, large_none}
use Rattle.trie_change.proofs.pairs.pair_node.Goals as goal

pub returns-in-Some-default-Key : goal.returns-in-Some-default-Key
returns-in-Some-default-Key g c low H some parts =
    let there = some_at (λ p. map.get c.args.first p.0.0 ≡ Some p.1) c.seek-least.result c.in-Some-default-Key.is c.seek-least.ensures.there in
    let key : c.in-Some-default-Key.field-0-1 ≡ Key c.in-Some-default-Key.rest = rw c.in-Some-default-Key.is at c.in-Some-default-Key.field-0-1-is in
    single_node g.M.Mix.mixed low H c.args.size c.args.hash c.args.first c.args.second parts c.in-Some-default-Key.key c.in-Some-default-Key.rest c.if-size-eq1.true (there ∙ ap Some key)

pub returns-in-Some-default-Key-2 : goal.returns-in-Some-default-Key-2
returns-in-Some-default-Key-2 g c low H some parts =
    full_node g.M.Mix.mixed low H c.args.size c.args.hash c.args.first c.args.second parts c.new.result c.new.ensures
    (large_apart g.M.Mix.mixed low H c.args.size c.args.hash c.args.first c.args.second parts some c.if-size-eq1.false)

pub returns-in-Some-default-Node : goal.returns-in-Some-default-Node
returns-in-Some-default-Node g c low H some parts =
    let there = some_at (λ p. map.get c.args.first p.0.0 ≡ Some p.1) c.seek-least.result c.in-Some-default-Node.is c.seek-least.ensures.there in
    let row : c.in-Some-default-Node.field-0-1 ≡ ToRow c.in-Some-default-Node.field-0-1-0 = rw c.in-Some-default-Node.is at c.in-Some-default-Node.field-0-1-is in
    full_node g.M.Mix.mixed low H c.args.size c.args.hash c.args.first c.args.second parts c.new.result c.new.ensures
    (large_row g.M.Mix.mixed low H c.args.size c.args.hash c.args.first c.args.second parts some c.in-Some-default-Node.field-0-0.0 c.in-Some-default-Node.field-0-1-0 (there ∙ ap Some row))

pub returns-in-None : goal.returns-in-None
returns-in-None g c low H some parts =
    full_node g.M.Mix.mixed low H c.args.size c.args.hash c.args.first c.args.second parts c.new.result c.new.ensures
    (large_none g.M.Mix.mixed low H c.args.size c.args.hash c.args.first c.args.second parts some (λ k. c.seek-least.ensures.none (ap is_some c.in-None.is) k (omega arith)))
