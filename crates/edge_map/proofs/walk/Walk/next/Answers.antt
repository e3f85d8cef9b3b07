use Rattle.std.proofs.Common.{◌∙◌, sym, arith}
use Rattle.edge_map.specs.Chunks.{flat}
use Rattle.std.specs.Prelude.{drop}
use Rattle.edge_map.proofs.ShortLemmas.{next_here}
use Rattle.edge_map.proofs.walk.Walk.next.Goals as goal

pub returns-then-self-len-clause-next : goal.returns-then-self-len-clause-next
returns-then-self-len-clause-next c =
    sym c.self.view_is ∙ next_here c.at-found.result c.self.inside.short (drop c.self.inside.ahead (flat c.self.inside.rest)) c.self.inside.at (omega (arith, c.len.ensures, c.if-self-len.true)) c.at-found.ensures
