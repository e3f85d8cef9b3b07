use Rattle.std.proofs.Common.{◌≡◌, ◌++◌, take}
use Rattle.edge_map.proofs.page.Page.append_to.Given as goal

abbrev pub invariant-loop-chunk : goal.invariant-loop-chunk
invariant-loop-chunk l = l.run.items ≡ l.fn.run.items ++ take l.chunk-index l.chunk-items
