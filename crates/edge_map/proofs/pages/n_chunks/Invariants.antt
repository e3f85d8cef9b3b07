use Rattle.std.proofs.Common.{◌≡◌, length, take}
use Rattle.edge_map.specs.Pages.{paged}
use Rattle.edge_map.proofs.pages.n_chunks.Given as goal

abbrev pub invariant-loop-page : goal.invariant-loop-page
invariant-loop-page l = l.n ≡ length (paged (take l.page-index l.pages))
