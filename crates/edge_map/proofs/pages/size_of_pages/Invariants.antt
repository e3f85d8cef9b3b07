use Rattle.std.proofs.Common.{◌≡◌, length, take}
use Rattle.edge_map.specs.Chunks.{flat}
use Rattle.edge_map.specs.Pages.{by_page}
use Rattle.edge_map.proofs.pages.size_of_pages.Given as goal

abbrev pub invariant-loop-page : goal.invariant-loop-page
invariant-loop-page l = l.size ≡ length (flat (take l.page-index (by_page l.pages)))
