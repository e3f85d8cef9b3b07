use Rattle.std.proofs.Common.{take}
use Rattle.graph_view.specs.Views.{graph_in}
use Rattle.graph_listing.specs.Parts.{AreStartsOf}
use Rattle.graph_listing.proofs.starts.starts_of.Given as goal

abbrev pub invariant-loop-i : goal.invariant-loop-i
invariant-loop-i g l = AreStartsOf l.graph.all.dict.now (graph_in l.graph) (take l.i l.patterns) l.starts.items
