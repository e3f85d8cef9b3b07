use Rattle.std.proofs.Math.Logic.{∥∥₁_map}
use Rattle.graph_view.specs.ReadLaws.{root_known}
use Rattle.graph_view.proofs.graph.GraphView.operand.Goals as goal

pub of-requires-clause-kept : goal.of-requires-clause-kept
of-requires-clause-kept c = ∥∥₁_map c.args.self.all.known (λ r. (r.mixed, r.kept))

pub of-requires-clause-there : goal.of-requires-clause-there
of-requires-clause-there c = root_known c.args.self.all.tables.now c.args.self.all.dict.now c.args.self.root.now c.args.self.known
