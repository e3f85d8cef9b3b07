use Rattle.std.proofs.Common.{◌∙◌, sym, ap}
use Rattle.std.specs.Prelude.{option_map}
use Rattle.graph_lines.proofs.MemberLemmas.{keys_there}
use Rattle.graph_lines.proofs.members.keys_of.Goals as goal

pub unreachable-requires : goal.unreachable-requires
unreachable-requires c = keys_there c.args.all.tables.now c.args.all.dict.now c.args.all.known c.args.row c.requires.there c.node.result.now c.node.ensures (sym c.map.ensures ∙ ap (option_map (λ m. m.now)) c.in-None.is)
