use Rattle.std.proofs.Common.{◌∙◌}
use Rattle.edge_map.specs.Chunks.{flat}
use Rattle.edge_map.proofs.PlaceLemmas.{get_found, found_large}
use Rattle.edge_map.proofs.map.EdgeMap.keys_are_ids.Goals as goal

pub returns : goal.returns
returns c k large =
    let es = flat c.self.inside.chunks in
    get_found es c.args.self.now c.self.invariant.rising c.self.view_is k ∙ found_large es k c.self.invariant.chunks.small large
