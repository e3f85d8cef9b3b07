use Rattle.std.proofs.Common.{◌<◌, ◌≤◌, arith, length, subst}
use Rattle.std.proofs.lemmas.List.{get_or_default}
use Rattle.edge_map.proofs.PackLemmas.{keys_apart}
use Rattle.edge_map.proofs.search.start.Goals as goal

pub returns-then-keys-near-clause-below : goal.returns-then-keys-near-clause-below
returns-then-keys-near-clause-below c k d lt =
    let keys = c.args.keys.now in
    let near = c.args.near in
    let there : near < length keys = c.if-near-keys.true in
    let at = subst (λ x. x.0 ≤ c.args.from.0) (get_or_default keys near _ d there) c.if-keys-near.true in
    omega (arith, keys_apart keys c.requires k near d lt there, at)
